-- The node of a name, by the node that has it.
use Rattle.std.proofs.Common.{◌≡◌, ◌≢◌, ℕ, List, [], Some, slice_get, sym, ◌∙◌}
use Rattle.std.proofs.lemmas.Bool.{false_from_ne_true}
use Rattle.std.proofs.lemmas.Option.{get_or_from_slice_get, slice_get_within}
use Rattle.std.proofs.lemmas.Slice.Eq.{bytes_eq-Decides}
use Rattle.std.specs.List.{AllPairs}
use Rattle.std.specs.Str.{bytes_eq}
use Rattle.stab_tree.proofs.Places.{position-is}
use Rattle.stab_tree.specs.Nodes.{place_of}

-- where each node has a name of its own, the first node of a name is the one that has it
pub first_of_name : (names : List (List ℕ)) (node : ℕ) (name : List ℕ) → AllPairs (λ s u. s ≢ u) names → slice_get names node ≡ Some name → place_of names name ≡ Some node
first_of_name names node name apart has =
    let within = slice_get_within names node name has in
    let here = get_or_from_slice_get names node name [] has in
    position-is (λ u. bytes_eq u name) names node [] within ((bytes_eq-Decides _ _).1 here)
    (λ j before. false_from_ne_true _ (λ same. apart j node [] before within ((bytes_eq-Decides _ _).0 same ∙ sym here)))
