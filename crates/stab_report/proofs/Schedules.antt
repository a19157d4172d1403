-- What a schedule leaves, and its report, are printed alike.
use Rattle.std.proofs.Common.{◌≡◌, ℕ, zero, suc, ◌+◌, ◌<◌, List, [], ◌++◌, All, length, map, codes, None, false, refl, sym, ap, ap₂, ◌∙◌, arith}
use Rattle.std.proofs.lemmas.List.{append-nil}
use Rattle.std.proofs.lemmas.List.Elements.{All-cons, All-nil}
use Rattle.std.proofs.lemmas.List.FromFn.{get_or-map-range_with_len}
use Rattle.std.specs.List.{flat_map, range_with_len}
use Rattle.stab_core.specs.Texts.{newline, numbers_line}
use Rattle.stab_report.specs.Reports.{report_of}
use Rattle.stab_tree.specs.Nodes.{Nodes}
use Rattle.stab_tree.specs.Steps.{depth_of}
use Rattle.std.specs.Prelude.{slice_index_or}
use Rattle.stab_treecore.specs.Texts.{lines_of, node_counts, node_text, schedule_text}
use Rattle.stab_treecore.specs.WholeTree.{WholeTree, acked_of, received}
use Rattle.stab_report.specs.Texts.{IsUnended, end_entry, lines_at, node_lines, text_of, tree_text}

-- lines that are the same node by node are the same
same_lines : (f g : ℕ → List ℕ) (a n : ℕ) → ((i : ℕ) → i < a + n → f i ≡ g i) → flat_map f (range_with_len a n) ≡ flat_map g (range_with_len a n)
same_lines f g a zero same = refl
same_lines f g a (suc n) same =
    ap₂ (λ x y. x ++ y) (same a (omega arith)) (same_lines f g (a + 1) n (λ i within. same i (omega (arith, within))))

-- the two texts are the same
pub same_text : (nodes : Nodes) (t : WholeTree) → length t.parents ≡ length nodes.parents → schedule_text nodes t ≡ tree_text nodes (report_of t)
unfolding schedule_text text_of node_text node_lines end_entry
same_text nodes t as_many =
    same_lines (lines_of nodes t) (lines_at nodes (report_of t) false) 0 (length nodes.parents)
    (λ node within.
    let there : node < length t.parents = omega (arith, as_many, within) in
    let name = slice_index_or nodes.names node [] in
    let depth = depth_of nodes.parents node in
    ap (λ counts. counts ++ newline ++ numbers_line (codes "items:") (received t node))
    (sym (append-nil (node_counts name depth (length (received t node)) (acked_of t node))))
    ∙ ap₂ (λ items count. node_lines name depth items count None)
    (sym (get_or-map-range_with_len (received t) 0 (length t.parents) node node _ there (omega arith)))
    (sym (get_or-map-range_with_len (acked_of t) 0 (length t.parents) node node _ there (omega arith))))

-- no node has ended
none_of : (a n : ℕ) → All (λ ended. ended ≡ false) (map (λ (node : ℕ). false) (range_with_len a n))
none_of a zero = All-nil (λ ended. ended ≡ false)
none_of a (suc n) = All-cons (λ ended. ended ≡ false) false (map (λ (node : ℕ). false) (range_with_len (a + 1) n)) refl (none_of (a + 1) n)

pub all_unended : (t : WholeTree) → IsUnended (report_of t)
all_unended t = none_of 0 (length t.parents)
