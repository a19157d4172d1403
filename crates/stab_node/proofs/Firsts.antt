-- What each node begins with, by the facts of a tree and of its openings.
use Rattle.std.proofs.Common.{◌≡◌, ◌<◌, ◌≤◌, ◌+◌, ℕ, zero, suc, if◌then◌else◌, List, ◌∷◌, length, Option, Some, None, All, refl, ap, sym, ◌∙◌, subst, arith}
use Rattle.std.proofs.lemmas.Bool.{eq-eqb, ne_eqb}
use Rattle.std.proofs.lemmas.List.Elements.{All-cons, All-head, All-nil, All-tail}
use Rattle.std.proofs.lemmas.Option.{none-some}
use Rattle.std.specs.List.{range_with_len}
use Rattle.stab_tree.specs.Nodes.{parent_at}
use Rattle.stab_tree.proofs.ForCallers.{openings_fit}
use Rattle.stab_tree.specs.NodeOpenings.{FitTree, OpeningsValue, opening_at}
use Rattle.stab_node.specs.InitialItems.{initial_at}

-- numbers that are counted up stay below where they end
all_below : (start n end : ℕ) → start + n ≤ end → All (λ node. node < end) (range_with_len start n)
all_below start zero end below = All-nil (λ node. node < end)
all_below start (suc n) end below =
    All-cons (λ node. node < end) start (range_with_len (start + 1) n) (omega (arith, below))
    (all_below (start + 1) n end (omega (arith, below)))

-- there is an opening for each node of a tree
pub all_known : (nodes : List ℕ) (parents : List (Option ℕ)) (openings : OpeningsValue)
    → nodes ≡ range_with_len 0 (length parents) → FitTree parents openings → All (λ node. node < length openings.lists) nodes
all_known nodes parents openings are fits =
    let counted = (openings_fit parents openings fits).one_per_node in
    subst (All (λ node. node < length openings.lists)) (sym are)
    (all_below 0 (length parents) (length openings.lists) (omega (arith, counted)))

-- what holds of all nodes holds of the first one, and of the others
pub known_first : (end : ℕ) (nodes : List ℕ) (node : ℕ) (rest : List ℕ) → nodes ≡ node ∷ rest
    → All (λ k. k < end) nodes → (node < end) × All (λ k. k < end) rest
known_first end nodes node rest are all =
    let both = subst (All (λ k. k < end)) are all in
    (All-head (λ k. k < end) node rest both, All-tail (λ k. k < end) node rest both)

module _ (root : ℕ) (published : List ℕ) (openings : List (List ℕ)) where
  -- the root begins with the published items
  pub first_at_root : initial_at root published openings root ≡ published
  first_at_root = ap (λ b. if b then published else opening_at openings root) (eq-eqb root root refl)

  -- a child begins with its opening
  pub initial_at_child : (parents : List (Option ℕ)) (child parent : ℕ) → parent_at parents root ≡ None
      → parent_at parents child ≡ Some parent → initial_at root published openings child ≡ opening_at openings child
  initial_at_child parents child parent none is_child =
      ap (λ b. if b then published else opening_at openings child)
      (ne_eqb child root (λ same. none-some parent (sym none ∙ (ap (λ node. parent_at parents node) (sym same) ∙ is_child))))
