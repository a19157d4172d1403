-- Faults in one subtree alone: what its nodes receive since, by the older count of the node above
-- it.
use Rattle.std.proofs.Common.{◌≡◌, ℕ, ◌+◌, ◌-◌, ◌*◌, ◌<◌, ◌≤◌, List, [], ◌∷◌, ◌++◌, length, option_and_then, Option, Some, ap, sym, ◌∙◌, subst, inl, inr}
use Rattle.stab_core.specs.LinkLaw.{LinkLaw}
use Rattle.stab_tree.specs.Nodes.{Nodes, parent_at}
use Rattle.stab_tree.specs.Steps.{ancestor}
use Rattle.stab_treecore.specs.Paths.{sum_above, lists_above}
use Rattle.stab_treecore.specs.TreeLaw.{TreeLaw}
use Rattle.stab_treecore.specs.WholeTree.{WholeTree, received}
use Rattle.stab_treecore.proofs.Obeying.{ObeysSince}
use Rattle.stab_treecore.specs.Changes.{Change, Act, Publish, Strike, Restart, changes_replay}
use Rattle.stab_treecore.specs.Hits.{Spare, SpareLink}
use Rattle.stab_treecore.specs.Moment.{garbage_since, missing_since, published_since, strays_since}
use Rattle.stab_treecore.specs.Since.{IsFedAt, IsState, acked_at, backlog, capacity_at, gained, moment, queued_at}
use Rattle.stab_treecore.proofs.Beneath.{law_beneath}
use Rattle.stab_treecore.proofs.Struck.{struck_law}

-- what spares a node spares the link into it
spare_link : (parents : List (Option ℕ)) (node : ℕ) (changes : List Change) → Spare parents node changes → SpareLink parents node changes
spare_link parents node [] spare = tt
spare_link parents node (Act e ∷ changes) spare = (spare.0, spare_link parents node changes spare.1)
spare_link parents node (Publish items ∷ changes) spare = (spare.0, spare_link parents node changes spare.1)
spare_link parents node (Strike child start ∷ changes) spare =
    (λ here. spare.0 (0, ap Some (sym here)), spare_link parents node changes spare.1)
spare_link parents node (Restart other list ∷ changes) spare = (
  λ touches. elim touches [
    | inl here ↦ spare.0 (0, ap Some (sym here))
    | inr above ↦ spare.0 (1, ap (λ o. option_and_then (ancestor parents 0) o) above)
  ],
  spare_link parents node changes spare.1,
)

module _ (obey : ObeysSince LinkLaw) (tree : Nodes) (s : WholeTree) (before after : List Change) (w above : ℕ) (is : IsState tree s)
    (is_child : parent_at s.parents w ≡ Some above) (spared : Spare s.parents above (before ++ after))
    (is_middle : IsState tree (changes_replay s before)) (fed : IsFedAt (changes_replay s before) w)
    (enough : length (received s above) ≤ acked_at (changes_replay s before) w) where
  abbrev m : WholeTree
  m = changes_replay s before

  abbrev t : WholeTree
  t = changes_replay (changes_replay s before) after

  abbrev n : ℕ
  n = acked_at (changes_replay s before) w - length (received s above)

  abbrev first_strays : ℕ
  first_strays = strays_since (moment s) above - n + capacity_at m w

  abbrev first_missing : ℕ
  first_missing = missing_since (moment s) above + n + (2 * capacity_at m w + 1)

  abbrev first_garbage : List ℕ
  first_garbage = queued_at m w ++ garbage_since (moment s) above

  abbrev published : List ℕ
  published = published_since (moment s) (gained s t) above

  at_top : w < length m.parents → Spare m.parents w after → TreeLaw first_strays first_missing first_garbage published (gained m t w)
  at_top is_node spare =
      let same : m.parents ≡ s.parents = is_middle.parents ∙ sym is.parents in
      let own : SpareLink s.parents w after = subst (λ ps. SpareLink ps w after) same (spare_link m.parents w after spare) in
      struck_law obey tree s before after w above is is_child spared own is_middle fed enough

  pub cut_law : (steps node : ℕ) → node < length m.parents → ancestor m.parents steps node ≡ Some w → Spare m.parents node after
      → TreeLaw (sum_above m.parents (λ u. capacity_at m u + length (backlog m u)) steps node + first_strays)
      (sum_above m.parents (λ u. 2 * capacity_at m u + 1) steps node + first_missing)
      (lists_above m.parents (λ u. queued_at m u ++ backlog m u) steps node ++ first_garbage) published (gained m t node)
  cut_law = law_beneath obey tree m is_middle after w first_strays first_missing first_garbage published at_top
