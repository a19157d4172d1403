-- A fault beneath a node that receives exactly what is published: what the nodes there receive since.
use Rattle.std.proofs.Common.{◌≡◌, ℕ, ◌+◌, ◌*◌, ◌<◌, List, [], ◌++◌, length, Some, refl, ap, sym, ◌∙◌, subst, arith}
use Rattle.std.proofs.lemmas.List.{append-nil}
use mathlib.Core.List.{IsPrefix}
use Rattle.stab_core.specs.LinkLaw.{LinkLaw}
use Rattle.stab_core.proofs.ForCallers.{prefix_of_prefix}
use Rattle.stab_tree.specs.Nodes.{Nodes, parent_at, root_of}
use Rattle.stab_tree.specs.Steps.{ancestor}
use Rattle.stab_treecore.specs.Paths.{sum_above, lists_above}
use Rattle.stab_treecore.specs.TreeLaw.{TreeLaw}
use Rattle.stab_treecore.specs.WholeTree.{WholeTree}
use Rattle.stab_treecore.proofs.ForChanges.{larger_bounds, law_below, root_law}
use Rattle.stab_treecore.specs.declared.change.Change.{Change}
use Rattle.stab_treecore.specs.Changes.{changes_replay}
use Rattle.stab_treecore.specs.Hits.{Spare}
use Rattle.stab_treecore.specs.Since.{IsState, backlog, capacity_at, gained, queued_at}
use Rattle.stab_treecore.proofs.Beneath.{law_beneath}
use Rattle.stab_treecore.proofs.Grown.{prefix_behind}
use Rattle.stab_treecore.proofs.Kept.{OnPath, Since, path_up}
use Rattle.stab_treecore.proofs.NodesSince.{link_since, since_spared}
use Rattle.stab_treecore.proofs.Obeying.{ObeysSince}
use Rattle.stab_convergence.specs.Exact.{IsExact, IsPathClean}
use Rattle.stab_convergence.proofs.Acts.{spare_first, spare_later}
use Rattle.stab_convergence.proofs.Exactly.{stays_exact}

-- ---- the child of a node that receives exactly what is published

module _ (obey : ObeysSince LinkLaw) (tree : Nodes) (s : WholeTree) (before after : List Change) (w above : ℕ) (is : IsState tree s)
    (is_child : parent_at s.parents w ≡ Some above) (spared : Spare s.parents above (before ++ after))
    (is_middle : IsState tree (changes_replay s before)) (clean : IsPathClean s (changes_replay s before) above) where
  abbrev m : WholeTree
  m = changes_replay s before

  abbrev end : WholeTree
  end = changes_replay m after

  same_parents : m.parents ≡ s.parents
  same_parents = is_middle.parents ∙ sym is.parents

  child_there : parent_at m.parents w ≡ Some above
  child_there = ap (λ ps. parent_at ps w) same_parents ∙ is_child

  above_is_node : above < length s.parents
  above_is_node =
      subst (λ ps. parent_at ps w ≡ Some above → above < length ps) (sym is.parents) (is.is_tree.known_parents w above) is_child

  -- what the node above receives
  pub exactly_above : IsExact m end above
  exactly_above =
      stays_exact tree s is above above_is_node before (spare_first s.parents above before after spared) is_middle clean after
      (subst (λ ps. Spare ps above after) (sym same_parents) (spare_later s.parents above before after spared))

  -- what the child is sent: what the node above had for it, what waited for that one, and what is
  -- published since
  abbrev pub sent : List ℕ
  sent = backlog m w ++ (exactly_above.waiting ++ gained m end (root_of m.parents))

  at_child : w < length m.parents → Spare m.parents w after
      → TreeLaw (capacity_at m w) (2 * capacity_at m w + 1) (queued_at m w) sent (gained m end w)
  at_child is_node spare =
      let since : Since m end (OnPath m w) (OnPath m w) = since_spared tree m after w is_middle is_node spare in
      let (offered, acked, begins, law) =
      link_since tree m is_middle end (OnPath m w) (OnPath m w) (path_up m w) since LinkLaw obey w above (0, refl) child_there in
      let capacity : ℕ = capacity_at m w in
      let from_sent : IsPrefix offered sent =
      prefix_of_prefix offered (backlog m w ++ gained m end above) sent begins
      (prefix_behind (backlog m w) (gained m end above) (exactly_above.waiting ++ gained m end (root_of m.parents)) exactly_above.in_order) in
      subst (λ xs. TreeLaw capacity (2 * capacity + 1) xs sent (gained m end w)) (append-nil (queued_at m w))
      (larger_bounds (0 + capacity) capacity (0 + (2 * capacity + 1)) (2 * capacity + 1) (queued_at m w ++ []) sent (gained m end w)
      (omega arith) (omega arith)
      (law_below capacity 0 acked (queued_at m w) [] sent sent offered (gained m end w) from_sent 0 (root_law sent) law))

  pub beneath_exact : (steps node : ℕ) → node < length m.parents → ancestor m.parents steps node ≡ Some w → Spare m.parents node after
      → TreeLaw (sum_above m.parents (λ u. capacity_at m u + length (backlog m u)) steps node + capacity_at m w)
      (sum_above m.parents (λ u. 2 * capacity_at m u + 1) steps node + (2 * capacity_at m w + 1))
      (lists_above m.parents (λ u. queued_at m u ++ backlog m u) steps node ++ queued_at m w) sent (gained m end node)
  beneath_exact =
      law_beneath obey tree m is_middle after w (capacity_at m w) (2 * capacity_at m w + 1) (queued_at m w) sent at_child
