-- The complete law at each node that has all that it will ever have, from the root down.
use Rattle.std.proofs.Common.{◌≡◌, ℕ, suc, ◌+◌, ◌*◌, ◌<◌, List, [], ◌∷◌, ◌++◌, length, Option, Some, ap, sym, ◌∙◌, subst, arith, append_assoc}
use Rattle.std.proofs.lemmas.Option.{same_Some, none-some}
use Rattle.std.specs.Option.{option_map_or}
use mathlib.Core.List.{IsPrefix}
use Rattle.stab_frames.specs.Parameters.{Parameters}
use Rattle.stab_core.specs.Link.{link_at}
use Rattle.stab_core.specs.LinkLaw.{LinkLaw}
use Rattle.stab_core.specs.LinkSetup.{CanBegin, LinkSetup}
use Rattle.stab_core.specs.LinkState.{LinkState}
use Rattle.stab_core.specs.Replay.{start_items}
use Rattle.stab_core.proofs.Replays.{reach_more}
use Rattle.stab_tree.specs.Nodes.{parent_at, root_of}
use Rattle.stab_tree.specs.Steps.{depth_of}
use Rattle.stab_tree.specs.NodeOpenings.{hold_at, opening_at}
use Rattle.stab_tree.proofs.ForCallers.{holds_by_child, holds_at_every_depth, openings_fit}
use Rattle.stab_treecore.specs.Network.{IsNetwork, Network}
use Rattle.stab_treecore.specs.NodeLaws.{capacity_into, garbage_into, most_strays, most_missing, path_garbage}
use Rattle.stab_treecore.specs.Paths.{lists_above, sum_above}
use Rattle.stab_treecore.specs.TreeLaw.{CompleteLaw}
use Rattle.stab_treecore.specs.WholeTree.{WholeTree, received}
use Rattle.stab_treecore.proofs.AtNodes.{sum_above-add}
use Rattle.stab_treecore.proofs.Replayed.{IsRun, ReplaysObey, StepsReach, run_root}
use Rattle.stab_treecore.proofs.Upwards.{complete_below, complete_past_opening, root_has_all, larger_complete}
use Rattle.stab_rounds.proofs.TreeSteps.{At, of_link}
use Rattle.stab_rounds.proofs.Drains.{Drained, top, under}

-- a step of a state that is reached is reached
pub reach_step : StepsReach
reach_step p start s e reached = reach_more p start s (e ∷ []) reached

module _ (obey : ReplaysObey LinkLaw) (net : Network) (is : IsNetwork net) (t : WholeTree) (run : IsRun net t) where
  abbrev parents : List (Option ℕ)
  parents = net.tree.parents

  abbrev hold : ℕ → ℕ
  hold = hold_at parents net.openings.hold

  abbrev strays : ℕ → ℕ
  strays child = capacity_into net child + hold child

  abbrev missing : ℕ → ℕ
  missing child = 2 * capacity_into net child + 1

  abbrev garbage : ℕ → List ℕ
  garbage child = opening_at net.openings.lists child ++ garbage_into net child

  abbrev CompleteAt : ℕ → ℕ → Type 0
  CompleteAt depth node =
      Drained t parents node
      → CompleteLaw (sum_above parents strays depth node) (sum_above parents missing depth node)
      (lists_above parents garbage depth node) net.published (received t node)

  joined : (w u : ℕ) (p : Parameters) (s : LinkState) (strays_above missing_above : ℕ) (above : List ℕ)
      → parent_at parents w ≡ Some u → At t w p s → s.acked ≡ length (received t u)
      → CompleteLaw strays_above missing_above above net.published (received t u)
      → CompleteLaw (strays w + strays_above) (missing w + missing_above) (garbage w ++ above) net.published (received t w)
  joined w u p s strays_above missing_above above is_child there all at_parent =
      let was = run.replays w (link_at p s) there in
      let q = was.setup.params in
      let start = was.setup.start in
      let begins : CanBegin was.setup = holds_by_child CanBegin parents net.links w was.setup is.can_begin was.leads in
      let (events, reached) = was.run.reached in
      let law : LinkLaw q.capacity (start_items start) s.offered s.acked s.delivered =
      subst (λ (x : LinkState). LinkLaw q.capacity (start_items start) x.offered x.acked x.delivered) (sym reached)
      (obey q start events begins.0 begins.1) in
      let of_parent : IsPrefix s.offered (received t u) = run.prefixes w u (link_at p s) (ap (λ ps. parent_at ps w) run.parents_stay ∙ is_child) there in
      let own_capacity : q.capacity ≡ capacity_into net w = ap (λ o. option_map_or (λ (l : LinkSetup). l.params.capacity) o 0) (sym was.leads) in
      let own_garbage : start_items start ≡ garbage_into net w = ap (λ o. option_map_or (λ (l : LinkSetup). start_items l.start) o []) (sym was.leads) in
      let first : List ℕ = opening_at net.openings.lists w in
      let list : received t w ≡ first ++ s.delivered =
      of_link t w (link_at p s) there ∙ ap (λ openings. opening_at openings w ++ s.delivered) run.openings_stay in
      let most_strays_now : ℕ = strays_above + q.capacity in
      let most_missing_now : ℕ = missing_above + (2 * q.capacity + 1) in
      let below : CompleteLaw most_strays_now most_missing_now (start_items start ++ above) net.published s.delivered =
      complete_below q.capacity strays_above s.acked (start_items start) above net.published (received t u) s.offered s.delivered of_parent
      missing_above all at_parent law in
      let named : CompleteLaw most_strays_now most_missing_now (garbage_into net w ++ above) net.published s.delivered =
      subst (λ xs. CompleteLaw most_strays_now most_missing_now (xs ++ above) net.published s.delivered) own_garbage below in
      let opened : CompleteLaw (most_strays_now + length first) most_missing_now (first ++ (garbage_into net w ++ above)) net.published (first ++ s.delivered) =
      complete_past_opening most_strays_now first (garbage_into net w ++ above) net.published s.delivered most_missing_now named in
      rw (list, append_assoc)
      (larger_complete (most_strays_now + length first) (strays w + strays_above) most_missing_now (missing w + missing_above)
      (first ++ (garbage_into net w ++ above)) net.published (first ++ s.delivered)
      (omega (arith, own_capacity, (openings_fit parents net.openings is.openings_fit).short w)) (omega (arith, own_capacity)) opened)

  root_complete : CompleteAt 0 (root_of parents)
  root_complete _ = rw (run_root net t run (root_of parents) is.tree.root_has_none) (root_has_all net.published)

  child_complete : (depth w u : ℕ) → parent_at parents w ≡ Some u → CompleteAt depth u → CompleteAt (suc depth) w
  child_complete depth w u is_child above (top none) = absurd (none-some u (sym none ∙ is_child))
  child_complete depth w u is_child above (under v p s is_parent there all empty at_v) =
      let same : v ≡ u = same_Some v u (sym is_parent ∙ is_child) in
      let all_acked : s.acked ≡ length (received t u) = all ∙ ap (λ x. length (received t x)) same in
      let at_u : Drained t parents u = subst (Drained t parents) same at_v in
      subst
      (λ up. CompleteLaw (strays w + option_map_or (sum_above parents strays depth) up 0)
      (missing w + option_map_or (sum_above parents missing depth) up 0)
      (garbage w ++ option_map_or (lists_above parents garbage depth) up []) net.published (received t w))
      (sym is_child)
      (joined w u p s (sum_above parents strays depth u) (sum_above parents missing depth u)
      (lists_above parents garbage depth u) is_child there all_acked (above at_u))

  pub complete_at : (node : ℕ) → node < length parents → Drained t parents node
      → CompleteLaw (most_strays net node) (most_missing net node) (path_garbage net node) net.published (received t node)
  complete_at node is_node drained =
      rw (← sum_above-add parents (capacity_into net) hold (depth_of parents node) node)
      (holds_at_every_depth net.tree.parents is.tree CompleteAt root_complete child_complete node is_node drained)
