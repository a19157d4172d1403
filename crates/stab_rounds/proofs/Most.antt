-- The most items that a node can ever have, from a state of the tree on: what it has, what the link
-- into it can still deliver, and what that link has not yet been offered of the most that its
-- parent can have. No step makes it more.
use Rattle.std.proofs.Common.{◌≡◌, inl, inr, ℕ, zero, suc, ◌+◌, ◌<◌, ◌≤◌, List, [], ◌∷◌, length, map, get_or, slice_get, Option, Some, None, refl, sym, ◌∙◌, ap, subst, arith, length-append}
use Rattle.std.specs.Option.{option_map_or}
use Rattle.std.proofs.lemmas.Bool.{cases_eq}
use Rattle.std.proofs.lemmas.Option.{none-some, same_Some}
use Rattle.stab_frames.specs.Parameters.{Parameters}
use Rattle.stab_core.specs.declared.event.Event.{Event}
use Rattle.stab_core.specs.Link.{link_at}
use Rattle.stab_core.specs.LinkActs.{event_of}
use Rattle.stab_core.specs.LinkSetup.{CanBegin, LinkSetup}
use Rattle.stab_core.specs.LinkState.{LinkState}
use Rattle.stab_core.specs.Replay.{initial}
use Rattle.stab_tree.specs.Nodes.{parent_at}
use Rattle.stab_tree.specs.Steps.{depth_of}
use Rattle.stab_tree.specs.ByChild.{by_child}
use Rattle.stab_tree.specs.NodeOpenings.{hold_at, opening_at}
use Rattle.stab_tree.proofs.ForCallers.{holds_by_child, one_by_child, openings_fit, holds_at_every_depth}
use Rattle.stab_treecore.specs.declared.event.TreeEvent.{TreeEvent}
use Rattle.stab_treecore.specs.Network.{IsNetwork, Network}
use Rattle.stab_treecore.specs.NodeLaws.{capacity_into, most_strays}
use Rattle.stab_treecore.specs.Paths.{sum_above}
use Rattle.stab_treecore.specs.TreeReplay.{initial_tree, opened, tree_replay}
use Rattle.stab_treecore.specs.TreeStep.{tree_step}
use Rattle.stab_treecore.specs.WholeTree.{WholeTree, received}
use Rattle.stab_treecore.proofs.AtNodes.{sum_above-add}
use Rattle.stab_rounds.proofs.Coming.{to_come, step_more, same_more, NoMore, few_idle}
use Rattle.stab_rounds.proofs.Links.{after_event}
use Rattle.stab_rounds.proofs.Drains.{Drained, top as drained_top, under as drained_under, idle_at}
use Rattle.stab_rounds.proofs.TreeSteps.{At, Fixed, fixed_of, IsSound, root_has, step_at, step_other, child_of, offered_few, keeps, of_link}

-- a node can have this many items at most
pub data Most (fixed : Fixed) (t : WholeTree) : ℕ → ℕ → Type 0 where
  top : {u m : ℕ} → parent_at fixed.parents u ≡ None → length fixed.published ≤ m → Most fixed t u m
  under : {u m : ℕ} (g above : ℕ) (p : Parameters) (s : LinkState) → parent_at fixed.parents u ≡ Some g → At t u p s
      → Most fixed t g above
      → length (opening_at t.openings u) + length s.delivered + to_come s + above ≤ m + length s.offered → Most fixed t u m

-- an event, where there is one
after_more : (p : Parameters) (s : LinkState) (o : Option Event) → NoMore s (after_event p s o)
after_more p s None = same_more s
after_more p s (Some e) = step_more p s e

-- what is beside a node's link is so with what is made of it
opened_by_child : (parents : List (Option ℕ)) (xs : List LinkSetup) (node : ℕ) (x : LinkSetup) → get_or (by_child parents xs) node None ≡ Some x
    → get_or (by_child parents (map opened xs)) node None ≡ Some (opened x)
opened_by_child [] xs node x is = absurd (none-some x is)
opened_by_child (None ∷ parents) xs zero x is = absurd (none-some x is)
opened_by_child (None ∷ parents) xs (suc node) x is = opened_by_child parents xs node x is
opened_by_child (Some q ∷ parents) [] zero x is = absurd (none-some x is)
opened_by_child (Some q ∷ parents) [] (suc node) x is = opened_by_child parents [] node x is
opened_by_child (Some q ∷ parents) (y ∷ ys) zero x is = ap (λ z. Some (opened z)) (same_Some y x is)
opened_by_child (Some q ∷ parents) (y ∷ ys) (suc node) x is = opened_by_child parents ys node x is

module _ (fixed : Fixed) where
  -- a node never has more
  pub received_few : (t : WholeTree) (u m : ℕ) → IsSound fixed t → Most fixed t u m → length (received t u) ≤ m
  received_few t u m run (top none few) = omega (arith, ap length (root_has fixed t run u none))
  received_few t u m run (under g above p s is_parent there most few) =
      let at_parent = received_few t g above run most in
      let offered = offered_few fixed t run u g p s is_parent there in
      omega (arith, ap length (of_link t u (link_at p s) there), length-append (opening_at t.openings u) s.delivered)

  -- a step keeps it
  most_step : (t : WholeTree) (e : TreeEvent) (u m : ℕ) → IsSound fixed t → Most fixed t u m → Most fixed (tree_step t e) u m
  most_step t e u m run (top none few) = top none few
  most_step t e u m run (under g above p s is_parent there most few) =
      elim (cases_eq e.child u) [
        | inl same ↦
            let o = event_of e.act (slice_get (received t g) (length s.offered)) in
            let more = after_more p s o in
            under g above p (after_event p s o) is_parent
            (step_at t e u g p s (child_of fixed t run u g is_parent) there same) (most_step t e g above run most)
            (omega arith)
        | inr other ↦
            under g above p s is_parent (step_other t e u other ∙ there) (most_step t e g above run most) few
      ]

  pub most_over : (es : List TreeEvent) (t : WholeTree) (u m : ℕ) → IsSound fixed t → Most fixed t u m → Most fixed (tree_replay t es) u m
  most_over [] t u m run most = most
  most_over (e ∷ es) t u m run most = most_over es (tree_step t e) u m (keeps fixed t e run) (most_step t e u m run most)

  -- from the most at the parent to the most at the node
  pub next_most : (t : WholeTree) (u g above rest : ℕ) (p : Parameters) (s : LinkState) → parent_at fixed.parents u ≡ Some g → At t u p s
      → Most fixed t g above → above ≡ length s.offered + rest → Most fixed t u (length (received t u) + to_come s + rest)
  next_most t u g above rest p s is_parent there most split =
      under g above p s is_parent there most
      (omega (arith, ap length (of_link t u (link_at p s) there), length-append (opening_at t.openings u) s.delivered))

  -- a node that has all that it will ever have
  pub drained_most : (t : WholeTree) (u : ℕ) → IsSound fixed t → Drained t fixed.parents u → (m : ℕ) × Most fixed t u m × (m ≡ length (received t u))
  drained_most t u run (drained_top none) =
      (length fixed.published, top none (omega arith), ap length (sym (root_has fixed t run u none)))
  drained_most t u run (drained_under g p s is_parent there all empty above) =
      let (m, most, exact) = drained_most t g run above in
      let none = idle_at fixed t run u g p s is_parent there all in
      let few = few_idle s none in
      let few_frames : length s.frames ≡ 0 = ap length empty in (
        length (received t u),
        under g m p s is_parent there most
            (omega (arith, ap length (of_link t u (link_at p s) there), length-append (opening_at t.openings u) s.delivered)),
        refl,
      )

-- ---- at the start

module _ (net : Network) (is : IsNetwork net) where
  abbrev parents : List (Option ℕ)
  parents = net.tree.parents

  abbrev hold : ℕ → ℕ
  hold = hold_at parents net.openings.hold

  abbrev strays : ℕ → ℕ
  strays child = capacity_into net child + hold child

  abbrev MostAt : ℕ → ℕ → Type 0
  MostAt depth node = Most (fixed_of net) (initial_tree net) node (length net.published + sum_above parents strays depth node)

  most_below : (depth w u : ℕ) → parent_at parents w ≡ Some u → MostAt depth u → MostAt (suc depth) w
  most_below depth w u is_child most =
      let (setup, leads) = one_by_child parents net.links 0 w u is.one_per_link is_child in
      let s : LinkState = initial setup.start in
      let there : At (initial_tree net) w setup.params s = opened_by_child parents net.links w setup leads in
      let begins : CanBegin setup = holds_by_child CanBegin parents net.links w setup is.can_begin leads in
      let frames = begins.1.frames in
      let capacity : capacity_into net w ≡ setup.params.capacity = ap (λ o. option_map_or (λ (l : LinkSetup). l.params.capacity) o 0) leads in
      let opening = (openings_fit parents net.openings is.openings_fit).short w in
      subst (λ up. Most (fixed_of net) (initial_tree net) w (length net.published + (strays w + option_map_or (sum_above parents strays depth) up 0)))
      (sym is_child)
      (under u (length net.published + sum_above parents strays depth u) setup.params s is_child there most
      (omega (arith, few_idle s refl)))

  -- a node can have what is published and the most strays
  pub most_at_start : (node : ℕ) → node < length parents → Most (fixed_of net) (initial_tree net) node (length net.published + most_strays net node)
  most_at_start node is_node =
      rw (← sum_above-add parents (capacity_into net) hold (depth_of parents node) node)
      (holds_at_every_depth net.tree.parents is.tree MostAt (top is.tree.root_has_none (omega arith)) most_below node is_node)
