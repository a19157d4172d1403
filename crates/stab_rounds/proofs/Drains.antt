-- Where a node has all that it will ever have.
use Rattle.std.proofs.Common.{◌≡◌, inl, inr, ℕ, zero, suc, ◌≤◌, List, [], ◌∷◌, ◌++◌, length, slice_get, Option, Some, None, refl, sym, ◌∙◌, ap, arith}
use Rattle.std.proofs.lemmas.Bool.{cases_eq}
use Rattle.std.proofs.lemmas.List.{nil_from_length}
use Rattle.stab_frames.specs.Parameters.{Parameters}
use Rattle.stab_core.specs.declared.act.LinkAct.{LinkAct}
use Rattle.stab_core.specs.Link.{link_at}
use Rattle.stab_core.specs.LinkActs.{event_of}
use Rattle.stab_core.specs.LinkState.{LinkState}
use Rattle.stab_tree.specs.Nodes.{parent_at}
use Rattle.stab_tree.specs.NodeOpenings.{opening_at}
use Rattle.stab_treecore.specs.declared.event.TreeEvent.{TreeEvent}
use Rattle.stab_treecore.specs.TreeReplay.{tree_replay}
use Rattle.stab_treecore.specs.TreeStep.{tree_step}
use Rattle.stab_treecore.specs.WholeTree.{WholeTree, received}
use Rattle.stab_rounds.proofs.Links.{after_event, quiet_after}
use Rattle.stab_rounds.proofs.TreeSteps.{At, Fixed, IsSound, root_has, step_other, step_at, known, child_of, offered_few, keeps, of_link}

-- the next item of a list that was offered is none
offered_all : (xs : List ℕ) (i : ℕ) → length xs ≤ i → slice_get xs i ≡ None
offered_all [] i past = refl
offered_all (x ∷ xs) zero past = absurd (omega arith)
offered_all (x ∷ xs) (suc i) past = offered_all xs i (omega arith)

-- The node has all that it will ever have: it is a root, or its parent has, and all of that was
-- acknowledged, and no frame is on its way.
pub data Drained (t : WholeTree) (parents : List (Option ℕ)) : ℕ → Type 0 where
  top : {w : ℕ} → parent_at parents w ≡ None → Drained t parents w
  under : {w : ℕ} (u : ℕ) (p : Parameters) (s : LinkState) → parent_at parents w ≡ Some u → At t w p s
      → s.acked ≡ length (received t u) → s.frames ≡ [] → Drained t parents u → Drained t parents w

module _ (fixed : Fixed) where
  abbrev parents : List (Option ℕ)
  parents = fixed.parents

  -- where all that the parent has is acknowledged, no item waits
  pub idle_at : (t : WholeTree) → IsSound fixed t → (w u : ℕ) (p : Parameters) (s : LinkState) → parent_at parents w ≡ Some u → At t w p s
      → s.acked ≡ length (received t u) → length s.offered ≡ s.acked
  idle_at t run w u p s is_child there all =
      let few = offered_few fixed t run w u p s is_child there in
      elim (known fixed t run w p s there).within.waits [
        | inl idle ↦ idle
        | inr holds ↦ absurd (omega arith)
      ]

  -- a step leaves such a link as quiet
  abbrev pub quiet_now : Parameters → LinkState → LinkAct → LinkState
  quiet_now p s a = after_event p s (event_of a None)

  pub quiet_at : (t : WholeTree) (e : TreeEvent) → IsSound fixed t → (w u : ℕ) (p : Parameters) (s : LinkState) → parent_at parents w ≡ Some u → At t w p s
      → s.acked ≡ length (received t u) → e.child ≡ w → At (tree_step t e) w p (quiet_now p s e.act)
  quiet_at t e run w u p s is_child there all same =
      let idle = idle_at t run w u p s is_child there all in
      step_at t e w u p s (child_of fixed t run w u is_child) there same
      ∙ ap (λ item. Some (link_at p (after_event p s (event_of e.act item)))) (offered_all (received t u) (length s.offered) (omega arith))

  -- a node that has all keeps it, and receives nothing
  abbrev Stays : WholeTree → WholeTree → ℕ → Type 0
  Stays t after w = Drained after parents w × (received after w ≡ received t w)

  pub drained_step : (t : WholeTree) (e : TreeEvent) → IsSound fixed t → (w : ℕ) → Drained t parents w → Stays t (tree_step t e) w
  drained_step t e run w (top none) =
      (top none, root_has fixed (tree_step t e) (keeps fixed t e run) w none ∙ sym (root_has fixed t run w none))
  drained_step t e run w (under u p s is_child there all empty above) =
      let (above_after, same_list) = drained_step t e run u above in
      let same_all : length (received t u) ≡ length (received (tree_step t e) u) = ap length (sym same_list) in
      elim (cases_eq e.child w) [
        | inl same ↦
            let now : LinkState = quiet_now p s e.act in
            let found = quiet_at t e run w u p s is_child there all same in
            let quiet = quiet_after p s e.act (idle_at t run w u p s is_child there all) in (
              under u p now is_child found (quiet.acked ∙ all ∙ same_all)
                  (nil_from_length now.frames (omega (arith, quiet.fewer, ap length empty))) above_after,
              of_link (tree_step t e) w (link_at p now) found
                  ∙ ap (λ xs. opening_at t.openings w ++ xs) (quiet.none empty) ∙ sym (of_link t w (link_at p s) there),
            )
        | inr other ↦
            let found : At (tree_step t e) w p s = step_other t e w other ∙ there in (
              under u p s is_child found (all ∙ same_all) empty above_after,
              of_link (tree_step t e) w (link_at p s) found ∙ sym (of_link t w (link_at p s) there),
            )
      ]

  pub drained_over : (es : List TreeEvent) (t : WholeTree) → IsSound fixed t → (w : ℕ) → Drained t parents w → Stays t (tree_replay t es) w
  drained_over [] t run w drained = (drained, refl)
  drained_over (e ∷ es) t run w drained =
      let (now, same) = drained_step t e run w drained in
      let (later, still_same) = drained_over es (tree_step t e) (keeps fixed t e run) w now in
      (later, still_same ∙ same)

  -- ---- frames go, where there is nothing left to offer

  module _ (w u : ℕ) (p : Parameters) (is_child : parent_at parents w ≡ Some u) where
    -- the count stays, and there are no more frames than this
    pub record Flushed (t : WholeTree) (acked most : ℕ) : Type 0 where
      pub state : LinkState
      pub there : At t w p state
      pub same_count : state.acked ≡ acked
      pub few : length state.frames ≤ most

    pub more_flushed : (t : WholeTree) (acked count few most : ℕ) → count ≡ acked → few ≤ most → Flushed t count few → Flushed t acked most
    more_flushed t acked count few most same less flushed =
        record { state = flushed.state; there = flushed.there; same_count = flushed.same_count ∙ same; few = omega (arith, flushed.few) }

    pub quiet_over : (es : List TreeEvent) (t : WholeTree) (s : LinkState) → IsSound fixed t → At t w p s → Drained t parents u
        → s.acked ≡ length (received t u) → Flushed (tree_replay t es) s.acked (length s.frames)
    quiet_over [] t s run there above all = record { state = s; there = there; same_count = refl; few = omega arith }
    quiet_over (e ∷ es) t s run there above all =
        let (above_after, same_list) = drained_step t e run u above in
        let same_all : length (received t u) ≡ length (received (tree_step t e) u) = ap length (sym same_list) in
        elim (cases_eq e.child w) [
          | inl same ↦
              let now : LinkState = quiet_now p s e.act in
              let quiet = quiet_after p s e.act (idle_at t run w u p s is_child there all) in
              more_flushed (tree_replay (tree_step t e) es) s.acked now.acked (length now.frames) (length s.frames) quiet.acked quiet.fewer
              (quiet_over es (tree_step t e) now (keeps fixed t e run) (quiet_at t e run w u p s is_child there all same) above_after
              (quiet.acked ∙ all ∙ same_all))
          | inr other ↦
              quiet_over es (tree_step t e) s (keeps fixed t e run) (step_other t e w other ∙ there) above_after (all ∙ same_all)
        ]
