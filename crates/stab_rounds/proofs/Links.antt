-- A link of a tree: an act may be no event, where there is nothing to offer.
use Rattle.std.proofs.Common.{◌≡◌, inl, inr, ℕ, ◌-◌, ◌≤◌, ◌==◌, Bool, true, false, List, [], ◌∷◌, length, slice_get, Option, Some, None, refl, sym, ◌∙◌, ap, subst, arith, ne_eqb}
use Rattle.std.proofs.lemmas.Bool.{cond_both, cond-false, cond-true}
use Rattle.stab_frames.specs.declared.frame.Frame.{Frame}
use Rattle.stab_frames.specs.Parameters.{Parameters}
use Rattle.stab_core.specs.declared.act.LinkAct.{LinkAct}
use Rattle.stab_core.specs.declared.act.LinkAct.TheVariants as act
use Rattle.stab_core.specs.declared.event.Event.{Event}
use Rattle.stab_core.specs.declared.event.Event.TheVariants as event
use Rattle.stab_core.specs.Link.{link_at}
use Rattle.stab_core.specs.LinkActs.{event_of}
use Rattle.stab_core.specs.LinkState.{LinkState, is_holding, has_room}
use Rattle.stab_core.specs.Step.{open_step, step, receives_frame, receives_ack}
use Rattle.stab_treecore.specs.TreeStep.{link_after}
use Rattle.stab_rounds.specs.declared.round.Awaited.{Awaited}
use Rattle.stab_rounds.specs.declared.round.Awaited.TheVariants as next
use Rattle.stab_rounds.specs.Rounds.{IsWithin, act_of}
use Rattle.stab_rounds.proofs.Levels.{Holding, Level, level_stable}
use Rattle.stab_rounds.proofs.Steps.{Moves, stays, kept, within_step, fewer_without, fewer_after}
use Rattle.stab_rounds.proofs.Midway.{Due, DueAfter, due_step, level_due}

-- the state after an event, where there is one
abbrev pub after_event : Parameters → LinkState → Option Event → LinkState
after_event p s None = s
after_event p s (Some e) = step p s e

pub after_at : (p : Parameters) (s : LinkState) (o : Option Event) → link_after o (link_at p s) ≡ link_at p (after_event p s o)
after_at p s None = refl
after_at p s (Some e) = refl

pub within_after : (p : Parameters) (s : LinkState) (o : Option Event) → IsWithin p s → IsWithin p (after_event p s o)
within_after p s None within = within
within_after p s (Some e) within = within_step p s e within

-- the rounds that are needed are no more after it
pub level_after : (p : Parameters) (k : ℕ) (s : LinkState) (o : Option Event) → IsWithin p s → Level p k s
    → Moves s (after_event p s o) (Level p k)
level_after p k s None within level = stays refl level
level_after p k s (Some e) within level =
    cond_both s.closed s (open_step p s e) (λ t. Moves s t (Level p k)) (λ _. stays refl level)
    (λ _. kept (level_stable p k) s e within level)

-- a closed link stays closed
pub closed_after : (p : Parameters) (s : LinkState) (o : Option Event) → s.closed ≡ true → (after_event p s o).closed ≡ true
closed_after p s None closed = closed
closed_after p s (Some e) closed = ap (λ (t : LinkState). t.closed) (cond-true s.closed s (open_step p s e) closed) ∙ closed

module _ (p : Parameters) (m : ℕ) (some : 1 ≤ p.capacity) where
  -- an offer without an item, where one waits
  not_offered : (v : Awaited) (s : LinkState) → Holding s → Due p m v s → DueAfter p m v act.Offer s
  not_offered v s holds (inl level) = level_due p m v act.Offer s level
  not_offered next.Offer s holds (inr level) = inr (level, holds)
  not_offered next.SendFrame s holds (inr midway) = inr midway
  not_offered next.RecvFrame s holds (inr midway) = inr midway
  not_offered next.SendAck s holds (inr midway) = inr midway
  not_offered next.RecvAck s holds (inr midway) = inr midway

  event_due : (v : Awaited) (s : LinkState) (e : Event) → s.closed ≡ false → IsWithin p s → Due p m v s
      → Moves s (step p s e) (DueAfter p m v (act_of e))
  event_due v s e is_open within due =
      subst (λ t. Moves s t (DueAfter p m v (act_of e))) (sym (cond-false s.closed s (open_step p s e) is_open))
      (due_step p m some v s e within due)

  -- one act on an open link, where an item waits or can be offered
  pub act_due : (v : Awaited) (s : LinkState) (a : LinkAct) (item : Option ℕ) → s.closed ≡ false → IsWithin p s
      → (item ≡ None → Holding s) → Due p m v s → Moves s (after_event p s (event_of a item)) (DueAfter p m v a)
  act_due v s act.Offer None is_open within waits due = stays refl (not_offered v s (waits refl) due)
  act_due v s act.Offer (Some x) is_open within waits due = event_due v s (event.Offer x) is_open within due
  act_due v s act.SendFrame item is_open within waits due = event_due v s event.SendFrame is_open within due
  act_due v s (act.RecvFrame keep) item is_open within waits due = event_due v s (event.RecvFrame keep) is_open within due
  act_due v s act.SendAck item is_open within waits due = event_due v s event.SendAck is_open within due
  act_due v s (act.RecvAck keep) item is_open within waits due = event_due v s (event.RecvAck keep) is_open within due
  act_due v s (act.LoseFrame place) item is_open within waits due = event_due v s (event.LoseFrame place) is_open within due
  act_due v s (act.LoseAck place) item is_open within waits due = event_due v s (event.LoseAck place) is_open within due
  act_due v s act.Close item is_open within waits due = event_due v s event.Close is_open within due

-- ---- a link with nothing to do

-- nothing is offered or acknowledged, no frame comes, and where there was none nothing is delivered
pub record IsQuiet (s t : LinkState) : Type 0 where
  pub offered : t.offered ≡ s.offered
  pub acked : t.acked ≡ s.acked
  pub fewer : length t.frames ≤ length s.frames
  pub none : s.frames ≡ [] → t.delivered ≡ s.delivered

quiet_same : (s : LinkState) → IsQuiet s s
quiet_same s = record { offered = refl; acked = refl; fewer = omega arith; none = λ _. refl }

not_holding : (s : LinkState) → length s.offered ≡ s.acked → is_holding s ≡ false
not_holding s idle = ne_eqb _ _ (λ holds. omega arith)

quiet_frame : (keep : Bool) (s : LinkState) (frames : List Frame)
    → IsQuiet (record s { frames = frames }) (receives_frame keep (record s { frames = frames }) (slice_get frames 0))
quiet_frame keep s [] = quiet_same (record s { frames = [] })
quiet_frame keep s (f ∷ fs) =
    let few = fewer_after keep (f ∷ fs) in
    cond_both (f.label == s.recv_label) _ _ (IsQuiet (record s { frames = f ∷ fs }))
    (λ _. record { offered = refl; acked = refl; fewer = few; none = λ _. refl })
    (λ _. record { offered = refl; acked = refl; fewer = few; none = λ empty. absurd (let one = ap length empty in omega arith) })

quiet_ack : (p : Parameters) (keep : Bool) (s : LinkState) (acks : List ℕ) → is_holding s ≡ false
    → IsQuiet (record s { acks = acks }) (receives_ack p keep (record s { acks = acks }) (slice_get acks 0))
quiet_ack p keep s [] idle = quiet_same (record s { acks = [] })
quiet_ack p keep s (a ∷ rest) idle =
    rw idle (record { offered = refl; acked = refl; fewer = omega arith; none = λ _. refl })

-- one event of an open link
quiet_event : (p : Parameters) (s : LinkState) (e : Event) → IsQuiet s (open_step p s e) → IsQuiet s (step p s e)
quiet_event p s e quiet = cond_both s.closed s (open_step p s e) (IsQuiet s) (λ _. quiet_same s) (λ _. quiet)

-- so it is after any act, where there is nothing to offer
pub quiet_after : (p : Parameters) (s : LinkState) (a : LinkAct) → length s.offered ≡ s.acked
    → IsQuiet s (after_event p s (event_of a None))
quiet_after p s act.Offer idle = quiet_same s
quiet_after p s act.SendFrame idle = quiet_event p s event.SendFrame (rw (not_holding s idle) (quiet_same s))
quiet_after p s (act.RecvFrame keep) idle = quiet_event p s (event.RecvFrame keep) (quiet_frame keep s s.frames)
quiet_after p s act.SendAck idle =
    quiet_event p s event.SendAck
    (cond_both (has_room p s.acks) _ s (IsQuiet s)
    (λ _. record { offered = refl; acked = refl; fewer = omega arith; none = λ _. refl }) (λ _. quiet_same s))
quiet_after p s (act.RecvAck keep) idle = quiet_event p s (event.RecvAck keep) (quiet_ack p keep s s.acks (not_holding s idle))
quiet_after p s (act.LoseFrame place) idle =
    quiet_event p s (event.LoseFrame place)
    (record { offered = refl; acked = refl; fewer = fewer_without place s.frames; none = λ _. refl })
quiet_after p s (act.LoseAck place) idle =
    quiet_event p s (event.LoseAck place) (record { offered = refl; acked = refl; fewer = omega arith; none = λ _. refl })
quiet_after p s act.Close idle =
    quiet_event p s event.Close (record { offered = refl; acked = refl; fewer = omega arith; none = λ _. refl })

-- a frame that is taken is gone
taken_open : (s : LinkState) (frames : List Frame)
    → length (receives_frame false (record s { frames = frames }) (slice_get frames 0)).frames ≤ length frames - 1
taken_open s [] = omega arith
taken_open s (f ∷ fs) =
    cond_both (f.label == s.recv_label) _ _ (λ (t : LinkState). length t.frames ≤ length (f ∷ fs) - 1)
    (λ _. omega arith) (λ _. omega arith)

pub fewer_taken : (p : Parameters) (s : LinkState) → s.closed ≡ false
    → length (after_event p s (event_of (act.RecvFrame false) None)).frames ≤ length s.frames - 1
fewer_taken p s is_open =
    subst (λ (t : LinkState). length t.frames ≤ length s.frames - 1)
    (sym (cond-false s.closed s (open_step p s (event.RecvFrame false)) is_open)) (taken_open s s.frames)
