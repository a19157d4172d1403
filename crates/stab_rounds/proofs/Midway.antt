-- Within a round: each event that the round waits for brings the item that waits further.
use Rattle.std.proofs.Common.{◌≡◌, ◌⊎◌, inl, inr, ℕ, zero, suc, ◌+◌, ◌≤◌, ◌==◌, ◌&&◌, Bool, true, false, List, [], ◌∷◌, ◌++◌, length, slice_get, refl, sym, ◌∙◌, ap, arith, eqb-true, lt-ltb, eq-eqb}
use Rattle.std.specs.List.{AllByRecursion as Each}
use Rattle.std.proofs.lemmas.Bool.{cond_both, and_from, cases_lt, eqb-false}
use Rattle.std.proofs.lemmas.List.{length_push}
use Rattle.stab_frames.specs.declared.frame.Frame.{Frame}
use Rattle.stab_frames.specs.Parameters.{Parameters}
use Rattle.stab_core.specs.declared.act.LinkAct.{LinkAct}
use Rattle.stab_core.specs.declared.act.LinkAct.TheVariants as act
use Rattle.stab_core.specs.declared.event.Event.{Event}
use Rattle.stab_core.specs.declared.event.Event.TheVariants as event
use Rattle.stab_core.specs.LinkState.{LinkState, is_idle, is_holding, current_frame, has_room}
use Rattle.stab_core.specs.Step.{open_step, after_front, takes, receives_frame, receives_ack}
use Rattle.stab_rounds.specs.declared.round.Awaited.{Awaited}
use Rattle.stab_rounds.specs.declared.round.Awaited.TheVariants as next
use Rattle.stab_rounds.specs.Rounds.{IsWithin, act_of, awaited_after}
use Rattle.stab_rounds.proofs.Entries.{From, from_end}
use Rattle.stab_rounds.proofs.Levels.{HasLabel, IsLabel, idle, outward, arrived, Arrived, Level, Holding, Stable, both_stable, holding_stable, arrived_stable, level_stable}
use Rattle.stab_rounds.proofs.Steps.{Moves, accepts, stays, moves_map, kept}

module _ (p : Parameters) (m : ℕ) where
  -- one round more than these many is needed, and the current one has come so far
  abbrev pub Midway : Awaited → LinkState → Type 0
  Midway next.Offer s = Level p (suc m) s
  Midway next.SendFrame s = Level p (suc m) s × Holding s
  Midway next.RecvFrame s = (Level p (suc m) s × Holding s) × (1 ≤ length s.frames)
  Midway next.SendAck s = Arrived (suc m) s
  Midway next.RecvAck s = Arrived (suc m) s × (1 ≤ length s.acks)

  -- after the current round `m` more are enough
  abbrev pub Due : Awaited → LinkState → Type 0
  Due w s = Level p m s ⊎ Midway w s

  -- the same after an act; the round that it completes is done
  abbrev pub DueAfter : Awaited → LinkAct → LinkState → Type 0
  DueAfter next.RecvAck (act.RecvAck false) t = Level p m t
  DueAfter w a t = Due (awaited_after w a) t

  pub level_due : (w : Awaited) (a : LinkAct) (t : LinkState) → Level p m t → DueAfter w a t
  level_due next.RecvAck (act.RecvAck false) t level = level
  level_due w a t level = inl level

-- ---- what the awaited events do

-- after an offer an item waits
pub offered_holds : (p : Parameters) (s : LinkState) (item : ℕ) → IsWithin p s → Holding (open_step p s (event.Offer item))
offered_holds p s item within =
    cond_both (is_idle s) (record s { offered = s.offered ++ item ∷ [] }) s Holding
    (λ none. length_push s.offered item ∙ ap (λ n. n + 1) (eqb-true _ _ none))
    (λ busy. elim within.waits [
      | inl none ↦ absurd (eqb-false _ _ busy none)
      | inr holds ↦ holds
    ])

-- after a frame is sent there is one
pub sent_frames : (p : Parameters) (s : LinkState) → 1 ≤ p.capacity → Holding s → 1 ≤ length (open_step p s event.SendFrame).frames
sent_frames p s some holds =
    cond_both (is_holding s && has_room p s.frames) (record s { frames = s.frames ++ current_frame s ∷ [] }) s
    (λ (t : LinkState). 1 ≤ length t.frames)
    (λ _. omega (arith, length_push s.frames (current_frame s)))
    (λ not_sent. elim (cases_lt (length s.frames) p.capacity) [
      | inl room ↦
          let sends : (is_holding s && has_room p s.frames) ≡ true =
          and_from (is_holding s) (has_room p s.frames) (eq-eqb _ _ holds) (lt-ltb _ _ room) in
          let never : true ≡ false = sym sends ∙ not_sent in cc
      | inr full ↦ omega arith
    ])

-- after an answer there is one
pub sent_acks : (p : Parameters) (s : LinkState) → 1 ≤ p.capacity → 1 ≤ length (open_step p s event.SendAck).acks
sent_acks p s some =
    cond_both (has_room p s.acks) (record s { acks = s.acks ++ s.recv_label ∷ [] }) s
    (λ (t : LinkState). 1 ≤ length t.acks)
    (λ _. omega (arith, length_push s.acks s.recv_label))
    (λ not_sent. elim (cases_lt (length s.acks) p.capacity) [
      | inl room ↦ (let never : true ≡ false = sym (lt-ltb _ _ room) ∙ not_sent in cc)
      | inr full ↦ omega arith
    ])

module _ (p : Parameters) (m : ℕ) where
  -- a frame is taken: one fewer is before the item's, or it was one of the item's
  abbrev pub Taken : LinkState → Type 0
  Taken t = Level p m t ⊎ Arrived (suc m) t

  taken_old : (s : LinkState) (f : Frame) (fs : List Frame) → IsWithin p (record s { frames = f ∷ fs }) → Holding s → f.label ≡ s.recv_label
      → Level p (suc m) (record s { frames = f ∷ fs }) → Taken (record s { frames = after_front false (f ∷ fs) })
  taken_old s f fs within holding same (idle none enough) = absurd (omega arith)
  taken_old s f fs within holding same (outward zero holds later enough) =
      inr (record {
        before = p.capacity;
        holds = holds;
        all_frames = later.1;
        taken = sym same ∙ later.0;
        later_acks = from_end (IsLabel s.send_label) p.capacity s.acks within.acks;
        enough = omega arith;
      })
  taken_old s f fs within holding same (outward (suc before) holds later enough) =
      inl (outward before holds later (omega arith))
  taken_old s f fs within holding same (arrived here) = inr ((arrived_stable p (suc m)).old s false f fs here)

  taken_fresh : (s : LinkState) (f : Frame) (fs : List Frame) → IsWithin p (record s { frames = f ∷ fs }) → Holding s
      → Level p (suc m) (record s { frames = f ∷ fs }) → Taken (takes (record s { frames = after_front false (f ∷ fs) }) f)
  taken_fresh s f fs within holding (idle none enough) = absurd (omega arith)
  taken_fresh s f fs within holding (outward zero holds later enough) =
      inr (record {
        before = p.capacity;
        holds = holds;
        all_frames = later.1;
        taken = later.0;
        later_acks = from_end (IsLabel s.send_label) p.capacity s.acks within.acks;
        enough = omega arith;
      })
  taken_fresh s f fs within holding (outward (suc before) holds later enough) =
      inl (outward before holds later (omega arith))
  taken_fresh s f fs within holding (arrived here) = inr ((arrived_stable p (suc m)).fresh s false f fs here)

  pub take_frame : (s : LinkState) (frames : List Frame) → IsWithin p (record s { frames = frames }) → Holding s
      → Level p (suc m) (record s { frames = frames }) → 1 ≤ length frames
      → Moves s (receives_frame false (record s { frames = frames }) (slice_get frames 0)) Taken
  take_frame s [] within holding level some = absurd (omega arith)
  take_frame s (f ∷ fs) within holding level some =
      cond_both (f.label == s.recv_label) _ _ (λ t. Moves s t Taken)
      (λ old. stays refl (taken_old s f fs within holding (eqb-true _ _ old) level))
      (λ _. stays refl (taken_fresh s f fs within holding level))

  -- an acknowledgement is taken: it is the item's, or one fewer is before the item's
  hear_rest : (s : LinkState) (a : ℕ) (rest : List ℕ) (before : ℕ) → Holding s
      → Each (HasLabel s.send_label) s.frames → s.recv_label ≡ s.send_label → From (IsLabel s.send_label) before (a ∷ rest)
      → before + 1 ≤ suc m → (is_holding s && (a == s.send_label)) ≡ false
      → Arrived m (record s { acks = after_front false (a ∷ rest) })
  hear_rest s a rest zero holds all_frames taken later enough ignored =
      let accepts : (is_holding s && (a == s.send_label)) ≡ true =
      and_from (is_holding s) (a == s.send_label) (eq-eqb _ _ holds) (eq-eqb _ _ later.0) in
      absurd (let never : true ≡ false = sym accepts ∙ ignored in cc)
  hear_rest s a rest (suc before) holds all_frames taken later enough ignored =
      record { before = before; holds = holds; all_frames = all_frames; taken = taken; later_acks = later; enough = omega arith }

  pub hear_ack : (s : LinkState) (acks : List ℕ) → Arrived (suc m) (record s { acks = acks }) → 1 ≤ length acks
      → Moves s (receives_ack p false (record s { acks = acks }) (slice_get acks 0)) (Arrived m)
  hear_ack s [] here some = absurd (omega arith)
  hear_ack s (a ∷ rest) here some =
      cond_both (is_holding s && (a == s.send_label)) _ _ (λ t. Moves s t (Arrived m))
      (λ _. accepts refl)
      (λ ignored. stays refl (hear_rest s a rest here.before here.holds here.all_frames here.taken here.later_acks here.enough ignored))

-- ---- what other events leave

pub kept_front : (s : LinkState) (frames : List Frame) → 1 ≤ length frames
    → 1 ≤ length (receives_frame true (record s { frames = frames }) (slice_get frames 0)).frames
kept_front s [] some = some
kept_front s (f ∷ fs) some =
    cond_both (f.label == s.recv_label) _ _ (λ (t : LinkState). 1 ≤ length t.frames) (λ _. some) (λ _. some)

pub kept_front_ack : (p : Parameters) (s : LinkState) (acks : List ℕ) → 1 ≤ length acks
    → 1 ≤ length (receives_ack p true (record s { acks = acks }) (slice_get acks 0)).acks
kept_front_ack p s [] some = some
kept_front_ack p s (a ∷ rest) some =
    cond_both (is_holding s && (a == s.send_label)) _ _ (λ (t : LinkState). 1 ≤ length t.acks) (λ _. some) (λ _. some)

pub frames_of_ack : (p : Parameters) (keep : Bool) (s : LinkState) (acks : List ℕ) → 1 ≤ length s.frames
    → 1 ≤ length (receives_ack p keep (record s { acks = acks }) (slice_get acks 0)).frames
frames_of_ack p keep s [] some = some
frames_of_ack p keep s (a ∷ rest) some =
    cond_both (is_holding s && (a == s.send_label)) _ _ (λ (t : LinkState). 1 ≤ length t.frames) (λ _. some) (λ _. some)

pub acks_of_frame : (keep : Bool) (s : LinkState) (frames : List Frame) → 1 ≤ length s.acks
    → 1 ≤ length (receives_frame keep (record s { frames = frames }) (slice_get frames 0)).acks
acks_of_frame keep s [] some = some
acks_of_frame keep s (f ∷ fs) some =
    cond_both (f.label == s.recv_label) _ _ (λ (t : LinkState). 1 ≤ length t.acks) (λ _. some) (λ _. some)

-- ---- one event

module _ (p : Parameters) (m : ℕ) (some : 1 ≤ p.capacity) where
  offer_step : (s : LinkState) (e : Event) → IsWithin p s → Midway p m next.Offer s
      → Moves s (open_step p s e) (DueAfter p m next.Offer (act_of e))
  offer_step s (event.Offer item) within level =
      moves_map (λ after. inr (after, offered_holds p s item within)) (kept (level_stable p (suc m)) s (event.Offer item) within level)
  offer_step s e within level = moves_map inr (kept (level_stable p (suc m)) s e within level)

  abbrev on_its_way : Stable p (λ s. Level p (suc m) s × Holding s)
  on_its_way = both_stable (level_stable p (suc m)) (holding_stable p)

  send_step : (s : LinkState) (e : Event) → IsWithin p s → Midway p m next.SendFrame s
      → Moves s (open_step p s e) (DueAfter p m next.SendFrame (act_of e))
  send_step s event.SendFrame within both =
      moves_map (λ after. inr (after, sent_frames p s some both.1)) (kept on_its_way s event.SendFrame within both)
  send_step s e within both = moves_map inr (kept on_its_way s e within both)

  take_step : (s : LinkState) (e : Event) → IsWithin p s → Midway p m next.RecvFrame s
      → Moves s (open_step p s e) (DueAfter p m next.RecvFrame (act_of e))
  take_step s (event.Offer item) within (both, frames) =
      moves_map (λ after. inr (after, cond_both (is_idle s) (record s { offered = s.offered ++ item ∷ [] }) s (λ (t : LinkState). 1 ≤ length t.frames) (λ _. frames) (λ _. frames)))
      (kept on_its_way s (event.Offer item) within both)
  take_step s event.SendFrame within (both, frames) =
      moves_map (λ after. inr (after, sent_frames p s some both.1)) (kept on_its_way s event.SendFrame within both)
  take_step s (event.RecvFrame true) within (both, frames) =
      moves_map (λ after. inr (after, kept_front s s.frames frames)) (kept on_its_way s (event.RecvFrame true) within both)
  take_step s (event.RecvFrame false) within (both, frames) = take_frame p m s s.frames within both.1 both.0 frames
  take_step s event.SendAck within (both, frames) =
      moves_map (λ after. inr (after, cond_both (has_room p s.acks) (record s { acks = s.acks ++ s.recv_label ∷ [] }) s (λ (t : LinkState). 1 ≤ length t.frames) (λ _. frames) (λ _. frames)))
      (kept on_its_way s event.SendAck within both)
  take_step s (event.RecvAck keep) within (both, frames) =
      moves_map (λ after. inr (after, frames_of_ack p keep s s.acks frames)) (kept on_its_way s (event.RecvAck keep) within both)
  take_step s (event.LoseFrame place) within (both, frames) = moves_map inr (kept on_its_way s (event.LoseFrame place) within both)
  take_step s (event.LoseAck place) within (both, frames) =
      moves_map (λ after. inr (after, frames)) (kept on_its_way s (event.LoseAck place) within both)
  take_step s event.Close within (both, frames) = moves_map (λ after. inr (after, frames)) (kept on_its_way s event.Close within both)

  answer_step : (s : LinkState) (e : Event) → IsWithin p s → Midway p m next.SendAck s
      → Moves s (open_step p s e) (DueAfter p m next.SendAck (act_of e))
  answer_step s event.SendAck within here =
      moves_map (λ after. inr (after, sent_acks p s some)) (kept (arrived_stable p (suc m)) s event.SendAck within here)
  answer_step s e within here = moves_map inr (kept (arrived_stable p (suc m)) s e within here)

  hear_step : (s : LinkState) (e : Event) → IsWithin p s → Midway p m next.RecvAck s
      → Moves s (open_step p s e) (DueAfter p m next.RecvAck (act_of e))
  hear_step s (event.Offer item) within (here, acks) =
      moves_map (λ after. inr (after, cond_both (is_idle s) (record s { offered = s.offered ++ item ∷ [] }) s (λ (t : LinkState). 1 ≤ length t.acks) (λ _. acks) (λ _. acks)))
      (kept (arrived_stable p (suc m)) s (event.Offer item) within here)
  hear_step s event.SendFrame within (here, acks) =
      moves_map (λ after. inr (after, cond_both (is_holding s && has_room p s.frames) (record s { frames = s.frames ++ current_frame s ∷ [] }) s (λ (t : LinkState). 1 ≤ length t.acks) (λ _. acks) (λ _. acks)))
      (kept (arrived_stable p (suc m)) s event.SendFrame within here)
  hear_step s (event.RecvFrame keep) within (here, acks) =
      moves_map (λ after. inr (after, acks_of_frame keep s s.frames acks)) (kept (arrived_stable p (suc m)) s (event.RecvFrame keep) within here)
  hear_step s event.SendAck within (here, acks) =
      moves_map (λ after. inr (after, sent_acks p s some)) (kept (arrived_stable p (suc m)) s event.SendAck within here)
  hear_step s (event.RecvAck true) within (here, acks) =
      moves_map (λ after. inr (after, kept_front_ack p s s.acks acks)) (kept (arrived_stable p (suc m)) s (event.RecvAck true) within here)
  hear_step s (event.RecvAck false) within (here, acks) = moves_map arrived (hear_ack p m s s.acks here acks)
  hear_step s (event.LoseFrame place) within (here, acks) =
      moves_map (λ after. inr (after, acks)) (kept (arrived_stable p (suc m)) s (event.LoseFrame place) within here)
  hear_step s (event.LoseAck place) within (here, acks) = moves_map inr (kept (arrived_stable p (suc m)) s (event.LoseAck place) within here)
  hear_step s event.Close within (here, acks) =
      moves_map (λ after. inr (after, acks)) (kept (arrived_stable p (suc m)) s event.Close within here)

  midway_step : (w : Awaited) (s : LinkState) (e : Event) → IsWithin p s → Midway p m w s
      → Moves s (open_step p s e) (DueAfter p m w (act_of e))
  midway_step next.Offer = offer_step
  midway_step next.SendFrame = send_step
  midway_step next.RecvFrame = take_step
  midway_step next.SendAck = answer_step
  midway_step next.RecvAck = hear_step

  -- one event of an open link
  pub due_step : (w : Awaited) (s : LinkState) (e : Event) → IsWithin p s → Due p m w s
      → Moves s (open_step p s e) (DueAfter p m w (act_of e))
  due_step w s e within (inl level) =
      moves_map (level_due p m w (act_of e) (open_step p s e)) (kept (level_stable p m) s e within level)
  due_step w s e within (inr midway) = midway_step w s e within midway
