-- Each reading round acknowledges an item, from any state.
use Rattle.std.proofs.Common.{◌≡◌, inl, inr, ℕ, zero, suc, ◌+◌, ◌≤◌, ◌&&◌, true, false, List, [], ◌∷◌, ◌++◌, length, map, slice_get, refl, sym, ◌∙◌, ap, subst, arith}
use Rattle.std.proofs.lemmas.Bool.{cond_both, cond-false, cond-true, cases_Bool}
use Rattle.stab_frames.specs.declared.frame.Frame.{Frame}
use Rattle.stab_frames.specs.Parameters.{Parameters}
use Rattle.stab_core.specs.declared.act.LinkAct.{LinkAct}
use Rattle.stab_core.specs.declared.event.Event.{Event}
use Rattle.stab_core.specs.declared.event.Event.TheVariants as event
use Rattle.stab_core.specs.LinkState.{LinkState, is_idle, is_holding, current_frame, has_room}
use Rattle.stab_core.specs.Step.{open_step, step, receives_frame, receives_ack}
use Rattle.stab_core.specs.Replay.{replay}
use Rattle.stab_core.proofs.Replays.{replay_closed}
use Rattle.stab_rounds.specs.Rounds.{IsWithin, act_of}
use Rattle.stab_rounds.specs.ReadingRounds.{Reads, offer, frames, frame, acks, ack, reads_after, read_by, reading_from, reading_rounds}
use Rattle.stab_rounds.proofs.Entries.{from_end}
use Rattle.stab_rounds.proofs.Levels.{IsLabel, idle, outward, arrived, Level, Arrived, Holding, Stable, both_stable, holding_stable, arrived_stable, level_stable, any_level}
use Rattle.stab_rounds.proofs.Steps.{Moves, accepts, stays, moves_map, kept, within_open, within_step, one_step_grows, anything}
use Rattle.stab_rounds.proofs.Midway.{Taken, take_frame, hear_ack, offered_holds, sent_frames, sent_acks, frames_of_ack, acks_of_frame, kept_front, kept_front_ack}

module _ (p : Parameters) (some : 1 ≤ p.capacity) where
  abbrev c : ℕ
  c = p.capacity

  abbrev Out : ℕ → LinkState → Type 0
  Out k s = Level p k s × Holding s

  out_stable : (k : ℕ) → Stable p (Out k)
  out_stable k = both_stable (level_stable p k) (holding_stable p)

  -- how far a round has come
  abbrev pub Read : Reads → LinkState → Type 0
  Read offer s = Unit {0}
  Read (frames left) s = Out (left + c + 1) s
  Read frame s = Out (c + 1) s × (1 ≤ length s.frames)
  Read (acks left) s = Arrived (left + 1) s
  Read ack s = Arrived 1 s × (1 ≤ length s.acks)

  -- what has arrived has at most c acknowledgements before its own
  arrived_few : (k m : ℕ) (s : LinkState) → IsWithin p s → c + 1 ≤ m → Arrived k s → Arrived m s
  arrived_few k m s within enough here =
      record {
        before = c;
        holds = here.holds;
        all_frames = here.all_frames;
        taken = here.taken;
        enough = enough;
        later_acks = from_end (IsLabel s.send_label) c s.acks within.acks;
      }

  -- where no frame is before the item's, it has arrived
  all_out : (s : LinkState) → IsWithin p s → Holding s → Level p c s → Arrived (c + 1) s
  all_out s within holds (idle none _) = absurd (omega arith)
  all_out s within holds (outward before _ _ enough) = absurd (omega arith)
  all_out s within holds (arrived here) = arrived_few c (c + 1) s within (omega arith) here

  -- both of two facts
  both_moves : {Q R : LinkState → Type 0} (s t : LinkState) → Moves s t Q → Moves s t R → Moves s t (λ x. Q x × R x)
  both_moves s t (accepts acked) _ = accepts acked
  both_moves s t (stays same q) (accepts acked) = accepts acked
  both_moves s t (stays same q) (stays _ r) = stays same (q, r)

  -- a frame is taken, where one is there: one fewer is before the item's
  fewer_out : (m : ℕ) (t : LinkState) → IsWithin p t → c + 1 ≤ m → Taken p m t → Level p m t
  fewer_out m t within enough (inl level) = level
  fewer_out m t within enough (inr here) = arrived (arrived_few (suc m) m t within enough here)

  drain_list : (m : ℕ) (s : LinkState) (list : List Frame) → IsWithin p (record s { frames = list }) → c + 1 ≤ m
      → IsWithin p (receives_frame false (record s { frames = list }) (slice_get list 0))
      → Holding s → Level p (suc m) (record s { frames = list })
      → Moves s (receives_frame false (record s { frames = list }) (slice_get list 0)) (Level p m)
  drain_list m s [] within enough within_after holds level = stays refl (outward 0 holds tt (omega arith))
  drain_list m s (f ∷ fs) within enough within_after holds level =
      moves_map (fewer_out m (receives_frame false (record s { frames = f ∷ fs }) (slice_get (f ∷ fs) 0)) within_after enough)
      (take_frame p m s (f ∷ fs) within holds level (omega arith))

  drain_frames : (left : ℕ) (s : LinkState) → IsWithin p s → Out (suc (left + c + 1)) s
      → Moves s (open_step p s (event.RecvFrame false)) (Out (left + c + 1))
  drain_frames left s within (level, holds) =
      both_moves s (open_step p s (event.RecvFrame false))
      (drain_list (left + c + 1) s s.frames within (omega arith) (within_open p s (event.RecvFrame false) within) holds level)
      (kept (holding_stable p) s (event.RecvFrame false) within holds)

  -- the item's own frame is taken
  arrives : (s : LinkState) → IsWithin p s → Read frame s → Moves s (open_step p s (event.RecvFrame false)) (Arrived (c + 1))
  arrives s within ((level, holds), some_frame) =
      let t : LinkState = open_step p s (event.RecvFrame false) in
      moves_map (λ has. by_taken t (within_open p s (event.RecvFrame false) within) has)
      (both_moves s t
      (take_frame p c s s.frames within holds (subst (λ k. Level p k s) (let e : c + 1 ≡ suc c = omega arith in e) level) some_frame)
      (kept (holding_stable p) s (event.RecvFrame false) within holds))
    where
      by_taken : (t : LinkState) → IsWithin p t → Taken p c t × Holding t → Arrived (c + 1) t
      by_taken t within_t (inl level_t, holds_t) = all_out t within_t holds_t level_t
      by_taken t within_t (inr here, holds_t) = arrived_few (suc c) (c + 1) t within_t (omega arith) here

  -- an acknowledgement is taken, where one is there
  drain_ack_list : (m : ℕ) (s : LinkState) (list : List ℕ) → 1 ≤ m → Arrived (suc m) (record s { acks = list })
      → Moves s (receives_ack p false (record s { acks = list }) (slice_get list 0)) (Arrived m)
  drain_ack_list m s [] positive here =
      stays refl (record {
        before = 0;
        holds = here.holds;
        all_frames = here.all_frames;
        taken = here.taken;
        later_acks = tt;
        enough = omega arith;
      })
  drain_ack_list m s (a ∷ rest) positive here = hear_ack p m s (a ∷ rest) here (omega arith)

  drain_acks : (left : ℕ) (s : LinkState) → Arrived (suc left + 1) s → Moves s (open_step p s (event.RecvAck false)) (Arrived (left + 1))
  drain_acks left s here =
      drain_ack_list (left + 1) s s.acks (omega arith) (subst (λ k. Arrived k s) (let e : suc left + 1 ≡ suc (left + 1) = omega arith in e) here)

  -- the item's own acknowledgement is taken
  not_left : (t : LinkState) → Arrived 0 t → ⊥
  not_left t here = let enough = here.enough in omega arith

  pub heard : (s : LinkState) → Read ack s → (open_step p s (event.RecvAck false)).acked ≡ s.acked + 1
  heard s (here, some_ack) = only (hear_ack p 0 s s.acks here some_ack)
    where
      only : Moves s (open_step p s (event.RecvAck false)) (Arrived 0) → (open_step p s (event.RecvAck false)).acked ≡ s.acked + 1
      only (accepts acked) = acked
      only (stays _ none) = absurd (not_left (open_step p s (event.RecvAck false)) none)

  -- ---- one event

  abbrev After : Reads → LinkAct → LinkState → Type 0
  After r a t = Read (reads_after c r a) t

  offer_read : (s : LinkState) (e : Event) → IsWithin p s → Moves s (open_step p s e) (After offer (act_of e))
  offer_read s (event.Offer item) within =
      moves_map (λ _. (any_level p (c + c + 1) (open_step p s (event.Offer item)) (within_open p s (event.Offer item) within) (omega arith), offered_holds p s item within))
      (kept (anything p) s (event.Offer item) within tt)
  offer_read s e within = kept (anything p) s e within tt

  frames_read : (left : ℕ) (s : LinkState) (e : Event) → IsWithin p s → Out (left + c + 1) s → Moves s (open_step p s e) (After (frames left) (act_of e))
  frames_read (suc left) s (event.RecvFrame false) within out =
      drain_frames left s within (subst (λ k. Out k s) (let e : suc left + c + 1 ≡ suc (left + c + 1) = omega arith in e) out)
  frames_read zero s event.SendFrame within out =
      moves_map (λ has. (subst (λ k. Out k (open_step p s event.SendFrame)) (let e : 0 + c + 1 ≡ c + 1 = omega arith in e) has, sent_frames p s some out.1))
      (kept (out_stable (0 + c + 1)) s event.SendFrame within out)
  frames_read zero s (event.Offer item) within out = kept (out_stable (0 + c + 1)) s (event.Offer item) within out
  frames_read zero s (event.RecvFrame keep) within out = kept (out_stable (0 + c + 1)) s (event.RecvFrame keep) within out
  frames_read zero s event.SendAck within out = kept (out_stable (0 + c + 1)) s event.SendAck within out
  frames_read zero s (event.RecvAck keep) within out = kept (out_stable (0 + c + 1)) s (event.RecvAck keep) within out
  frames_read zero s (event.LoseFrame place) within out = kept (out_stable (0 + c + 1)) s (event.LoseFrame place) within out
  frames_read zero s (event.LoseAck place) within out = kept (out_stable (0 + c + 1)) s (event.LoseAck place) within out
  frames_read zero s event.Close within out = kept (out_stable (0 + c + 1)) s event.Close within out
  frames_read (suc left) s (event.RecvFrame true) within out = kept (out_stable (suc left + c + 1)) s (event.RecvFrame true) within out
  frames_read (suc left) s e within out = kept (out_stable (suc left + c + 1)) s e within out

  frame_read : (s : LinkState) (e : Event) → IsWithin p s → Read frame s → Moves s (open_step p s e) (After frame (act_of e))
  frame_read s (event.RecvFrame false) within read = arrives s within read
  frame_read s (event.RecvFrame true) within (out, some_frame) =
      moves_map (λ has. (has, kept_front s s.frames some_frame)) (kept (out_stable (c + 1)) s (event.RecvFrame true) within out)
  frame_read s (event.LoseFrame place) within (out, some_frame) =
      moves_map (λ has. subst (λ k. Out k (open_step p s (event.LoseFrame place))) (let e : c + 1 ≡ 0 + c + 1 = omega arith in e) has)
      (kept (out_stable (c + 1)) s (event.LoseFrame place) within out)
  frame_read s (event.Offer item) within (out, some_frame) =
      moves_map (λ has. (has, cond_both (is_idle s) (record s { offered = s.offered ++ item ∷ [] }) s (λ (t : LinkState). 1 ≤ length t.frames) (λ _. some_frame) (λ _. some_frame)))
      (kept (out_stable (c + 1)) s (event.Offer item) within out)
  frame_read s event.SendFrame within (out, some_frame) =
      moves_map (λ has. (has, sent_frames p s some out.1)) (kept (out_stable (c + 1)) s event.SendFrame within out)
  frame_read s event.SendAck within (out, some_frame) =
      moves_map (λ has. (has, cond_both (has_room p s.acks) (record s { acks = s.acks ++ s.recv_label ∷ [] }) s (λ (t : LinkState). 1 ≤ length t.frames) (λ _. some_frame) (λ _. some_frame)))
      (kept (out_stable (c + 1)) s event.SendAck within out)
  frame_read s (event.RecvAck keep) within (out, some_frame) =
      moves_map (λ has. (has, frames_of_ack p keep s s.acks some_frame)) (kept (out_stable (c + 1)) s (event.RecvAck keep) within out)
  frame_read s (event.LoseAck place) within (out, some_frame) =
      moves_map (λ has. (has, some_frame)) (kept (out_stable (c + 1)) s (event.LoseAck place) within out)
  frame_read s event.Close within (out, some_frame) = moves_map (λ has. (has, some_frame)) (kept (out_stable (c + 1)) s event.Close within out)

  acks_read : (left : ℕ) (s : LinkState) (e : Event) → IsWithin p s → Arrived (left + 1) s → Moves s (open_step p s e) (After (acks left) (act_of e))
  acks_read (suc left) s (event.RecvAck false) within here = drain_acks left s here
  acks_read zero s event.SendAck within here =
      moves_map (λ has. (subst (λ k. Arrived k (open_step p s event.SendAck)) (let e : 0 + 1 ≡ 1 = omega arith in e) has, sent_acks p s some))
      (kept (arrived_stable p (0 + 1)) s event.SendAck within here)
  acks_read zero s (event.Offer item) within here = kept (arrived_stable p (0 + 1)) s (event.Offer item) within here
  acks_read zero s event.SendFrame within here = kept (arrived_stable p (0 + 1)) s event.SendFrame within here
  acks_read zero s (event.RecvFrame keep) within here = kept (arrived_stable p (0 + 1)) s (event.RecvFrame keep) within here
  acks_read zero s (event.RecvAck keep) within here = kept (arrived_stable p (0 + 1)) s (event.RecvAck keep) within here
  acks_read zero s (event.LoseFrame place) within here = kept (arrived_stable p (0 + 1)) s (event.LoseFrame place) within here
  acks_read zero s (event.LoseAck place) within here = kept (arrived_stable p (0 + 1)) s (event.LoseAck place) within here
  acks_read zero s event.Close within here = kept (arrived_stable p (0 + 1)) s event.Close within here
  acks_read (suc left) s (event.RecvAck true) within here = kept (arrived_stable p (suc left + 1)) s (event.RecvAck true) within here
  acks_read (suc left) s e within here = kept (arrived_stable p (suc left + 1)) s e within here

  ack_read : (s : LinkState) (e : Event) → IsWithin p s → Read ack s → Moves s (open_step p s e) (After ack (act_of e))
  ack_read s (event.RecvAck false) within read = accepts (heard s read)
  ack_read s (event.RecvAck true) within (here, some_ack) =
      moves_map (λ has. (has, kept_front_ack p s s.acks some_ack)) (kept (arrived_stable p 1) s (event.RecvAck true) within here)
  ack_read s (event.LoseAck place) within (here, some_ack) =
      moves_map (λ has. subst (λ k. Arrived k (open_step p s (event.LoseAck place))) (let e : 1 ≡ 0 + 1 = omega arith in e) has)
      (kept (arrived_stable p 1) s (event.LoseAck place) within here)
  ack_read s (event.Offer item) within (here, some_ack) =
      moves_map (λ has. (has, cond_both (is_idle s) (record s { offered = s.offered ++ item ∷ [] }) s (λ (t : LinkState). 1 ≤ length t.acks) (λ _. some_ack) (λ _. some_ack)))
      (kept (arrived_stable p 1) s (event.Offer item) within here)
  ack_read s event.SendFrame within (here, some_ack) =
      moves_map (λ has. (has, cond_both (is_holding s && has_room p s.frames) (record s { frames = s.frames ++ current_frame s ∷ [] }) s (λ (t : LinkState). 1 ≤ length t.acks) (λ _. some_ack) (λ _. some_ack)))
      (kept (arrived_stable p 1) s event.SendFrame within here)
  ack_read s (event.RecvFrame keep) within (here, some_ack) =
      moves_map (λ has. (has, acks_of_frame keep s s.frames some_ack)) (kept (arrived_stable p 1) s (event.RecvFrame keep) within here)
  ack_read s event.SendAck within (here, some_ack) =
      moves_map (λ has. (has, sent_acks p s some)) (kept (arrived_stable p 1) s event.SendAck within here)
  ack_read s (event.LoseFrame place) within (here, some_ack) =
      moves_map (λ has. (has, some_ack)) (kept (arrived_stable p 1) s (event.LoseFrame place) within here)
  ack_read s event.Close within (here, some_ack) = moves_map (λ has. (has, some_ack)) (kept (arrived_stable p 1) s event.Close within here)

  pub read_event : (r : Reads) (s : LinkState) (e : Event) → IsWithin p s → Read r s → Moves s (open_step p s e) (After r (act_of e))
  read_event offer s e within read = offer_read s e within
  read_event (frames left) s e within read = frames_read left s e within read
  read_event frame s e within read = frame_read s e within read
  read_event (acks left) s e within read = acks_read left s e within read
  read_event ack s e within read = ack_read s e within read

  -- ---- all events

  data ReadGoes (r : Reads) (e : Event) : Type 0 where
    on : read_by r (act_of e) ≡ 0 → ReadGoes r e
    round : read_by r (act_of e) ≡ 1 → reads_after c r (act_of e) ≡ offer
        → ((s : LinkState) → Read r s → (open_step p s e).acked ≡ s.acked + 1) → ReadGoes r e

  read_goes : (r : Reads) (e : Event) → ReadGoes r e
  read_goes ack (event.RecvAck false) = round refl refl heard
  read_goes ack (event.RecvAck true) = on refl
  read_goes ack (event.Offer item) = on refl
  read_goes ack event.SendFrame = on refl
  read_goes ack (event.RecvFrame keep) = on refl
  read_goes ack event.SendAck = on refl
  read_goes ack (event.LoseFrame place) = on refl
  read_goes ack (event.LoseAck place) = on refl
  read_goes ack event.Close = on refl
  read_goes offer e = on refl
  read_goes (frames left) e = on refl
  read_goes frame e = on refl
  read_goes (acks left) e = on refl

  at_offer : (r : Reads) (t : LinkState) → r ≡ offer → Read r t
  at_offer r t is = subst (λ v. Read v t) (sym is) tt

  abbrev Final : LinkState → List Event → LinkState
  Final s es = replay p s es

  abbrev Even : List Event → Type 0
  Even es = (r : Reads) (s : LinkState) → IsWithin p s → (Final s es).closed ≡ false → Read r s → s.acked + reading_from c r (map act_of es) ≤ (Final s es).acked

  abbrev Owed : List Event → Type 0
  Owed es = (r : Reads) (s : LinkState) → IsWithin p s → (Final s es).closed ≡ false → s.acked + reading_from c r (map act_of es) ≤ (Final s es).acked + 1

  -- what is closed in the end is not open now, and an open link steps
  opened : (s : LinkState) (e : Event) (es : List Event) → (Final s (e ∷ es)).closed ≡ false → step p s e ≡ open_step p s e
  opened s e es still_open =
      elim (cases_Bool s.closed) [
        | inl closed ↦
            (let unchanged : replay p (step p s e) es ≡ s =
            ap (λ t. replay p t es) (cond-true s.closed s (open_step p s e) closed) ∙ replay_closed p s es closed in
            let never : true ≡ false = sym closed ∙ (ap (λ (t : LinkState). t.closed) (sym unchanged) ∙ still_open) in cc)
        | inr is_open ↦ cond-false s.closed s (open_step p s e) is_open
      ]

  even_step : (e : Event) (es : List Event) → Even es → Owed es → (r : Reads) (s t : LinkState) → IsWithin p t → (Final t es).closed ≡ false
      → Read r s → Moves s t (After r (act_of e)) → ReadGoes r e → t ≡ open_step p s e
      → s.acked + (read_by r (act_of e) + reading_from c (reads_after c r (act_of e)) (map act_of es)) ≤ (Final t es).acked
  even_step e es even owed r s t within still_open read moves (round count is_offer accepted) is =
      let rest = even (reads_after c r (act_of e)) t within still_open (at_offer (reads_after c r (act_of e)) t is_offer) in
      let more : t.acked ≡ s.acked + 1 = ap (λ (x : LinkState). x.acked) is ∙ accepted s read in
      omega arith
  even_step e es even owed r s t within still_open read (accepts acked) (on none) is =
      let rest = owed (reads_after c r (act_of e)) t within still_open in omega arith
  even_step e es even owed r s t within still_open read (stays same has) (on none) is =
      let rest = even (reads_after c r (act_of e)) t within still_open has in omega arith

  owed_step : (e : Event) (es : List Event) → Even es → Owed es → (r : Reads) (s t : LinkState) → IsWithin p t → (Final t es).closed ≡ false
      → s.acked ≤ t.acked → ReadGoes r e
      → s.acked + (read_by r (act_of e) + reading_from c (reads_after c r (act_of e)) (map act_of es)) ≤ (Final t es).acked + 1
  owed_step e es even owed r s t within still_open grows (round count is_offer accepted) =
      let rest = even (reads_after c r (act_of e)) t within still_open (at_offer (reads_after c r (act_of e)) t is_offer) in omega arith
  owed_step e es even owed r s t within still_open grows (on none) =
      let rest = owed (reads_after c r (act_of e)) t within still_open in omega arith

  brings : (es : List Event) → Even es × Owed es
  brings [] = (λ r s within still_open read. omega arith, λ r s within still_open. omega arith)
  brings (e ∷ es) =
      let (even, owed) = brings es in (
        λ r s within still_open read.
            let is = opened s e es still_open in
            even_step e es even owed r s (step p s e) (within_step p s e within) still_open read
            (subst (λ t. Moves s t (After r (act_of e))) (sym is) (read_event r s e within read)) (read_goes r e) is,
        λ r s within still_open.
            let is = opened s e es still_open in
            owed_step e es even owed r s (step p s e) (within_step p s e within) still_open
            (subst (λ (t : LinkState). s.acked ≤ t.acked) (sym is) (one_step_grows p s (open_step p s e) (kept (anything p) s e within tt))) (read_goes r e),
      )

  -- each reading round acknowledges an item
  pub reading_brings : (s : LinkState) (events : List Event) → IsWithin p s → (replay p s events).closed ≡ false
      → s.acked + reading_rounds c events ≤ (replay p s events).acked
  reading_brings s events within still_open = (brings events).0 offer s within still_open tt
