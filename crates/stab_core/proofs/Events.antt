-- Each event keeps the invariants, and so does every event list.
use Rattle.std.proofs.Common.{◌≡◌, ◌≢◌, ℕ, ◌+◌, ◌-◌, Bool, true, false, if◌then◌else◌, List, [], ◌∷◌, ◌++◌, map, length, slice_get, ◌==◌, ◌&&◌, refl, sym, ◌∙◌, ap, ap₂, subst₂, append-nil, arith, eqb-true}
use Rattle.std.proofs.lemmas.Bool.{cond_both, cond-false, and_parts, eqb-false}
use Rattle.std.proofs.lemmas.List.{map_push}
use Rattle.stab_frames.specs.declared.frame.Frame.{Frame}
use Rattle.stab_frames.specs.Parameters.{Parameters}
use Rattle.stab_frames.specs.Queue.{without}
use Rattle.stab_core.specs.declared.event.Event.{Event}
use Rattle.stab_core.specs.declared.event.Event.TheVariants.{Offer, SendFrame, RecvFrame, SendAck, RecvAck, LoseFrame, LoseAck, Close}
use Rattle.stab_core.specs.declared.origin.Origin.{Origin}
use Rattle.stab_core.specs.declared.origin.Origin.TheVariants.{Sent}
use Rattle.stab_core.specs.declared.start.Start.{Start}
use Rattle.stab_core.specs.LinkState.{LinkState, is_idle, is_holding, current_frame, has_room}
use Rattle.stab_core.specs.Step.{open_step, step, after_front, receives_frame, receives_ack}
use Rattle.stab_core.specs.Trace.{Traced, traced_initial, traced_step, traced_replay, queued_after, origins_after, taken_origin}
use Rattle.stab_core.proofs.InOrder.{in_order_after_front, in_order_without, after_front-nil, after_front-map, without-map}
use Rattle.stab_core.proofs.Circle.{acks_in_order, answer_in_order}
use Rattle.stab_core.proofs.Sources.{stray_count, item_at, label_at, frame_at, origin_at, origin_sent, start_places, start_origins}
use Rattle.stab_core.proofs.FreeLabel.{IsFree}
use Rattle.stab_core.proofs.Answering.{label_of, answering_fewer, answering_sent}
use Rattle.stab_core.proofs.Kept.{Kept, IsNear, free_is_near, kept_open, kept_offer, kept_send, kept_fewer_frames, kept_acks, kept_fresh, kept_acked, kept_close}

-- what is in transit and what was taken, by their places, which are those of the trace
pub record Invariant (p : Parameters) (start : Start) (from : ℕ) (Followed : ℕ → Type 0) (t : Traced) : Type 0 where
  pub queued : List ℕ
  pub taken : List ℕ
  pub bound : ℕ
  pub kept : Kept p start from Followed t.state queued taken bound
  pub queued_are : t.queued ≡ map (origin_at start) queued
  pub taken_are : t.origins ≡ map (origin_at start) taken

-- the two cases of a test
by_test : (P : Bool → Type 0) (b : Bool) → (b ≡ true → P true) → (b ≡ false → P false) → P b
by_test P true passes fails = passes refl
by_test P false passes fails = fails refl

-- an open link after an event, with its origins
abbrev after : Parameters → Traced → Event → Traced
after p t e = record { state = open_step p t.state e; queued = queued_after p t e; origins = origins_after t e }

module _ (p : Parameters) (start : Start) (from : ℕ) (Followed : ℕ → Type 0)
    (near : (j : ℕ) → Followed j → IsNear p from j) where
  -- an event that leaves frames and delivered items as they are
  same_places : {t : Traced} {s : LinkState} (inv : Invariant p start from Followed t) → Kept p start from Followed s inv.queued inv.taken inv.bound
      → Invariant p start from Followed (record { state = s; queued = t.queued; origins = t.origins })
  same_places inv kept =
      record {
        queued = inv.queued;
        taken = inv.taken;
        bound = inv.bound;
        kept = kept;
        queued_are = inv.queued_are;
        taken_are = inv.taken_are;
      }

  -- an offer
  after_offer : (t : Traced) (item : ℕ) → Invariant p start from Followed t → Invariant p start from Followed (after p t (Offer item))
  after_offer t item inv =
      cond_both (is_idle t.state) (record t.state { offered = t.state.offered ++ item ∷ [] }) t.state
      (λ s. Invariant p start from Followed (record { state = s; queued = t.queued; origins = t.origins }))
      (λ idle. same_places inv (kept_offer p start from Followed near item idle inv.kept)) (λ _. inv)

  -- the sender sends the frame of the item that waits
  frame_sent : {t : Traced} → is_holding t.state ≡ true → Invariant p start from Followed t
      → Invariant p start from Followed (record {
        state = record t.state { frames = t.state.frames ++ current_frame t.state ∷ [] };
        queued = t.queued ++ Sent (length t.state.offered - 1) ∷ [];
        origins = t.origins;
      })
  frame_sent {t} holding inv =
      let waits : length t.state.offered ≡ t.state.acked + 1 = eqb-true _ _ holding in
      let last : length t.state.offered - 1 ≡ t.state.acked = omega arith in
      let place : ℕ = stray_count start + t.state.acked in
      record {
        queued = inv.queued ++ place ∷ [];
        taken = inv.taken;
        bound = inv.bound;
        kept = kept_send p start from Followed near holding inv.kept;
        queued_are =
            ap₂ (λ origins origin. origins ++ origin ∷ []) inv.queued_are
            (ap Sent last ∙ sym (origin_sent start t.state.acked))
            ∙ sym (map_push (origin_at start) inv.queued place);
        taken_are = inv.taken_are;
      }

  -- it does so where there is room
  after_send_frame : (t : Traced) → Invariant p start from Followed t → Invariant p start from Followed (after p t SendFrame)
  after_send_frame t inv =
      by_test
      (λ sends. Invariant p start from Followed (record {
        state = if sends then record t.state { frames = t.state.frames ++ current_frame t.state ∷ [] } else t.state;
        queued = if sends then t.queued ++ Sent (length t.state.offered - 1) ∷ [] else t.queued;
        origins = t.origins;
      }))
      (is_holding t.state && has_room p t.state.frames)
      (λ sends. frame_sent (and_parts (is_holding t.state) (has_room p t.state.frames) sends).0 inv) (λ _. inv)

  -- a link that receives the front of the frames of these places
  abbrev receiving : Bool → LinkState → List Origin → List ℕ → Traced
  receiving keep s origins queued =
      let frames : List Frame = map (frame_at p start s.offered) queued in
      let t : LinkState = record s { frames = frames } in
      record {
        state = receives_frame keep t (slice_get frames 0);
        queued = after_front keep (map (origin_at start) queued);
        origins = origins ++ taken_origin t (slice_get frames 0) (slice_get (map (origin_at start) queued) 0);
      }

  -- the receiver has taken the front frame's label before
  received_old : (keep : Bool) (s : LinkState) {origins : List Origin} (place : ℕ) (queued : List ℕ) {taken : List ℕ}
      {bound : ℕ} → origins ≡ map (origin_at start) taken
      → Kept p start from Followed (record s { frames = map (frame_at p start s.offered) (place ∷ queued) }) (place ∷ queued) taken bound
      → Invariant p start from Followed (record {
        state = record s { frames = after_front keep (map (frame_at p start s.offered) (place ∷ queued)) };
        queued = after_front keep (map (origin_at start) (place ∷ queued));
        origins = origins ++ [];
      })
  received_old keep s {origins} place queued {taken} {bound} taken_are kept =
      let frames_are = after_front-map (frame_at p start s.offered) keep (place ∷ queued) in
      record {
        queued = after_front keep (place ∷ queued);
        taken = taken;
        bound = bound;
        kept = kept_fewer_frames p start from Followed near frames_are (in_order_after_front keep (place ∷ queued)) kept;
        queued_are = after_front-map (origin_at start) keep (place ∷ queued);
        taken_are = append-nil origins ∙ taken_are;
      }

  -- the receiver takes the front frame
  received_fresh : (keep : Bool) (s : LinkState) {origins : List Origin} (place : ℕ) (queued : List ℕ) {taken : List ℕ}
      {bound : ℕ} → label_at p start place ≢ s.recv_label → origins ≡ map (origin_at start) taken
      → Kept p start from Followed (record s { frames = map (frame_at p start s.offered) (place ∷ queued) }) (place ∷ queued) taken bound
      → Invariant p start from Followed (record {
        state = record s {
          frames = after_front keep (map (frame_at p start s.offered) (place ∷ queued));
          recv_label = label_at p start place;
          delivered = s.delivered ++ item_at start s.offered place ∷ [];
        };
        queued = after_front keep (map (origin_at start) (place ∷ queued));
        origins = origins ++ origin_at start place ∷ [];
      })
  received_fresh keep s place queued {taken} fresh taken_are kept =
      record {
        queued = after_front keep (place ∷ queued);
        taken = taken ++ place ∷ [];
        bound = place + 1;
        kept = kept_fresh p start from Followed near keep fresh kept;
        queued_are = after_front-map (origin_at start) keep (place ∷ queued);
        taken_are =
            ap (λ list. list ++ origin_at start place ∷ []) taken_are ∙ sym (map_push (origin_at start) taken place);
      }

  -- the front frame is received, where there is one
  received : (keep : Bool) (s : LinkState) {origins : List Origin} (queued : List ℕ) {taken : List ℕ} {bound : ℕ}
      → origins ≡ map (origin_at start) taken
      → Kept p start from Followed (record s { frames = map (frame_at p start s.offered) queued }) queued taken bound
      → Invariant p start from Followed (receiving keep s origins queued)
  received keep s {origins} [] {taken} {bound} taken_are kept =
      record {
        queued = [];
        taken = taken;
        bound = bound;
        kept = kept;
        queued_are = after_front-nil keep;
        taken_are = append-nil origins ∙ taken_are;
      }
  received keep s {origins} (place ∷ queued) taken_are kept =
      by_test
      (λ old. Invariant p start from Followed (record {
        state =
            if old then record s { frames = after_front keep (map (frame_at p start s.offered) (place ∷ queued)) }
            else record s {
              frames = after_front keep (map (frame_at p start s.offered) (place ∷ queued));
              recv_label = label_at p start place;
              delivered = s.delivered ++ item_at start s.offered place ∷ [];
            };
        queued = after_front keep (map (origin_at start) (place ∷ queued));
        origins = origins ++ (if old then [] else origin_at start place ∷ []);
      }))
      (label_at p start place == s.recv_label)
      (λ _. received_old keep s place queued taken_are kept)
      (λ fresh. received_fresh keep s place queued (eqb-false _ _ fresh) taken_are kept)

  -- so for the frames and origins that stand in the link
  after_recv_frame : (keep : Bool) (t : Traced) → Invariant p start from Followed t → Invariant p start from Followed (after p t (RecvFrame keep))
  after_recv_frame keep t inv =
      subst₂
      (λ (frames : List Frame) (queued : List Origin).
      Kept p start from Followed (record t.state { frames = frames }) inv.queued inv.taken inv.bound
      → Invariant p start from Followed (record {
        state = receives_frame keep (record t.state { frames = frames }) (slice_get frames 0);
        queued = after_front keep queued;
        origins = t.origins ++ taken_origin (record t.state { frames = frames }) (slice_get frames 0) (slice_get queued 0);
      }))
      (sym inv.kept.transit.frames_are) (sym inv.queued_are)
      (received keep t.state inv.queued inv.taken_are) inv.kept

  -- the receiver answers, where there is room
  after_send_ack : (t : Traced) → Invariant p start from Followed t → Invariant p start from Followed (after p t SendAck)
  after_send_ack t inv =
      cond_both (has_room p t.state.acks) (record t.state { acks = t.state.acks ++ t.state.recv_label ∷ [] }) t.state
      (λ s. Invariant p start from Followed (record { state = s; queued = t.queued; origins = t.origins }))
      (λ _. same_places inv (kept_acks p start from Followed near (answer_in_order t.state.acks t.state.recv_label)
      (λ answered answering. (_, answering_sent p start answering)) inv.kept)) (λ _. inv)

  -- the front of these acknowledgements is received, where there is one
  acknowledged : (keep : Bool) (s : LinkState) (acks : List ℕ) {queued taken : List ℕ} {bound : ℕ}
      → Kept p start from Followed (record s { acks = acks }) queued taken bound
      → Kept p start from Followed (receives_ack p keep (record s { acks = acks }) (slice_get acks 0)) queued taken bound
  acknowledged keep s [] kept = kept
  acknowledged keep s (label ∷ acks) {queued} {taken} {bound} kept =
      cond_both (is_holding s && (label == s.send_label)) _ _ (λ next_state. Kept p start from Followed next_state queued taken bound)
      (λ matches.
      let both = and_parts (is_holding s) (label == s.send_label) matches in
      kept_acked p start from Followed near keep s both.0 (eqb-true _ _ both.1) kept)
      (λ _. kept_acks p start from Followed near (λ labels. acks_in_order s.recv_label labels (in_order_after_front keep (label ∷ acks)))
      (λ answered answering. (
        after_front keep answered,
        answering_fewer p start (ap (after_front keep) answering.acks_are ∙ after_front-map (label_of p start taken) keep answered)
            (in_order_after_front keep answered) answering,
      )) kept)

  -- so for those that stand in the link
  after_recv_ack : (keep : Bool) (t : Traced) → Invariant p start from Followed t → Invariant p start from Followed (after p t (RecvAck keep))
  after_recv_ack keep t inv = same_places inv (acknowledged keep t.state t.state.acks inv.kept)

  -- a frame vanishes
  after_lose_frame : (i : ℕ) (t : Traced) → Invariant p start from Followed t → Invariant p start from Followed (after p t (LoseFrame i))
  after_lose_frame i t inv =
      let of_places = without-map (frame_at p start t.state.offered) i inv.queued in
      let frames_are = ap (without i) inv.kept.transit.frames_are ∙ of_places in
      record {
        queued = without i inv.queued;
        taken = inv.taken;
        bound = inv.bound;
        kept = kept_fewer_frames p start from Followed near frames_are (in_order_without i inv.queued) inv.kept;
        queued_are = ap (without i) inv.queued_are ∙ without-map (origin_at start) i inv.queued;
        taken_are = inv.taken_are;
      }

  -- an acknowledgement vanishes
  after_lose_ack : (i : ℕ) (t : Traced) → Invariant p start from Followed t → Invariant p start from Followed (after p t (LoseAck i))
  after_lose_ack i t inv =
      same_places inv
      (kept_acks p start from Followed near (λ labels. acks_in_order t.state.recv_label labels (in_order_without i t.state.acks))
      (λ answered answering. (
        without i answered,
        answering_fewer p start (ap (without i) answering.acks_are ∙ without-map (label_of p start inv.taken) i answered)
            (in_order_without i answered) answering,
      )) inv.kept)

  -- every event on an open link keeps the invariants
  after_event : (t : Traced) (e : Event) → Invariant p start from Followed t → Invariant p start from Followed (after p t e)
  after_event t (Offer item) inv = after_offer t item inv
  after_event t SendFrame inv = after_send_frame t inv
  after_event t (RecvFrame keep) inv = after_recv_frame keep t inv
  after_event t SendAck inv = after_send_ack t inv
  after_event t (RecvAck keep) inv = after_recv_ack keep t inv
  after_event t (LoseFrame i) inv = after_lose_frame i t inv
  after_event t (LoseAck i) inv = after_lose_ack i t inv
  after_event t Close inv = same_places inv (kept_close p start from Followed near inv.kept)

  -- every step keeps them: a closed link stays as it is
  pub step_keeps : (t : Traced) (e : Event) → Invariant p start from Followed t → Invariant p start from Followed (traced_step p t e)
  step_keeps t e inv =
      cond_both t.state.closed t
      (record { state = step p t.state e; queued = queued_after p t e; origins = origins_after t e })
      (Invariant p start from Followed) (λ _. inv)
      (λ still_open. rw (cond-false t.state.closed t.state (open_step p t.state e) still_open) (after_event t e inv))

  -- every event list keeps them
  replay_keeps : (t : Traced) (events : List Event) → Invariant p start from Followed t → Invariant p start from Followed (traced_replay p t events)
  replay_keeps t [] inv = inv
  replay_keeps t (e ∷ events) inv = replay_keeps (traced_step p t e) events (step_keeps t e inv)

module _ (p : Parameters) (start : Start) where
  -- they hold of the initial state, of each free item number
  pub at_opening : Invariant p start 0 (IsFree p start) (traced_initial start)
  at_opening =
      record {
        queued = start_places start;
        taken = [];
        bound = 0;
        kept = kept_open p start;
        queued_are = start_origins start;
        taken_are = refl;
      }

  -- so they hold of every replay from the start
  pub every_replay_keeps : (events : List Event)
      → Invariant p start 0 (IsFree p start) (traced_replay p (traced_initial start) events)
  every_replay_keeps events =
      replay_keeps p start 0 (IsFree p start) (free_is_near p start) (traced_initial start) events at_opening
