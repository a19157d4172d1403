-- What every event keeps of a link, where the frames in transit and the delivered items are given
-- by their places.
-- `Kept` is the one record of all invariants, and there is a lemma for each kind of event.
use Rattle.std.proofs.Common.{◌≡◌, ◌≢◌, ℕ, ◌+◌, ◌<◌, ◌≤◌, arith, Bool, true, List, [], ◌∷◌, ◌++◌, map, length, ◌∙◌, ap, subst, eqb-true}
use mathlib.Core.List.{map-map}
use Rattle.std.specs.List.{range_with_len}
use Rattle.stab_frames.specs.declared.frame.Frame.{Frame}
use Rattle.stab_frames.specs.Parameters.{Parameters, next}
use Rattle.stab_core.specs.declared.start.Start.{Start}
use Rattle.stab_core.specs.LinkState.{LinkState, is_idle, is_holding, current_frame}
use Rattle.stab_core.specs.Replay.{initial}
use Rattle.stab_core.specs.Step.{after_front}
use Rattle.stab_core.proofs.Labels.{item_label, near_labels_differ}
use Rattle.stab_core.proofs.InOrder.{InOrder, in_order_same, in_order_after_front, in_order_map, after_front-map}
use Rattle.stab_core.proofs.Circle.{Absent, circle, frames_in_order}
use Rattle.stab_core.proofs.FreeLabel.{IsFree}
use Rattle.stab_core.proofs.Sources.{stray_count, item_at, label_at, frame_at, start_places, start_frames}
use Rattle.stab_core.proofs.Ordering.{Sending, InTransit, Delivery, sending_open, sending_offer, sending_acked, transit_open, transit_offer, transit_send, transit_in_order, delivery_open, delivery_offer, delivery_send, delivery_in_order, delivery_fresh}
use Rattle.stab_core.proofs.Answering.{Answering, answering_open, answering_fresh, answering_acked}
use Rattle.stab_core.proofs.Reading.{Reading, reading_open, reading_in_order, reading_send, reading_fresh, reading_acked}

-- The sender, the queue of frames and the receiver keep their order, and from this count on the
-- circle of labels reads so for each item number that is followed.
pub record Kept (p : Parameters) (start : Start) (from : ℕ) (Followed : ℕ → Type 0) (s : LinkState)
    (queued taken : List ℕ) (bound : ℕ) : Type 0 where
  pub begun : from ≤ s.acked
  pub sending : Sending p start s.offered s.acked s.send_label
  pub transit : InTransit p start s.offered s.frames queued
  pub delivery : Delivery p start s.offered s.recv_label s.delivered queued taken bound
  pub readings : (j : ℕ) → Followed j → Reading p start j s.acked s.acks s.recv_label queued taken
  pub answers : 2 ≤ p.labels → (answered : List ℕ) × Answering p start s.acked s.acks s.recv_label taken answered

-- An item number can be followed from this count on: the sender's labels differ from its own until
-- its turn comes.
pub record IsNear (p : Parameters) (from j : ℕ) : Type 0 where
  pub some_labels : 2 ≤ p.labels
  pub near : j < p.labels + from

-- a free item number can be followed from the start on
pub free_is_near : (p : Parameters) (start : Start) (j : ℕ) → IsFree p start j → IsNear p 0 j
free_is_near p start j free = record { some_labels = free.some_labels; near = let few = free.few in omega arith }

module _ (p : Parameters) (start : Start) where
  -- the labels of the start's frames are those of their places
  start_labels : map (λ f. f.label) start.frames ≡ map (label_at p start) (start_places start)
  start_labels =
      ap (map (λ (f : Frame). f.label)) (start_frames p start)
      ∙ map-map (λ (f : Frame). f.label) (frame_at p start []) (start_places start)

  -- the initial state
  pub kept_open : Kept p start 0 (IsFree p start) (initial start) (start_places start) [] 0
  kept_open =
      record {
        begun = omega arith;
        sending = sending_open p start;
        transit = transit_open p start;
        delivery = delivery_open p start;
        readings = λ j free. reading_open p start j free.some_labels 0 start.acks start.recv_label (start_places start)
            (omega arith)
            (subst (λ (labels : List ℕ). Absent (item_label p start j) (circle start.acks start.recv_label labels))
            start_labels free.absent);
        answers = λ _. (range_with_len 0 (length start.acks), answering_open p start);
      }

module _ (p : Parameters) (start : Start) (from : ℕ) (Followed : ℕ → Type 0)
    (near : (j : ℕ) → Followed j → IsNear p from j) where
  -- an offer to an idle sender
  pub kept_offer : {s : LinkState} {queued taken : List ℕ} {bound : ℕ} (item : ℕ) → is_idle s ≡ true
      → Kept p start from Followed s queued taken bound
      → Kept p start from Followed (record s { offered = s.offered ++ item ∷ [] }) queued taken bound
  kept_offer item idle kept =
      record {
        begun = kept.begun;
        sending = sending_offer p start item (eqb-true _ _ idle) kept.sending;
        transit = transit_offer p start item kept.transit;
        delivery = delivery_offer p start item kept.delivery;
        readings = kept.readings;
        answers = kept.answers;
      }

  -- a frame of the item that waits
  pub kept_send : {s : LinkState} {queued taken : List ℕ} {bound : ℕ} → is_holding s ≡ true
      → Kept p start from Followed s queued taken bound
      → Kept p start from Followed (record s { frames = s.frames ++ current_frame s ∷ [] })
      (queued ++ (stray_count start + s.acked) ∷ []) taken bound
  kept_send {s} holding kept =
      let waits : length s.offered ≡ s.acked + 1 = eqb-true _ _ holding in
      record {
        begun = kept.begun;
        sending = kept.sending;
        transit = transit_send p start waits kept.sending kept.transit;
        delivery = delivery_send p start s.acked waits kept.transit.in_list kept.delivery;
        readings = λ j followed. reading_send p start j (near j followed).some_labels
            (λ before. near_labels_differ p start s.acked j before (let begun = kept.begun in let near_it = (near j followed).near in omega arith))
            (kept.readings j followed);
        answers = kept.answers;
      }

  -- frames that vanish, or stay at the front
  pub kept_fewer_frames : {s : LinkState} {frames : List Frame} {queued fewer taken : List ℕ} {bound : ℕ}
      → frames ≡ map (frame_at p start s.offered) fewer → InOrder queued fewer
      → Kept p start from Followed s queued taken bound → Kept p start from Followed (record s { frames = frames }) fewer taken bound
  kept_fewer_frames {s} frames_are in_order kept =
      let circle_in_order = frames_in_order s.acks s.recv_label (in_order_map (label_at p start) in_order) in
      record {
        begun = kept.begun;
        sending = kept.sending;
        transit = transit_in_order p start frames_are in_order kept.transit;
        delivery = delivery_in_order p start in_order kept.delivery;
        readings = λ j followed. reading_in_order p start j (near j followed).some_labels circle_in_order in_order (kept.readings j followed);
        answers = kept.answers;
      }

  -- acknowledgements that vanish, stay at the front, or are added by the receiver
  pub kept_acks : {s : LinkState} {acks queued taken : List ℕ} {bound : ℕ}
      → ((labels : List ℕ) → InOrder (circle s.acks s.recv_label labels) (circle acks s.recv_label labels))
      → ((answered : List ℕ) → Answering p start s.acked s.acks s.recv_label taken answered
      → (after : List ℕ) × Answering p start s.acked acks s.recv_label taken after)
      → Kept p start from Followed s queued taken bound → Kept p start from Followed (record s { acks = acks }) queued taken bound
  kept_acks {queued = queued} in_order answers_after kept =
      let circle_in_order = in_order (map (label_at p start) queued) in
      record {
        begun = kept.begun;
        sending = kept.sending;
        transit = kept.transit;
        delivery = kept.delivery;
        readings = λ j followed. reading_in_order p start j (near j followed).some_labels circle_in_order (in_order_same queued) (kept.readings j followed);
        answers = λ some_labels. answers_after (kept.answers some_labels).0 (kept.answers some_labels).1;
      }

  -- the receiver takes the front frame, which stays there or goes
  pub kept_fresh : (keep : Bool) {s : LinkState} {place : ℕ} {queued taken : List ℕ} {bound : ℕ}
      → label_at p start place ≢ s.recv_label → Kept p start from Followed s (place ∷ queued) taken bound
      → Kept p start from Followed (record s {
        frames = after_front keep (map (frame_at p start s.offered) (place ∷ queued));
        recv_label = label_at p start place;
        delivered = s.delivered ++ item_at start s.offered place ∷ [];
      }) (after_front keep (place ∷ queued)) (taken ++ place ∷ []) (place + 1)
  kept_fresh keep {s} {place} {queued} fresh kept =
      let frames_are = after_front-map (frame_at p start s.offered) keep (place ∷ queued) in
      record {
        begun = kept.begun;
        sending = kept.sending;
        transit = transit_in_order p start frames_are (in_order_after_front keep (place ∷ queued)) kept.transit;
        delivery = delivery_fresh p start keep fresh kept.transit.in_list.0 kept.delivery;
        readings = λ j followed. reading_fresh p start j (near j followed).some_labels keep (kept.readings j followed);
        answers = λ some_labels.
            let (answered, answering) = kept.answers some_labels in (answered, answering_fresh p start place answering);
      }

  -- the front acknowledgement, which stays there or goes, is the one that the sender waits for
  pub kept_acked : (keep : Bool) (s : LinkState) {label : ℕ} {acks queued taken : List ℕ} {bound : ℕ}
      → is_holding s ≡ true → label ≡ s.send_label → Kept p start from Followed (record s { acks = label ∷ acks }) queued taken bound
      → Kept p start from Followed (record s {
        acks = after_front keep (label ∷ acks);
        acked = s.acked + 1;
        send_label = next p s.send_label;
      }) queued taken bound
  kept_acked keep s {label} {acks} {queued} {taken} holding matches kept =
      let own : label ≡ item_label p start s.acked = matches ∙ kept.sending.own_label in
      let after : List ℕ = after_front keep (label ∷ acks) in
      let in_order = subst (λ (front : ℕ). InOrder (front ∷ acks) after) own (in_order_after_front keep (label ∷ acks)) in
      record {
        begun = let begun = kept.begun in omega arith;
        sending = sending_acked p start (eqb-true _ _ holding) kept.sending;
        transit = kept.transit;
        delivery = kept.delivery;
        readings = λ j followed. reading_acked p start j (near j followed).some_labels in_order
            (subst (λ (front : ℕ). Reading p start j s.acked (front ∷ acks) s.recv_label queued taken) own
            (kept.readings j followed));
        answers = λ some_labels.
            let waits : length s.offered ≡ s.acked + 1 = eqb-true _ _ holding in
            let in_list = kept.delivery.in_list in
            let (answered, answering) = kept.answers some_labels in (
              after_front keep answered,
              answering_acked p start keep answered some_labels own kept.delivery.rises kept.delivery.below (omega arith) answering,
            );
      }

  -- the close
  pub kept_close : {s : LinkState} {queued taken : List ℕ} {bound : ℕ} → Kept p start from Followed s queued taken bound
      → Kept p start from Followed (record s { closed = true }) queued taken bound
  kept_close kept =
      record { begun = kept.begun; sending = kept.sending; transit = kept.transit; delivery = kept.delivery; readings = kept.readings; answers = kept.answers }
