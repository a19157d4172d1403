-- What the circle of labels says of a free item number j, whose label is nowhere in the start, and
-- of all items after it: from item j on, the circle read from the sender is copies of the sender's
-- label and then labels that differ from it.
use Rattle.std.proofs.Common.{◌≡◌, ◌≢◌, ℕ, ◌+◌, ◌<◌, ◌≤◌, inl, inr, Bool, List, [], ◌∷◌, ◌++◌, map, Contains, refl, sym, ◌∙◌, ap, subst, arith}
use Rattle.std.specs.List.{AllByRecursion as Each}
use Rattle.std.proofs.lemmas.Bool.{cases_lt}
use Rattle.std.proofs.lemmas.List.{map_push}
use Rattle.std.proofs.lemmas.List.Elements.{Contains-push, Contains-append_left}
use Rattle.stab_frames.specs.Parameters.{Parameters}
use Rattle.stab_core.specs.declared.start.Start.{Start}
use Rattle.stab_core.specs.Step.{after_front}
use Rattle.stab_core.proofs.Labels.{item_label, item_label-more, next_differs}
use Rattle.stab_core.proofs.InOrder.{InOrder, in_order_after_front, Each-in_order, Each-push, after_front-map}
use Rattle.stab_core.proofs.Circle.{circle, Absent, AllAre, TurnsTo, TurnsTo-in_order, TurnsTo-push, TurnsTo-absent, absent_other, at_receiver, at_frames, circle_sent, taking_in_order, acks_in_order}
use Rattle.stab_core.proofs.Sources.{stray_count, label_at, label_sent}

-- the labels on the circle, where the frames of these places are queued
abbrev pub on_circle : Parameters → Start → List ℕ → ℕ → List ℕ → List ℕ
on_circle p start acks recv_label queued = circle acks recv_label (map (label_at p start) queued)

-- a place whose label is that of this item is the item's own
abbrev pub IsOwn : Parameters → Start → ℕ → ℕ → Type 0
IsOwn p start item place = label_at p start place ≡ item_label p start item → place ≡ stray_count start + item

-- from item j on, none before the acknowledged count is missing among the places taken
abbrev pub NoneMissingFrom : Start → ℕ → ℕ → List ℕ → Type 0
NoneMissingFrom start j acked taken = (i : ℕ) → j ≤ i → i < acked → Contains taken (stray_count start + i)

-- Until item j is the sender's, its label is nowhere. From then on the circle turns to the sender's
-- label, the frames with this label are frames of the sender's item, and a receiver that remembers
-- this label took the item. So of the acknowledged items from item j on none is missing.
pub record Reading (p : Parameters) (start : Start) (j acked : ℕ) (acks : List ℕ) (recv_label : ℕ) (queued taken : List ℕ)
    : Type 0 where
  pub early : acked < j → Absent (item_label p start j) (on_circle p start acks recv_label queued)
  pub late : j ≤ acked → TurnsTo (item_label p start acked) (on_circle p start acks recv_label queued)
  pub own_frames : j ≤ acked → Each (IsOwn p start acked) queued
  pub remembered : j ≤ acked → recv_label ≡ item_label p start acked → Contains taken (stray_count start + acked)
  pub none_missing : NoneMissingFrom start j acked taken

module _ (p : Parameters) (start : Start) (j : ℕ) (some_labels : 2 ≤ p.labels) where
  -- where the item's label is on no frame, all frames that have it are its own
  own_from_absent : (item : ℕ) (queued : List ℕ) → Absent (item_label p start item) (map (label_at p start) queued)
      → Each (IsOwn p start item) queued
  own_from_absent item [] absent = tt
  own_from_absent item (v ∷ queued) absent = ((λ same. absurd (absent.0 same)), own_from_absent item queued absent.1)

  -- before the turn of item j no more is claimed than that its label is nowhere
  before_turn : (acked : ℕ) {acks : List ℕ} {recv_label : ℕ} {queued taken : List ℕ} → acked < j
      → Absent (item_label p start j) (on_circle p start acks recv_label queued)
      → Reading p start j acked acks recv_label queued taken
  before_turn acked before absent =
      record {
        early = λ _. absent;
        late = λ begun. absurd (omega arith);
        own_frames = λ begun. absurd (omega arith);
        remembered = λ begun same. absurd (omega arith);
        none_missing = λ i begun passed. absurd (omega arith);
      }

  -- an item from j on whose label is nowhere begins its turn
  at_turn : (acked : ℕ) (acks : List ℕ) (recv_label : ℕ) (queued : List ℕ) {taken : List ℕ} → j ≤ acked
      → Absent (item_label p start acked) (on_circle p start acks recv_label queued) → NoneMissingFrom start j acked taken
      → Reading p start j acked acks recv_label queued taken
  at_turn acked acks recv_label queued begun absent none_missing =
      let label : ℕ = item_label p start acked in
      let labels : List ℕ = map (label_at p start) queued in
      record {
        early = λ before. absurd (omega arith);
        late = λ _. TurnsTo-absent label (circle acks recv_label labels) absent;
        own_frames = λ _. own_from_absent acked queued (at_frames (λ x. x ≢ label) acks recv_label labels absent);
        remembered = λ _ same. absurd (at_receiver (λ x. x ≢ label) acks recv_label labels absent same);
        none_missing = none_missing;
      }

  -- where item j is not acknowledged yet and its label is nowhere, as at the start
  pub reading_open : (acked : ℕ) (acks : List ℕ) (recv_label : ℕ) (queued : List ℕ) {taken : List ℕ} → acked ≤ j
      → Absent (item_label p start j) (on_circle p start acks recv_label queued)
      → Reading p start j acked acks recv_label queued taken
  reading_open acked acks recv_label queued ahead absent =
      elim (cases_lt acked j) [
        | inl before ↦ before_turn acked before absent
        | inr begun ↦
            let first : j ≡ acked = omega arith in
            at_turn acked acks recv_label queued begun (rw first at absent) (λ i late passed. absurd (omega arith))
      ]

  -- where labels vanish, or are repeated where they stand, the circle reads the same
  pub reading_in_order : {acked : ℕ} {acks fewer_acks : List ℕ} {recv_label : ℕ} {queued fewer taken : List ℕ}
      → InOrder (on_circle p start acks recv_label queued) (on_circle p start fewer_acks recv_label fewer)
      → InOrder queued fewer → Reading p start j acked acks recv_label queued taken
      → Reading p start j acked fewer_acks recv_label fewer taken
  reading_in_order {acked} in_order queued_in_order reading =
      record {
        early = λ before. Each-in_order (λ x. x ≢ item_label p start j) in_order (reading.early before);
        late = λ begun. TurnsTo-in_order (item_label p start acked) in_order (reading.late begun);
        own_frames = λ begun. Each-in_order (IsOwn p start acked) queued_in_order (reading.own_frames begun);
        remembered = reading.remembered;
        none_missing = reading.none_missing;
      }

  -- a frame of the sender's item puts the sender's label at the end of the circle
  one_more : (acked : ℕ) (acks : List ℕ) (recv_label : ℕ) (queued : List ℕ)
      → on_circle p start acks recv_label queued ++ item_label p start acked ∷ []
      ≡ on_circle p start acks recv_label (queued ++ (stray_count start + acked) ∷ [])
  one_more acked acks recv_label queued =
      let labels : List ℕ = map (label_at p start) queued in
      circle_sent acks recv_label labels (item_label p start acked)
      ∙ ap (λ label. circle acks recv_label (labels ++ label ∷ [])) (sym (label_sent p start acked))
      ∙ ap (circle acks recv_label) (sym (map_push (label_at p start) queued (stray_count start + acked)))

  -- so what is read stays: the label is not that of item j, and the frame is the item's own
  pub reading_send : {acked : ℕ} {acks : List ℕ} {recv_label : ℕ} {queued taken : List ℕ}
      → (acked < j → item_label p start acked ≢ item_label p start j)
      → Reading p start j acked acks recv_label queued taken
      → Reading p start j acked acks recv_label (queued ++ (stray_count start + acked) ∷ []) taken
  reading_send {acked} {acks} {recv_label} {queued} others_differ reading =
      let before_it : List ℕ = on_circle p start acks recv_label queued in
      let label : ℕ = item_label p start acked in
      let more = one_more acked acks recv_label queued in
      record {
        early = λ before.
            let other : label ≢ item_label p start j = others_differ before in
            subst (Absent (item_label p start j)) more
            (Each-push (λ x. x ≢ item_label p start j) before_it label (reading.early before) other);
        late = λ begun. subst (TurnsTo label) more (TurnsTo-push label before_it (reading.late begun));
        own_frames = λ begun. Each-push (IsOwn p start acked) queued _ (reading.own_frames begun) (λ _. refl);
        remembered = reading.remembered;
        none_missing = reading.none_missing;
      }

  -- a frame that is taken leaves the circle in order, whether it stays at the front or goes
  taken_in_order : (keep : Bool) (acks : List ℕ) (recv_label place : ℕ) (queued : List ℕ)
      → InOrder (on_circle p start acks recv_label (place ∷ queued))
      (on_circle p start acks (label_at p start place) (after_front keep (place ∷ queued)))
  taken_in_order keep acks recv_label place queued =
      rw (sym (after_front-map (label_at p start) keep (place ∷ queued)))
      (taking_in_order keep acks recv_label (label_at p start place) (map (label_at p start) queued))

  -- the receiver takes the front frame: where that has the sender's label, it is one of the
  -- sender's item
  pub reading_fresh : (keep : Bool) {acked : ℕ} {acks : List ℕ} {recv_label place : ℕ} {queued taken : List ℕ}
      → Reading p start j acked acks recv_label (place ∷ queued) taken
      → Reading p start j acked acks (label_at p start place) (after_front keep (place ∷ queued)) (taken ++ place ∷ [])
  reading_fresh keep {acked} {acks} {recv_label} {place} {queued} {taken} reading =
      let in_order = taken_in_order keep acks recv_label place queued in
      let more : List ℕ = taken ++ place ∷ [] in
      record {
        early = λ before. Each-in_order (λ x. x ≢ item_label p start j) in_order (reading.early before);
        late = λ begun. TurnsTo-in_order (item_label p start acked) in_order (reading.late begun);
        own_frames = λ begun. Each-in_order (IsOwn p start acked) (in_order_after_front keep (place ∷ queued)) (reading.own_frames begun);
        remembered = λ begun same.
            let is_own : place ≡ stray_count start + acked = (reading.own_frames begun).0 same in
            subst (λ (v : ℕ). Contains more v) is_own (Contains-push taken place);
        none_missing = λ i begun passed. Contains-append_left taken (place ∷ []) _ (reading.none_missing i begun passed);
      }

  -- The sender's own label comes back to it: from item j on, every label on the circle is this one.
  all_are_own : {acked : ℕ} {acks : List ℕ} {recv_label : ℕ} {queued taken : List ℕ} → j ≤ acked
      → Reading p start j acked (item_label p start acked ∷ acks) recv_label queued taken
      → AllAre (item_label p start acked) (on_circle p start (item_label p start acked ∷ acks) recv_label queued)
  all_are_own begun reading = (refl, (reading.late begun).0 refl)

  -- So the receiver took the item, from a frame of the item's own.
  acked_was_taken : {acked : ℕ} {acks : List ℕ} {recv_label : ℕ} {queued taken : List ℕ}
      → Reading p start j acked (item_label p start acked ∷ acks) recv_label queued taken
      → NoneMissingFrom start j (acked + 1) taken
  acked_was_taken {acked} {acks} {recv_label} {queued} {taken} reading i begun passed =
      elim (cases_lt i acked) [
        | inl before ↦ reading.none_missing i begun before
        | inr last ↦
            let is_last : acked ≡ i = omega arith in
            let own_turn : j ≤ acked = omega arith in
            let label : ℕ = item_label p start acked in
            let labels : List ℕ = map (label_at p start) queued in
            let all : AllAre label (circle (label ∷ acks) recv_label labels) = all_are_own own_turn reading in
            let same : recv_label ≡ label = at_receiver (λ x. x ≡ label) (label ∷ acks) recv_label labels all in
            subst (λ (k : ℕ). Contains taken (stray_count start + k)) is_last (reading.remembered own_turn same)
      ]

  -- And the label of the next item is nowhere: it differs from the one that all are, or it is that
  -- of item j itself.
  next_is_absent : {acked : ℕ} {acks : List ℕ} {recv_label : ℕ} {queued taken : List ℕ} → j ≤ acked + 1
      → Reading p start j acked (item_label p start acked ∷ acks) recv_label queued taken
      → Absent (item_label p start (acked + 1)) (on_circle p start (item_label p start acked ∷ acks) recv_label queued)
  next_is_absent {acked} {acks} {recv_label} {queued} begins reading =
      let label : ℕ = item_label p start acked in
      let labels : List ℕ = on_circle p start (label ∷ acks) recv_label queued in
      elim (cases_lt acked j) [
        | inl before ↦
            let turn : j ≡ acked + 1 = omega arith in
            subst (λ (item : ℕ). Absent (item_label p start item) labels) turn (reading.early before)
        | inr begun ↦
            let after : ℕ = item_label p start (acked + 1) in
            let differs : after ≢ label = rw (item_label-more p start acked) (next_differs p label some_labels) in
            absent_other label after labels differs (all_are_own begun reading)
      ]

  -- the sender's own label is acknowledged, and stays at the front or goes; the next item's turn
  -- begins
  pub reading_acked : {acked : ℕ} {acks fewer_acks : List ℕ} {recv_label : ℕ} {queued taken : List ℕ}
      → InOrder (item_label p start acked ∷ acks) fewer_acks
      → Reading p start j acked (item_label p start acked ∷ acks) recv_label queued taken
      → Reading p start j (acked + 1) fewer_acks recv_label queued taken
  reading_acked {acked} {acks} {fewer_acks} {recv_label} {queued} in_order reading =
      let circle_in_order = acks_in_order recv_label (map (label_at p start) queued) in_order in
      elim (cases_lt (acked + 1) j) [
        | inl before ↦
            let sooner : acked < j = omega arith in
            before_turn (acked + 1) before (Each-in_order (λ x. x ≢ item_label p start j) circle_in_order (reading.early sooner))
        | inr begins ↦
            at_turn (acked + 1) fewer_acks recv_label queued begins
            (Each-in_order (λ x. x ≢ item_label p start (acked + 1)) circle_in_order (next_is_absent begins reading))
            (acked_was_taken reading)
      ]
