-- One label fewer is enough for the link law: 2c + 1 labels. Where a start leaves a label free,
-- that is the argument with one item number less. Where it does not, both queues are full, so
-- nothing can be sent until an entry of the circle goes;
-- and until then no more than one item is acknowledged, by the front that stays. Once an entry has
-- gone, the label of one of the next 2c + 1 items is nowhere, and the argument begins there.
use Rattle.std.proofs.Common.{◌≡◌, ◌≢◌, ℕ, zero, suc, ◌+◌, ◌*◌, ◌<◌, ◌≤◌, ◌⊎◌, inl, inr, Bool, true, false, List, [], ◌∷◌, ◌++◌, map, length, slice_get, Some, None, Option, ◌==◌, ◌&&◌, refl, sym, ◌∙◌, ap, subst, arith, length-append, eqb-true}
use mathlib.Core.List.{map-map}
use Rattle.std.proofs.lemmas.Bool.{cond_both, and_parts, cases_lt, ltb-true}
use Rattle.std.proofs.lemmas.List.{length-map}
use Rattle.stab_frames.specs.declared.frame.Frame.{Frame}
use Rattle.stab_frames.specs.Parameters.{Parameters}
use Rattle.stab_frames.specs.Queue.{without}
use Rattle.stab_core.specs.declared.event.Event.{Event}
use Rattle.stab_core.specs.declared.event.Event.TheVariants.{Offer, SendFrame, RecvFrame, SendAck, RecvAck, LoseFrame, LoseAck, Close}
use Rattle.stab_core.specs.declared.start.Start.{Start}
use Rattle.stab_core.specs.LinkState.{LinkState, is_idle, is_holding, current_frame, has_room}
use Rattle.stab_core.specs.LinkLaw.{LinkLaw}
use Rattle.stab_core.specs.Replay.{IsLawful, start_items, initial, replay}
use Rattle.stab_core.specs.Step.{open_step, step}
use Rattle.stab_core.specs.Trace.{Traced, traced_initial, traced_step, traced_replay}
use Rattle.stab_core.proofs.Labels.{item_label, near_labels_differ}
use Rattle.stab_core.proofs.InOrder.{InOrder, repeat, in_order_same, in_order_behind, Each-in_order}
use Rattle.stab_core.proofs.Circle.{circle, Absent}
use Rattle.stab_core.proofs.FreeLabel.{one_is_free}
use Rattle.stab_core.proofs.Sources.{frame_at, label_at}
use Rattle.stab_core.proofs.Reading.{on_circle, reading_open}
use Rattle.stab_core.proofs.Kept.{IsNear}
use Rattle.stab_core.proofs.Events.{Invariant, step_keeps, at_opening}
use Rattle.stab_core.proofs.LinkLaws.{followed_link_law, few_acked_link_law, traced_step_state, traced_replay_state}

-- the labels on the circle of a state
abbrev labels_of : LinkState → List ℕ
labels_of s = circle s.acks s.recv_label (map (λ f. f.label) s.frames)

-- at most one item is acknowledged, and at most 2c labels are all that is on the circle
record IsShort (p : Parameters) (s : LinkState) : Type 0 where
  few_acked : s.acked ≤ 1
  labels : List ℕ
  few : length labels ≤ 2 * p.capacity
  are_all : InOrder labels (labels_of s)

-- both queues are full, and at most one item is acknowledged: by the front, which has stayed
record IsFull (p : Parameters) (start : Start) (s : LinkState) : Type 0 where
  full_frames : length s.frames ≡ p.capacity
  full_acks : length s.acks ≡ p.capacity
  few_acked : s.acked ≤ 1
  front : 1 ≤ s.acked → slice_get s.acks 0 ≡ Some start.send_label

-- a state whose queues are full, or with an entry less on the circle
abbrev IsFullOrShort : Parameters → Start → LinkState → Type 0
IsFullOrShort p start s = IsFull p start s ⊎ IsShort p s

-- taking an entry out of a list leaves it as it was, or shorter
without_shorter : {A : Type 0} (i : ℕ) (xs : List A) → (without i xs ≡ xs) ⊎ (length (without i xs) < length xs)
without_shorter i [] = inl refl
without_shorter zero (x ∷ xs) = inr (omega arith)
without_shorter (suc i) (x ∷ xs) =
    elim (without_shorter i xs) [
      | inl same ↦ inl (ap (λ ys. x ∷ ys) same)
      | inr shorter ↦ inr (omega arith)
    ]

-- the entry that there is
abbrev entry : Option ℕ → ℕ
entry None = 0
entry (Some x) = x

-- a full queue has no room
no_room : {A : Type 0} (p : Parameters) (entries : List A) → length entries ≡ p.capacity → has_room p entries ≢ true
no_room p entries full room = let below = ltb-true (length entries) p.capacity room in omega arith

module _ (p : Parameters) (start : Start) (some_capacity : 1 ≤ p.capacity) (enough : 2 * p.capacity + 1 ≤ p.labels) where
  -- fewer entries than the circle of full queues has
  short : {s : LinkState} → s.acked ≤ 1 → (acks : List ℕ) (recv_label : ℕ) (labels : List ℕ)
      → length acks + length labels < 2 * p.capacity → InOrder (circle acks recv_label labels) (labels_of s)
      → IsFullOrShort p start s
  short few_acked acks recv_label labels few in_order =
      inr (record {
        few_acked = few_acked;
        labels = circle acks recv_label labels;
        few = simp length-append (omega arith);
        are_all = in_order;
      })

  -- the front of full queues of frames is received
  received : (keep : Bool) (s : LinkState) (frames : List Frame) → IsFull p start (record s { frames = frames })
      → IsFullOrShort p start (open_step p (record s { frames = frames }) (RecvFrame keep))
  received keep s [] full = inl full
  received true s (f ∷ frames) full =
      let labels : List ℕ = map (λ (g : Frame). g.label) frames in
      let same_length : length labels ≡ length frames = length-map frames (λ (g : Frame). g.label) in
      let full_frames = full.full_frames in
      let full_acks = full.full_acks in
      cond_both (f.label == s.recv_label) _ _ (IsFullOrShort p start) (λ _. inl full)
      (λ _. short full.few_acked s.acks f.label labels (omega arith)
      (in_order_behind s.acks (repeat (in_order_same (f.label ∷ labels)))))
  received false s (f ∷ frames) full =
      let labels : List ℕ = map (λ (g : Frame). g.label) frames in
      let same_length : length labels ≡ length frames = length-map frames (λ (g : Frame). g.label) in
      let full_frames = full.full_frames in
      let full_acks = full.full_acks in
      cond_both (f.label == s.recv_label) _ _ (IsFullOrShort p start)
      (λ _. short full.few_acked s.acks s.recv_label labels (omega arith) (in_order_same _))
      (λ _. short full.few_acked s.acks f.label labels (omega arith) (in_order_same _))

  -- the sender goes on by the front acknowledgement: it is the first one that it accepts
  first_acked : (s : LinkState) (label : ℕ) (acks : List ℕ) → s.send_label ≡ item_label p start s.acked
      → IsFull p start (record s { acks = label ∷ acks }) → label ≡ s.send_label → s.acked ≡ 0
  first_acked s label acks own full matches =
      elim (cases_lt s.acked 1) [
        | inl first ↦ omega arith
        | inr second ↦
            let once : s.acked ≡ 1 = let few = full.few_acked in omega arith in
            let front : label ≡ start.send_label = ap entry (full.front second) in
            absurd (near_labels_differ p start 0 1 (omega arith) (omega arith)
            (sym front ∙ matches ∙ own ∙ ap (item_label p start) once))
      ]

  -- the front of full queues of acknowledgements is received
  acknowledged : (keep : Bool) (s : LinkState) (acks : List ℕ) → s.send_label ≡ item_label p start s.acked
      → IsFull p start (record s { acks = acks })
      → IsFullOrShort p start (open_step p (record s { acks = acks }) (RecvAck keep))
  acknowledged keep s [] own full = inl full
  acknowledged true s (label ∷ acks) own full =
      cond_both (is_holding s && (label == s.send_label)) _ _ (IsFullOrShort p start)
      (λ matches.
      let same : label ≡ s.send_label = eqb-true _ _ (and_parts (is_holding s) (label == s.send_label) matches).1 in
      let first : s.acked ≡ 0 = first_acked s label acks own full same in
      inl (record {
        full_frames = full.full_frames;
        full_acks = full.full_acks;
        few_acked = omega arith;
        front = λ _. ap Some (same ∙ own ∙ ap (item_label p start) first);
      }))
      (λ _. inl full)
  acknowledged false s (label ∷ acks) own full =
      let labels : List ℕ = map (λ (g : Frame). g.label) s.frames in
      let same_length : length labels ≡ length s.frames = length-map s.frames (λ (g : Frame). g.label) in
      let full_frames = full.full_frames in
      let full_acks = full.full_acks in
      cond_both (is_holding s && (label == s.send_label)) _ _ (IsFullOrShort p start)
      (λ matches.
      let same : label ≡ s.send_label = eqb-true _ _ (and_parts (is_holding s) (label == s.send_label) matches).1 in
      let first : s.acked ≡ 0 = first_acked s label acks own full same in
      short (omega arith) acks s.recv_label labels (omega arith) (in_order_same _))
      (λ _. short full.few_acked acks s.recv_label labels (omega arith) (in_order_same _))

  -- a frame of full queues vanishes, or there is none at this place
  lost_frame : (i : ℕ) (s : LinkState) → IsFull p start s
      → IsFullOrShort p start (record s { frames = without i s.frames })
  lost_frame i s full =
      elim (without_shorter i s.frames) [
        | inl same ↦ subst (λ (frames : List Frame). IsFullOrShort p start (record s { frames = frames })) (sym same) (inl full)
        | inr shorter ↦
            let labels : List ℕ = map (λ (g : Frame). g.label) (without i s.frames) in
            let same_length : length labels ≡ length (without i s.frames) =
            length-map (without i s.frames) (λ (g : Frame). g.label) in
            let full_frames = full.full_frames in
            let full_acks = full.full_acks in
            short full.few_acked s.acks s.recv_label labels (omega arith) (in_order_same _)
      ]

  -- so does an acknowledgement
  lost_ack : (i : ℕ) (s : LinkState) → IsFull p start s → IsFullOrShort p start (record s { acks = without i s.acks })
  lost_ack i s full =
      elim (without_shorter i s.acks) [
        | inl same ↦ subst (λ (acks : List ℕ). IsFullOrShort p start (record s { acks = acks })) (sym same) (inl full)
        | inr shorter ↦
            let labels : List ℕ = map (λ (g : Frame). g.label) s.frames in
            let same_length : length labels ≡ length s.frames = length-map s.frames (λ (g : Frame). g.label) in
            let full_frames = full.full_frames in
            let full_acks = full.full_acks in
            short full.few_acked (without i s.acks) s.recv_label labels (omega arith) (in_order_same _)
      ]

  -- an event on full queues leaves them full, or an entry goes
  full_event : (s : LinkState) (e : Event) → s.send_label ≡ item_label p start s.acked → IsFull p start s
      → IsFullOrShort p start (open_step p s e)
  full_event s (Offer item) own full =
      cond_both (is_idle s) (record s { offered = s.offered ++ item ∷ [] }) s (IsFullOrShort p start)
      (λ _. inl (record {
        full_frames = full.full_frames;
        full_acks = full.full_acks;
        few_acked = full.few_acked;
        front = full.front;
      }))
      (λ _. inl full)
  full_event s SendFrame own full =
      cond_both (is_holding s && has_room p s.frames) (record s { frames = s.frames ++ current_frame s ∷ [] }) s
      (IsFullOrShort p start)
      (λ sends. absurd (no_room p s.frames full.full_frames (and_parts (is_holding s) (has_room p s.frames) sends).1))
      (λ _. inl full)
  full_event s (RecvFrame keep) own full = received keep s s.frames full
  full_event s SendAck own full =
      cond_both (has_room p s.acks) (record s { acks = s.acks ++ s.recv_label ∷ [] }) s (IsFullOrShort p start)
      (λ room. absurd (no_room p s.acks full.full_acks room)) (λ _. inl full)
  full_event s (RecvAck keep) own full = acknowledged keep s s.acks own full
  full_event s (LoseFrame i) own full = lost_frame i s full
  full_event s (LoseAck i) own full = lost_ack i s full
  full_event s Close own full =
      inl (record {
        full_frames = full.full_frames;
        full_acks = full.full_acks;
        few_acked = full.few_acked;
        front = full.front;
      })

  -- so does every step: a closed link stays as it is
  full_step : (s : LinkState) (e : Event) → s.send_label ≡ item_label p start s.acked → IsFull p start s
      → IsFullOrShort p start (step p s e)
  full_step s e own full =
      cond_both s.closed s (open_step p s e) (IsFullOrShort p start) (λ _. inl full) (λ _. full_event s e own full)

  -- one item number, from a count on
  record IsFollowed (t : Traced) : Type 0 where
    from : ℕ
    j : ℕ
    within : j ≤ 2 * p.capacity + 1
    can_be : IsNear p from j
    invariant : Invariant p start from (λ i. i ≡ j) t

  -- an item number is followed, or none is yet and the queues are full
  abbrev Holds : Traced → Type 0
  Holds t = IsFollowed t ⊎ (IsFull p start t.state × Invariant p start 0 (λ _. ⊥) t)

  -- once an entry has gone, one of the next items has a label that is nowhere, and is followed
  short_is_followed : (t : Traced) → Invariant p start 0 (λ _. ⊥) t → IsShort p t.state → IsFollowed t
  short_is_followed t inv shorter =
      let acked : ℕ = t.state.acked in
      let few_acked = shorter.few_acked in
      let few = shorter.few in
      let (i, within, free) =
      one_is_free (λ (i : ℕ). item_label p start (acked + i)) (2 * p.capacity) shorter.labels
      (λ (i k : ℕ) before in_list. near_labels_differ p start (acked + i) (acked + k) (omega arith) (omega arith))
      (omega arith) in
      let j : ℕ = acked + i in
      let same_labels : map (λ f. f.label) t.state.frames ≡ map (label_at p start) inv.queued =
      ap (map (λ (f : Frame). f.label)) inv.kept.transit.frames_are
      ∙ map-map (λ (f : Frame). f.label) (frame_at p start t.state.offered) inv.queued in
      let absent : Absent (item_label p start j) (on_circle p start t.state.acks t.state.recv_label inv.queued) =
      subst (λ (labels : List ℕ). Absent (item_label p start j) (circle t.state.acks t.state.recv_label labels)) same_labels
      (Each-in_order (λ (x : ℕ). x ≢ item_label p start j) shorter.are_all free) in
      record {
        from = acked;
        j = j;
        within = omega arith;
        can_be = record { some_labels = omega arith; near = omega arith };
        invariant =
            record {
              queued = inv.queued;
              taken = inv.taken;
              bound = inv.bound;
              kept =
                  record {
                    begun = omega arith;
                    sending = inv.kept.sending;
                    transit = inv.kept.transit;
                    delivery = inv.kept.delivery;
                    readings = λ k same.
                        let ahead : acked ≤ k = omega arith in
                        reading_open p start k (omega arith) acked t.state.acks t.state.recv_label inv.queued ahead
                        (subst (λ (item : ℕ). Absent (item_label p start item)
                        (on_circle p start t.state.acks t.state.recv_label inv.queued)) (sym same) absent);
                    answers = inv.kept.answers;
                  };
              queued_are = inv.queued_are;
              taken_are = inv.taken_are;
            };
      }

  -- every step keeps it
  step_holds : (t : Traced) (e : Event) → Holds t → Holds (traced_step p t e)
  step_holds t e holds =
      elim holds [
        | inl followed ↦
            inl (record {
              from = followed.from;
              j = followed.j;
              within = followed.within;
              can_be = followed.can_be;
              invariant =
                  step_keeps p start followed.from (λ i. i ≡ followed.j)
                  (λ i same. subst (IsNear p followed.from) (sym same) followed.can_be) t e followed.invariant;
            })
        | inr both ↦
            let after : Traced = traced_step p t e in
            let inv : Invariant p start 0 (λ _. ⊥) after =
            step_keeps p start 0 (λ _. ⊥) (λ i none. absurd none) t e both.1 in
            let next : IsFullOrShort p start after.state =
            subst (IsFullOrShort p start) (sym (traced_step_state p t e))
            (full_step t.state e both.1.kept.sending.own_label both.0) in
            elim next [
              | inl full ↦ inr (full, inv)
              | inr shorter ↦ inl (short_is_followed after inv shorter)
            ]
      ]

  -- every event list keeps it
  replay_holds : (t : Traced) (events : List Event) → Holds t → Holds (traced_replay p t events)
  replay_holds t [] holds = holds
  replay_holds t (e ∷ events) holds = replay_holds (traced_step p t e) events (step_holds t e holds)

  -- a lawful start fills both queues, or leaves an entry of the circle free
  full_or_short : IsLawful p start → IsFullOrShort p start (initial start)
  full_or_short lawful =
      let few_frames = lawful.frames in
      let few_acks = lawful.acks in
      let labels : List ℕ = map (λ (g : Frame). g.label) start.frames in
      let same_length : length labels ≡ length start.frames = length-map start.frames (λ (g : Frame). g.label) in
      elim (cases_lt (length start.acks + length labels) (2 * p.capacity)) [
        | inl fewer ↦ short (omega arith) start.acks start.recv_label labels fewer (in_order_same _)
        | inr all ↦ inl (record {
          full_frames = omega arith;
          full_acks = omega arith;
          few_acked = omega arith;
          front = λ passed. absurd (omega arith);
        })
      ]

  -- nothing is followed at first
  not_followed : Invariant p start 0 (λ _. ⊥) (traced_initial start)
  not_followed =
      let inv = at_opening p start in
      record {
        queued = inv.queued;
        taken = inv.taken;
        bound = inv.bound;
        kept =
            record {
              begun = inv.kept.begun;
              sending = inv.kept.sending;
              transit = inv.kept.transit;
              delivery = inv.kept.delivery;
              readings = λ i none. absurd none;
              answers = inv.kept.answers;
            };
        queued_are = inv.queued_are;
        taken_are = inv.taken_are;
      }

  opening_holds : IsLawful p start → Holds (traced_initial start)
  opening_holds lawful =
      elim (full_or_short lawful) [
        | inl full ↦ inr (full, not_followed)
        | inr shorter ↦ inl (short_is_followed (traced_initial start) not_followed shorter)
      ]

  -- so the link law holds of every replay
  pub fewer_labels_link_law : (events : List Event) → IsLawful p start
      → let s = replay p (initial start) events in LinkLaw p.capacity (start_items start) s.offered s.acked s.delivered
  fewer_labels_link_law events lawful =
      let t : Traced = traced_replay p (traced_initial start) events in
      let law : LinkLaw p.capacity (start_items start) t.state.offered t.state.acked t.state.delivered =
      elim (replay_holds (traced_initial start) events (opening_holds lawful)) [
        | inl followed ↦
            followed_link_law p start followed.from (λ i. i ≡ followed.j) t followed.invariant lawful followed.j
            followed.within refl
        | inr both ↦
            let few_acked = both.0.few_acked in
            few_acked_link_law p start 0 (λ _. ⊥) t both.1 lawful (omega arith)
      ] in
      subst (λ (s : LinkState). LinkLaw p.capacity (start_items start) s.offered s.acked s.delivered)
      (traced_replay_state p (traced_initial start) events) law
