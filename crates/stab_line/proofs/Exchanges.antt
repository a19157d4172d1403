-- What comes of exchanges on a connection, from any state of two open ends.
use Rattle.std.proofs.Common.{◌≡◌, ℕ, ◌+◌, ◌==◌, ◌&&◌, not, Bool, true, false, if◌then◌else◌, List, [], ◌∷◌, ◌++◌, append_assoc, append-nil, drop, length, slice_get, Some, None, Option, refl, sym, ◌∙◌, ap, subst, arith, eq-eqb, eqb-true}
use Rattle.std.proofs.lemmas.Bool.{ne_eqb}
use Rattle.stab_frames.specs.declared.frame.Frame.{Frame}
use Rattle.stab_frames.specs.Parameters.{Parameters, AreLawful, next}
use Rattle.stab_core.proofs.Labels.{next_differs}
use Rattle.stab_line.specs.Ends.{SenderEnd, ReceiverEnd, new_sender, new_receiver, delivers, after_frame, acknowledges, after_ack}
use Rattle.stab_line.specs.Line.{with_taken}
use Rattle.stab_line.specs.NodeTree.{put}
use Rattle.stab_line.specs.Progress.{AreOpen, IsSendersTurn, exchange, exchanges}
use Rattle.stab_line.specs.Session.{Session, session_on}
use Rattle.stab_line.specs.SessionActs.{IsFrameHandled, IsAckHandled}
use Rattle.stab_line.specs.SessionLink.{SessionLink, connection_step, link_run, receives_frame, receives_ack, ack_sent, frame_comes, ack_comes}

pub itself : (n : ℕ) → (n == n) ≡ true
itself n = eq-eqb n n refl

pub put_here : {A : Type 0} (entries : ℕ → A) (n : ℕ) (entry : A) → put entries n entry n ≡ entry
put_here entries n entry = ap (λ same. if same then entry else entries n) (itself n)

-- a message that was put on an empty connection is all that is under way there
pub put_one : {A : Type 0} (messages : ℕ → List A) (n : ℕ) (x : A) → messages n ≡ []
    → put messages n (messages n ++ x ∷ []) n ≡ x ∷ []
put_one messages n x empty =
    put_here messages n (messages n ++ x ∷ []) ∙ ap (λ xs. xs ++ x ∷ []) empty

-- ---- what comes by the connection that an end has

frame_handled : (before : ReceiverEnd) (n : ℕ) (turn : Bool) (f : Frame)
    → IsFrameHandled before (session_on n turn) n f (delivers before f) (after_frame before f) (session_on n true)
frame_handled before n turn f p t rest is_front =
    let u : SessionLink = record t { receiver = before; at_receiver = session_on n turn } in
    ap (λ (fs : List Frame). receives_frame u n (slice_get fs 0)) is_front
    ∙ ap (λ (fs : List Frame). record u {
      down = put t.down n (drop 1 fs);
      receiver = if n == n then after_frame before f else before;
      at_receiver = if n == n then session_on n true else session_on n turn;
      delivered = with_taken ((n == n) && delivers before f) t.delivered f.item;
    }) is_front
    ∙ ap (λ (same : Bool). record u {
      down = put t.down n rest;
      receiver = if same then after_frame before f else before;
      at_receiver = if same then session_on n true else session_on n turn;
      delivered = with_taken (same && delivers before f) t.delivered f.item;
    }) (itself n)

pub ack_handled : (p : Parameters) (before : SenderEnd) (n : ℕ) (turn : Bool) (label : ℕ)
    → IsAckHandled p before (session_on n turn) n label (acknowledges before label) (after_ack p before label) (session_on n true)
ack_handled p before n turn label t rest is_front =
    let u : SessionLink = record t { sender = before; at_sender = session_on n turn } in
    ap (λ (labels : List ℕ). receives_ack p u n (slice_get labels 0)) is_front
    ∙ ap (λ (labels : List ℕ). record u {
      up = put t.up n (drop 1 labels);
      sender = if n == n then after_ack p before label else before;
      at_sender = if n == n then session_on n true else session_on n turn;
      acked = if (n == n) && acknowledges before label then t.acked + 1 else t.acked;
    }) is_front
    ∙ ap (λ (same : Bool). record u {
      up = put t.up n rest;
      sender = if same then after_ack p before label else before;
      at_sender = if same then session_on n true else session_on n turn;
      acked = if same && acknowledges before label then t.acked + 1 else t.acked;
    }) (itself n)

-- ---- one exchange

abbrev pub holding : ℕ → ℕ → SenderEnd
holding label item = record { state = record { label = label; item = Some item }; closed = false }

-- after a frame an open receiver remembers its label, whether it took it or had it
pub remembers : (label remembered item : ℕ) → after_frame (new_receiver remembered) (record { label = label; item = item }) ≡ new_receiver label
remembers label remembered item = by_same (label == remembered) refl
  where
    by_same : (same : Bool) → (label == remembered) ≡ same
        → (if not same then new_receiver label else new_receiver remembered) ≡ new_receiver label
    by_same true is = ap new_receiver (sym (eqb-true label remembered is))
    by_same false is = refl

module _ (p : Parameters) (t : SessionLink) (n label item remembered : ℕ) (no_frames : t.down n ≡ []) (no_acks : t.up n ≡ []) where
  abbrev frame : Frame
  frame = record { label = label; item = item }

  abbrev ready : SessionLink
  ready = record t { sender = holding label item; at_sender = session_on n true; receiver = new_receiver remembered; at_receiver = session_on n false }

  abbrev sent : SessionLink
  sent = record ready { at_sender = session_on n false; down = put t.down n (t.down n ++ frame ∷ []) }

  abbrev taken : SessionLink
  taken =
      record sent {
        receiver = new_receiver label;
        at_receiver = session_on n true;
        down = put sent.down n [];
        delivered = with_taken (not (label == remembered)) t.delivered item;
      }

  abbrev answered : SessionLink
  answered = record taken { at_receiver = session_on n false; up = put t.up n (t.up n ++ label ∷ []) }

  abbrev pub done : SessionLink
  done =
      record answered {
        sender = new_sender (next p label);
        at_sender = session_on n true;
        up = put answered.up n [];
        acked = t.acked + 1;
      }

  takes : connection_step p sent (frame_comes n) ≡ taken
  takes =
      frame_handled (new_receiver remembered) n false frame p sent [] (put_one t.down n frame no_frames)
      ∙ ap (λ (after : ReceiverEnd). record taken { receiver = after }) (remembers label remembered item)

  acknowledged : connection_step p answered (ack_comes n) ≡ done
  acknowledged =
      ack_handled p (holding label item) n false label answered [] (put_one t.up n label no_acks)
      ∙ ap (λ (same : Bool). record done {
        sender = if same then new_sender (next p label) else holding label item;
        acked = if same then t.acked + 1 else t.acked;
      }) (itself label)

  pub exchanged : link_run p ready (exchange n) ≡ done
  exchanged =
      ap (λ (u : SessionLink). connection_step p (connection_step p u ack_sent) (ack_comes n)) takes
      ∙ acknowledged

  pub none_down : done.down n ≡ []
  none_down = put_here sent.down n []

  pub none_up : done.up n ≡ []
  none_up = put_here answered.up n []

-- a link whose ends are open and hold this is one of those above
is_ready : (t : SessionLink) (n item : ℕ) → AreOpen t → t.sender.state.item ≡ Some item → IsSendersTurn t n
    → record t {
      sender = holding t.sender.state.label item;
      at_sender = session_on n true;
      receiver = new_receiver t.receiver.label;
      at_receiver = session_on n false;
    } ≡ t
is_ready t n item (sender_open, receiver_open) holds (at_sender, at_receiver, no_frames, no_acks) =
    let label : ℕ = t.sender.state.label in
    ap (λ (s : Session). record t { sender = holding label item; at_sender = s; receiver = new_receiver t.receiver.label; at_receiver = session_on n false }) (sym at_sender)
    ∙ ap (λ (s : Session). record t { sender = holding label item; receiver = new_receiver t.receiver.label; at_receiver = s }) (sym at_receiver)
    ∙ ap (λ (closed : Bool). record t { sender = holding label item; receiver = record { label = t.receiver.label; closed = closed } }) (sym receiver_open)
    ∙ ap (λ (closed : Bool). record t { sender = record { state = record { label = label; item = Some item }; closed = closed } }) (sym sender_open)
    ∙ ap (λ (held : Option ℕ). record t { sender = record t.sender { state = record { label = label; item = held } } }) (sym holds)

pub exchange_acknowledges : (p : Parameters) (t : SessionLink) (n item : ℕ)
    → AreOpen t → t.sender.state.item ≡ Some item → IsSendersTurn t n
    → let after = link_run p t (exchange n) in
    let label : ℕ = t.sender.state.label in
    (after.acked ≡ t.acked + 1) × (after.sender ≡ new_sender (next p label))
    × (after.receiver ≡ new_receiver label)
    × (after.delivered ≡ with_taken (not (label == t.receiver.label)) t.delivered item)
    × IsSendersTurn after n
exchange_acknowledges p t n item are_open holds (at_sender, at_receiver, no_frames, no_acks) =
    let label : ℕ = t.sender.state.label in
    let led : link_run p t (exchange n) ≡ done p t n label item t.receiver.label no_frames no_acks =
    ap (λ (u : SessionLink). link_run p u (exchange n))
    (sym (is_ready t n item are_open holds (at_sender, at_receiver, no_frames, no_acks)))
    ∙ exchanged p t n label item t.receiver.label no_frames no_acks
    in (
      ap (λ (l : SessionLink). l.acked) led,
      ap (λ (l : SessionLink). l.sender) led,
      ap (λ (l : SessionLink). l.receiver) led,
      ap (λ (l : SessionLink). l.delivered) led,
      (
        ap (λ (l : SessionLink). l.at_sender) led,
        ap (λ (l : SessionLink). l.at_receiver) led,
        ap (λ (l : SessionLink). l.down n) led ∙ none_down p t n label item t.receiver.label no_frames no_acks,
        ap (λ (l : SessionLink). l.up n) led ∙ none_up p t n label item t.receiver.label no_frames no_acks,
      ),
    )

-- where the sender is idle, an exchange moves nothing
pub exchange_of_none : (p : Parameters) (t : SessionLink) (n label : ℕ) → t.down n ≡ [] → t.up n ≡ []
    → let u = record t { sender = new_sender label; at_sender = session_on n true; at_receiver = session_on n false } in
    link_run p u (exchange n) ≡ u
exchange_of_none p t n label no_frames no_acks =
    let u : SessionLink = record t { sender = new_sender label; at_sender = session_on n true; at_receiver = session_on n false } in
    ap (λ (fs : List Frame). connection_step p (connection_step p (receives_frame u n (slice_get fs 0)) ack_sent) (ack_comes n)) no_frames
    ∙ ap (λ (labels : List ℕ). receives_ack p u n (slice_get labels 0)) no_acks

-- ---- as many exchanges as items

-- the label after a label is another one
next_is_other : (p : Parameters) (label : ℕ) → AreLawful p → (next p label == label) ≡ false
next_is_other p label lawful =
    ne_eqb (next p label) label (next_differs p label (omega (arith, lawful.some_capacity, lawful.enough_labels)))

-- what is delivered of these items, if the receiver remembers the sender's label or not
abbrev of_items : Bool → List ℕ → List ℕ
of_items same items = if same then drop 1 items else items

none_of_none : (same : Bool) → of_items same [] ≡ []
none_of_none true = refl
none_of_none false = refl

first_delivered : (same : Bool) (before items : List ℕ) (item : ℕ)
    → with_taken (not same) before item ++ items ≡ before ++ of_items same (item ∷ items)
first_delivered true before items item = refl
first_delivered false before items item = append_assoc before (item ∷ []) items

abbrev idle : SessionLink → ℕ → ℕ → ℕ → SessionLink
idle t n label remembered =
    record t { sender = new_sender label; at_sender = session_on n true; receiver = new_receiver remembered; at_receiver = session_on n false }

-- what is so after exchanges of these items
abbrev HandedOn : SessionLink → ℕ → Bool → List ℕ → SessionLink → Type 0
HandedOn t n same items after =
    (after.offered ≡ t.offered ++ items) × (after.acked ≡ t.acked + length items)
    × (after.delivered ≡ t.delivered ++ of_items same items)
    × (after.sender.state.item ≡ None) × IsSendersTurn after n

hand_on : (p : Parameters) (t : SessionLink) (n label remembered : ℕ) (items : List ℕ) → AreLawful p
    → t.down n ≡ [] → t.up n ≡ []
    → HandedOn t n (label == remembered) items (link_run p (idle t n label remembered) (exchanges n items))
hand_on p t n label remembered [] lawful no_frames no_acks = (
  sym (append-nil t.offered),
  omega arith,
  sym (append-nil t.delivered) ∙ ap (λ xs. t.delivered ++ xs) (sym (none_of_none (label == remembered))),
  refl,
  (refl, refl, no_frames, no_acks),
)
hand_on p t n label remembered (item ∷ items) lawful no_frames no_acks =
    let t1 : SessionLink = record t { offered = t.offered ++ item ∷ [] } in
    let t2 : SessionLink = done p t1 n label item remembered no_frames no_acks in
    let led : link_run p (idle t n label remembered) (exchanges n (item ∷ items)) ≡ link_run p t2 (exchanges n items) =
    ap (λ (u : SessionLink). link_run p u (exchanges n items)) (exchanged p t1 n label item remembered no_frames no_acks)
    in
    let (offered, acked, delivered, none, turn) =
    hand_on p t2 n (next p label) label items lawful (none_down p t1 n label item remembered no_frames no_acks)
    (none_up p t1 n label item remembered no_frames no_acks)
    in (
      ap (λ (l : SessionLink). l.offered) led ∙ offered ∙ append_assoc t.offered (item ∷ []) items,
      ap (λ (l : SessionLink). l.acked) led ∙ omega (arith, acked),
      ap (λ (l : SessionLink). l.delivered) led ∙ delivered
          ∙ ap (λ same. t2.delivered ++ of_items same items) (next_is_other p label lawful)
          ∙ first_delivered (label == remembered) t.delivered items item,
      ap (λ (l : SessionLink). l.sender.state.item) led ∙ none,
      (
        ap (λ (l : SessionLink). l.at_sender) led ∙ turn.0,
        ap (λ (l : SessionLink). l.at_receiver) led ∙ turn.1,
        ap (λ (l : SessionLink). l.down n) led ∙ turn.2,
        ap (λ (l : SessionLink). l.up n) led ∙ turn.3,
      ),
    )

is_idle : (t : SessionLink) (n : ℕ) → AreOpen t → t.sender.state.item ≡ None → IsSendersTurn t n
    → idle t n t.sender.state.label t.receiver.label ≡ t
is_idle t n (sender_open, receiver_open) holds (at_sender, at_receiver, no_frames, no_acks) =
    let label : ℕ = t.sender.state.label in
    ap (λ (s : Session). record t { sender = new_sender label; at_sender = s; receiver = new_receiver t.receiver.label; at_receiver = session_on n false }) (sym at_sender)
    ∙ ap (λ (s : Session). record t { sender = new_sender label; receiver = new_receiver t.receiver.label; at_receiver = s }) (sym at_receiver)
    ∙ ap (λ (closed : Bool). record t { sender = new_sender label; receiver = record { label = t.receiver.label; closed = closed } }) (sym receiver_open)
    ∙ ap (λ (closed : Bool). record t { sender = record { state = record { label = label; item = None }; closed = closed } }) (sym sender_open)
    ∙ ap (λ (held : Option ℕ). record t { sender = record t.sender { state = record { label = label; item = held } } }) (sym holds)

pub exchanges_hand_on : (p : Parameters) (t : SessionLink) (n : ℕ) (items : List ℕ)
    → AreLawful p → AreOpen t → t.sender.state.item ≡ None → IsSendersTurn t n
    → let after = link_run p t (exchanges n items) in
    (after.offered ≡ t.offered ++ items) × (after.acked ≡ t.acked + length items)
    × (after.delivered ≡ t.delivered ++ (if t.sender.state.label == t.receiver.label then drop 1 items else items))
    × (after.sender.state.item ≡ None) × IsSendersTurn after n
exchanges_hand_on p t n items lawful are_open none turn =
    let (at_sender, at_receiver, no_frames, no_acks) = turn in
    subst (λ (u : SessionLink). HandedOn t n (t.sender.state.label == t.receiver.label) items (link_run p u (exchanges n items)))
    (is_idle t n are_open none turn)
    (hand_on p t n t.sender.state.label t.receiver.label items lawful no_frames no_acks)

-- so an exchange leaves an idle link as it is
pub idle_exchange : (p : Parameters) (t : SessionLink) (n : ℕ) → AreOpen t → t.sender.state.item ≡ None → IsSendersTurn t n
    → link_run p t (exchange n) ≡ t
idle_exchange p t n are_open none turn =
    let (at_sender, at_receiver, no_frames, no_acks) = turn in
    let same = is_idle t n are_open none turn in
    subst (λ (u : SessionLink). link_run p u (exchange n) ≡ u) same
    (exchange_of_none p (idle t n t.sender.state.label t.receiver.label) n t.sender.state.label no_frames no_acks)
