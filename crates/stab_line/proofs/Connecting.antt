-- What comes of a new connection, and of an exchange on it, from any state of two open ends.
use Rattle.std.proofs.Common.{◌≡◌, ℕ, ◌+◌, ◌≤◌, Bool, true, false, if◌then◌else◌, [], ◌∷◌, ◌++◌, length, Some, None, refl, sym, ◌∙◌, ap, subst, arith}
use Rattle.stab_frames.specs.Parameters.{Parameters, next}
use Rattle.stab_line.specs.Ends.{SenderEnd, new_sender, new_receiver, acknowledges, after_ack}
use Rattle.stab_line.specs.Line.{held}
use Rattle.stab_line.specs.NodeTree.{put}
use Rattle.stab_line.specs.Progress.{AreOpen, IsNew, IsSendersTurn, connects, exchange}
use Rattle.stab_line.specs.Session.{session_on}
use Rattle.stab_line.specs.SessionLink.{SessionLink, Stage, unused, made, accepted, is_unused, is_made, connection_step, link_run, ack_sent, ack_comes, sender_accepts, receiver_accepts}
use Rattle.stab_line.proofs.Exchanges.{put_here, put_one, ack_handled, exchange_acknowledges, exchange_of_none}

-- an open end stays open
stays_open : (p : Parameters) (s : SenderEnd) (label : ℕ) → s.closed ≡ false → (after_ack p s label).closed ≡ false
stays_open p s label is_open = by_waited (acknowledges s label)
  where
    by_waited : (waited : Bool)
        → (if waited then record { state = record { label = next p s.state.label; item = None }; closed = false } else s).closed ≡ false
    by_waited true = refl
    by_waited false = is_open

no_more_held : (p : Parameters) (s : SenderEnd) (label : ℕ) → length (held (after_ack p s label).state.item) ≤ length (held s.state.item)
no_more_held p s label = by_waited (acknowledges s label)
  where
    by_waited : (waited : Bool)
        → length (held (if waited then record { state = record { label = next p s.state.label; item = None }; closed = false } else s).state.item)
        ≤ length (held s.state.item)
    by_waited true = omega arith
    by_waited false = omega arith

module _ (p : Parameters) (t : SessionLink) (n : ℕ) (is_unused_yet : t.stage n ≡ unused) where
  -- the receiver's end made it, and the sender's accepted it
  abbrev accepted_above : SessionLink
  accepted_above =
      record t { stage = put (put t.stage n (made false)) n accepted; at_sender = session_on n true; at_receiver = session_on n false }

  pub connected_above : link_run p t (connects false n) ≡ accepted_above
  connected_above =
      ap (λ (s : Stage). connection_step p (if is_unused s then record t { stage = put t.stage n (made false); at_receiver = session_on n false } else t) (sender_accepts n)) is_unused_yet
      ∙ ap (λ (s : Stage).
      let u : SessionLink = record t { stage = put t.stage n (made false); at_receiver = session_on n false } in
      if is_made false s then record u { stage = put u.stage n accepted; at_sender = session_on n true } else u)
      (put_here t.stage n (made false))

  -- the sender's end made it, and the receiver's accepted it
  abbrev accepted_below : SessionLink
  accepted_below =
      record t { stage = put (put t.stage n (made true)) n accepted; at_sender = session_on n false; at_receiver = session_on n true }

  pub connected_below : link_run p t (connects true n)
      ≡ connection_step p (connection_step p accepted_below ack_sent) (ack_comes n)
  connected_below =
      ap (λ (s : Stage). connection_step p (connection_step p (connection_step p (if is_unused s then record t { stage = put t.stage n (made true); at_sender = session_on n false } else t) (receiver_accepts n)) ack_sent) (ack_comes n)) is_unused_yet
      ∙ ap (λ (s : Stage).
      let u : SessionLink = record t { stage = put t.stage n (made true); at_sender = session_on n false } in
      connection_step p (connection_step p
      (if is_made true s then record u { stage = put u.stage n accepted; at_receiver = session_on n true } else u) ack_sent) (ack_comes n))
      (put_here t.stage n (made true))

-- the sender's end gets the first answer, on its own connection
module _ (p : Parameters) (t : SessionLink) (n : ℕ) (is_unused_yet : t.stage n ≡ unused) (no_acks : t.up n ≡ [])
    (is_open : t.receiver.closed ≡ false) where
  abbrev asked : SessionLink
  asked = record (accepted_below p t n is_unused_yet) { receiver = new_receiver t.receiver.label }

  abbrev first_answer : SessionLink
  first_answer = record asked { at_receiver = session_on n false; up = put t.up n (t.up n ++ t.receiver.label ∷ []) }

  abbrev pub first_answered : SessionLink
  first_answered =
      record first_answer {
        sender = after_ack p t.sender t.receiver.label;
        at_sender = session_on n true;
        up = put first_answer.up n [];
        acked = if acknowledges t.sender t.receiver.label then t.acked + 1 else t.acked;
      }

  pub connects_below : link_run p t (connects true n) ≡ first_answered
  connects_below =
      connected_below p t n is_unused_yet
      ∙ ap (λ (closed : Bool). connection_step p (connection_step p
      (record (accepted_below p t n is_unused_yet) { receiver = record { label = t.receiver.label; closed = closed } }) ack_sent) (ack_comes n)) is_open
      ∙ ack_handled p t.sender n false t.receiver.label first_answer [] (put_one t.up n t.receiver.label no_acks)

  pub no_answer_left : first_answered.up n ≡ []
  no_answer_left = put_here first_answer.up n []

pub connects_to_turn : (p : Parameters) (t : SessionLink) (by_sender : Bool) (n : ℕ) → AreOpen t → IsNew t n
    → let after = link_run p t (connects by_sender n) in
    AreOpen after × IsSendersTurn after n
connects_to_turn p t true n (sender_open, receiver_open) (is_unused_yet, no_frames, no_acks) =
    let led = connects_below p t n is_unused_yet no_acks receiver_open in (
      (
        ap (λ (l : SessionLink). l.sender.closed) led ∙ stays_open p t.sender t.receiver.label sender_open,
        ap (λ (l : SessionLink). l.receiver.closed) led,
      ),
      (
        ap (λ (l : SessionLink). l.at_sender) led,
        ap (λ (l : SessionLink). l.at_receiver) led,
        ap (λ (l : SessionLink). l.down n) led ∙ no_frames,
        ap (λ (l : SessionLink). l.up n) led ∙ no_answer_left p t n is_unused_yet no_acks receiver_open,
      ),
    )
connects_to_turn p t false n (sender_open, receiver_open) (is_unused_yet, no_frames, no_acks) =
    let led = connected_above p t n is_unused_yet in (
      (
        ap (λ (l : SessionLink). l.sender.closed) led ∙ sender_open,
        ap (λ (l : SessionLink). l.receiver.closed) led ∙ receiver_open,
      ),
      (
        ap (λ (l : SessionLink). l.at_sender) led,
        ap (λ (l : SessionLink). l.at_receiver) led,
        ap (λ (l : SessionLink). l.down n) led ∙ no_frames,
        ap (λ (l : SessionLink). l.up n) led ∙ no_acks,
      ),
    )

-- it delivers nothing, and gives the sender no item
pub connects_calmly : (p : Parameters) (t : SessionLink) (by_sender : Bool) (n : ℕ) → AreOpen t → IsNew t n
    → let after = link_run p t (connects by_sender n) in
    (after.delivered ≡ t.delivered) × (length (held after.sender.state.item) ≤ length (held t.sender.state.item))
connects_calmly p t true n (sender_open, receiver_open) (is_unused_yet, no_frames, no_acks) =
    let led = connects_below p t n is_unused_yet no_acks receiver_open in (
      ap (λ (l : SessionLink). l.delivered) led,
      omega (
        arith,
        ap (λ (l : SessionLink). length (held l.sender.state.item)) led,
        no_more_held p t.sender t.receiver.label,
      ),
    )
connects_calmly p t false n (sender_open, receiver_open) (is_unused_yet, no_frames, no_acks) =
    let led = connected_above p t n is_unused_yet in (
      ap (λ (l : SessionLink). l.delivered) led,
      omega (arith, ap (λ (l : SessionLink). length (held l.sender.state.item)) led),
    )

-- ---- a new connection, and one exchange

abbrev IsAcknowledged : Parameters → SessionLink → ℕ → SessionLink → Type 0
IsAcknowledged p t n after =
    (after.acked ≡ t.acked + 1) × (after.sender ≡ new_sender (next p t.sender.state.label))
    × IsSendersTurn after n

-- an exchange from here, where the sender still has the item that it had
acknowledged_then : (p : Parameters) (t u : SessionLink) (n item : ℕ) → AreOpen u → IsSendersTurn u n → t.sender.state.item ≡ Some item
    → u.sender ≡ t.sender → u.acked ≡ t.acked → IsAcknowledged p t n (link_run p u (exchange n))
acknowledged_then p t u n item are_open turn holds same_sender same_acked =
    let (acked, sender, _, _, turn_then) =
    exchange_acknowledges p u n item are_open (ap (λ (s : SenderEnd). s.state.item) same_sender ∙ holds) turn
    in (
      acked ∙ ap (λ k. k + 1) same_acked,
      sender ∙ ap (λ (s : SenderEnd). new_sender (next p s.state.label)) same_sender,
      turn_then,
    )

-- the first answer of the receiver's end was that of the item, or not
module _ (p : Parameters) (t : SessionLink) (n item : ℕ) (are_open : AreOpen t) (holds : t.sender.state.item ≡ Some item) (is_new : IsNew t n) where
  abbrev answered_first : SessionLink
  answered_first = first_answered p t n is_new.0 is_new.2 are_open.1

  abbrev answered_as : Bool → SessionLink
  answered_as waited =
      record answered_first {
        sender = if waited then new_sender (next p t.sender.state.label) else t.sender;
        acked = if waited then t.acked + 1 else t.acked;
      }

  no_answer : answered_first.up n ≡ []
  no_answer = no_answer_left p t n is_new.0 is_new.2 are_open.1

  by_waited : (waited : Bool) → IsAcknowledged p t n (link_run p (answered_as waited) (exchange n))
  by_waited true =
      let led = exchange_of_none p (answered_as true) n (next p t.sender.state.label) is_new.1 no_answer in (
        ap (λ (l : SessionLink). l.acked) led,
        ap (λ (l : SessionLink). l.sender) led,
        (
          ap (λ (l : SessionLink). l.at_sender) led,
          ap (λ (l : SessionLink). l.at_receiver) led,
          ap (λ (l : SessionLink). l.down n) led ∙ is_new.1,
          ap (λ (l : SessionLink). l.up n) led ∙ no_answer,
        ),
      )
  by_waited false =
      acknowledged_then p t (answered_as false) n item (are_open.0, refl) (refl, refl, is_new.1, no_answer) holds refl refl

  connected_by_sender : IsAcknowledged p t n (link_run p (link_run p t (connects true n)) (exchange n))
  connected_by_sender =
      subst (λ (u : SessionLink). IsAcknowledged p t n (link_run p u (exchange n)))
      (sym (connects_below p t n is_new.0 is_new.2 are_open.1))
      (by_waited (acknowledges t.sender t.receiver.label))

  connected_by_receiver : IsAcknowledged p t n (link_run p (link_run p t (connects false n)) (exchange n))
  connected_by_receiver =
      let led = connected_above p t n is_new.0 in
      let (still_open, turn) = connects_to_turn p t false n are_open is_new in
      acknowledged_then p t (link_run p t (connects false n)) n item still_open turn holds
      (ap (λ (l : SessionLink). l.sender) led) (ap (λ (l : SessionLink). l.acked) led)

pub new_connection_acknowledges : (p : Parameters) (t : SessionLink) (by_sender : Bool) (n item : ℕ)
    → AreOpen t → t.sender.state.item ≡ Some item → IsNew t n
    → let after = link_run p t (connects by_sender n ++ exchange n) in
    (after.acked ≡ t.acked + 1) × (after.sender ≡ new_sender (next p t.sender.state.label))
    × IsSendersTurn after n
new_connection_acknowledges p t true n item are_open holds is_new = connected_by_sender p t n item are_open holds is_new
new_connection_acknowledges p t false n item are_open holds is_new = connected_by_receiver p t n item are_open holds is_new
