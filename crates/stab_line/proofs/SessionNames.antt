-- What a call does is an act of the laws under any naming of the end's connections.
use Rattle.std.proofs.Common.{◌≡◌, ℕ, ◌+◌, ◌==◌, ◌&&◌, Bool, true, false, if◌then◌else◌, List, [], ◌∷◌, length, drop, slice_get, Option, Some, None, option_map, refl, sym, ◌∙◌, ap, arith, eqb-true, eq-eqb, true≢false}
use Rattle.stab_frames.specs.declared.frame.Frame.{Frame}
use Rattle.stab_frames.specs.Parameters.{Parameters}
use Rattle.stab_line.specs.Ends.{SenderEnd, ReceiverEnd, after_frame, delivers, after_ack, acknowledges}
use Rattle.stab_line.specs.Line.{with_taken}
use Rattle.stab_line.specs.NodeTree.{put}
use Rattle.stab_line.specs.SessionActs.{IsFrameHandled, IsAckHandled}
use Rattle.stab_line.specs.SessionNames.{TellsApart, known_as, IsFrameHandledAs, IsAckHandledAs}
use Rattle.stab_line.specs.Session.{Session, has, is_on, session_on, no_session, after_end, sent_now, turn_after}
use Rattle.stab_line.specs.SessionLink.{SessionLink, receives_frame, receives_ack}

-- an end has a connection under one name if it has it under the other
same_place : (name : ℕ → ℕ) → TellsApart name → (k m : ℕ) → (name k == name m) ≡ (k == m)
same_place name apart k m = by_named (name k == name m) refl
  where
    by_number : (same : Bool) → (k == m) ≡ same → (name k == name m) ≡ true → same ≡ true
    by_number true same named = refl
    by_number false other named =
        absurd (true≢false (sym (eq-eqb k m (apart k m (eqb-true (name k) (name m) named))) ∙ other))

    by_named : (named : Bool) → (name k == name m) ≡ named → named ≡ (k == m)
    by_named true named = sym (by_number (k == m) refl named)
    by_named false other = sym (by_same (k == m) refl)
      where
        by_same : (same : Bool) → (k == m) ≡ same → same ≡ false
        by_same true same =
            absurd (true≢false (sym (eq-eqb (name k) (name m) (ap name (eqb-true k m same))) ∙ other))
        by_same false different = refl

has_named : (name : ℕ → ℕ) → TellsApart name → (connection : Option ℕ) (k : ℕ)
    → is_on (option_map name connection) (name k) ≡ is_on connection k
has_named name apart None k = refl
has_named name apart (Some m) k = same_place name apart k m

-- what becomes of the session under a name
message_named : (name : ℕ → ℕ) (s : Session) (k : ℕ) (here : Bool)
    → (if here then session_on (name k) true else known_as name s) ≡ known_as name (if here then session_on k true else s)
message_named name s k true = refl
message_named name s k false = refl

-- whether an item was taken shows in the list
taken_same : (taken also : Bool) (item : ℕ) → with_taken taken [] item ≡ with_taken also [] item → taken ≡ also
taken_same true true item same = refl
taken_same false false item same = refl
taken_same true false item same = absurd (omega (arith, ap (λ (xs : List ℕ). length xs) same))
taken_same false true item same = absurd (omega (arith, ap (λ (xs : List ℕ). length xs) same))

counted_same : (taken also : Bool) → (if taken then 0 + 1 else 0) ≡ (if also then 0 + 1 else 0) → taken ≡ also
counted_same true true same = refl
counted_same false false same = refl
counted_same true false same = absurd (omega (arith, same))
counted_same false true same = absurd (omega (arith, same))

-- a link with this frame under way on every connection, or this acknowledgement
with_frame : SessionLink → Frame → SessionLink
with_frame t f = record t { down = λ n. f ∷ []; delivered = [] }

with_ack : SessionLink → ℕ → SessionLink
with_ack t label = record t { up = λ n. label ∷ []; acked = 0 }

pub frame_named : (name : ℕ → ℕ) → TellsApart name → (before : ReceiverEnd) (session : Session) (n : ℕ) (frame : Frame)
    (delivered : Bool) (after : ReceiverEnd) (session_after : Session)
    → IsFrameHandled before session n frame delivered after session_after
    → IsFrameHandledAs name before session n frame delivered after session_after
unfolding with_frame
frame_named name apart before session n frame delivered after session_after is_heard p t rest is_front =
    let one = is_heard p (with_frame t frame) [] refl in
    let here : Bool = has session n in
    let receiver : (if here then after_frame before frame else before) ≡ after = ap (λ (t : SessionLink). t.receiver) one in
    let at_receiver : (if here then session_on n true else session) ≡ session_after = ap (λ (t : SessionLink). t.at_receiver) one in
    let taken : (here && delivers before frame) ≡ delivered =
    taken_same (here && delivers before frame) delivered frame.item (ap (λ (t : SessionLink). t.delivered) one)
    in
    let known : SessionLink = record t { receiver = before; at_receiver = known_as name session } in
    let result : Bool → List Frame → SessionLink = λ is now. record t {
      receiver = if is then after_frame before frame else before;
      at_receiver = if is then session_on (name n) true else known_as name session;
      down = put t.down (name n) now;
      delivered = with_taken (is && delivers before frame) t.delivered frame.item;
    } in
    let last : ReceiverEnd → Session → Bool → SessionLink = λ r s is. record t {
      receiver = r;
      at_receiver = s;
      down = put t.down (name n) rest;
      delivered = with_taken is t.delivered frame.item;
    } in
    ap (λ (frames : List Frame). receives_frame known (name n) (slice_get frames 0)) is_front
    ∙ ap (λ (frames : List Frame). result (has (known_as name session) (name n)) (drop 1 frames)) is_front
    ∙ ap (λ is. result is rest) (has_named name apart session.connection n)
    ∙ ap (λ s. last (if here then after_frame before frame else before) s (here && delivers before frame))
    (message_named name session n here ∙ ap (λ s. known_as name s) at_receiver)
    ∙ ap (λ r. last r (known_as name session_after) (here && delivers before frame)) receiver
    ∙ ap (λ is. last after (known_as name session_after) is) taken

pub ack_named : (name : ℕ → ℕ) → TellsApart name → (p : Parameters) (before : SenderEnd) (session : Session) (n label : ℕ)
    (waited : Bool) (after : SenderEnd) (session_after : Session)
    → IsAckHandled p before session n label waited after session_after
    → IsAckHandledAs name p before session n label waited after session_after
unfolding with_ack
ack_named name apart p before session n label waited after session_after is_heard t rest is_front =
    let one = is_heard (with_ack t label) [] refl in
    let here : Bool = has session n in
    let sender : (if here then after_ack p before label else before) ≡ after = ap (λ (t : SessionLink). t.sender) one in
    let at_sender : (if here then session_on n true else session) ≡ session_after = ap (λ (t : SessionLink). t.at_sender) one in
    let taken : (here && acknowledges before label) ≡ waited =
    counted_same (here && acknowledges before label) waited (ap (λ (t : SessionLink). t.acked) one)
    in
    let known : SessionLink = record t { sender = before; at_sender = known_as name session } in
    let result : Bool → List ℕ → SessionLink = λ is now. record t {
      sender = if is then after_ack p before label else before;
      at_sender = if is then session_on (name n) true else known_as name session;
      up = put t.up (name n) now;
      acked = if is && acknowledges before label then t.acked + 1 else t.acked;
    } in
    let last : SenderEnd → Session → Bool → SessionLink = λ r s is. record t {
      sender = r;
      at_sender = s;
      up = put t.up (name n) rest;
      acked = if is then t.acked + 1 else t.acked;
    } in
    ap (λ (acks : List ℕ). receives_ack p known (name n) (slice_get acks 0)) is_front
    ∙ ap (λ (acks : List ℕ). result (has (known_as name session) (name n)) (drop 1 acks)) is_front
    ∙ ap (λ is. result is rest) (has_named name apart session.connection n)
    ∙ ap (λ s. last (if here then after_ack p before label else before) s (here && acknowledges before label))
    (message_named name session n here ∙ ap (λ s. known_as name s) at_sender)
    ∙ ap (λ r. last r (known_as name session_after) (here && acknowledges before label)) sender
    ∙ ap (λ is. last after (known_as name session_after) is) taken

-- leaving a connection under a name
pub left_named : (name : ℕ → ℕ) → TellsApart name → (s : Session) (k : ℕ)
    → after_end (known_as name s) (name k) ≡ known_as name (after_end s k)
left_named name apart s k =
    ap (λ is. if is then no_session else known_as name s) (has_named name apart s.connection k) ∙ by_here (has s k)
  where
    by_here : (here : Bool) → (if here then no_session else known_as name s) ≡ known_as name (if here then no_session else s)
    by_here true = refl
    by_here false = refl

-- sending under a name
pub sent_named : (name : ℕ → ℕ) (s : Session) (x : Option Frame)
    → turn_after (known_as name s) (sent_now (known_as name s) x) ≡ known_as name (turn_after s (sent_now s x))
sent_named name s x = by_parts s.connection s.turn x
  where
    by_parts : (connection : Option ℕ) (turn : Bool) (x : Option Frame)
        → let s : Session = record { connection = connection; turn = turn } in
        turn_after (known_as name s) (sent_now (known_as name s) x) ≡ known_as name (turn_after s (sent_now s x))
    by_parts None turn x = refl
    by_parts (Some n) false x = refl
    by_parts (Some n) true None = refl
    by_parts (Some n) true (Some f) = refl
