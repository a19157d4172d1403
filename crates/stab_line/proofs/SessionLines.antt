-- A link over connections is a line that holds at most one message each way.
use Rattle.std.proofs.Common.{◌≡◌, ℕ, ◌+◌, ◌≤◌, ◌==◌, ◌&&◌, Bool, true, false, if◌then◌else◌, List, [], ◌∷◌, ◌++◌, map, length, drop, slice_get, Some, None, Option, refl, sym, ◌∙◌, ap, subst, arith, eqb-true, eq-eqb, true≢false, lt-ltb}
use Rattle.stab_frames.specs.declared.frame.Frame.{Frame}
use Rattle.stab_frames.specs.Parameters.{Parameters, AreLawful}
use Rattle.stab_frames.specs.Queue.{without}
use Rattle.stab_core.specs.LinkLaw.{LinkLaw}
use Rattle.stab_line.specs.Ends.{frame_to_send, ack_to_send, after_frame, delivers, acknowledges, after_ack}
use Rattle.stab_line.specs.Line.{Line, LineAct, line_step, line_run, with_taken, after_sending, new_count}
use Rattle.stab_line.specs.Line as line
use Rattle.stab_line.specs.Edge.{is_offer}
use Rattle.stab_line.specs.NodeTree.{put}
use Rattle.stab_line.proofs.Lines.{line_obeys_law}
use Rattle.stab_line.specs.Session.{Session, no_session, session_on, has, is_on, sent_now, turn_after}
use Rattle.stab_line.specs.SessionLink.{Stage, unused, made, accepted, is_unused, is_made, most_on, SessionLink, ConnectionAct, LinkAct, connection_step, link_step, link_run, item_offered, happens, turn_on, InTurn, on_it, put_on, receives_frame, receives_ack, line_of, counted_anew}
use Rattle.stab_line.specs.SessionLink.{sender_makes, receiver_makes, stranger_makes, sender_accepts, receiver_accepts, sender_leaves, receiver_leaves, frame_sent, ack_sent, frame_comes, ack_comes, frame_lost, ack_lost, sender_closes, receiver_closes}
use Rattle.stab_line.proofs.Turns.{link_step_in_turn, unused_has_none, made_has_none}

-- ---- acts of a line

abbrev pub NoOffers : List LineAct → Type 0
NoOffers [] = Unit {0}
NoOffers (act ∷ acts) = (is_offer act ≡ false) × NoOffers acts

-- acts of the line that offer nothing, and where they lead
pub record Led (p : Parameters) (before after : Line) : Type 0 where
  pub acts : List LineAct
  pub no_offers : NoOffers acts
  pub leads : line_run p before acts ≡ after

-- nothing happens on the line
stays : (p : Parameters) (l : Line) → Led p l l
stays p l = record { acts = []; no_offers = tt; leads = refl }

led_to : {p : Parameters} {before after last : Line} → Led p before after → after ≡ last → Led p before last
led_to led same = record { acts = led.acts; no_offers = led.no_offers; leads = led.leads ∙ same }

-- all frames are lost, or all acknowledgements
frames_lost : (p : Parameters) (l : Line) (frames : List Frame) → Led p (record l { frames = frames }) (record l { frames = [] })
frames_lost p l [] = stays p (record l { frames = [] })
frames_lost p l (f ∷ frames) =
    let rest = frames_lost p l frames in
    record { acts = line.frame_lost 0 ∷ rest.acts; no_offers = (refl, rest.no_offers); leads = rest.leads }

acks_lost : (p : Parameters) (l : Line) (acks : List ℕ) → Led p (record l { acks = acks }) (record l { acks = [] })
acks_lost p l [] = stays p (record l { acks = [] })
acks_lost p l (a ∷ acks) =
    let rest = acks_lost p l acks in
    record { acts = line.ack_lost 0 ∷ rest.acts; no_offers = (refl, rest.no_offers); leads = rest.leads }

-- ---- numbers

none_left : {A : Type 0} (xs : List A) → length xs ≤ 0 → xs ≡ []
none_left [] none = refl
none_left (x ∷ xs) none = absurd (omega arith)

itself : (n : ℕ) → (n == n) ≡ true
itself n = eq-eqb n n refl

-- a place is the same from both sides
turned_round : (m n : ℕ) (same : Bool) → (m == n) ≡ same → (n == m) ≡ same
turned_round m n true same = eq-eqb n m (sym (eqb-true m n same))
turned_round m n false other = by_turned (n == m) refl
  where
    by_turned : (turned : Bool) → (n == m) ≡ turned → turned ≡ false
    by_turned true same = absurd (true≢false (sym (eq-eqb m n (sym (eqb-true n m same))) ∙ other))
    by_turned false same = refl

-- ---- connections made, accepted and left

-- an end has a connection on which nothing comes to it yet
receiver_turns : (p : Parameters) (t : SessionLink) (n : ℕ) → t.down n ≡ []
    → Led p (line_of t) (record (line_of t) { frames = t.down n })
receiver_turns p t n none =
    led_to (frames_lost p (line_of t) (on_it t.at_receiver.connection t.down))
    (ap (λ (frames : List Frame). record (line_of t) { frames = frames }) (sym none))

sender_turns : (p : Parameters) (t : SessionLink) (n : ℕ) → t.up n ≡ []
    → Led p (line_of t) (record (line_of t) { acks = t.up n })
sender_turns p t n none =
    led_to (acks_lost p (line_of t) (on_it t.at_sender.connection t.up))
    (ap (λ (acks : List ℕ). record (line_of t) { acks = acks }) (sym none))

no_frames : (t : SessionLink) (n : ℕ) → InTurn t → most_on (t.stage n) ≡ 0 → t.down n ≡ []
no_frames t n in_turn none = none_left (t.down n) (omega (arith, in_turn n, none))

no_acks : (t : SessionLink) (n : ℕ) → InTurn t → most_on (t.stage n) ≡ 0 → t.up n ≡ []
no_acks t n in_turn none = none_left (t.up n) (omega (arith, in_turn n, none))

sender_made : (p : Parameters) (t : SessionLink) (n : ℕ) → InTurn t → (new : Bool) → is_unused (t.stage n) ≡ new
    → Led p (line_of t) (line_of (if new then record t { stage = put t.stage n (made true); at_sender = session_on n false } else t))
sender_made p t n in_turn false used = stays p (line_of t)
sender_made p t n in_turn true is_new = sender_turns p t n (no_acks t n in_turn (unused_has_none (t.stage n) is_new))

receiver_made : (p : Parameters) (t : SessionLink) (n : ℕ) → InTurn t → (new : Bool) → is_unused (t.stage n) ≡ new
    → Led p (line_of t) (line_of (if new then record t { stage = put t.stage n (made false); at_receiver = session_on n false } else t))
receiver_made p t n in_turn false used = stays p (line_of t)
receiver_made p t n in_turn true is_new = receiver_turns p t n (no_frames t n in_turn (unused_has_none (t.stage n) is_new))

stranger_made : (p : Parameters) (t : SessionLink) (n : ℕ) (by_sender new : Bool)
    → Led p (line_of t) (line_of (if new then record t { stage = put t.stage n (made by_sender) } else t))
stranger_made p t n by_sender false = stays p (line_of t)
stranger_made p t n by_sender true = stays p (line_of t)

sender_accepted : (p : Parameters) (t : SessionLink) (n : ℕ) → InTurn t → (new : Bool) → is_made false (t.stage n) ≡ new
    → Led p (line_of t) (line_of (if new then record t { stage = put t.stage n accepted; at_sender = session_on n true } else t))
sender_accepted p t n in_turn false used = stays p (line_of t)
sender_accepted p t n in_turn true is_new = sender_turns p t n (no_acks t n in_turn (made_has_none false (t.stage n) is_new))

receiver_accepted : (p : Parameters) (t : SessionLink) (n : ℕ) → InTurn t → (new : Bool) → is_made true (t.stage n) ≡ new
    → Led p (line_of t) (line_of (if new then record t { stage = put t.stage n accepted; at_receiver = session_on n true } else t))
receiver_accepted p t n in_turn false used = stays p (line_of t)
receiver_accepted p t n in_turn true is_new = receiver_turns p t n (no_frames t n in_turn (made_has_none true (t.stage n) is_new))

receiver_left : (p : Parameters) (t : SessionLink) (here : Bool)
    → Led p (line_of t) (line_of (record t { at_receiver = if here then no_session else t.at_receiver }))
receiver_left p t true = frames_lost p (line_of t) (on_it t.at_receiver.connection t.down)
receiver_left p t false = stays p (line_of t)

sender_left : (p : Parameters) (t : SessionLink) (here : Bool)
    → Led p (line_of t) (line_of (record t { at_sender = if here then no_session else t.at_sender }))
sender_left p t true = acks_lost p (line_of t) (on_it t.at_sender.connection t.up)
sender_left p t false = stays p (line_of t)

-- ---- messages sent

-- one more message on another connection
other_sent : {A : Type 0} (connection : Option ℕ) (messages : ℕ → List A) (n : ℕ) (entry : List A)
    → is_on connection n ≡ false → on_it connection (put messages n entry) ≡ on_it connection messages
other_sent None messages n entry other = refl
other_sent (Some m) messages n entry other =
    ap (λ same. if same then entry else messages m) (turned_round n m false other)

-- one more message on this connection
this_sent : {A : Type 0} (connection : Option ℕ) (messages : ℕ → List A) (n : ℕ) (entry : List A)
    → is_on connection n ≡ true → on_it connection (put messages n entry) ≡ entry
this_sent None messages n entry here = absurd (true≢false (sym here))
this_sent (Some m) messages n entry here = ap (λ same. if same then entry else messages m) (turned_round n m true here)

-- what is on this connection
on_this : {A : Type 0} (connection : Option ℕ) (messages : ℕ → List A) (n : ℕ) → is_on connection n ≡ true
    → on_it connection messages ≡ messages n
on_this None messages n here = absurd (true≢false (sym here))
on_this (Some m) messages n here = ap messages (sym (eqb-true n m here))

room : (p : Parameters) {A : Type 0} (messages : List A) (x : A) → 1 ≤ p.capacity → length messages ≤ 0
    → after_sending p messages (Some x) ≡ messages ++ x ∷ []
room p messages x holds none =
    ap (λ fits. if fits then messages ++ x ∷ [] else messages) (lt-ltb (length messages) p.capacity (omega (arith, holds, none)))

-- Where the messages on one connection change: on a line of this connection one act does the same,
-- and on any other nothing happens.
one_act : {A : Type 0} (p : Parameters) (whole : List A → Line) (connection : Option ℕ) (messages : ℕ → List A) (n : ℕ) (new : List A) (act : LineAct)
    → is_offer act ≡ false → (here : Bool) → is_on connection n ≡ here
    → (on_it connection messages ≡ messages n → line_step p (whole (on_it connection messages)) act ≡ whole new)
    → Led p (whole (on_it connection messages)) (whole (on_it connection (put messages n new)))
one_act p whole connection messages n new act no_offer false other does =
    led_to (stays p (whole (on_it connection messages))) (ap whole (sym (other_sent connection messages n new other)))
one_act p whole connection messages n new act no_offer true here does = record {
  acts = act ∷ [];
  no_offers = (no_offer, tt);
  leads = does (on_this connection messages n here) ∙ ap whole (sym (this_sent connection messages n new here));
}

abbrev with_frames : SessionLink → List Frame → Line
with_frames t frames = record (line_of t) { frames = frames }

abbrev with_acks : SessionLink → List ℕ → Line
with_acks t acks = record (line_of t) { acks = acks }

frame_goes : (p : Parameters) (t : SessionLink) (n : ℕ) (f : Frame) → 1 ≤ p.capacity → frame_to_send t.sender ≡ Some f
    → length (t.down n) ≤ 0 → (here : Bool) → is_on t.at_receiver.connection n ≡ here
    → Led p (line_of t)
    (record (line_of t) { frames = on_it t.at_receiver.connection (put t.down n (t.down n ++ f ∷ [])) })
frame_goes p t n f holds is_sent none here there =
    one_act p (with_frames t) t.at_receiver.connection t.down n (t.down n ++ f ∷ []) line.frame_sent refl here there
    (λ on.
    ap (with_frames t)
    (ap (λ sent. after_sending p (on_it t.at_receiver.connection t.down) sent) is_sent
    ∙ (ap (λ frames. after_sending p frames (Some f)) on ∙ room p (t.down n) f holds none)))

ack_goes : (p : Parameters) (t : SessionLink) (n : ℕ) (label : ℕ) → 1 ≤ p.capacity → ack_to_send t.receiver ≡ Some label
    → length (t.up n) ≤ 0 → (here : Bool) → is_on t.at_sender.connection n ≡ here
    → Led p (line_of t)
    (record (line_of t) { acks = on_it t.at_sender.connection (put t.up n (t.up n ++ label ∷ [])) })
ack_goes p t n label holds is_sent none here there =
    one_act p (with_acks t) t.at_sender.connection t.up n (t.up n ++ label ∷ []) line.ack_sent refl here there
    (λ on.
    ap (with_acks t)
    (ap (λ sent. after_sending p (on_it t.at_sender.connection t.up) sent) is_sent
    ∙ (ap (λ acks. after_sending p acks (Some label)) on ∙ room p (t.up n) label holds none)))

-- one with the turn has nothing under way
turn_means_none : (n down up other most : ℕ) → down + up + ((if n == n then 1 else 0) + other) ≤ most → most ≤ 1 → down + up ≤ 0
turn_means_none n down up other most in_turn few =
    omega (arith, in_turn, few, ap {B = ℕ} (λ same. if same then 1 else 0) (itself n))

few_on : (s : Stage) → most_on s ≤ 1
few_on unused = omega arith
few_on (made by_sender) = omega arith
few_on accepted = omega arith

sends_frame : (p : Parameters) (t : SessionLink) (connection : Option ℕ) (turn : Bool) (x : Option Frame)
    → 1 ≤ p.capacity → frame_to_send t.sender ≡ x
    → let s : Session = record { connection = connection; turn = turn } in
    InTurn (record t { at_sender = s })
    → Led p (line_of (record t { at_sender = s }))
    (line_of (record t { down = put_on connection t.down (sent_now s x); at_sender = turn_after s (sent_now s x) }))
sends_frame p t None false x holds is_sent in_turn = stays p (line_of (record t { at_sender = record { connection = None; turn = false } }))
sends_frame p t None true None holds is_sent in_turn = stays p (line_of (record t { at_sender = record { connection = None; turn = true } }))
sends_frame p t None true (Some f) holds is_sent in_turn = stays p (line_of (record t { at_sender = record { connection = None; turn = true } }))
sends_frame p t (Some n) false x holds is_sent in_turn = stays p (line_of (record t { at_sender = session_on n false }))
sends_frame p t (Some n) true None holds is_sent in_turn = stays p (line_of (record t { at_sender = session_on n true }))
sends_frame p t (Some n) true (Some f) holds is_sent in_turn =
    let none : length (t.down n) + length (t.up n) ≤ 0 =
    turn_means_none n (length (t.down n)) (length (t.up n)) (turn_on t.at_receiver n) (most_on (t.stage n)) (in_turn n) (few_on (t.stage n))
    in
    frame_goes p (record t { at_sender = session_on n true }) n f holds is_sent (omega (arith, none)) (is_on t.at_receiver.connection n) refl

sends_ack : (p : Parameters) (t : SessionLink) (connection : Option ℕ) (turn : Bool) (x : Option ℕ)
    → 1 ≤ p.capacity → ack_to_send t.receiver ≡ x
    → let s : Session = record { connection = connection; turn = turn } in
    InTurn (record t { at_receiver = s })
    → Led p (line_of (record t { at_receiver = s }))
    (line_of (record t { up = put_on connection t.up (sent_now s x); at_receiver = turn_after s (sent_now s x) }))
sends_ack p t None false x holds is_sent in_turn = stays p (line_of (record t { at_receiver = record { connection = None; turn = false } }))
sends_ack p t None true None holds is_sent in_turn = stays p (line_of (record t { at_receiver = record { connection = None; turn = true } }))
sends_ack p t None true (Some label) holds is_sent in_turn = stays p (line_of (record t { at_receiver = record { connection = None; turn = true } }))
sends_ack p t (Some n) false x holds is_sent in_turn = stays p (line_of (record t { at_receiver = session_on n false }))
sends_ack p t (Some n) true None holds is_sent in_turn = stays p (line_of (record t { at_receiver = session_on n true }))
sends_ack p t (Some n) true (Some label) holds is_sent in_turn =
    let none : length (t.up n) ≤ 0 =
    omega (arith, in_turn n, few_on (t.stage n), ap {B = ℕ} (λ same. if same then 1 else 0) (itself n))
    in
    ack_goes p (record t { at_receiver = session_on n true }) n label holds is_sent none (is_on t.at_sender.connection n) refl

-- ---- messages that come

-- what an end has is the same connection after a message of it
same_connection : (connection : Option ℕ) (n : ℕ) → is_on connection n ≡ true → Some n ≡ connection
same_connection None n here = absurd (true≢false (sym here))
same_connection (Some m) n here = ap (λ k. Some k) (eqb-true n m here)

frame_seen : (p : Parameters) (t : SessionLink) (n : ℕ) (f : Frame) → slice_get (t.down n) 0 ≡ Some f → (here : Bool)
    → has t.at_receiver n ≡ here
    → Led p (line_of t)
    (line_of (record t {
      down = put t.down n (drop 1 (t.down n));
      receiver = if here then after_frame t.receiver f else t.receiver;
      at_receiver = if here then session_on n true else t.at_receiver;
      delivered = with_taken (here && delivers t.receiver f) t.delivered f.item;
    }))
frame_seen p t n f is_front false other =
    led_to (stays p (line_of t))
    (ap (λ (frames : List Frame). record (line_of t) { frames = frames })
    (sym (other_sent t.at_receiver.connection t.down n (drop 1 (t.down n)) other)))
frame_seen p t n f is_front true here =
    let on : on_it t.at_receiver.connection t.down ≡ t.down n = on_this t.at_receiver.connection t.down n here in
    let after : List Frame → Line = λ frames. record (line_of t) {
      frames = frames;
      receiver = after_frame t.receiver f;
      delivered = with_taken (delivers t.receiver f) t.delivered f.item;
    } in
    record {
      acts = line.frame_comes false ∷ [];
      no_offers = (refl, tt);
      leads =
          ap (λ frames. line_step p (record (line_of t) { frames = frames }) (line.frame_comes false)) on
          ∙ ap (λ front. line.receives_frame false (record (line_of t) { frames = t.down n }) front) is_front
          ∙ ap after (sym (this_sent (Some n) t.down n (drop 1 (t.down n)) (itself n)));
    }

ack_seen : (p : Parameters) (t : SessionLink) (n : ℕ) (label : ℕ) → slice_get (t.up n) 0 ≡ Some label → (here : Bool)
    → has t.at_sender n ≡ here
    → Led p (line_of t)
    (line_of (record t {
      up = put t.up n (drop 1 (t.up n));
      sender = if here then after_ack p t.sender label else t.sender;
      at_sender = if here then session_on n true else t.at_sender;
      acked = if here && acknowledges t.sender label then t.acked + 1 else t.acked;
    }))
ack_seen p t n label is_front false other =
    led_to (stays p (line_of t))
    (ap (λ (acks : List ℕ). record (line_of t) { acks = acks })
    (sym (other_sent t.at_sender.connection t.up n (drop 1 (t.up n)) other)))
ack_seen p t n label is_front true here =
    let on : on_it t.at_sender.connection t.up ≡ t.up n = on_this t.at_sender.connection t.up n here in
    let after : List ℕ → Line = λ acks. record (line_of t) {
      acks = acks;
      sender = after_ack p t.sender label;
      acked = if acknowledges t.sender label then t.acked + 1 else t.acked;
    } in
    record {
      acts = line.ack_comes false ∷ [];
      no_offers = (refl, tt);
      leads =
          ap (λ acks. line_step p (record (line_of t) { acks = acks }) (line.ack_comes false)) on
          ∙ ap (λ front. line.receives_ack p false (record (line_of t) { acks = t.up n }) front) is_front
          ∙ ap after (sym (this_sent (Some n) t.up n (drop 1 (t.up n)) (itself n)));
    }

frame_arrives : (p : Parameters) (t : SessionLink) (n : ℕ) (front : Option Frame) → slice_get (t.down n) 0 ≡ front
    → Led p (line_of t) (line_of (receives_frame t n front))
frame_arrives p t n None is_front = stays p (line_of t)
frame_arrives p t n (Some f) is_front = frame_seen p t n f is_front (has t.at_receiver n) refl

ack_arrives : (p : Parameters) (t : SessionLink) (n : ℕ) (front : Option ℕ) → slice_get (t.up n) 0 ≡ front
    → Led p (line_of t) (line_of (receives_ack p t n front))
ack_arrives p t n None is_front = stays p (line_of t)
ack_arrives p t n (Some label) is_front = ack_seen p t n label is_front (has t.at_sender n) refl

-- ---- messages lost

loses_frame : (p : Parameters) (t : SessionLink) (n place : ℕ) (here : Bool) → is_on t.at_receiver.connection n ≡ here
    → Led p (line_of t) (line_of (record t { down = put t.down n (without place (t.down n)) }))
loses_frame p t n place here there =
    one_act p (with_frames t) t.at_receiver.connection t.down n (without place (t.down n)) (line.frame_lost place) refl here there
    (λ on. ap (with_frames t) (ap (without place) on))

loses_ack : (p : Parameters) (t : SessionLink) (n place : ℕ) (here : Bool) → is_on t.at_sender.connection n ≡ here
    → Led p (line_of t) (line_of (record t { up = put t.up n (without place (t.up n)) }))
loses_ack p t n place here there =
    one_act p (with_acks t) t.at_sender.connection t.up n (without place (t.up n)) (line.ack_lost place) refl here there
    (λ on. ap (with_acks t) (ap (without place) on))

-- ---- each act

pub step_is_led : (p : Parameters) (t : SessionLink) (act : ConnectionAct) → 1 ≤ p.capacity → InTurn t
    → Led p (line_of t) (line_of (connection_step p t act))
step_is_led p t (sender_makes n) holds in_turn = sender_made p t n in_turn (is_unused (t.stage n)) refl
step_is_led p t (receiver_makes n) holds in_turn = receiver_made p t n in_turn (is_unused (t.stage n)) refl
step_is_led p t (stranger_makes by_sender n) holds in_turn = stranger_made p t n by_sender (is_unused (t.stage n))
step_is_led p t (sender_accepts n) holds in_turn = sender_accepted p t n in_turn (is_made false (t.stage n)) refl
step_is_led p t (receiver_accepts n) holds in_turn = receiver_accepted p t n in_turn (is_made true (t.stage n)) refl
step_is_led p t (sender_leaves n) holds in_turn = sender_left p t (has t.at_sender n)
step_is_led p t (receiver_leaves n) holds in_turn = receiver_left p t (has t.at_receiver n)
step_is_led p t frame_sent holds in_turn =
    sends_frame p t t.at_sender.connection t.at_sender.turn (frame_to_send t.sender) holds refl in_turn
step_is_led p t ack_sent holds in_turn =
    sends_ack p t t.at_receiver.connection t.at_receiver.turn (ack_to_send t.receiver) holds refl in_turn
step_is_led p t (frame_comes n) holds in_turn = frame_arrives p t n (slice_get (t.down n) 0) refl
step_is_led p t (ack_comes n) holds in_turn = ack_arrives p t n (slice_get (t.up n) 0) refl
step_is_led p t (frame_lost n place) holds in_turn = loses_frame p t n place (is_on t.at_receiver.connection n) refl
step_is_led p t (ack_lost n place) holds in_turn = loses_ack p t n place (is_on t.at_sender.connection n) refl
step_is_led p t sender_closes holds in_turn =
    record { acts = line.sender_closes ∷ []; no_offers = (refl, tt); leads = refl }
step_is_led p t receiver_closes holds in_turn =
    record { acts = line.receiver_closes ∷ []; no_offers = (refl, tt); leads = refl }

-- ---- runs

line_run_append : (p : Parameters) (l : Line) (first second : List LineAct)
    → line_run p l (first ++ second) ≡ line_run p (line_run p l first) second
line_run_append p l [] second = refl
line_run_append p l (act ∷ first) second = line_run_append p (line_step p l act) first second

-- some acts lead a line from the one state to the other
abbrev IsLineRun : Parameters → Line → Line → Type 0
IsLineRun p before after = (acts : List LineAct) × (line_run p before acts ≡ after)

link_step_is_run : (p : Parameters) (t : SessionLink) (act : LinkAct) → 1 ≤ p.capacity → InTurn t
    → IsLineRun p (line_of t) (line_of (link_step p t act))
link_step_is_run p t (item_offered item) holds in_turn = (line.offer_item item ∷ [], refl)
link_step_is_run p t (happens act) holds in_turn =
    let led = step_is_led p t act holds in_turn in (led.acts, led.leads)

pub run_is_line_run : (p : Parameters) (t : SessionLink) (acts : List LinkAct) → 1 ≤ p.capacity → InTurn t
    → (line_acts : List LineAct) × (line_run p (line_of t) line_acts ≡ line_of (link_run p t acts))
run_is_line_run p t [] holds in_turn = ([], refl)
run_is_line_run p t (act ∷ acts) holds in_turn =
    let (first, leads) = link_step_is_run p t act holds in_turn in
    let (rest, leads_on) = run_is_line_run p (link_step p t act) acts holds (link_step_in_turn p t act in_turn) in
    (first ++ rest, line_run_append p (line_of t) first rest ∙ ap (λ l. line_run p l rest) leads ∙ leads_on)

-- ---- the link law

pub few_frames : (t : SessionLink) → InTurn t → (connection : Option ℕ) → length (on_it connection t.down) ≤ 1
few_frames t in_turn None = omega arith
few_frames t in_turn (Some n) = omega (arith, in_turn n, few_on (t.stage n))

pub few_acks : (t : SessionLink) → InTurn t → (connection : Option ℕ) → length (on_it connection t.up) ≤ 1
few_acks t in_turn None = omega arith
few_acks t in_turn (Some n) = omega (arith, in_turn n, few_on (t.stage n))

pub link_obeys_law : (p : Parameters) (t : SessionLink) (acts : List LinkAct) → AreLawful p → InTurn t
    → let after = link_run p (counted_anew t) acts in
    LinkLaw p.capacity (map (λ f. f.item) (on_it t.at_receiver.connection t.down)) after.offered after.acked after.delivered
link_obeys_law p t acts lawful in_turn =
    let frames : List Frame = on_it t.at_receiver.connection t.down in
    let acks : List ℕ = on_it t.at_sender.connection t.up in
    let holds : 1 ≤ p.capacity = lawful.some_capacity in
    let (line_acts, leads) = run_is_line_run p (counted_anew t) acts holds in_turn in
    subst (λ (l : Line). LinkLaw p.capacity (map (λ f. f.item) frames) l.offered l.acked l.delivered) leads
    (line_obeys_law p frames acks t.sender t.receiver line_acts lawful
    (omega (arith, holds, few_frames t in_turn t.at_receiver.connection)) (omega (arith, holds, few_acks t in_turn t.at_sender.connection)))
