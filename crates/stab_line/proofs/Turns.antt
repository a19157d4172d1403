-- On each connection at most one message is under way or one end has the turn, whatever happens.
use Rattle.std.proofs.Common.{◌≡◌, ℕ, zero, suc, ◌+◌, ◌≤◌, ◌==◌, Bool, true, false, if◌then◌else◌, List, [], ◌∷◌, ◌++◌, length, drop, slice_get, Some, None, Option, refl, sym, ap, arith, eqb-true, true≢false}
use Rattle.std.proofs.lemmas.List.{length_push}
use Rattle.std.proofs.lemmas.Option.{none-some}
use Rattle.stab_frames.specs.declared.frame.Frame.{Frame}
use Rattle.stab_frames.specs.Parameters.{Parameters}
use Rattle.stab_frames.specs.Queue.{without}
use Rattle.stab_line.specs.Ends.{SenderEnd, ReceiverEnd, frame_to_send, ack_to_send}
use Rattle.stab_line.specs.NodeTree.{put}
use Rattle.stab_line.specs.Session.{Session, no_session, session_on, has, sent_now, turn_after, after_message, after_end}
use Rattle.stab_line.specs.SessionLink.{Stage, unused, made, accepted, is_unused, is_made, most_on, SessionLink, ConnectionAct, LinkAct, connection_step, link_step, link_run, item_offered, happens, turn_on, under_way, InTurn, put_on, receives_frame, receives_ack, sender_restarted, receiver_restarted, no_connection}
use Rattle.stab_line.specs.SessionLink.{sender_makes, receiver_makes, stranger_makes, sender_accepts, receiver_accepts, sender_leaves, receiver_leaves, frame_sent, ack_sent, frame_comes, ack_comes, frame_lost, ack_lost, sender_closes, receiver_closes}

-- ---- one end, and one direction of its connection

-- leaving a connection gives no turn
left_turn : (s : Session) (m n : ℕ) → turn_on (after_end s n) m ≤ turn_on s m
left_turn s m n = by_here (has s n)
  where
    by_here : (here : Bool) → turn_on (if here then no_session else s) m ≤ turn_on s m
    by_here true = omega arith
    by_here false = omega arith

-- a message that is lost or dropped makes no list longer
dropped_shorter : {A : Type 0} (xs : List A) → length (drop 1 xs) ≤ length xs
dropped_shorter [] = omega arith
dropped_shorter (x ∷ xs) = omega arith

without_shorter : {A : Type 0} (place : ℕ) (xs : List A) → length (without place xs) ≤ length xs
without_shorter place [] = omega arith
without_shorter zero (x ∷ xs) = omega arith
without_shorter (suc place) (x ∷ xs) = omega (arith, without_shorter place xs)

-- a shorter list on one connection makes none longer
put_shorter : {A : Type 0} (messages : ℕ → List A) (n : ℕ) (entry : List A) → length entry ≤ length (messages n)
    → (m : ℕ) → length (put messages n entry m) ≤ length (messages m)
put_shorter messages n entry shorter m = by_same (m == n) refl
  where
    by_same : (same : Bool) → (m == n) ≡ same → length (if same then entry else messages m) ≤ length (messages m)
    by_same true same = omega (arith, shorter, ap (λ k. length (messages k)) (eqb-true m n same))
    by_same false other = omega arith

-- a front that comes leaves one fewer
one_fewer : {A : Type 0} (xs : List A) (x : A) → slice_get xs 0 ≡ Some x → length (drop 1 xs) + 1 ≤ length xs
one_fewer [] x is_front = absurd (none-some x is_front)
one_fewer (y ∷ xs) x is_front = omega arith

-- who sends gives the turn for the message
sent_keeps : {A : Type 0} (connection : Option ℕ) (turn : Bool) (x : Option A) (messages : ℕ → List A) (m : ℕ)
    → let s : Session = record { connection = connection; turn = turn } in
    length (put_on connection messages (sent_now s x) m) + turn_on (turn_after s (sent_now s x)) m
    ≤ length (messages m) + turn_on s m
sent_keeps None false x messages m = omega arith
sent_keeps None true None messages m = omega arith
sent_keeps None true (Some x) messages m = omega arith
sent_keeps (Some n) false x messages m = omega arith
sent_keeps (Some n) true None messages m = omega arith
sent_keeps (Some n) true (Some x) messages m = by_same (m == n) refl
  where
    by_same : (same : Bool) → (m == n) ≡ same
        → length (if same then messages n ++ x ∷ [] else messages m) + 0 ≤ length (messages m) + (if same then 1 else 0)
    by_same true same =
        omega (arith, length_push (messages n) x, ap (λ k. length (messages k)) (eqb-true m n same))
    by_same false other = omega arith

-- who handles a message takes the turn for it
came_keeps : {A : Type 0} (s : Session) (messages : ℕ → List A) (n m : ℕ) (x : A) → slice_get (messages n) 0 ≡ Some x
    → length (put messages n (drop 1 (messages n)) m) + turn_on (after_message s n) m ≤ length (messages m) + turn_on s m
came_keeps s messages n m x is_front = by_here (has s n)
  where
    by_same : (same : Bool) → (m == n) ≡ same
        → length (if same then drop 1 (messages n) else messages m) + (if same then 1 else 0) ≤ length (messages m) + turn_on s m
    by_same true same =
        omega (arith, one_fewer (messages n) x is_front, ap (λ k. length (messages k)) (eqb-true m n same))
    by_same false other = omega arith

    by_here : (here : Bool)
        → length (put messages n (drop 1 (messages n)) m) + turn_on (if here then session_on n true else s) m
        ≤ length (messages m) + turn_on s m
    by_here true = by_same (m == n) refl
    by_here false = omega (arith, put_shorter messages n (drop 1 (messages n)) (dropped_shorter (messages n)) m)

-- ---- the stages

pub unused_has_none : (s : Stage) → is_unused s ≡ true → most_on s ≡ 0
unused_has_none unused is = refl
unused_has_none (made by_sender) is = refl
unused_has_none accepted is = absurd (true≢false (sym is))

pub made_has_none : (by_sender : Bool) (s : Stage) → is_made by_sender s ≡ true → most_on s ≡ 0
made_has_none by_sender unused is = refl
made_has_none by_sender (made by) is = refl
made_has_none true accepted is = absurd (true≢false (sym is))
made_has_none false accepted is = absurd (true≢false (sym is))

-- nothing is under way on a connection at this stage, and it gets a stage at which this holds
module _ (t : SessionLink) (n : ℕ) (in_turn : InTurn t) (none : most_on (t.stage n) ≡ 0) where
  none_there : (m : ℕ) → (m == n) ≡ true → under_way t m ≤ 0
  none_there m same = omega (arith, in_turn m, ap (λ k. most_on (t.stage k)) (eqb-true m n same), none)

  staged : (next : Stage) (m : ℕ) (same : Bool) → (m == n) ≡ same → under_way t m ≤ most_on (if same then next else t.stage m)
  staged next m true same = omega (arith, none_there m same)
  staged next m false other = in_turn m

  begun_above : (m : ℕ) (same : Bool) → (m == n) ≡ same
      → length (t.down m) + length (t.up m) + ((if same then 1 else 0) + turn_on t.at_receiver m)
      ≤ most_on (if same then accepted else t.stage m)
  begun_above m true same = omega (arith, none_there m same)
  begun_above m false other = omega (arith, in_turn m)

  begun_below : (m : ℕ) (same : Bool) → (m == n) ≡ same
      → length (t.down m) + length (t.up m) + (turn_on t.at_sender m + (if same then 1 else 0))
      ≤ most_on (if same then accepted else t.stage m)
  begun_below m true same = omega (arith, none_there m same)
  begun_below m false other = omega (arith, in_turn m)

sender_made : (t : SessionLink) (n : ℕ) → InTurn t → (new : Bool) → is_unused (t.stage n) ≡ new
    → InTurn (if new then record t { stage = put t.stage n (made true); at_sender = session_on n false } else t)
sender_made t n in_turn false used = in_turn
sender_made t n in_turn true is_new =
    λ m. omega (arith, staged t n in_turn (unused_has_none (t.stage n) is_new) (made true) m (m == n) refl)

receiver_made : (t : SessionLink) (n : ℕ) → InTurn t → (new : Bool) → is_unused (t.stage n) ≡ new
    → InTurn (if new then record t { stage = put t.stage n (made false); at_receiver = session_on n false } else t)
receiver_made t n in_turn false used = in_turn
receiver_made t n in_turn true is_new =
    λ m. omega (arith, staged t n in_turn (unused_has_none (t.stage n) is_new) (made false) m (m == n) refl)

stranger_made : (t : SessionLink) (n : ℕ) (by_sender : Bool) → InTurn t → (new : Bool) → is_unused (t.stage n) ≡ new
    → InTurn (if new then record t { stage = put t.stage n (made by_sender) } else t)
stranger_made t n by_sender in_turn false used = in_turn
stranger_made t n by_sender in_turn true is_new =
    λ m. staged t n in_turn (unused_has_none (t.stage n) is_new) (made by_sender) m (m == n) refl

sender_accepted : (t : SessionLink) (n : ℕ) → InTurn t → (new : Bool) → is_made false (t.stage n) ≡ new
    → InTurn (if new then record t { stage = put t.stage n accepted; at_sender = session_on n true } else t)
sender_accepted t n in_turn false used = in_turn
sender_accepted t n in_turn true is_new =
    λ m. begun_above t n in_turn (made_has_none false (t.stage n) is_new) m (m == n) refl

receiver_accepted : (t : SessionLink) (n : ℕ) → InTurn t → (new : Bool) → is_made true (t.stage n) ≡ new
    → InTurn (if new then record t { stage = put t.stage n accepted; at_receiver = session_on n true } else t)
receiver_accepted t n in_turn false used = in_turn
receiver_accepted t n in_turn true is_new =
    λ m. begun_below t n in_turn (made_has_none true (t.stage n) is_new) m (m == n) refl

-- ---- the acts

frame_in_turn : (t : SessionLink) (n : ℕ) → InTurn t → (front : Option Frame) → slice_get (t.down n) 0 ≡ front
    → InTurn (receives_frame t n front)
frame_in_turn t n in_turn None is_front = in_turn
frame_in_turn t n in_turn (Some f) is_front =
    λ m. omega (arith, in_turn m, came_keeps t.at_receiver t.down n m f is_front)

ack_in_turn : (p : Parameters) (t : SessionLink) (n : ℕ) → InTurn t → (front : Option ℕ) → slice_get (t.up n) 0 ≡ front
    → InTurn (receives_ack p t n front)
ack_in_turn p t n in_turn None is_front = in_turn
ack_in_turn p t n in_turn (Some label) is_front =
    λ m. omega (arith, in_turn m, came_keeps t.at_sender t.up n m label is_front)

pub step_in_turn : (p : Parameters) (t : SessionLink) (act : ConnectionAct) → InTurn t → InTurn (connection_step p t act)
step_in_turn p t (sender_makes n) in_turn = sender_made t n in_turn (is_unused (t.stage n)) refl
step_in_turn p t (receiver_makes n) in_turn = receiver_made t n in_turn (is_unused (t.stage n)) refl
step_in_turn p t (stranger_makes by_sender n) in_turn = stranger_made t n by_sender in_turn (is_unused (t.stage n)) refl
step_in_turn p t (sender_accepts n) in_turn = sender_accepted t n in_turn (is_made false (t.stage n)) refl
step_in_turn p t (receiver_accepts n) in_turn = receiver_accepted t n in_turn (is_made true (t.stage n)) refl
step_in_turn p t (sender_leaves n) in_turn = λ m. omega (arith, in_turn m, left_turn t.at_sender m n)
step_in_turn p t (receiver_leaves n) in_turn = λ m. omega (arith, in_turn m, left_turn t.at_receiver m n)
step_in_turn p t frame_sent in_turn =
    λ m. omega (arith, in_turn m, sent_keeps t.at_sender.connection t.at_sender.turn (frame_to_send t.sender) t.down m)
step_in_turn p t ack_sent in_turn =
    λ m. omega (arith, in_turn m, sent_keeps t.at_receiver.connection t.at_receiver.turn (ack_to_send t.receiver) t.up m)
step_in_turn p t (frame_comes n) in_turn = frame_in_turn t n in_turn (slice_get (t.down n) 0) refl
step_in_turn p t (ack_comes n) in_turn = ack_in_turn p t n in_turn (slice_get (t.up n) 0) refl
step_in_turn p t (frame_lost n place) in_turn =
    λ m. omega (arith, in_turn m, put_shorter t.down n (without place (t.down n)) (without_shorter place (t.down n)) m)
step_in_turn p t (ack_lost n place) in_turn =
    λ m. omega (arith, in_turn m, put_shorter t.up n (without place (t.up n)) (without_shorter place (t.up n)) m)
step_in_turn p t sender_closes in_turn = in_turn
step_in_turn p t receiver_closes in_turn = in_turn

pub link_step_in_turn : (p : Parameters) (t : SessionLink) (act : LinkAct) → InTurn t → InTurn (link_step p t act)
link_step_in_turn p t (item_offered item) in_turn = in_turn
link_step_in_turn p t (happens act) in_turn = step_in_turn p t act in_turn

pub run_in_turn : (p : Parameters) (t : SessionLink) (acts : List LinkAct) → InTurn t → InTurn (link_run p t acts)
run_in_turn p t [] in_turn = in_turn
run_in_turn p t (act ∷ acts) in_turn = run_in_turn p (link_step p t act) acts (link_step_in_turn p t act in_turn)

-- ---- restarts

-- an end without a connection has no turn
pub sender_restart_in_turn : (t : SessionLink) (sender : SenderEnd) → InTurn t → InTurn (sender_restarted t sender)
sender_restart_in_turn t sender in_turn = λ m. omega (arith, in_turn m)

pub receiver_restart_in_turn : (t : SessionLink) (receiver : ReceiverEnd) → InTurn t → InTurn (receiver_restarted t receiver)
receiver_restart_in_turn t receiver in_turn = λ m. omega (arith, in_turn m)

pub nothing_in_turn : (sender : SenderEnd) (receiver : ReceiverEnd) → InTurn (no_connection sender receiver)
nothing_in_turn sender receiver = λ m. omega arith
