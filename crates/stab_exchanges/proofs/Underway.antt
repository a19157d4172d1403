-- What an exchange waits for is under way on its connection, or never comes, whatever happens.
use Rattle.std.proofs.Common.{◌≡◌, ℕ, ◌+◌, ◌≤◌, ◌==◌, ◌&&◌, not, Bool, true, false, if◌then◌else◌, List, [], ◌∷◌, ◌++◌, length, drop, slice_get, Some, None, Option, is_some, refl, sym, ◌∙◌, ap, subst, arith, eq-eqb, eqb-true, true≢false}
use Rattle.std.specs.List.{AllByRecursion as Each}
use Rattle.std.specs.Option.{option_map_or}
use Rattle.std.proofs.lemmas.Option.{none-some}
use Rattle.stab_frames.specs.declared.frame.Frame.{Frame}
use Rattle.stab_frames.specs.Parameters.{Parameters}
use Rattle.stab_frames.specs.Queue.{without}
use Rattle.stab_core.proofs.InOrder.{Each-in_order, Each-push, in_order_after_front, in_order_without}
use Rattle.stab_line.specs.Ends.{SenderEnd, offered_to, frame_to_send, ack_to_send, after_frame, new_receiver, delivers, after_ack, acknowledges}
use Rattle.stab_line.specs.Line.{with_taken}
use Rattle.stab_line.specs.NodeTree.{put}
use Rattle.stab_line.specs.Session.{Session, no_session, session_on, has, is_on, sent_now, turn_after}
use Rattle.stab_line.specs.SessionLink.{Stage, unused, made, accepted, is_unused, is_made, most_on, SessionLink, LinkAct, link_step, item_offered, happens, turn_on, InTurn, on_it, put_on, receives_frame, receives_ack}
use Rattle.stab_line.specs.SessionLink.{sender_makes, receiver_makes, stranger_makes, sender_accepts, receiver_accepts, sender_leaves, receiver_leaves, frame_sent, ack_sent, frame_comes, ack_comes, frame_lost, ack_lost, sender_closes, receiver_closes}
use Rattle.stab_line.proofs.Exchanges.{itself, put_here, put_one}
use Rattle.stab_line.proofs.Turns.{unused_has_none, made_has_none}
use Rattle.stab_exchanges.specs.Exchanges.{Exchange, sending, arrival, answer, sent_on, exchange_after}

-- ---- the messages of one connection

pub none_left : {A : Type 0} (xs : List A) → length xs ≤ 0 → xs ≡ []
none_left [] none = refl
none_left (x ∷ xs) none = absurd (omega arith)

pub one_left : {A : Type 0} (xs : List A) → length xs ≤ 1 → drop 1 xs ≡ []
one_left [] few = refl
one_left (x ∷ []) few = refl
one_left (x ∷ y ∷ xs) few = absurd (omega arith)

-- what holds of each message holds of the front one
pub of_front : {A : Type 0} (P : A → Type 0) (xs : List A) (x : A) → slice_get xs 0 ≡ Some x → Each P xs → P x
of_front P [] x is_front each = absurd (none-some x is_front)
of_front P (y ∷ xs) x is_front each = subst P (ap (λ o. option_map_or (λ z. z) o y) is_front) each.0

no_front : {A : Type 0} (xs : List A) (x : A) → xs ≡ [] → slice_get xs 0 ≡ Some x → ⊥
no_front xs x none is_front = none-some x (sym (ap (λ ys. slice_get ys 0) none) ∙ is_front)

-- what holds on one connection still holds after a change on any
put_keeps : {A : Type 0} (P : List A → Type 0) (messages : ℕ → List A) (m n : ℕ) (entry : List A)
    → (m ≡ n → P entry) → P (messages n) → P (put messages m entry n)
put_keeps P messages m n entry here there = by_same (n == m) refl
  where
    by_same : (same : Bool) → (n == m) ≡ same → P (if same then entry else messages n)
    by_same true same = here (sym (eqb-true n m same))
    by_same false other = there

module _ {A : Type 0} (messages : ℕ → List A) (m n : ℕ) where
  -- a front is taken, or a message is lost
  front_taken : (P : A → Type 0) → Each P (messages n) → Each P (put messages m (drop 1 (messages m)) n)
  front_taken P each =
      put_keeps (Each P) messages m n (drop 1 (messages m))
      (λ same. Each-in_order P (in_order_after_front false (messages m)) (subst (λ k. Each P (messages k)) (sym same) each))
      each

  one_lost : (P : A → Type 0) (place : ℕ) → Each P (messages n) → Each P (put messages m (without place (messages m)) n)
  one_lost P place each =
      put_keeps (Each P) messages m n (without place (messages m))
      (λ same. Each-in_order P (in_order_without place (messages m)) (subst (λ k. Each P (messages k)) (sym same) each))
      each

  -- and where there is none, there is none then
  none_taken : messages n ≡ [] → put messages m (drop 1 (messages m)) n ≡ []
  none_taken none =
      put_keeps (λ xs. xs ≡ []) messages m n (drop 1 (messages m)) (λ same. ap (drop 1) (ap messages same ∙ none)) none

  none_lost : (place : ℕ) → messages n ≡ [] → put messages m (without place (messages m)) n ≡ []
  none_lost place none =
      put_keeps (λ xs. xs ≡ []) messages m n (without place (messages m)) (λ same. ap (without place) (ap messages same ∙ none)) none

on_it_taken : {A : Type 0} (connection : Option ℕ) (messages : ℕ → List A) (m : ℕ) → on_it connection messages ≡ []
    → on_it connection (put messages m (drop 1 (messages m))) ≡ []
on_it_taken None messages m none = refl
on_it_taken (Some n) messages m none = none_taken messages m n none

on_it_lost : {A : Type 0} (connection : Option ℕ) (messages : ℕ → List A) (m place : ℕ) → on_it connection messages ≡ []
    → on_it connection (put messages m (without place (messages m))) ≡ []
on_it_lost None messages m place none = refl
on_it_lost (Some n) messages m place none = none_lost messages m n place none

-- an end on whose connection nothing is under way hears nothing
hears_none : {A : Type 0} (connection : Option ℕ) (messages : ℕ → List A) (m : ℕ) (x : A) → is_on connection m ≡ true
    → on_it connection messages ≡ [] → slice_get (messages m) 0 ≡ Some x → ⊥
hears_none None messages m x here none is_front = true≢false (sym here)
hears_none (Some k) messages m x here none is_front =
    no_front (messages m) x (ap messages (eqb-true m k here) ∙ none) is_front

-- ---- connections apart from each other

swapped : (m n : ℕ) → (m == n) ≡ false → (n == m) ≡ false
swapped m n other = by_same (n == m) refl
  where
    by_same : (same : Bool) → (n == m) ≡ same → same ≡ false
    by_same true same = absurd (true≢false (sym (eq-eqb m n (sym (eqb-true n m same))) ∙ other))
    by_same false differs = refl

-- a new connection is none that was accepted
new_differs : (t : SessionLink) (test : Stage → Bool) (m n : ℕ) → test accepted ≡ false → t.stage n ≡ accepted
    → test (t.stage m) ≡ true → (n == m) ≡ false
new_differs t test m n never staged is_new = by_same (n == m) refl
  where
    by_same : (same : Bool) → (n == m) ≡ same → same ≡ false
    by_same true same =
        absurd (true≢false (sym is_new ∙ ap (λ k. test (t.stage k)) (sym (eqb-true n m same)) ∙ ap test staged ∙ never))
    by_same false differs = refl

stage_kept : (stages : ℕ → Stage) (m n : ℕ) (next : Stage) → stages n ≡ accepted → (n == m) ≡ false
    → put stages m next n ≡ accepted
stage_kept stages m n next staged other = ap (λ same. if same then next else stages n) other ∙ staged

no_turn : (turn same : Bool) → same ≡ false → let count : ℕ = if turn && same then 1 else 0 in count ≡ 0
no_turn turn true is = absurd (true≢false is)
no_turn true false is = refl
no_turn false false is = refl

not_its_turn : (same : Bool) → (let count : ℕ = if same then 1 else 0 in count ≡ 0) → same ≡ false
not_its_turn true none = absurd (omega (arith, none))
not_its_turn false none = refl

few_on : (s : Stage) → most_on s ≤ 1
few_on unused = omega arith
few_on (made by_sender) = omega arith
few_on accepted = omega arith

some_on : (s : Stage) → 1 ≤ most_on s → s ≡ accepted
some_on unused some = absurd (omega arith)
some_on (made by_sender) some = absurd (omega arith)
some_on accepted some = refl

-- ---- what is under way

-- a frame under the sender's label, or an acknowledgement of it that the receiver remembers
abbrev IsFrameOf : ℕ → Frame → Type 0
IsFrameOf label f = f.label ≡ label

abbrev IsAckOf : ℕ → ℕ → ℕ → Type 0
IsAckOf label remembered a = (a ≡ label) × (remembered ≡ label)

-- The sender holds its item, and nothing but its frame is under way on the connection.
abbrev pub Comes : SessionLink → ℕ → Type 0
Comes t n =
    (is_some t.sender.state.item ≡ true) × (t.at_sender.turn ≡ false) × (t.up n ≡ [])
    × (turn_on t.at_receiver n ≡ 0) × Each (IsFrameOf t.sender.state.label) (t.down n)

-- The sender holds its item, whose label the receiver remembers if it may still answer, and no
-- frame comes to it.
abbrev pub Answers : SessionLink → ℕ → Type 0
Answers t n =
    (is_some t.sender.state.item ≡ true) × (t.at_sender.turn ≡ false)
    × (on_it t.at_receiver.connection t.down ≡ [])
    × (t.receiver.closed ≡ false → t.receiver.label ≡ t.sender.state.label)
    × Each (IsAckOf t.sender.state.label t.receiver.label) (t.up n)

-- The connection was accepted, and so it is as long as the sender's end has it.
abbrev pub Kept : (SessionLink → ℕ → Type 0) → SessionLink → ℕ → Type 0
Kept A t n = (t.stage n ≡ accepted) × (has t.at_sender n ≡ true → A t n)

abbrev pub Underway : Exchange → SessionLink → Type 0
Underway sending t = Unit {0}
Underway (arrival n) t = Kept Comes t n
Underway (answer n) t = Kept Answers t n

-- ---- connections made, accepted and left

sender_begins : (A : SessionLink → ℕ → Type 0) (t : SessionLink) (m n : ℕ) (next : Stage) (turn : Bool) (test : Stage → Bool)
    → test accepted ≡ false → Kept A t n → (new : Bool) → test (t.stage m) ≡ new
    → Kept A (if new then record t { stage = put t.stage m next; at_sender = session_on m turn } else t) n
sender_begins A t m n next turn test never kept false used = kept
sender_begins A t m n next turn test never kept true is_new =
    let other : (n == m) ≡ false = new_differs t test m n never kept.0 is_new in
    (stage_kept t.stage m n next kept.0 other, λ here. absurd (true≢false (sym here ∙ other)))

module _ (t : SessionLink) (m n : ℕ) (next : Stage) (turn : Bool) (test : Stage → Bool) (never : test accepted ≡ false) where
  receiver_begins_before : Kept Comes t n → (new : Bool) → test (t.stage m) ≡ new
      → Kept Comes (if new then record t { stage = put t.stage m next; at_receiver = session_on m turn } else t) n
  receiver_begins_before kept false used = kept
  receiver_begins_before kept true is_new =
      let other : (n == m) ≡ false = new_differs t test m n never kept.0 is_new in (
        stage_kept t.stage m n next kept.0 other,
        λ here. let (holds, gave, none, _, frames) = kept.1 here in
            (holds, gave, none, no_turn turn (n == m) other, frames),
      )

  receiver_begins_after : ((s : Stage) → test s ≡ true → most_on s ≡ 0) → InTurn t → Kept Answers t n → (new : Bool) → test (t.stage m) ≡ new
      → Kept Answers (if new then record t { stage = put t.stage m next; at_receiver = session_on m turn } else t) n
  receiver_begins_after has_none in_turn kept false used = kept
  receiver_begins_after has_none in_turn kept true is_new =
      let other : (n == m) ≡ false = new_differs t test m n never kept.0 is_new in (
        stage_kept t.stage m n next kept.0 other,
        λ here. let (holds, gave, _, knows, acks) = kept.1 here in
            (holds, gave, none_left (t.down m) (omega (arith, in_turn m, has_none (t.stage m) is_new)), knows, acks),
      )

stranger_makes_one : (A : SessionLink → ℕ → Type 0) (t : SessionLink) (m n : ℕ) (next : Stage)
    → ((stages : ℕ → Stage) → A t n → A (record t { stage = stages }) n) → Kept A t n → (new : Bool) → is_unused (t.stage m) ≡ new
    → Kept A (if new then record t { stage = put t.stage m next } else t) n
stranger_makes_one A t m n next beside kept false used = kept
stranger_makes_one A t m n next beside kept true is_new =
    let other : (n == m) ≡ false = new_differs t is_unused m n refl kept.0 is_new in
    (stage_kept t.stage m n next kept.0 other, λ here. beside (put t.stage m next) (kept.1 here))

sender_left : (A : SessionLink → ℕ → Type 0) (t : SessionLink) (n : ℕ) → Kept A t n → (here : Bool)
    → Kept A (record t { at_sender = if here then no_session else t.at_sender }) n
sender_left A t n kept true = (kept.0, λ here. absurd (true≢false (sym here)))
sender_left A t n kept false = kept

receiver_left_before : (t : SessionLink) (n : ℕ) → Kept Comes t n → (here : Bool)
    → Kept Comes (record t { at_receiver = if here then no_session else t.at_receiver }) n
receiver_left_before t n kept true = (
  kept.0,
  λ here. let (holds, gave, none, _, frames) = kept.1 here in (holds, gave, none, refl, frames),
)
receiver_left_before t n kept false = kept

receiver_left_after : (t : SessionLink) (n : ℕ) → Kept Answers t n → (here : Bool)
    → Kept Answers (record t { at_receiver = if here then no_session else t.at_receiver }) n
receiver_left_after t n kept true = (
  kept.0,
  λ here. let (holds, gave, _, knows, acks) = kept.1 here in (holds, gave, refl, knows, acks),
)
receiver_left_after t n kept false = kept

-- ---- messages sent

-- what a sender sends is the frame of the item that it holds
frame_of : (label : ℕ) (item : Option ℕ) (closed : Bool) (f : Frame)
    → frame_to_send (record { state = record { label = label; item = item }; closed = closed }) ≡ Some f
    → (is_some item ≡ true) × (f.label ≡ label)
frame_of label None true f is_sent = absurd (none-some f is_sent)
frame_of label (Some x) true f is_sent = absurd (none-some f is_sent)
frame_of label None false f is_sent = absurd (none-some f is_sent)
frame_of label (Some x) false f is_sent =
    (refl, ap {B = ℕ} (λ o. option_map_or (λ (g : Frame). g.label) o 0) (sym is_sent))

-- and what a receiver sends is the label that it remembers
ack_of : (remembered : ℕ) (closed : Bool) (a : ℕ) → ack_to_send (record { label = remembered; closed = closed }) ≡ Some a
    → (closed ≡ false) × (a ≡ remembered)
ack_of remembered true a is_sent = absurd (none-some a is_sent)
ack_of remembered false a is_sent = (refl, ap {B = ℕ} (λ o. option_map_or (λ b. b) o 0) (sym is_sent))

-- a frame is sent with the turn, and then nothing else is under way
frame_goes : (t : SessionLink) (m : ℕ) (f : Frame) → frame_to_send t.sender ≡ Some f
    → InTurn (record t { at_sender = session_on m true })
    → Kept Comes (record t { down = put t.down m (t.down m ++ f ∷ []); at_sender = session_on m false }) m
frame_goes t m f is_sent in_turn =
    let one : (let count : ℕ = if m == m then 1 else 0 in count ≡ 1) = ap {B = ℕ} (λ same. if same then 1 else 0) (itself m) in
    let staged : t.stage m ≡ accepted = some_on (t.stage m) (omega (arith, in_turn m, one)) in
    let few : most_on (t.stage m) ≤ 1 = few_on (t.stage m) in
    let none_down : t.down m ≡ [] = none_left (t.down m) (omega (arith, in_turn m, one, few)) in
    let none_up : t.up m ≡ [] = none_left (t.up m) (omega (arith, in_turn m, one, few)) in
    let (holds, its_label) = frame_of t.sender.state.label t.sender.state.item t.sender.closed f is_sent in (
      staged,
      λ here. (
        holds,
        refl,
        none_up,
        omega (arith, in_turn m, one, few),
        subst (Each (IsFrameOf t.sender.state.label)) (sym (put_one t.down m f none_down)) (its_label, tt),
      ),
    )

sends_frame : (t : SessionLink) (connection : Option ℕ) (turn : Bool) (x : Option Frame) (e : Exchange)
    → frame_to_send t.sender ≡ x
    → let s : Session = record { connection = connection; turn = turn } in
    InTurn (record t { at_sender = s }) → Underway e (record t { at_sender = s })
    → Underway (option_map_or arrival (sent_on s x) e)
    (record t { down = put_on connection t.down (sent_now s x); at_sender = turn_after s (sent_now s x) })
sends_frame t None false x e is_sent in_turn underway = underway
sends_frame t None true x e is_sent in_turn underway = underway
sends_frame t (Some m) false x e is_sent in_turn underway = underway
sends_frame t (Some m) true None e is_sent in_turn underway = underway
sends_frame t (Some m) true (Some f) e is_sent in_turn underway = frame_goes t m f is_sent in_turn

answers_before : (t : SessionLink) (n : ℕ) (connection : Option ℕ) (turn : Bool) (x : Option ℕ)
    → let s : Session = record { connection = connection; turn = turn } in
    Kept Comes (record t { at_receiver = s }) n
    → Kept Comes (record t { up = put_on connection t.up (sent_now s x); at_receiver = turn_after s (sent_now s x) }) n
answers_before t n None false x kept = kept
answers_before t n None true x kept = kept
answers_before t n (Some m) false x kept = kept
answers_before t n (Some m) true None kept = kept
answers_before t n (Some m) true (Some a) kept = (
  kept.0,
  λ here. let (holds, gave, none, no_turn_here, frames) = kept.1 here in
      let other : (n == m) ≡ false = not_its_turn (n == m) no_turn_here in (
        holds,
        gave,
        put_keeps (λ xs. xs ≡ []) t.up m n (t.up m ++ a ∷ [])
            (λ same. absurd (true≢false (sym (eq-eqb n m (sym same)) ∙ other))) none,
        refl,
        frames,
      ),
)

answers_after : (t : SessionLink) (n : ℕ) (connection : Option ℕ) (turn : Bool) (x : Option ℕ)
    → ack_to_send t.receiver ≡ x
    → let s : Session = record { connection = connection; turn = turn } in
    Kept Answers (record t { at_receiver = s }) n
    → Kept Answers (record t { up = put_on connection t.up (sent_now s x); at_receiver = turn_after s (sent_now s x) }) n
answers_after t n None false x is_sent kept = kept
answers_after t n None true x is_sent kept = kept
answers_after t n (Some m) false x is_sent kept = kept
answers_after t n (Some m) true None is_sent kept = kept
answers_after t n (Some m) true (Some a) is_sent kept = (
  kept.0,
  λ here. let (holds, gave, frames, knows, acks) = kept.1 here in
      let (is_open, its_label) = ack_of t.receiver.label t.receiver.closed a is_sent in
      let P : ℕ → Type 0 = IsAckOf t.sender.state.label t.receiver.label in (
        holds,
        gave,
        frames,
        knows,
        put_keeps (Each P) t.up m n (t.up m ++ a ∷ [])
            (λ same.
            Each-push P (t.up m) a (subst (λ k. Each P (t.up k)) (sym same) acks) (its_label ∙ knows is_open, knows is_open)) acks,
      ),
)

-- ---- messages that come

-- an open receiver remembers the label of a frame that it heard
remembers : (remembered : ℕ) (closed : Bool) (f : Frame)
    → (after_frame (record { label = remembered; closed = closed }) f).closed ≡ false
    → (after_frame (record { label = remembered; closed = closed }) f).label ≡ f.label
remembers remembered true f is_open = absurd (true≢false is_open)
remembers remembered false f is_open = by_same (f.label == remembered) refl
  where
    by_same : (same : Bool) → (f.label == remembered) ≡ same
        → (if not same then new_receiver f.label else new_receiver remembered).label ≡ f.label
    by_same true same = sym (eqb-true f.label remembered same)
    by_same false other = refl

module _ (t : SessionLink) (m n : ℕ) (f : Frame) (is_front : slice_get (t.down m) 0 ≡ Some f) where
  abbrev frame_heard : Bool → SessionLink
  frame_heard here =
      record t {
        down = put t.down m (drop 1 (t.down m));
        receiver = if here then after_frame t.receiver f else t.receiver;
        at_receiver = if here then session_on m true else t.at_receiver;
        delivered = with_taken (here && delivers t.receiver f) t.delivered f.item;
      }

  frame_seen_before : InTurn t → Kept Comes t n → (here same : Bool) → has t.at_receiver m ≡ here → (m == n) ≡ same
      → Underway (if (true && here) && same then answer n else arrival n) (frame_heard here)
  frame_seen_before in_turn kept false same missing is = (
    kept.0,
    λ it. let (holds, gave, none, none_turned, frames) = kept.1 it in
        (holds, gave, none, none_turned, front_taken t.down m n (IsFrameOf t.sender.state.label) frames),
  )
  frame_seen_before in_turn kept true false here other = (
    kept.0,
    λ it. let (holds, gave, none, none_turned, frames) = kept.1 it in
        (holds, gave, none, no_turn true (n == m) (swapped m n other), front_taken t.down m n (IsFrameOf t.sender.state.label) frames),
  )
  frame_seen_before in_turn kept true true here same = (
    kept.0,
    λ it. let (holds, gave, none, none_turned, frames) = kept.1 it in
        let label : ℕ = t.sender.state.label in
        let its_label : f.label ≡ label =
        of_front (IsFrameOf label) (t.down m) f is_front
        (subst (λ k. Each (IsFrameOf label) (t.down k)) (sym (eqb-true m n same)) frames)
        in (
          holds,
          gave,
          put_here t.down m (drop 1 (t.down m)) ∙ one_left (t.down m) (omega (arith, in_turn m, few_on (t.stage m))),
          λ is_open. remembers t.receiver.label t.receiver.closed f is_open ∙ its_label,
          subst (Each (IsAckOf label (after_frame t.receiver f).label)) (sym none) tt,
        ),
  )

  frame_seen_after : Kept Answers t n → (here : Bool) → has t.at_receiver m ≡ here → Kept Answers (frame_heard here) n
  frame_seen_after kept false missing = (
    kept.0,
    λ it. let (holds, gave, none, knows, acks) = kept.1 it in
        (holds, gave, on_it_taken t.at_receiver.connection t.down m none, knows, acks),
  )
  frame_seen_after kept true here = (
    kept.0,
    λ it. let (holds, gave, none, knows, acks) = kept.1 it in
        absurd (hears_none t.at_receiver.connection t.down m f here none is_front),
  )

frame_arrives_before : (t : SessionLink) (m n : ℕ) (front : Option Frame) → slice_get (t.down m) 0 ≡ front → InTurn t → Kept Comes t n
    → Underway (if (is_some front && has t.at_receiver m) && (m == n) then answer n else arrival n) (receives_frame t m front)
frame_arrives_before t m n None is_front in_turn kept = kept
frame_arrives_before t m n (Some f) is_front in_turn kept =
    frame_seen_before t m n f is_front in_turn kept (has t.at_receiver m) (m == n) refl refl

frame_arrives_after : (t : SessionLink) (m n : ℕ) (front : Option Frame) → slice_get (t.down m) 0 ≡ front → Kept Answers t n
    → Kept Answers (receives_frame t m front) n
frame_arrives_after t m n None is_front kept = kept
frame_arrives_after t m n (Some f) is_front kept = frame_seen_after t m n f is_front kept (has t.at_receiver m) refl

module _ (p : Parameters) (t : SessionLink) (m n : ℕ) (a : ℕ) (is_front : slice_get (t.up m) 0 ≡ Some a) where
  abbrev ack_heard : Bool → SessionLink
  ack_heard here =
      record t {
        up = put t.up m (drop 1 (t.up m));
        sender = if here then after_ack p t.sender a else t.sender;
        at_sender = if here then session_on m true else t.at_sender;
        acked = if here && acknowledges t.sender a then t.acked + 1 else t.acked;
      }

  ack_seen_before : Kept Comes t n → (here : Bool) → has t.at_sender m ≡ here → Kept Comes (ack_heard here) n
  ack_seen_before kept false missing = (
    kept.0,
    λ it. let (holds, gave, none, none_turned, frames) = kept.1 it in
        (holds, gave, none_taken t.up m n none, none_turned, frames),
  )
  ack_seen_before kept true here = (
    kept.0,
    λ it. let same : n ≡ m = eqb-true n m it in
        let (holds, gave, none, none_turned, frames) = kept.1 (subst (λ k. has t.at_sender k ≡ true) (sym same) here) in
        absurd (no_front (t.up m) a (ap t.up (sym same) ∙ none) is_front),
  )

  ack_seen_after : Kept Answers t n → (here same : Bool) → has t.at_sender m ≡ here → (m == n) ≡ same
      → Underway (if (true && here) && same then sending else answer n) (ack_heard here)
  ack_seen_after kept false same missing is = (
    kept.0,
    λ it. let (holds, gave, none, knows, acks) = kept.1 it in
        (holds, gave, none, knows, front_taken t.up m n (IsAckOf t.sender.state.label t.receiver.label) acks),
  )
  ack_seen_after kept true false here other =
      (kept.0, λ it. absurd (true≢false (sym it ∙ swapped m n other)))
  ack_seen_after kept true true here same = tt

ack_arrives_before : (p : Parameters) (t : SessionLink) (m n : ℕ) (front : Option ℕ) → slice_get (t.up m) 0 ≡ front → Kept Comes t n
    → Kept Comes (receives_ack p t m front) n
ack_arrives_before p t m n None is_front kept = kept
ack_arrives_before p t m n (Some a) is_front kept = ack_seen_before p t m n a is_front kept (has t.at_sender m) refl

ack_arrives_after : (p : Parameters) (t : SessionLink) (m n : ℕ) (front : Option ℕ) → slice_get (t.up m) 0 ≡ front → Kept Answers t n
    → Underway (if (is_some front && has t.at_sender m) && (m == n) then sending else answer n) (receives_ack p t m front)
ack_arrives_after p t m n None is_front kept = kept
ack_arrives_after p t m n (Some a) is_front kept =
    ack_seen_after p t m n a is_front kept (has t.at_sender m) (m == n) refl refl

-- ---- items offered

-- a sender that holds an item takes no other
holds_on : (label : ℕ) (held : Option ℕ) (closed : Bool) (item : ℕ) → is_some held ≡ true
    → let s : SenderEnd = record { state = record { label = label; item = held }; closed = closed } in
    offered_to s item ≡ s
holds_on label None closed item holds = absurd (true≢false (sym holds))
holds_on label (Some x) true item holds = refl
holds_on label (Some x) false item holds = refl

offered_before : (t : SessionLink) (n item : ℕ) → Kept Comes t n → Kept Comes (record t { sender = offered_to t.sender item }) n
offered_before t n item kept = (
  kept.0,
  λ here. let comes = kept.1 here in
      subst (λ (s : SenderEnd). Comes (record t { sender = s }) n)
      (sym (holds_on t.sender.state.label t.sender.state.item t.sender.closed item comes.0)) comes,
)

offered_after : (t : SessionLink) (n item : ℕ) → Kept Answers t n → Kept Answers (record t { sender = offered_to t.sender item }) n
offered_after t n item kept = (
  kept.0,
  λ here. let answers = kept.1 here in
      subst (λ (s : SenderEnd). Answers (record t { sender = s }) n)
      (sym (holds_on t.sender.state.label t.sender.state.item t.sender.closed item answers.0)) answers,
)

-- ---- each act

lost_before : (t : SessionLink) (n m place : ℕ) → Kept Comes t n
    → Kept Comes (record t { down = put t.down m (without place (t.down m)) }) n
lost_before t n m place kept = (
  kept.0,
  λ here. let (holds, gave, none, none_turned, frames) = kept.1 here in
      (holds, gave, none, none_turned, one_lost t.down m n (IsFrameOf t.sender.state.label) place frames),
)

ack_lost_before : (t : SessionLink) (n m place : ℕ) → Kept Comes t n
    → Kept Comes (record t { up = put t.up m (without place (t.up m)) }) n
ack_lost_before t n m place kept = (
  kept.0,
  λ here. let (holds, gave, none, none_turned, frames) = kept.1 here in
      (holds, gave, none_lost t.up m n place none, none_turned, frames),
)

lost_after : (t : SessionLink) (n m place : ℕ) → Kept Answers t n
    → Kept Answers (record t { down = put t.down m (without place (t.down m)) }) n
lost_after t n m place kept = (
  kept.0,
  λ here. let (holds, gave, none, knows, acks) = kept.1 here in
      (holds, gave, on_it_lost t.at_receiver.connection t.down m place none, knows, acks),
)

ack_lost_after : (t : SessionLink) (n m place : ℕ) → Kept Answers t n
    → Kept Answers (record t { up = put t.up m (without place (t.up m)) }) n
ack_lost_after t n m place kept = (
  kept.0,
  λ here. let (holds, gave, none, knows, acks) = kept.1 here in
      (holds, gave, none, knows, one_lost t.up m n (IsAckOf t.sender.state.label t.receiver.label) place acks),
)

receiver_closed_after : (t : SessionLink) (n : ℕ) → Kept Answers t n
    → Kept Answers (record t { receiver = record { label = t.receiver.label; closed = true } }) n
receiver_closed_after t n kept = (
  kept.0,
  λ here. let (holds, gave, none, knows, acks) = kept.1 here in
      (holds, gave, none, λ is_open. absurd (true≢false is_open), acks),
)

before_step : (p : Parameters) (t : SessionLink) (n : ℕ) (act : LinkAct) → InTurn t → Kept Comes t n
    → Underway (exchange_after t (arrival n) act) (link_step p t act)
before_step p t n (item_offered item) in_turn kept = offered_before t n item kept
before_step p t n (happens (sender_makes m)) in_turn kept =
    sender_begins Comes t m n (made true) false is_unused refl kept (is_unused (t.stage m)) refl
before_step p t n (happens (receiver_makes m)) in_turn kept =
    receiver_begins_before t m n (made false) false is_unused refl kept (is_unused (t.stage m)) refl
before_step p t n (happens (stranger_makes by_sender m)) in_turn kept =
    stranger_makes_one Comes t m n (made by_sender) (λ stages comes. comes) kept (is_unused (t.stage m)) refl
before_step p t n (happens (sender_accepts m)) in_turn kept =
    sender_begins Comes t m n accepted true (is_made false) refl kept (is_made false (t.stage m)) refl
before_step p t n (happens (receiver_accepts m)) in_turn kept =
    receiver_begins_before t m n accepted true (is_made true) refl kept (is_made true (t.stage m)) refl
before_step p t n (happens (sender_leaves m)) in_turn kept = sender_left Comes t n kept (has t.at_sender m)
before_step p t n (happens (receiver_leaves m)) in_turn kept = receiver_left_before t n kept (has t.at_receiver m)
before_step p t n (happens frame_sent) in_turn kept =
    sends_frame t t.at_sender.connection t.at_sender.turn (frame_to_send t.sender) (arrival n) refl in_turn kept
before_step p t n (happens ack_sent) in_turn kept =
    answers_before t n t.at_receiver.connection t.at_receiver.turn (ack_to_send t.receiver) kept
before_step p t n (happens (frame_comes m)) in_turn kept =
    frame_arrives_before t m n (slice_get (t.down m) 0) refl in_turn kept
before_step p t n (happens (ack_comes m)) in_turn kept = ack_arrives_before p t m n (slice_get (t.up m) 0) refl kept
before_step p t n (happens (frame_lost m place)) in_turn kept = lost_before t n m place kept
before_step p t n (happens (ack_lost m place)) in_turn kept = ack_lost_before t n m place kept
before_step p t n (happens sender_closes) in_turn kept = kept
before_step p t n (happens receiver_closes) in_turn kept = kept

after_step : (p : Parameters) (t : SessionLink) (n : ℕ) (act : LinkAct) → InTurn t → Kept Answers t n
    → Underway (exchange_after t (answer n) act) (link_step p t act)
after_step p t n (item_offered item) in_turn kept = offered_after t n item kept
after_step p t n (happens (sender_makes m)) in_turn kept =
    sender_begins Answers t m n (made true) false is_unused refl kept (is_unused (t.stage m)) refl
after_step p t n (happens (receiver_makes m)) in_turn kept =
    receiver_begins_after t m n (made false) false is_unused refl unused_has_none in_turn kept (is_unused (t.stage m)) refl
after_step p t n (happens (stranger_makes by_sender m)) in_turn kept =
    stranger_makes_one Answers t m n (made by_sender) (λ stages answers. answers) kept (is_unused (t.stage m)) refl
after_step p t n (happens (sender_accepts m)) in_turn kept =
    sender_begins Answers t m n accepted true (is_made false) refl kept (is_made false (t.stage m)) refl
after_step p t n (happens (receiver_accepts m)) in_turn kept =
    receiver_begins_after t m n accepted true (is_made true) refl (made_has_none true) in_turn kept (is_made true (t.stage m)) refl
after_step p t n (happens (sender_leaves m)) in_turn kept = sender_left Answers t n kept (has t.at_sender m)
after_step p t n (happens (receiver_leaves m)) in_turn kept = receiver_left_after t n kept (has t.at_receiver m)
after_step p t n (happens frame_sent) in_turn kept =
    sends_frame t t.at_sender.connection t.at_sender.turn (frame_to_send t.sender) (answer n) refl in_turn kept
after_step p t n (happens ack_sent) in_turn kept =
    answers_after t n t.at_receiver.connection t.at_receiver.turn (ack_to_send t.receiver) refl kept
after_step p t n (happens (frame_comes m)) in_turn kept = frame_arrives_after t m n (slice_get (t.down m) 0) refl kept
after_step p t n (happens (ack_comes m)) in_turn kept = ack_arrives_after p t m n (slice_get (t.up m) 0) refl kept
after_step p t n (happens (frame_lost m place)) in_turn kept = lost_after t n m place kept
after_step p t n (happens (ack_lost m place)) in_turn kept = ack_lost_after t n m place kept
after_step p t n (happens sender_closes) in_turn kept = kept
after_step p t n (happens receiver_closes) in_turn kept = receiver_closed_after t n kept

pub underway_step : (p : Parameters) (t : SessionLink) (e : Exchange) (act : LinkAct) → InTurn t → Underway e t
    → Underway (exchange_after t e act) (link_step p t act)
underway_step p t sending (happens frame_sent) in_turn underway =
    sends_frame t t.at_sender.connection t.at_sender.turn (frame_to_send t.sender) sending refl in_turn underway
underway_step p t sending act in_turn underway = tt
underway_step p t (arrival n) act in_turn underway = before_step p t n act in_turn underway
underway_step p t (answer n) act in_turn underway = after_step p t n act in_turn underway
