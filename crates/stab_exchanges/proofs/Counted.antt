-- Each completed exchange acknowledges the item that waits.
use Rattle.std.proofs.Common.{◌≡◌, ℕ, ◌+◌, ◌≤◌, ◌==◌, ◌&&◌, not, Bool, true, false, if◌then◌else◌, List, [], ◌∷◌, slice_get, Some, None, Option, is_some, refl, sym, ◌∙◌, ap, subst, arith, eq-eqb, eqb-true, true≢false}
use Rattle.stab_frames.specs.declared.frame.Frame.{Frame}
use Rattle.stab_frames.specs.Parameters.{Parameters}
use Rattle.stab_line.specs.Ends.{SenderEnd, offered_to, acknowledges, after_ack}
use Rattle.stab_line.specs.Session.{has}
use Rattle.stab_line.specs.SessionLink.{SessionLink, LinkAct, link_step, link_run, item_offered, happens, is_unused, is_made, InTurn, on_it, receives_frame, receives_ack}
use Rattle.stab_line.specs.SessionLink.{sender_makes, receiver_makes, stranger_makes, sender_accepts, receiver_accepts, sender_leaves, receiver_leaves, frame_sent, ack_sent, frame_comes, ack_comes, frame_lost, ack_lost, sender_closes, receiver_closes}
use Rattle.stab_line.proofs.Turns.{link_step_in_turn}
use Rattle.stab_exchanges.specs.Exchanges.{Exchange, sending, arrival, answer, exchange_after, exchanged_by, exchanges_from, completed_exchanges}
use Rattle.stab_exchanges.proofs.Underway.{Answers, Kept, Underway, of_front, underway_step}

-- ---- a closed sender stays closed

offer_keeps_closed : (s : SenderEnd) (item : ℕ) (closed : Bool) → (offered_to (record s { closed = closed }) item).closed ≡ false
    → closed ≡ false
offer_keeps_closed s item true is_open = is_open
offer_keeps_closed s item false is_open = refl

ack_keeps_closed : (p : Parameters) (s : SenderEnd) (a : ℕ) (here closed : Bool)
    → (let before : SenderEnd = record s { closed = closed } in if here then after_ack p before a else before).closed ≡ false
    → closed ≡ false
ack_keeps_closed p s a true true is_open = is_open
ack_keeps_closed p s a false true is_open = is_open
ack_keeps_closed p s a here false is_open = refl

frame_keeps_closed : (t : SessionLink) (m : ℕ) (front : Option Frame) → (receives_frame t m front).sender.closed ≡ false → t.sender.closed ≡ false
frame_keeps_closed t m None is_open = is_open
frame_keeps_closed t m (Some f) is_open = is_open

answer_keeps_closed : (p : Parameters) (t : SessionLink) (m : ℕ) (front : Option ℕ)
    → (receives_ack p t m front).sender.closed ≡ false → t.sender.closed ≡ false
answer_keeps_closed p t m None is_open = is_open
answer_keeps_closed p t m (Some a) is_open = ack_keeps_closed p t.sender a (has t.at_sender m) t.sender.closed is_open

-- of two links with the same sender
either_closed : (either : Bool) (t u v : SessionLink) → u.sender ≡ t.sender → v.sender ≡ t.sender
    → (if either then u else v).sender.closed ≡ false → t.sender.closed ≡ false
either_closed true t u v first second is_open = sym (ap (λ (s : SenderEnd). s.closed) first) ∙ is_open
either_closed false t u v first second is_open = sym (ap (λ (s : SenderEnd). s.closed) second) ∙ is_open

pub open_before : (p : Parameters) (t : SessionLink) (act : LinkAct) → (link_step p t act).sender.closed ≡ false → t.sender.closed ≡ false
open_before p t (item_offered item) is_open = offer_keeps_closed t.sender item t.sender.closed is_open
open_before p t (happens (sender_makes m)) is_open = either_closed (is_unused (t.stage m)) t _ t refl refl is_open
open_before p t (happens (receiver_makes m)) is_open = either_closed (is_unused (t.stage m)) t _ t refl refl is_open
open_before p t (happens (stranger_makes by_sender m)) is_open = either_closed (is_unused (t.stage m)) t _ t refl refl is_open
open_before p t (happens (sender_accepts m)) is_open = either_closed (is_made false (t.stage m)) t _ t refl refl is_open
open_before p t (happens (receiver_accepts m)) is_open = either_closed (is_made true (t.stage m)) t _ t refl refl is_open
open_before p t (happens (sender_leaves m)) is_open = is_open
open_before p t (happens (receiver_leaves m)) is_open = is_open
open_before p t (happens frame_sent) is_open = is_open
open_before p t (happens ack_sent) is_open = is_open
open_before p t (happens (frame_comes m)) is_open = frame_keeps_closed t m (slice_get (t.down m) 0) is_open
open_before p t (happens (ack_comes m)) is_open = answer_keeps_closed p t m (slice_get (t.up m) 0) is_open
open_before p t (happens (frame_lost m place)) is_open = is_open
open_before p t (happens (ack_lost m place)) is_open = is_open
open_before p t (happens sender_closes) is_open = absurd (true≢false is_open)
open_before p t (happens receiver_closes) is_open = is_open

pub open_at_first : (p : Parameters) (t : SessionLink) (acts : List LinkAct) → (link_run p t acts).sender.closed ≡ false → t.sender.closed ≡ false
open_at_first p t [] is_open = is_open
open_at_first p t (act ∷ acts) is_open = open_before p t act (open_at_first p (link_step p t act) acts is_open)

-- ---- what is acknowledged

either_more : (either : Bool) (t u v : SessionLink) → t.acked ≤ u.acked → t.acked ≤ v.acked → t.acked ≤ (if either then u else v).acked
either_more true t u v first second = first
either_more false t u v first second = second

frame_more : (t : SessionLink) (m : ℕ) (front : Option Frame) → t.acked ≤ (receives_frame t m front).acked
frame_more t m None = omega arith
frame_more t m (Some f) = omega arith

one_more : (n : ℕ) (waited : Bool) → n ≤ (if waited then n + 1 else n)
one_more n true = omega arith
one_more n false = omega arith

ack_more : (p : Parameters) (t : SessionLink) (m : ℕ) (front : Option ℕ) → t.acked ≤ (receives_ack p t m front).acked
ack_more p t m None = omega arith
ack_more p t m (Some a) = one_more t.acked (has t.at_sender m && acknowledges t.sender a)

-- no act takes an acknowledgement back
never_fewer : (p : Parameters) (t : SessionLink) (act : LinkAct) → t.acked ≤ (link_step p t act).acked
never_fewer p t (item_offered item) = omega arith
never_fewer p t (happens (sender_makes m)) = either_more (is_unused (t.stage m)) t _ t (omega arith) (omega arith)
never_fewer p t (happens (receiver_makes m)) = either_more (is_unused (t.stage m)) t _ t (omega arith) (omega arith)
never_fewer p t (happens (stranger_makes by_sender m)) = either_more (is_unused (t.stage m)) t _ t (omega arith) (omega arith)
never_fewer p t (happens (sender_accepts m)) = either_more (is_made false (t.stage m)) t _ t (omega arith) (omega arith)
never_fewer p t (happens (receiver_accepts m)) = either_more (is_made true (t.stage m)) t _ t (omega arith) (omega arith)
never_fewer p t (happens (sender_leaves m)) = omega arith
never_fewer p t (happens (receiver_leaves m)) = omega arith
never_fewer p t (happens frame_sent) = omega arith
never_fewer p t (happens ack_sent) = omega arith
never_fewer p t (happens (frame_comes m)) = frame_more t m (slice_get (t.down m) 0)
never_fewer p t (happens (ack_comes m)) = ack_more p t m (slice_get (t.up m) 0)
never_fewer p t (happens (frame_lost m place)) = omega arith
never_fewer p t (happens (ack_lost m place)) = omega arith
never_fewer p t (happens sender_closes) = omega arith
never_fewer p t (happens receiver_closes) = omega arith

-- an open sender that holds an item waits for its label
waits : (label : ℕ) (held : Option ℕ) (closed : Bool) (a : ℕ) → closed ≡ false → is_some held ≡ true → a ≡ label
    → acknowledges (record { state = record { label = label; item = held }; closed = closed }) a ≡ true
waits label held closed a is_open holds its_label =
    ap (λ shut. not shut && (is_some held && (a == label))) is_open
    ∙ ap (λ some. some && (a == label)) holds
    ∙ eq-eqb a label its_label

-- the answer that comes on this connection is that of the item which waits
module _ (t : SessionLink) (m n a : ℕ) (is_front : slice_get (t.up m) 0 ≡ Some a) (kept : Kept Answers t n) where
  pub answer_is_known : has t.at_sender m ≡ true → (m == n) ≡ true
      → (is_some t.sender.state.item ≡ true) × (on_it t.at_receiver.connection t.down ≡ []) × (a ≡ t.sender.state.label)
      × (t.receiver.label ≡ t.sender.state.label)
  answer_is_known here same =
      let is : m ≡ n = eqb-true m n same in
      let (holds, gave, none, knows, acks) = kept.1 (subst (λ k. has t.at_sender k ≡ true) is here) in
      let (its_label, known) =
      of_front (λ b. (b ≡ t.sender.state.label) × (t.receiver.label ≡ t.sender.state.label)) (t.up n) a
      (ap (λ k. slice_get (t.up k) 0) (sym is) ∙ is_front) acks
      in
      (holds, none, its_label, known)

  pub is_awaited : t.sender.closed ≡ false → has t.at_sender m ≡ true → (m == n) ≡ true → acknowledges t.sender a ≡ true
  is_awaited is_open here same =
      let (holds, none, its_label, known) = answer_is_known here same in
      waits t.sender.state.label t.sender.state.item t.sender.closed a is_open holds its_label

acknowledges_one : (p : Parameters) (t : SessionLink) (m n : ℕ) (front : Option ℕ) → slice_get (t.up m) 0 ≡ front → Kept Answers t n
    → t.sender.closed ≡ false
    → t.acked + (if (is_some front && has t.at_sender m) && (m == n) then 1 else 0) ≤ (receives_ack p t m front).acked
acknowledges_one p t m n None is_front kept is_open = omega arith
acknowledges_one p t m n (Some a) is_front kept is_open = by_cases (has t.at_sender m) (m == n) refl refl
  where
    by_cases : (here same : Bool) → has t.at_sender m ≡ here → (m == n) ≡ same
        → t.acked + (if (true && here) && same then 1 else 0) ≤ (if here && acknowledges t.sender a then t.acked + 1 else t.acked)
    by_cases false same missing is = omega arith
    by_cases true false here other = omega (arith, one_more t.acked (acknowledges t.sender a))
    by_cases true true here same =
        omega (
          arith,
          ap {B = ℕ} (λ waited. if waited then t.acked + 1 else t.acked) (is_awaited t m n a is_front kept is_open here same),
        )

exchanged_acknowledges : (p : Parameters) (t : SessionLink) (e : Exchange) (act : LinkAct) → Underway e t → t.sender.closed ≡ false
    → t.acked + exchanged_by t e act ≤ (link_step p t act).acked
exchanged_acknowledges p t sending act underway is_open = omega (arith, never_fewer p t act)
exchanged_acknowledges p t (arrival n) act underway is_open = omega (arith, never_fewer p t act)
exchanged_acknowledges p t (answer n) (happens (ack_comes m)) underway is_open =
    acknowledges_one p t m n (slice_get (t.up m) 0) refl underway is_open
exchanged_acknowledges p t (answer n) act underway is_open = omega (arith, never_fewer p t act)

-- as many exchanges as are completed acknowledge as many items
exchanges_acknowledge : (p : Parameters) (t : SessionLink) (e : Exchange) (acts : List LinkAct) → InTurn t → Underway e t
    → (link_run p t acts).sender.closed ≡ false
    → t.acked + exchanges_from p t e acts ≤ (link_run p t acts).acked
exchanges_acknowledge p t e [] in_turn underway is_open = omega arith
exchanges_acknowledge p t e (act ∷ acts) in_turn underway is_open =
    let first = exchanged_acknowledges p t e act underway (open_at_first p t (act ∷ acts) is_open) in
    let rest =
    exchanges_acknowledge p (link_step p t act) (exchange_after t e act) acts (link_step_in_turn p t act in_turn)
    (underway_step p t e act in_turn underway) is_open
    in
    omega (arith, first, rest)

pub completed_acknowledge : (p : Parameters) (t : SessionLink) (acts : List LinkAct) → InTurn t
    → let after = link_run p t acts in
    after.sender.closed ≡ false → t.acked + completed_exchanges p t acts ≤ after.acked
completed_acknowledge p t acts in_turn is_open = exchanges_acknowledge p t sending acts in_turn tt is_open
