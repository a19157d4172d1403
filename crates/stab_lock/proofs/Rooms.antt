-- A queue whose front was lost, or which is empty, has room: so what is put into it is sent.
use Rattle.std.proofs.Common.{◌≡◌, ℕ, ◌+◌, ◌≤◌, true, false, List, [], ◌∷◌, length, refl, nat_lt}
use Rattle.std.proofs.Common.{rules}
use Rattle.stab_frames.specs.Parameters.{Parameters, AreLawful}
use Rattle.stab_frames.specs.Queue.{without}
use Rattle.stab_core.specs.declared.event.Event.TheVariants.{SendFrame, SendAck, LoseFrame, LoseAck}
use Rattle.stab_core.specs.declared.event.Effect.TheVariants.{Sent}
use Rattle.stab_core.specs.LinkState.{LinkState, is_idle, is_holding}
use Rattle.stab_core.specs.Step.{step, effect}

-- a queue that lost its front has room
room_without_front : {A : Type 0} (capacity : ℕ) (entries : List A) → 1 ≤ capacity
    → length entries ≤ capacity → nat_lt (length (without 0 entries)) capacity ≡ true
room_without_front capacity [] some within = search rules
room_without_front capacity (x ∷ xs) some within = search rules

-- an open link that is not idle is holding
pub holds : (s : LinkState) → is_idle s ≡ false → s.acked ≤ length s.offered
    → length s.offered ≤ s.acked + 1 → is_holding s ≡ true
holds s busy acked waits = search rules

-- after the front frame was lost, a frame is sent
pub frame_sent_after_loss : (p : Parameters) (s : LinkState) → s.closed ≡ false
    → is_idle s ≡ false → s.acked ≤ length s.offered → length s.offered ≤ s.acked + 1
    → AreLawful p → length s.frames ≤ p.capacity
    → effect p (step p s (LoseFrame 0)) SendFrame ≡ Sent
frame_sent_after_loss p s still busy acked waits lawful within =
    let room = room_without_front p.capacity s.frames lawful.some_capacity within in
    rw (still, holds s busy acked waits, room) refl

-- after the front acknowledgement was lost, an acknowledgement is sent
pub ack_sent_after_loss : (p : Parameters) (s : LinkState) → s.closed ≡ false
    → AreLawful p → length s.acks ≤ p.capacity → effect p (step p s (LoseAck 0)) SendAck ≡ Sent
ack_sent_after_loss p s still lawful within =
    rw (still, room_without_front p.capacity s.acks lawful.some_capacity within) refl
