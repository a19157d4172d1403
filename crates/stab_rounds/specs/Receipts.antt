-- How many messages are received for good: those that are there, and do not stay at the front.
-- Source: this project's own.
use Rattle.std.specs.Prelude.{ℕ, ◌+◌, List, [], ◌∷◌, false}
use Rattle.stab_frames.specs.Parameters.{Parameters}
use Rattle.stab_core.specs.declared.event.Event.{Event}
use Rattle.stab_core.specs.declared.event.Event.TheVariants.{RecvFrame, RecvAck}
use Rattle.stab_core.specs.declared.event.Effect.{Effect}
use Rattle.stab_core.specs.declared.event.Effect.TheVariants.{Fresh, Old, Acked, Ignored}
use Rattle.stab_core.specs.LinkState.{LinkState}
use Rattle.stab_core.specs.Step.{step, effect}

-- a message was there
abbrev pub was_there : Effect → ℕ
was_there (Fresh item) = 1
was_there Old = 1
was_there Acked = 1
was_there Ignored = 1
was_there _ = 0

-- a frame is received, and does not stay
abbrev pub frames_by : Parameters → LinkState → Event → ℕ
frames_by p s (RecvFrame false) = was_there (effect p s (RecvFrame false))
frames_by p s e = 0

abbrev pub frames_received : Parameters → LinkState → List Event → ℕ
frames_received p s [] = 0
frames_received p s (e ∷ events) = frames_by p s e + frames_received p (step p s e) events

-- an acknowledgement is received, and does not stay
abbrev pub acks_by : Parameters → LinkState → Event → ℕ
acks_by p s (RecvAck false) = was_there (effect p s (RecvAck false))
acks_by p s e = 0

abbrev pub acks_received : Parameters → LinkState → List Event → ℕ
acks_received p s [] = 0
acks_received p s (e ∷ events) = acks_by p s e + acks_received p (step p s e) events
