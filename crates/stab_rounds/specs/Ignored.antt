-- What a sender alone can notice: acknowledgements that are ignored while one item waits, on a line
-- that repeats nothing, whose receiver answers each frame that it takes at most once, and sends
-- nothing else.
-- Source: this project's own.
use Rattle.std.specs.Prelude.{ℕ, ◌+◌, ◌≤◌, max, List, [], ◌∷◌, true, false}
use Rattle.stab_frames.specs.Parameters.{Parameters}
use Rattle.stab_core.specs.declared.event.Event.{Event}
use Rattle.stab_core.specs.declared.event.Event.TheVariants.{RecvFrame, SendAck, RecvAck}
use Rattle.stab_core.specs.declared.event.Effect.{Effect}
use Rattle.stab_core.specs.declared.event.Effect.TheVariants.{Ignored}
use Rattle.stab_core.specs.LinkState.{LinkState}
use Rattle.stab_core.specs.Step.{step, effect}
use Rattle.stab_rounds.specs.Receipts.{frames_by}

-- the answers that the receiver owes after an event: one after a frame that it takes, and none
-- after an answer
abbrev pub owed_after : Parameters → ℕ → LinkState → Event → ℕ
owed_after p owed s (RecvFrame false) = max owed (frames_by p s (RecvFrame false))
owed_after p owed s SendAck = 0
owed_after p owed s e = owed

-- an answer comes only where one is owed, and nothing is repeated
abbrev pub MayCome : ℕ → Event → Type 0
MayCome owed SendAck = 1 ≤ owed
MayCome owed (RecvFrame true) = ⊥
MayCome owed (RecvAck true) = ⊥
MayCome owed e = Unit {0}

-- the same of all these events
abbrev pub AnswersOnce : Parameters → ℕ → LinkState → List Event → Type 0
AnswersOnce p owed s [] = Unit {0}
AnswersOnce p owed s (e ∷ events) =
    MayCome owed e × AnswersOnce p (owed_after p owed s e) (step p s e) events

-- one for an acknowledgement that is ignored
abbrev pub is_ignored : Effect → ℕ
is_ignored Ignored = 1
is_ignored _ = 0

-- the acknowledgements that are ignored
abbrev pub ignored_among : Parameters → LinkState → List Event → ℕ
ignored_among p s [] = 0
ignored_among p s (e ∷ events) = is_ignored (effect p s e) + ignored_among p (step p s e) events
