-- What a call of an end answers, and what it leaves of the end's script and label. What is put into
-- a word goes by the account of the end and the next act of its script. What a load shows is the
-- other end's doing, so there the answer is free, and the rest goes by it.
-- Source: this project's profile.
use Rattle.std.specs.Prelude.{ℕ, ◌+◌, ◌==◌, ◌&&◌, not, Bool, List, [], ◌∷◌, length}
use Rattle.std.specs.Prelude.{if◌then◌else◌}
use Rattle.stab_core.specs.declared.event.Effect.{Effect}
use Rattle.stab_core.specs.declared.event.Effect.TheVariants.{Nothing, Sent}
use Rattle.stab_core.specs.declared.event.Effect.TheVariants.{Acked, Ignored, Lost}
use Rattle.stab_frames.specs.Parameters.{Parameters, next}
use Rattle.stab_ends.specs.Accounts.{SenderAccount}
use Rattle.stab_ends.specs.declared.seen.FrameSeen.{FrameSeen}
use Rattle.stab_ends.specs.declared.seen.FrameSeen.TheVariants as seen
use Rattle.stab_acts.specs.declared.act.OutAct.{OutAct}
use Rattle.stab_acts.specs.declared.act.OutAct.TheVariants.{Pass, Drop, Evict}
use Rattle.stab_acts.specs.Scripts.{ActsRemaining, out_act, after_out, after_in}

-- what is put into a word takes the place of what was there; a drop puts nothing
abbrev pub put_under : OutAct → Effect
put_under Pass = Sent
put_under Drop = Lost
put_under Evict = Sent

-- the answer of an end that puts something where this test holds, and the acts that remain
abbrev pub put_where : Bool → ActsRemaining → Effect
put_where test acts = if test then put_under (out_act acts.outs) else Nothing

abbrev pub acts_put_where : Bool → ActsRemaining → ActsRemaining
acts_put_where test acts = if test then after_out acts else acts

-- its steps: what is put into a word is one store, and what is dropped is none
abbrev pub steps_under : {S : Type 0} → OutAct → S → List S
steps_under Pass store = store ∷ []
steps_under Drop store = []
steps_under Evict store = store ∷ []

abbrev pub steps_where : {S : Type 0} → Bool → ActsRemaining → S → List S
steps_where test acts store = if test then steps_under (out_act acts.outs) store else []

-- the end did not close the link, and its last item waits for an acknowledgement
abbrev pub has_frame : SenderAccount → Bool
has_frame s = not s.closed && (length s.offered == s.acked + 1)

-- the sender goes on to the next label where its item is acknowledged
abbrev pub label_after_effect : Parameters → ℕ → Effect → ℕ
label_after_effect p label Acked = next p label
label_after_effect p label _ = label

-- an acknowledgement that is shown takes an act; an empty word takes none
abbrev pub acts_after_effect : ActsRemaining → Effect → ActsRemaining
acts_after_effect acts Acked = after_in acts
acts_after_effect acts Ignored = after_in acts
acts_after_effect acts _ = acts

-- a frame that is shown takes an act; an empty word and the close take none
abbrev pub acts_after_seen : ActsRemaining → FrameSeen → ActsRemaining
acts_after_seen acts seen.Old = after_in acts
acts_after_seen acts (seen.Fresh item) = after_in acts
acts_after_seen acts _ = acts
