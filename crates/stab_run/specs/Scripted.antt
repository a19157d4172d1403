-- What the ends that a run deals out follow, and what that says of their stores: an end of a link
-- of two words takes the acts of its half of the link's script in their order, one for each frame
-- or acknowledgement that it has to send, and of these no more than the job has turns.
-- Example: Of the acts Drop, Pass, Drop for what goes out the first 2 let one through, the first 3
-- as well, and the first 5 let 3 through, since past the end everything passes. An end that took 5
-- stored 3 frames; of a job with 4 turns it would have stored 2 at most.
-- Source: this project's own.
use Rattle.std.specs.Prelude.{◌≡◌, ◌≤◌, ℕ, zero, suc, ◌+◌, List, [], ◌∷◌}
use Rattle.stab_core.specs.LinkSetup.{LinkSetup}
use Rattle.stab_ends.specs.Accounts.{SenderAccount, ReceiverAccount}
use Rattle.stab_acts.specs.declared.act.OutAct.{OutAct}
use Rattle.stab_acts.specs.declared.act.OutAct.TheVariants.{Pass, Drop, Evict}
use Rattle.stab_acts.specs.Scripts.{Acts, ActsRemaining, after_out, after_outs, out_act}
use Rattle.stab_acts.specs.Scripts.{receiver_half, sender_half}
use Rattle.stab_word.specs.Interleaving.{AnInterleavingExplains}
use Rattle.stab_word.specs.declared.view.SendStep.{SendStep}
use Rattle.stab_word.specs.declared.view.SendStep.TheVariants as send_step
use Rattle.stab_word.specs.declared.view.RecvStep.{RecvStep}
use Rattle.stab_word.specs.declared.view.RecvStep.TheVariants as recv_step
use Rattle.stab_run.specs.AnyEnds.{AnyLinkId}
use Rattle.stab_run.specs.declared.any_send.AnySend.{AnySend}
use Rattle.stab_run.specs.declared.any_send.AnySend.TheVariants as send
use Rattle.stab_run.specs.declared.any_send.AnySendDone.{AnySendDone}
use Rattle.stab_run.specs.declared.any_send.AnySendDone.TheVariants as send_done
use Rattle.stab_run.specs.declared.any_recv.AnyRecv.{AnyRecv}
use Rattle.stab_run.specs.declared.any_recv.AnyRecv.TheVariants as recv
use Rattle.stab_run.specs.declared.any_recv.AnyRecvDone.{AnyRecvDone}
use Rattle.stab_run.specs.declared.any_recv.AnyRecvDone.TheVariants as recv_done

-- what both ends of a link follow: its script, and the turns of its job
pub record LinkPlan : Type 0 where
  pub script : Acts
  pub turns : ℕ

abbrev pub plan : ℕ → Acts → LinkPlan
plan turns script = record { script = script; turns = turns }

-- the link of an end, and what its ends follow
pub record ScriptedLink : Type 0 where
  pub id : AnyLinkId
  pub plan : LinkPlan

-- ---- stores, by acts

-- how many stores an act for what goes out lets through
abbrev pub stored_under : OutAct → ℕ
stored_under Pass = 1
stored_under Drop = 0
stored_under Evict = 1

-- how many stores the first `n` acts of this half let through
abbrev pub let_through : ℕ → ActsRemaining → ℕ
let_through zero half = 0
let_through (suc n) half = stored_under (out_act half.outs) + let_through n (after_out half)

-- how many of these steps store a frame, and an acknowledgement
abbrev pub frame_stores : List SendStep → ℕ
frame_stores [] = 0
frame_stores (send_step.OfferLoad item ∷ steps) = frame_stores steps
frame_stores (send_step.FrameStore f ∷ steps) = suc (frame_stores steps)
frame_stores (send_step.AckLoad word ∷ steps) = frame_stores steps
frame_stores (send_step.CloseStore ∷ steps) = frame_stores steps

abbrev pub ack_stores : List RecvStep → ℕ
ack_stores [] = 0
ack_stores (recv_step.FrameLoad word ∷ steps) = ack_stores steps
ack_stores (recv_step.FrameLook word ∷ steps) = ack_stores steps
ack_stores (recv_step.AckStore label ∷ steps) = suc (ack_stores steps)

-- the first acts of this half let this number of stores through, and there are no more of these
-- acts than turns
pub record IsLetThrough (half : ActsRemaining) (turns stores : ℕ) : Type 0 where
  pub taken : ℕ
  pub few : taken ≤ turns
  pub stored : stores ≡ let_through taken half

-- the same of an end that still takes acts: these are the acts for what goes out that it has left
pub record TakesInOrder (half : ActsRemaining) (most stores : ℕ) (left : List OutAct) : Type 0 where
  pub taken : ℕ
  pub few : taken ≤ most
  pub remain : left ≡ (after_outs taken half).outs
  pub stored : stores ≡ let_through taken half

-- ---- the ends

-- an end of a link of two words has made no step, and has these acts; of a locked link this says
-- nothing
abbrev pub IsNewSend : {R : Type 0} → ActsRemaining → AnySend R → Type 0
IsNewSend half (send.Lock end) = Unit {0}
IsNewSend half (send.Word end) = (end.steps ≡ []) × (end.acts ≡ half)

abbrev pub IsNewRecv : {R : Type 0} → ActsRemaining → AnyRecv R → Type 0
IsNewRecv half (recv.Lock end) = Unit {0}
IsNewRecv half (recv.Word end) = (end.steps ≡ []) × (end.acts ≡ half)

-- an end of a link of two words takes its acts in their order, and has taken at most `most`
abbrev pub SendsInOrder : {R : Type 0} → ActsRemaining → ℕ → AnySend R → Type 0
SendsInOrder half most (send.Lock end) = Unit {0}
SendsInOrder half most (send.Word end) =
    TakesInOrder half most (frame_stores end.steps) end.acts.outs

abbrev pub AnswersInOrder : {R : Type 0} → ActsRemaining → ℕ → AnyRecv R → Type 0
AnswersInOrder half most (recv.Lock end) = Unit {0}
AnswersInOrder half most (recv.Word end) =
    TakesInOrder half most (ack_stores end.steps) end.acts.outs

-- the sender's end and the receiver's end that a run deals out: its link, and its account
pub record ScriptedSendEnd : Type 0 where
  pub link : ScriptedLink
  pub account : SenderAccount

pub record ScriptedRecvEnd : Type 0 where
  pub link : ScriptedLink
  pub account : ReceiverAccount

-- a finished end: its link, its account, and over two words the steps that it made
pub record ScriptedSendFinished : Type 0 where
  pub link : ScriptedLink
  pub account : SenderAccount
  pub steps : List SendStep

pub record ScriptedRecvFinished : Type 0 where
  pub link : ScriptedLink
  pub account : ReceiverAccount
  pub steps : List RecvStep

abbrev pub steps_sent : AnySendDone → List SendStep
steps_sent (send_done.Lock done) = []
steps_sent (send_done.Word done) = done.steps

abbrev pub steps_received : AnyRecvDone → List RecvStep
steps_received (recv_done.Lock done) = []
steps_received (recv_done.Word done) = done.steps

-- both finished ends of a link of two words followed what they have to follow: their steps,
-- interleaved, explain their accounts, and each stored as often as the acts of its half let it
pub record FollowPlans (link : LinkSetup) (send : ScriptedSendFinished)
    (recv : ScriptedRecvFinished) : Type 0 where
  pub explained : AnInterleavingExplains link send.steps send.account recv.steps recv.account
  pub frames : IsLetThrough (sender_half send.link.plan.script) send.link.plan.turns
      (frame_stores send.steps)
  pub acks : IsLetThrough (receiver_half recv.link.plan.script) recv.link.plan.turns
      (ack_stores recv.steps)
