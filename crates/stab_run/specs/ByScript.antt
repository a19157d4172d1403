-- What a report shows of the scripts of its job: of each link of two words, and of each locked
-- link.
-- Example: The root published 7, 8, the link into a begins clean, and its script drops more frames
-- than the job has turns. A report that a received 7 is explained by no steps that keep to the
-- script: they store no frame, so a load shows none. Where the script drops the first frame alone,
-- and the job has 2 turns, one frame is stored at most, so a received 7 at most.
-- Source: this project's own.
use Rattle.std.specs.Prelude.{◌≡◌, ℕ, true, List, ◌++◌, Some}
use Rattle.stab_core.specs.declared.event.Event.{Event}
use Rattle.stab_core.specs.LinkSetup.{LinkSetup}
use Rattle.stab_core.specs.Replay.{initial, replay}
use Rattle.stab_ends.specs.Accounts.{SenderAccount, ReceiverAccount}
use Rattle.stab_ends.specs.Agreement.{Agree}
use Rattle.stab_acts.specs.Scripts.{Acts, receiver_half, sender_half}
use Rattle.stab_job.specs.JobValues.{JobValue, network}
use Rattle.stab_tree.specs.Nodes.{parent_at}
use Rattle.stab_tree.specs.NodeOpenings.{opening_at}
use Rattle.stab_lock.specs.Scripted.{IsNotedUnder}
use Rattle.stab_word.specs.Interleaving.{AnInterleavingExplains}
use Rattle.stab_word.specs.declared.view.SendStep.{SendStep}
use Rattle.stab_word.specs.declared.view.RecvStep.{RecvStep}
use Rattle.stab_node.specs.ByNode.{entry_into, received_at}
use Rattle.stab_node.specs.Work.{HasOffered}
use Rattle.stab_run.specs.LinkKinds.{behind_lock, kind_for, two_words}
use Rattle.stab_run.specs.Reports.{Reported, acked_at}
use Rattle.stab_run.specs.Scripted.{IsLetThrough, ack_stores, frame_stores}
use Rattle.stab_run.specs.declared.links.Links.{Links}
use mathlib.Core.List.{IsPrefix}

-- Some steps of the two ends of the link into a child, interleaved, explain what the report says of
-- it. Each end stored as often as the first acts of its half of this script let it, in their order,
-- and took no more acts than the job has turns. The sender's end offered, in order, all that the
-- parent received, or its last item waits for its acknowledgement.
pub record IsByScript (job : JobValue) (r : Reported) (link : LinkSetup) (script : Acts)
    (child parent : ℕ) : Type 0 where
  pub sent : List SendStep
  pub received : List RecvStep
  pub sender : SenderAccount
  pub receiver : ReceiverAccount
  pub explained : AnInterleavingExplains link sent sender received receiver
  pub frames : IsLetThrough (sender_half script) job.turns (frame_stores sent)
  pub acks : IsLetThrough (receiver_half script) job.turns (ack_stores received)
  pub offers : IsPrefix sender.offered (received_at r.received parent)
  pub offers_all : HasOffered (received_at r.received parent) sender
  pub closed : sender.closed ≡ true
  pub delivers : received_at r.received child
      ≡ opening_at job.openings.lists child ++ receiver.delivered
  pub counts : acked_at r.acked child ≡ Some sender.acked

-- each link of two words is by its own script
abbrev pub AreByScript : Links → JobValue → Reported → Type 0
AreByScript links job r =
    (child parent : ℕ) (link : LinkSetup) (script : Acts)
    → parent_at job.tree.parents child ≡ Some parent
    → entry_into job.tree.parents (network job).links child ≡ Some link
    → entry_into job.tree.parents job.scripts child ≡ Some script
    → kind_for links link.params ≡ two_words
    → IsByScript job r link script child parent

-- Some events explain what the report says of the locked link into a child, and some calls of its
-- two ends noted them, each under the next act of its half of this script.
pub record IsByLockedScript (job : JobValue) (r : Reported) (link : LinkSetup) (script : Acts)
    (child parent : ℕ) : Type 0 where
  pub events : List Event
  pub sender : SenderAccount
  pub receiver : ReceiverAccount
  pub agree : Agree (replay link.params (initial link.start) events) sender receiver
  pub noted : IsNotedUnder link.params link.start script events
  pub offers : IsPrefix sender.offered (received_at r.received parent)
  pub closed : sender.closed ≡ true
  pub delivers : received_at r.received child
      ≡ opening_at job.openings.lists child ++ receiver.delivered
  pub counts : acked_at r.acked child ≡ Some sender.acked

-- each locked link is by its own script
abbrev pub AreByLockedScript : Links → JobValue → Reported → Type 0
AreByLockedScript links job r =
    (child parent : ℕ) (link : LinkSetup) (script : Acts)
    → parent_at job.tree.parents child ≡ Some parent
    → entry_into job.tree.parents (network job).links child ≡ Some link
    → entry_into job.tree.parents job.scripts child ≡ Some script
    → kind_for links link.params ≡ behind_lock
    → IsByLockedScript job r link script child parent
