-- What it means that a link is settled with the accounts of its two finished ends.
-- Example: The sender's end offered 7 and closed, the receiver's end received 7, and nothing is
-- acknowledged. The events `["offer", 7]`, `"send_frame"`, `"recv_frame"`, `"close"` explain both
-- accounts over a clean link. Where the receiver's end received 9, no events explain them.
-- Source: this project's own.
use Rattle.std.specs.Prelude.{List}
use Rattle.stab_acts.specs.Scripts.{Acts}
use Rattle.stab_core.specs.declared.event.Event.{Event}
use Rattle.stab_core.specs.LinkSetup.{LinkSetup}
use Rattle.stab_core.specs.Replay.{initial, replay}
use Rattle.stab_ends.specs.Accounts.{SenderAccount, ReceiverAccount}
use Rattle.stab_ends.specs.Agreement.{Agree}
use Rattle.stab_lock.specs.Book.{Book, state_of}
use Rattle.stab_lock.specs.Scripted.{IsBookOf, IsNotedUnder}
use Rattle.stab_lock.specs.Settling.{FirstDiffer}
use Rattle.stab_lock.specs.declared.settle.SettleFault.{SettleFault}

-- one list of events explains the accounts of both ends of a link
pub record IsSettled (link : LinkSetup) (send : SenderAccount) (recv : ReceiverAccount)
    : Type 0 where
  pub events : List Event
  pub agree : Agree (replay link.params (initial link.start) events) send recv

-- one list of events explains the accounts of both ends of a locked link, and some calls of the
-- ends noted it, each under the next act of its half of this script
pub record IsSettledByScript (link : LinkSetup) (script : Acts) (send : SenderAccount)
    (recv : ReceiverAccount) : Type 0 where
  pub events : List Event
  pub agree : Agree (replay link.params (initial link.start) events) send recv
  pub noted : IsNotedUnder link.params link.start script events

-- the accounts differ in this from a book of a locked link, whose history is by some script
pub record DifferFromBook (link : LinkSetup) (send : SenderAccount) (recv : ReceiverAccount)
    (why : SettleFault) : Type 0 where
  pub script : Acts
  pub book : Book
  pub of_link : IsBookOf link.params link.start script book
  pub differ : FirstDiffer (state_of book) send recv why
