-- A locked link is called different by a book of it, which its own script shows.
use Rattle.stab_acts.specs.Scripts.{Acts}
use Rattle.stab_core.specs.LinkSetup.{LinkSetup}
use Rattle.stab_ends.specs.Accounts.{SenderAccount, ReceiverAccount}
use Rattle.stab_lock.specs.Book.{Book, state_of}
use Rattle.stab_lock.specs.Scripted.{IsBookOf}
use Rattle.stab_lock.specs.Settling.{FirstDiffer}
use Rattle.stab_lock.specs.declared.settle.SettleFault.{SettleFault}
use Rattle.stab_run.specs.Settled.{DifferFromBook}

-- the accounts differ from a book of the link, where they differ from one by its own script
pub from_own_book : (link : LinkSetup) (script : Acts) (book : Book) (send : SenderAccount) (recv : ReceiverAccount) (why : SettleFault)
    → IsBookOf link.params link.start script book → FirstDiffer (state_of book) send recv why → DifferFromBook link send recv why
from_own_book link script book send recv why of_link differ = record { script = script; book = book; of_link = of_link; differ = differ }
