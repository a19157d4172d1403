-- What names a link of two words, and what its seats show.
-- Source: this project's own.
use Rattle.atomic_table.specs.Seated.{TableId}
use Rattle.stab_core.specs.LinkSetup.{LinkSetup}
use Rattle.stab_word.specs.declared.view.SendView.{SendView}
use Rattle.stab_word.specs.declared.view.RecvView.{RecvView}

-- a link: its table of two words, and its parameters and start
pub record LinkId : Type 0 where
  pub table : TableId
  pub given : LinkSetup

-- the sender's seat and the receiver's: of which table it is, and what its end knows
pub record SeatedSender : Type 0 where
  pub table : TableId
  pub view : SendView

pub record SeatedReceiver : Type 0 where
  pub table : TableId
  pub view : RecvView

-- the link that a seat belongs to
abbrev pub link_of_sender : SeatedSender → LinkId
link_of_sender seat = record { table = seat.table; given = seat.view.given }

abbrev pub link_of_receiver : SeatedReceiver → LinkId
link_of_receiver seat = record { table = seat.table; given = seat.view.given }
