-- What an end of a locked link shows: its account. The acts that it has still to take are behind
-- the lock. Source: this project's own.
use Rattle.stab_ends.specs.Accounts.{SenderAccount, ReceiverAccount}
use Rattle.stab_lock.specs.declared.send.LockSend.{LockSend}
use Rattle.stab_lock.specs.declared.recv.LockRecv.{LockRecv}

pub record LockSendView : Type 0 where
  pub account : SenderAccount

pub record LockRecvView : Type 0 where
  pub account : ReceiverAccount

abbrev pub send_end : {R : Type 0} → LockSend R → LockSendView
send_end e = record { account = e.account }

abbrev pub recv_end : {R : Type 0} → LockRecv R → LockRecvView
recv_end e = record { account = e.account }
