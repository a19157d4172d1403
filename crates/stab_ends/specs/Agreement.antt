-- When two accounts agree with the state of one link.
-- Example: A sender that closed and a link that is open do not agree, whatever their lists say; a
-- receiver that was not shown the close agrees with a link that is closed.
-- Source: this project's profile.
use Rattle.std.specs.Prelude.{◌≡◌, true}
use Rattle.stab_core.specs.LinkState.{LinkState}
use Rattle.stab_ends.specs.Accounts.{SenderAccount, ReceiverAccount}

-- the sender's closed is the link's, and the receiver's is set only where the link is closed
pub record ClosesAgree (s : LinkState) (sender : SenderAccount) (receiver : ReceiverAccount)
    : Type 0 where
  pub by_sender : sender.closed ≡ s.closed
  pub by_receiver : receiver.closed ≡ true → s.closed ≡ true

-- both accounts are what this state says
pub record Agree (s : LinkState) (sender : SenderAccount) (receiver : ReceiverAccount)
    : Type 0 where
  pub offered : sender.offered ≡ s.offered
  pub acked : sender.acked ≡ s.acked
  pub delivered : receiver.delivered ≡ s.delivered
  pub closed : ClosesAgree s sender receiver
