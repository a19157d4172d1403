-- The first thing in which two accounts differ from the state of one link.
-- Example: A sender whose account is open and a link that is closed: the lists and the count are
-- compared before, so `ClosedDiffer` is the difference only where those agree.
-- Source: this project's profile.
use Rattle.std.specs.Prelude.{◌≡◌, ◌≢◌}
use Rattle.stab_core.specs.LinkState.{LinkState}
use Rattle.stab_ends.specs.Accounts.{SenderAccount, ReceiverAccount}
use Rattle.stab_ends.specs.Agreement.{ClosesAgree}
use Rattle.stab_lock.specs.declared.settle.SettleFault.{SettleFault}
use Rattle.stab_lock.specs.declared.settle.SettleFault.TheVariants.{OfferedDiffer, AckedDiffer}
use Rattle.stab_lock.specs.declared.settle.SettleFault.TheVariants.{DeliveredDiffer, ClosedDiffer}

-- this is the first thing in which the accounts differ from the state
abbrev pub FirstDiffer : LinkState → SenderAccount → ReceiverAccount → SettleFault → Type 0
FirstDiffer s sender receiver OfferedDiffer = sender.offered ≢ s.offered
FirstDiffer s sender receiver AckedDiffer = (sender.offered ≡ s.offered) × (sender.acked ≢ s.acked)
FirstDiffer s sender receiver DeliveredDiffer =
    (sender.offered ≡ s.offered) × (sender.acked ≡ s.acked) × (receiver.delivered ≢ s.delivered)
FirstDiffer s sender receiver ClosedDiffer =
    (sender.offered ≡ s.offered) × (sender.acked ≡ s.acked) × (receiver.delivered ≡ s.delivered)
    × ¬ ClosesAgree s sender receiver
