use Rattle.std.proofs.Common.{refl}
use Rattle.stab_lock.specs.Calls.{polling_ack}
use Rattle.stab_lock.proofs.Reached.{reached_by_sender}
use Rattle.stab_lock.proofs.shared.SharedBook.poll_ack.Goals as goal

-- the call leads on, or changes nothing
pub invariant_of-self : goal.invariant_of-self
invariant_of-self c =
    reached_by_sender c.poll_ack.result polling_ack
    (record { book = c.self.inside.book; script = c.self.inside.script; sender = c.self.inside.sender; receiver = c.self.inside.receiver })
    c.poll_ack.new.self _ c.poll_ack.new.acts _ refl c.poll_ack.ensures.book c.poll_ack.ensures.acts c.poll_ack.ensures.unchanged c.poll_ack.ensures.acts_unchanged c.self.invariant
