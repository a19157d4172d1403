use Rattle.std.proofs.Common.{refl}
use Rattle.stab_lock.specs.Calls.{sending_ack}
use Rattle.stab_lock.proofs.Reached.{reached_by_receiver}
use Rattle.stab_lock.proofs.shared.SharedBook.send_ack.Goals as goal

-- the call leads on, or changes nothing
pub invariant_of-self : goal.invariant_of-self
invariant_of-self c =
    reached_by_receiver c.send_ack.result sending_ack
    (record { book = c.self.inside.book; script = c.self.inside.script; sender = c.self.inside.sender; receiver = c.self.inside.receiver })
    c.send_ack.new.self _ c.send_ack.new.acts _ refl c.send_ack.ensures.book c.send_ack.ensures.acts c.send_ack.ensures.unchanged c.send_ack.ensures.acts_unchanged c.self.invariant
