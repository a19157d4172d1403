use Rattle.std.proofs.Common.{refl}
use Rattle.stab_lock.specs.Calls.{sending}
use Rattle.stab_lock.proofs.Reached.{reached_by_sender}
use Rattle.stab_lock.proofs.shared.SharedBook.send.Goals as goal

-- the call leads on, or changes nothing
pub invariant_of-self : goal.invariant_of-self
invariant_of-self c =
    reached_by_sender c.send.result sending
    (record { book = c.self.inside.book; script = c.self.inside.script; sender = c.self.inside.sender; receiver = c.self.inside.receiver })
    c.send.new.self _ c.send.new.acts _ refl c.send.ensures.book c.send.ensures.acts c.send.ensures.unchanged c.send.ensures.acts_unchanged c.self.invariant
