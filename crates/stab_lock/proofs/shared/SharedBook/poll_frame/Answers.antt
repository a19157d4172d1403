use Rattle.std.proofs.Common.{refl}
use Rattle.stab_lock.specs.Calls.{polling_frame}
use Rattle.stab_lock.proofs.Reached.{reached_by_receiver}
use Rattle.stab_lock.proofs.shared.SharedBook.poll_frame.Goals as goal

-- the call leads on, or changes nothing
pub invariant_of-self : goal.invariant_of-self
invariant_of-self c =
    reached_by_receiver c.poll_frame.result polling_frame
    (record { book = c.self.inside.book; script = c.self.inside.script; sender = c.self.inside.sender; receiver = c.self.inside.receiver })
    c.poll_frame.new.self _ c.poll_frame.new.acts _ refl c.poll_frame.ensures.book c.poll_frame.ensures.acts c.poll_frame.ensures.unchanged c.poll_frame.ensures.acts_unchanged c.self.invariant
