use Rattle.std.proofs.Common.{refl}
use Rattle.stab_lock.specs.Calls.{closing}
use Rattle.stab_lock.proofs.Reached.{reached_by_book}
use Rattle.stab_lock.proofs.shared.SharedBook.close.Goals as goal

-- the call leads on, or changes nothing
pub invariant_of-self : goal.invariant_of-self
invariant_of-self c =
    reached_by_book c.close.result closing
    (record { book = c.self.inside.book; script = c.self.inside.script; sender = c.self.inside.sender; receiver = c.self.inside.receiver })
    c.close.new.self _ refl c.close.ensures.book c.close.ensures.unchanged c.self.invariant
