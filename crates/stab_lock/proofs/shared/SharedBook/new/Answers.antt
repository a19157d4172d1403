use Rattle.std.proofs.Common.{ap}
use Rattle.stab_lock.proofs.Reached.{reached_when_made}
use Rattle.stab_lock.proofs.shared.SharedBook.new.Goals as goal

-- nothing was called before the lock was made
pub invariant_of-result : goal.invariant_of-result
invariant_of-result c =
    let book = c.args.book in
    reached_when_made book.params book.start c.args.script.now book c.in_ok-script.script c.in_ok-script.sender c.in_ok-script.receiver
    (ap (λ history. record book { history = history }) c.requires) c.in_ok-script.ensures.script c.in_ok-script.ensures.sender
    c.in_ok-script.ensures.receiver
