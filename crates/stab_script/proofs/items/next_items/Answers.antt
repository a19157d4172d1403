use Rattle.std.proofs.Common.{◌<◌}
use Rattle.stab_script.proofs.items.next_items.Goals as goal

pub returns-clause-value : goal.returns-clause-value
returns-clause-value c =
    let means = rw c.in-Some.is at c.in_ok-items.ensures.value in
    λ depth deep. rw c.from_vec.ensures (means depth deep)
