use Rattle.std.proofs.Common.{◌≡◌, ◌-◌, ◌++◌, replicate}
use Rattle.stab_rounds.specs.TreePlayed.{act_on}
use Rattle.stab_rounds.proofs.reads.push_times.Given as goal

-- what is there, and what is to come, is all
abbrev pub invariant-times : goal.invariant-times
invariant-times l =
    l.events.items ++ replicate (l.fn.times - l._done) (act_on l.fn.child l.fn.act)
    ≡ l.fn.events.items ++ replicate l.fn.times (act_on l.fn.child l.fn.act)
