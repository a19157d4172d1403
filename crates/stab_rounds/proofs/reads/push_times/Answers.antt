use Rattle.std.proofs.Common.{◌+◌, ◌-◌, ◌++◌, ◌∙◌, ap, replicate}
use Rattle.stab_rounds.specs.TreePlayed.{act_on}
use Rattle.stab_rounds.proofs.PlaysReads.{one_of_times}
use Rattle.stab_rounds.proofs.reads.push_times.Goals as goal

pub times-preserved : goal.times-preserved
times-preserved c =
    let e = act_on c.args.child c.args.act in
    ap (λ xs. xs ++ replicate (c.args.times - (c.times._done + 1)) e) c.in_ok-push_act.ensures
    ∙ one_of_times c.times.events.items e c.args.times c.times._done c.times-test.true
    ∙ c.times.invariant
