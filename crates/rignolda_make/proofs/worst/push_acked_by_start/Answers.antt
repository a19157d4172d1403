use Rattle.std.proofs.Common.{◌+◌, rules}
use Rattle.rignolda_make.proofs.Counting.{start_on}
use Rattle.rignolda_make.proofs.worst.push_acked_by_start.Goals as goal

pub loop-round-preserved : goal.loop-round-preserved
loop-round-preserved c =
    start_on c.args.events.now c.loop-round.events _ _ c.args.first c.loop-round.round (c.args.first + c.from.result) c.loop-round.invariant
    c.in_ok-push.ensures c.in_ok-push-2.ensures (search rules)
