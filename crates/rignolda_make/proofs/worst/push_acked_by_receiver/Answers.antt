use Rattle.std.proofs.Common.{◌+◌, rules}
use Rattle.rignolda_make.proofs.Counting.{receiver_on}
use Rattle.rignolda_make.proofs.worst.push_acked_by_receiver.Goals as goal

pub loop-round-preserved : goal.loop-round-preserved
loop-round-preserved c =
    receiver_on c.args.events.now c.loop-round.events _ _ _ _ c.args.first c.loop-round.round (c.args.first + c.from.result) c.loop-round.invariant
    c.in_ok-push.ensures c.in_ok-push-2.ensures c.in_ok-push-3.ensures c.in_ok-push-4.ensures (search rules)
