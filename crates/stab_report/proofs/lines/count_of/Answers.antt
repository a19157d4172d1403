use Rattle.std.proofs.Common.{◌∙◌, ap, None}
use Rattle.stab_report.proofs.Numbers.{acked_last, count_at_end, last_number}
use Rattle.stab_report.proofs.lines.count_of.Goals as goal

pub returns : goal.returns
returns c front acked small is =
    count_at_end c.args.counts.now c.loop-byte.byte-index c.loop-byte.count c.loop-byte-test.false c.loop-byte.invariant
    ∙ ap (λ text. last_number text None) is ∙ acked_last front acked small
