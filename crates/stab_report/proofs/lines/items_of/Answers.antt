use Rattle.std.proofs.Common.{◌∙◌}
use Rattle.stab_report.proofs.Numbers.{items_at_end, numbers_read}
use Rattle.stab_report.proofs.lines.items_of.Goals as goal

pub returns : goal.returns
returns c numbers shows =
    c.from_vec.ensures ∙ c.in_ok-push_ended-2.ensures
    ∙ items_at_end c.args.line.now c.loop-byte.items.items c.loop-byte.byte-index c.loop-byte.number c.loop-byte-test.false c.loop-byte.invariant
    ∙ numbers_read c.args.line.now numbers shows
