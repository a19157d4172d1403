use Rattle.stab_c.proofs.Masks.{masked}
use Rattle.stab_c.proofs.node.slot.Goals as goal

pub returns-then-size-mask-eq0-clause-value : goal.returns-then-size-mask-eq0-clause-value
returns-then-size-mask-eq0-clause-value c =
    masked c.args.place c.args.size c.ranges.size.fits c.requires c.if-size-mask-eq0.true
