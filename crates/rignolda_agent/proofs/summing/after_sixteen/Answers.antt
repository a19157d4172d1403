use Rattle.rignolda_agent.proofs.Sums.{sixteen_more_zeros}
use Rattle.rignolda_agent.proofs.summing.after_sixteen.Goals as goal

pub returns : goal.returns
returns c =
    rw (c.after_16.ensures, c.after_15.ensures, c.after_14.ensures, c.after_13.ensures, c.from-word.ensures)
    (sixteen_more_zeros c.args.word c.ranges.word.fits)
