use Rattle.rignolda_agent.proofs.Sums.{eight_more_zeros}
use Rattle.rignolda_agent.proofs.summing.after_eight.Goals as goal

pub returns : goal.returns
returns c =
    rw (c.after_8.ensures, c.after_7.ensures, c.after_6.ensures, c.after_5.ensures, c.from-word.ensures)
    (eight_more_zeros c.args.word c.ranges.word.fits)
