use Rattle.rignolda_agent.proofs.Sums.{twelve_more_zeros}
use Rattle.rignolda_agent.proofs.summing.after_twelve.Goals as goal

pub returns : goal.returns
returns c =
    rw (c.after_12.ensures, c.after_11.ensures, c.after_10.ensures, c.after_9.ensures, c.from-word.ensures)
    (twelve_more_zeros c.args.word c.ranges.word.fits)
