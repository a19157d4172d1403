use Rattle.rignolda_agent.proofs.Sums.{four_more}
use Rattle.rignolda_agent.proofs.summing.after_four.Goals as goal

pub returns : goal.returns
returns c =
    rw (c.after_4.ensures, c.after_3.ensures, c.after_2.ensures, c.after_1.ensures, c.from-word.ensures)
    (four_more c.args.word c.ranges.word.fits)
