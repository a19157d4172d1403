use Rattle.stab_line.proofs.Passes.{pass_takes_one}
use Rattle.stab_line.proofs.progress_laws.each_pass_shortens_the_backlogs.Goals as goal

pub returns : goal.returns
returns c = pass_takes_one
