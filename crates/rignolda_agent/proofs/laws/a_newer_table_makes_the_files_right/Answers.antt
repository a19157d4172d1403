use Rattle.rignolda_agent.proofs.Rounds.{files_right}
use Rattle.rignolda_agent.proofs.laws.a_newer_table_makes_the_files_right.Goals as goal

pub returns : goal.returns
returns c = files_right
