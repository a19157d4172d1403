use Rattle.rignolda_agent.proofs.Histories.{files_stay, never_fall}
use Rattle.rignolda_agent.proofs.laws.nothing_older_is_applied.Goals as goal

pub returns-clause-never : goal.returns-clause-never
returns-clause-never c = never_fall

pub returns-clause-files : goal.returns-clause-files
returns-clause-files c = files_stay
