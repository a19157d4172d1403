use Rattle.stab_report.proofs.Schedules.{all_unended, same_text}
use Rattle.stab_report.proofs.laws.trees_are_reports.Goals as goal

pub returns-clause-text : goal.returns-clause-text
returns-clause-text c = same_text

pub returns-clause-unended : goal.returns-clause-unended
returns-clause-unended c = all_unended
