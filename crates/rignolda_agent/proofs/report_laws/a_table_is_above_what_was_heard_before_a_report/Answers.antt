use Rattle.rignolda_agent.proofs.GoneAbove.{behind_what_came, publisher_goes}
use Rattle.rignolda_agent.proofs.report_laws.a_table_is_above_what_was_heard_before_a_report.Goals as goal

pub returns-clause-goes : goal.returns-clause-goes
returns-clause-goes c = publisher_goes

pub returns-clause-above : goal.returns-clause-above
returns-clause-above c = behind_what_came
