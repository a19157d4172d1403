use Rattle.rignolda_agent.proofs.Reported.{reported_covers}
use Rattle.rignolda_agent.proofs.report_laws.reports_speak_for_all_below.Goals as goal

pub returns : goal.returns
returns c = reported_covers
