use Rattle.stab_report.proofs.BelowEnded.{complete_below_ended}
use Rattle.stab_report.proofs.laws.nothing_is_missing_below_ended_nodes.Goals as goal

pub returns : goal.returns
returns c = complete_below_ended
