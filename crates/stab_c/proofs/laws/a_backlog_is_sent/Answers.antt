use Rattle.stab_c.proofs.Backlogs.{backlog_is_sent}
use Rattle.stab_c.proofs.laws.a_backlog_is_sent.Goals as goal

pub returns : goal.returns
returns c = backlog_is_sent
