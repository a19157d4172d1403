use Rattle.std.proofs.Common.{refl}
use Rattle.stab_line.proofs.SessionNames.{frame_named, ack_named, left_named, sent_named}
use Rattle.stab_line.proofs.session_laws.numbers_may_mean_any_connections.Goals as goal

pub returns-clause-frame : goal.returns-clause-frame
returns-clause-frame c = frame_named

pub returns-clause-ack : goal.returns-clause-ack
returns-clause-ack c = ack_named

pub returns-clause-left : goal.returns-clause-left
returns-clause-left c = left_named

pub returns-clause-begun : goal.returns-clause-begun
returns-clause-begun c = λ name k turn. refl

pub returns-clause-sent : goal.returns-clause-sent
returns-clause-sent c = sent_named
