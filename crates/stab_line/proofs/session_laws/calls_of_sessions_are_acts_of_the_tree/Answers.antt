use Rattle.stab_line.proofs.SessionCalls.{poll_acts, frame_acts, ack_acts}
use Rattle.stab_line.proofs.session_laws.calls_of_sessions_are_acts_of_the_tree.Goals as goal

pub returns-clause-polled : goal.returns-clause-polled
returns-clause-polled c = poll_acts

pub returns-clause-received : goal.returns-clause-received
returns-clause-received c = frame_acts

pub returns-clause-acknowledged : goal.returns-clause-acknowledged
returns-clause-acknowledged c = ack_acts
