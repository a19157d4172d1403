use Rattle.stab_line.proofs.Calls.{frame_acts, line_acts, poll_acts, poll_past, publish_acts}
use Rattle.stab_line.proofs.laws.calls_of_nodes_are_acts_of_the_tree.Goals as goal

pub returns-clause-polled : goal.returns-clause-polled
returns-clause-polled c = poll_acts

pub returns-clause-past : goal.returns-clause-past
returns-clause-past c = poll_past

pub returns-clause-received : goal.returns-clause-received
returns-clause-received c = frame_acts

pub returns-clause-published : goal.returns-clause-published
returns-clause-published c = publish_acts

pub returns-clause-on_line : goal.returns-clause-on_line
returns-clause-on_line c = line_acts
