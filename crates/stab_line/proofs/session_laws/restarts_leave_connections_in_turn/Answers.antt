use Rattle.stab_line.proofs.Turns.{sender_restart_in_turn, receiver_restart_in_turn, nothing_in_turn}
use Rattle.stab_line.proofs.SessionLines.{few_frames, few_acks}
use Rattle.stab_line.proofs.session_laws.restarts_leave_connections_in_turn.Goals as goal

pub returns-clause-of_the_sender : goal.returns-clause-of_the_sender
returns-clause-of_the_sender c = sender_restart_in_turn

pub returns-clause-of_the_receiver : goal.returns-clause-of_the_receiver
returns-clause-of_the_receiver c = receiver_restart_in_turn

pub returns-clause-of_both : goal.returns-clause-of_both
returns-clause-of_both c = nothing_in_turn

pub returns-clause-few_frames : goal.returns-clause-few_frames
returns-clause-few_frames c = λ t in_turn. few_frames t in_turn t.at_receiver.connection

pub returns-clause-few_acks : goal.returns-clause-few_acks
returns-clause-few_acks c = λ t in_turn. few_acks t in_turn t.at_sender.connection
