use Rattle.stab_line.proofs.StartLaws.{sender_restart_obeys, receiver_restart_obeys, both_restart_obeys}
use Rattle.stab_line.proofs.session_laws.few_are_missing_after_a_restart.Goals as goal

pub returns-clause-of_the_sender : goal.returns-clause-of_the_sender
returns-clause-of_the_sender c = sender_restart_obeys

pub returns-clause-of_the_receiver : goal.returns-clause-of_the_receiver
returns-clause-of_the_receiver c = receiver_restart_obeys

pub returns-clause-of_both : goal.returns-clause-of_both
returns-clause-of_both c = both_restart_obeys
