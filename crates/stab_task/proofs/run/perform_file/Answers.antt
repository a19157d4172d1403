use Rattle.stab_task.proofs.ToldBytes.{told_fault}
use Rattle.stab_task.proofs.run.perform_file.Goals as goal

pub returns-in-Ok-clause-bytes_fault : goal.returns-in-Ok-clause-bytes_fault
returns-in-Ok-clause-bytes_fault g c = told_fault c.args.task _ _ c.act.result c.in-Ok.ensures c.act.ensures.fault
