use Rattle.stab_task.proofs.ToldBytes.{told_fault}
use Rattle.stab_task.proofs.run.perform.Goals as goal

pub returns-in-None-clause-bytes_fault : goal.returns-in-None-clause-bytes_fault
returns-in-None-clause-bytes_fault g c = rw c.in-None.is (told_fault c.args.task _ _ c.act.result c.standard.ensures c.act.ensures.fault)
