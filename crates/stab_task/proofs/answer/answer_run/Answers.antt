use Rattle.stab_task.proofs.Unscheduled.{run_failed}
use Rattle.stab_task.proofs.answer.answer_run.Goals as goal

pub returns-in-Ok-clause-fault : goal.returns-in-Ok-clause-fault
returns-in-Ok-clause-fault g c =
    run_failed c.args.links c.args.bytes.now c.run_answer.result c.in-Ok.job c.in-Ok.ensures.job c.run_answer.ensures.reason
