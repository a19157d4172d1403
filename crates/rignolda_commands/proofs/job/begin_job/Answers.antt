use Rattle.stab_node.proofs.ForCallers.{at_error}
use Rattle.rignolda_commands.specs.Unanswered.{IsUnanswered}
use Rattle.stab_task.specs.declared.command.Task.TheVariants.{Tree}
use Rattle.rignolda_commands.proofs.Unscheduled.{unbegun}
use Rattle.rignolda_commands.proofs.job.begin_job.Goals as goal

pub returns-in_err-begin-clause-fault : goal.returns-in_err-begin-clause-fault
returns-in_err-begin-clause-fault c =
    at_error _ _ (λ fault. IsUnanswered Tree c.args.bytes.now fault) c.from_residual.ensures.1
    (unbegun c.args.bytes.now c.args.its_job.now c.in_err-begin.field-0.0 c.requires c.in_err-begin.ensures.refused)
