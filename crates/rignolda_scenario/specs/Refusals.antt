-- What a scenario is refused with where its job is, or where its changes cannot be made: with that
-- fault, and with refused memory alone where that is the cause.
-- Source: this project's own.
use Rattle.stab_core.specs.declared.start.StartFault.TheVariants as start_fault
use Rattle.stab_treecore.specs.declared.change_fault.ChangeFault.{ChangeFault}
use Rattle.stab_treecore.specs.declared.change_fault.ChangeFault.TheVariants as change_fault
use Rattle.stab_job.specs.declared.fault.JobFault.{JobFault}
use Rattle.stab_job.specs.declared.fault.JobFault.TheVariants as job_fault
use Rattle.stab_treecore.specs.declared.fault.RestartFault.TheVariants as restart_fault
use Rattle.stab_treecore.specs.declared.fault.TreeStartFault.TheVariants as tree_fault
use Rattle.stab_treecore.specs.declared.fault.TreeStepFault.TheVariants as step_fault
use Rattle.rignolda_scenario.specs.declared.fault.ScenarioFault.{ScenarioFault}
use Rattle.rignolda_scenario.specs.declared.fault.ScenarioFault.TheVariants.{Job, Memory, Run}

abbrev pub job_refused : JobFault → ScenarioFault
job_refused job_fault.Memory = Memory
job_refused refusal = Job refusal

abbrev pub change_refused : ChangeFault → ScenarioFault
change_refused change_fault.Memory = Memory
change_refused (change_fault.Act step_fault.Memory) = Memory
change_refused (change_fault.Restart restart_fault.Memory) = Memory
change_refused (change_fault.Begin (tree_fault.Start start_fault.Memory)) = Memory
change_refused refusal = Run refusal
