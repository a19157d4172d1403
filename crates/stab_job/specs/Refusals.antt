-- What a job is refused with where a part of it is: with the part's own fault, and with refused
-- memory alone where that is the cause.
-- Source: this project's own.
use Rattle.std.specs.Prelude.{Bool, true, false}
use Rattle.stab_acts.specs.declared.fault.ScriptFault.{ScriptFault}
use Rattle.stab_acts.specs.declared.fault.ScriptFault.TheVariants as script_fault
use Rattle.stab_tree.specs.declared.fault.TreeFault.{TreeFault}
use Rattle.stab_tree.specs.declared.fault.TreeFault.TheVariants as tree_fault
use Rattle.stab_job.specs.declared.fault.JobFault.{JobFault}
use Rattle.stab_job.specs.declared.fault.JobFault.TheVariants.{Json, Tree, Script, Memory}

abbrev pub tree_refused : TreeFault → JobFault
tree_refused tree_fault.Memory = Memory
tree_refused refusal = Tree refusal

abbrev pub script_refused : ScriptFault → JobFault
script_refused script_fault.Memory = Memory
script_refused refusal = Script refusal

-- a fault of a value: not that there is none, and not refused memory as the fault of a part
abbrev pub is_of_value : JobFault → Bool
is_of_value Json = false
is_of_value (Tree tree_fault.Memory) = false
is_of_value (Script script_fault.Memory) = false
is_of_value _ = true
