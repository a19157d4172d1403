-- A part that is refused refuses its job, and refused memory is reported as that alone.
use Rattle.std.proofs.Common.{◌≡◌, true, refl}
use Rattle.stab_acts.specs.declared.fault.ScriptFault.{ScriptFault}
use Rattle.stab_acts.specs.declared.fault.ScriptFault.TheVariants.{TooLong, RateOutOfRange, Memory}
use Rattle.stab_tree.specs.declared.fault.TreeFault.{TreeFault}
use Rattle.stab_tree.specs.declared.fault.TreeFault.TheVariants as tree_fault
use Rattle.stab_job.specs.Refusals.{tree_refused, script_refused, is_of_value}

-- whatever refuses a script
pub script_fault_is_of_value : (f : ScriptFault) → is_of_value (script_refused f) ≡ true
script_fault_is_of_value TooLong = refl
script_fault_is_of_value RateOutOfRange = refl
script_fault_is_of_value Memory = refl

-- whatever refuses a tree
pub tree_fault_is_of_value : (f : TreeFault) → is_of_value (tree_refused f) ≡ true
tree_fault_is_of_value tree_fault.Shape = refl
tree_fault_is_of_value tree_fault.TooManyNodes = refl
tree_fault_is_of_value tree_fault.BadName = refl
tree_fault_is_of_value tree_fault.SameName = refl
tree_fault_is_of_value tree_fault.UnknownParent = refl
tree_fault_is_of_value tree_fault.NoRoot = refl
tree_fault_is_of_value tree_fault.TwoRoots = refl
tree_fault_is_of_value tree_fault.Cycle = refl
tree_fault_is_of_value tree_fault.Memory = refl
