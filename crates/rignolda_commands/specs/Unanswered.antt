-- Why some bytes have no answer by a task of `stab`, where nothing of one was to be written yet: so
-- it is never that writing failed.
-- Example: Bytes that are no JSON have no answer by `stab tree` because they are none; and writing
-- is the reason for no bytes.
-- Source: this project's own.
use Rattle.std.specs.Prelude.{ℕ, List}
use Rattle.stab_task.specs.Answers.{IsFault}
use Rattle.stab_task.specs.declared.command.Task.{Task}
use Rattle.stab_task.specs.declared.fault.CliFault.{CliFault}
use Rattle.stab_task.specs.declared.fault.CliFault.TheVariants.{Write}

abbrev pub IsUnanswered : Task → List ℕ → CliFault → Type 0
IsUnanswered task input Write = ⊥
IsUnanswered task input fault = IsFault task input fault
