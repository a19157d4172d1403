-- Why a task has no answer, of bytes that a host tells.
use Rattle.std.proofs.Common.{◌≡◌, ◌≢◌, ℕ, List, Option, Some, None, Result, Ok, Err, IfErr, IfSome, subst}
use Rattle.stab_task.specs.Answers.{IsFault}
use Rattle.stab_task.specs.declared.command.Task.{Task}
use Rattle.stab_task.specs.declared.fault.CliFault.{CliFault}
use Rattle.stab_task.specs.declared.fault.CliFault.TheVariants.{Open}

-- where the bytes that are told are those that the reader has, a fault of these is one of those
pub told_fault : {A : Type 0} (task : Task) (had told : Option (List ℕ)) (result : Result A CliFault)
    → IfSome told (λ bytes. had ≡ Some bytes)
    → IfErr result (λ fault. IfSome had (λ input. IsFault task input fault))
    → IfErr result (λ fault. IfSome told (λ input. fault ≢ Open → IsFault task input fault))
told_fault task had told (Ok x) same fault = tt
told_fault task had None (Err f) same fault = tt
told_fault task had (Some bytes) (Err f) same fault =
    λ other. subst (λ o. IfSome o (λ input. IsFault task input f)) same fault
