-- Why a scenario has no text.
use Rattle.std.proofs.Common.{◌≡◌, ◌≢◌, ℕ, List, Option, Some, None, Ok, Err, IfSome, inl, inr, refl, sym, subst}
use Rattle.stab_treecore.specs.declared.change_fault.ChangeFault.TheVariants as change
use Rattle.rignolda_scenario.specs.Counts.{IsUnrun}
use Rattle.rignolda_scenario.specs.Scenarios.{scenario}
use Rattle.rignolda_scenario.specs.declared.fault.ScenarioFault.{ScenarioFault}
use Rattle.rignolda_scenario.specs.declared.fault.ScenarioFault.TheVariants as fault
use Rattle.rignolda_scenario.specs.declared.read.Scenario.{Scenario}
use Rattle.stab_task.specs.Loading.{IsLoadFault, IsUnloaded, fault_of_load}
use Rattle.stab_task.specs.declared.fault.CliFault.{CliFault}
use Rattle.stab_task.specs.declared.fault.CliFault.TheVariants as task
use Rattle.stab_task.specs.declared.file.LoadFault.{LoadFault}
use Rattle.stab_task.specs.declared.file.LoadFault.TheVariants as load
use Rattle.rignolda_commands.specs.Told.{IsUntold, steps_refused}
use Rattle.rignolda_commands.specs.declared.fault.CommandFault.TheVariants.{Job}

-- bytes that are no scenario
pub unread : (input : List ℕ) (refusal : ScenarioFault) → (refusal ≢ fault.Memory → scenario input ≡ Err refusal)
    → IsUntold input (steps_refused refusal)
unread input refusal why = inr (refusal, refl, inl why)

-- a scenario that is not run
pub unrun : (input : List ℕ) (its_scenario : Scenario) (refusal : ScenarioFault) → scenario input ≡ Ok its_scenario
    → IsUnrun its_scenario.job its_scenario.steps refusal → IsUntold input (steps_refused refusal)
unrun input its_scenario refusal read why = inr (refusal, refl, inr (record { its_scenario = its_scenario; read = read; unrun = why }))

pub by_load : (input : List ℕ) (why : LoadFault) → IsLoadFault (Some input) why → IsUntold input (Job (fault_of_load why))
by_load input load.Read because = inl tt
by_load input load.TooLong because = inl because
by_load input load.Memory because = inl tt

-- bytes that are not loaded
pub unloaded : (had : Option (List ℕ)) (refusal : CliFault) → IsUnloaded had refusal → IfSome had (λ input. IsUntold input (Job refusal))
unloaded None refusal why = tt
unloaded (Some input) refusal (why, is, because) = subst (λ its_fault. IsUntold input (Job its_fault)) (sym is) (by_load input why because)
