-- Why bytes have no answer is a fault that their command has.
use Rattle.std.proofs.Common.{ℕ, List, Option, Bool, true, false, inl, inr, sym, subst}
use Rattle.stab_json.specs.Values.{value_of}
use Rattle.stab_treecore.specs.declared.change_fault.ChangeFault.TheVariants.{Begin}
use Rattle.rignolda_scenario.specs.declared.fault.ScenarioFault.{ScenarioFault}
use Rattle.rignolda_scenario.specs.declared.fault.ScenarioFault.TheVariants as scenario
use Rattle.rignolda_commands.specs.Begun.{HasNoBounds}
use Rattle.rignolda_commands.specs.Checked.{IsUnchecked}
use Rattle.rignolda_commands.specs.Commands.{IsFaultOf, Bounds, Check, Judge, Steps}
use Rattle.rignolda_commands.specs.Drawn.{IsUndrawn, IsUndrawnBy, has_steps}
use Rattle.rignolda_commands.specs.Judged.{IsUnjudged}
use Rattle.rignolda_commands.specs.Told.{IsUntold, IsUnreadable, steps_refused}
use Rattle.rignolda_commands.specs.declared.fault.CommandFault.{CommandFault}
use Rattle.rignolda_commands.specs.declared.fault.CommandFault.TheVariants.{Job, LinkJob, Logs, Unloaded, Backlogs, Line, LinkLine}

pub of_bounds : (input : List ℕ) (fault : CommandFault) → HasNoBounds input fault → IsFaultOf Bounds fault
of_bounds input (Job refusal) why = tt
of_bounds input LinkJob why = tt
of_bounds input other why = absurd why

pub of_judge : (input : List ℕ) (fault : CommandFault) → IsUnjudged input fault → IsFaultOf Judge fault
of_judge input (Job refusal) why = tt
of_judge input (Logs refusal) why = tt
of_judge input other why = absurd why

pub of_check : (input : List ℕ) (had : Option (List ℕ)) (fault : CommandFault) → IsUnchecked input had fault → IsFaultOf Check fault
of_check input had (Job refusal) why = tt
of_check input had (Unloaded refusal) why = tt
of_check input had (Backlogs refusal) why = tt
of_check input had (Line line) why = tt
of_check input had (LinkLine line) why = tt
of_check input had other why = absurd why

-- steps that are refused
of_steps_refused : (refusal : ScenarioFault) → IsFaultOf Steps (steps_refused refusal)
of_steps_refused scenario.Memory = tt
of_steps_refused (scenario.Job refusal) = tt
of_steps_refused (scenario.Run (Begin refusal)) = tt
of_steps_refused refusal = tt

of_unreadable : (input : List ℕ) (fault : CommandFault) → IsUnreadable input fault → IsFaultOf Steps fault
of_unreadable input (Job refusal) why = tt
of_unreadable input other why = absurd why

pub of_steps : (input : List ℕ) (fault : CommandFault) → IsUntold input fault → IsFaultOf Steps fault
of_steps input fault (inl why) = of_unreadable input fault why
of_steps input fault (inr (refusal, is, why)) = subst (IsFaultOf Steps) (sym is) (of_steps_refused refusal)

of_drawing : (has : Bool) (input : List ℕ) (fault : CommandFault) → IsUndrawnBy has input fault → IsFaultOf Steps fault
of_drawing true input fault why = of_steps input fault why
of_drawing false input fault (refusal, is, why) = subst (IsFaultOf Steps) (sym is) tt

pub of_draw : (input : List ℕ) (fault : CommandFault) → IsUndrawn input fault → IsFaultOf Steps fault
of_draw input fault why = of_drawing (has_steps (value_of input)) input fault why
