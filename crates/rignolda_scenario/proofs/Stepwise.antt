-- Reading steps one by one.
use Rattle.std.proofs.Common.{◌≡◌, ℕ, zero, suc, ◌<◌, length, drop, get_or, List, [], ◌∷◌, ◌++◌, Result, Ok, Err, refl, ap, sym, ◌∙◌, append_assoc, arith}
use Rattle.serde_json.specs.Data.{item}
use Rattle.serde_json.specs.View.{items_view, view}
use Rattle.serde_json.specs.declared.value.Value.{Value}
use Rattle.stab_frames.specs.Parameters.{Parameters}
use Rattle.stab_json.specs.Checks.{◌>>=◌}
use Rattle.rignolda_scenario.specs.Scenarios.{numbered, steps_after}
use Rattle.stab_tree.specs.Nodes.{Nodes}
use Rattle.rignolda_scenario.specs.declared.fault.ScenarioFault.{ScenarioFault}
use Rattle.rignolda_scenario.specs.declared.step.Step.{Step}

-- these steps, and behind them the others
abbrev pub behind : List Step → Result (List Step) ScenarioFault → Result (List Step) ScenarioFault
behind before (Err fault) = Err fault
behind before (Ok steps) = Ok (before ++ steps)

-- nothing before the others are the others
pub none_before : (r : Result (List Step) ScenarioFault) → r ≡ behind [] r
none_before (Err fault) = refl
none_before (Ok steps) = refl

-- a step more is read
pub one_more : (before : List Step) (r : Result Step ScenarioFault) (step : Step) (others : Result (List Step) ScenarioFault) → r ≡ Ok step
    → behind before (r >>= (λ s. others >>= (λ steps. Ok (s ∷ steps)))) ≡ behind (before ++ step ∷ []) others
one_more before r step (Err fault) is = rw is refl
one_more before r step (Ok steps) is = rw is (ap Ok (sym (append_assoc before (step ∷ []) steps)))

-- what is no step refuses them all
pub no_step : (before : List Step) (r : Result Step ScenarioFault) (fault : ScenarioFault) (others : Result (List Step) ScenarioFault) → r ≡ Err fault
    → behind before (r >>= (λ s. others >>= (λ steps. Ok (s ∷ steps)))) ≡ Err fault
no_step before r fault others is = rw is refl

-- the value at a place, and those behind it
next_value : (vs : List Value) (i : ℕ) (v : Value) → i < length vs → v ≡ get_or vs i v
    → items_view (drop i vs) ≡ item (view v) (items_view (drop (suc i) vs))
next_value [] i v within is = absurd (omega arith)
next_value (x ∷ xs) zero v within is = ap (λ z. item (view z) (items_view xs)) (sym is)
next_value (x ∷ xs) (suc i) v within is = next_value xs i v (omega (arith, within)) is

-- a step more is read of these values
pub one_more_step : (t : Nodes) (params : List Parameters) (before : List Step) (vs : List Value) (i : ℕ) (v : Value) (step : Step)
    → i < length vs → v ≡ get_or vs i v → numbered t params (suc i) (view v) ≡ Ok step
    → behind before (steps_after t params i (items_view (drop i vs)))
    ≡ behind (before ++ step ∷ []) (steps_after t params (suc i) (items_view (drop (suc i) vs)))
one_more_step t params before vs i v step within is read =
    ap (λ ds. behind before (steps_after t params i ds)) (next_value vs i v within is)
    ∙ one_more before (numbered t params (suc i) (view v)) step (steps_after t params (suc i) (items_view (drop (suc i) vs))) read

-- a value that is no step refuses them all
pub no_step_there : (t : Nodes) (params : List Parameters) (before : List Step) (vs : List Value) (i : ℕ) (v : Value) (fault : ScenarioFault)
    → i < length vs → v ≡ get_or vs i v → numbered t params (suc i) (view v) ≡ Err fault
    → behind before (steps_after t params i (items_view (drop i vs))) ≡ Err fault
no_step_there t params before vs i v fault within is read =
    ap (λ ds. behind before (steps_after t params i ds)) (next_value vs i v within is)
    ∙ no_step before (numbered t params (suc i) (view v)) fault (steps_after t params (suc i) (items_view (drop (suc i) vs))) read
