use Rattle.std.proofs.Common.{ℕ, ◌≤◌, ◌<◌, length}
use Rattle.stab_script.proofs.Entries.{ReadBefore}
use Rattle.rignolda_scenario.specs.NamedSteps.{named_step}
use Rattle.rignolda_scenario.proofs.stream.rest_of_steps.Given as goal

-- whatever steps the tokens that are left mean, those that were read go before them
abbrev pub invariant-steps : goal.invariant-steps
invariant-steps l =
    (n : ℕ) × (length l.reader ≤ n) × (length l.reader ≤ length l.initial.reader)
    × ((depth : ℕ) → 3 < depth → ReadBefore depth named_step (length l.initial.reader) l.initial.reader l.steps n l.reader)

abbrev pub decreases-steps : goal.decreases-steps
decreases-steps l = length l.reader
