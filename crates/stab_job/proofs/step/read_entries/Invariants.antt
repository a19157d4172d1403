use Rattle.std.proofs.Common.{ℕ, ◌≤◌, ◌<◌, List, length}
use Rattle.stab_job.specs.ScheduleEntries.{NamedAct, named_act}
use Rattle.stab_script.proofs.Entries.{ReadBefore}
use Rattle.stab_job.specs.Steps.{AreKept}
use Rattle.stab_job.proofs.step.read_entries.Given as goal

-- whatever steps the tokens that are left mean, those of which something is kept go before them
abbrev pub invariant-entries : goal.invariant-entries
invariant-entries l =
    (n : ℕ) × (length l.reader ≤ n) × (length l.reader ≤ length l.initial.reader)
    × (acts : List NamedAct) × (AreKept l.keeps l.steps acts)
    × ((depth : ℕ) → 0 < depth → ReadBefore depth named_act (length l.initial.reader) l.initial.reader acts n l.reader)

abbrev pub decreases-entries : goal.decreases-entries
decreases-entries l = length l.reader
