use Rattle.std.proofs.Common.{◌≡◌, ◌-◌, []}
use Rattle.rignolda_agent.specs.Reading.{entries_at}
use Rattle.rignolda_agent.specs.Seen.{rest_of}
use Rattle.rignolda_agent.proofs.reading.after_entries.Given as goal

abbrev pub invariant-loop : goal.invariant-loop
invariant-loop l =
    rest_of (entries_at l.kind l.before (l.count - l.counter) l.rest) ≡ rest_of (entries_at l.kind [] l.count l.bytes)
