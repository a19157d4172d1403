use Rattle.std.proofs.Common.{◌≡◌, ℕ, ◌+◌, ◌≤◌, ◌<◌, List, length}
use Rattle.json.specs.Token.{Token}
use Rattle.serde_json.specs.Data.{Items}
use Rattle.stab_json.specs.Values.{count}
use Rattle.stab_script.specs.LinkJobs.{most_events}
use Rattle.stab_script.specs.Plain.{AreEntries, IsEvent}
use Rattle.stab_script.specs.Standing.{EntriesStand}
use Rattle.stab_script.proofs.Entries.{TakenBefore}
use Rattle.stab_script.proofs.stream_events.take_entries.Given as goal

-- whatever values the tokens that are left are, those that were read go before them
abbrev pub invariant-entries : goal.invariant-entries
invariant-entries g l =
    (l.count ≤ most_events) × (n : ℕ) × (length l.reader ≤ n) × (length l.reader ≤ length l.initial.reader) × (seen : Items → Items)
    × ((depth : ℕ) (ds : Items) (rest : List Token) → 0 < depth → EntriesStand depth n l.reader ds rest → EntriesStand depth (length l.initial.reader) l.initial.reader (seen ds) rest)
    × ((ds : Items) → count (seen ds) ≡ l.count + count ds)
    × TakenBefore g.T.TakesEvents.StandsAfter l.initial.to seen l.are_events l.to
    × ((n : ℕ) (rest : List Token) → n ≤ most_events → AreEntries IsEvent n l.initial.reader rest → (m : ℕ) × (l.count + m ≡ n) × AreEntries IsEvent m l.reader rest)

abbrev pub decreases-entries : goal.decreases-entries
decreases-entries g l = length l.reader
