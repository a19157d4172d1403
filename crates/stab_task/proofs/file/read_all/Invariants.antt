use Rattle.std.proofs.Common.{◌+◌, ◌≤◌, ◌<◌, length}
use Rattle.std.specs.Io.KnownBytes.{Consumes}
use Rattle.stab_task.specs.Loading.{most_bytes, most_interruptions}
use Rattle.stab_task.proofs.file.read_all.Given as goal

-- the bytes are what the reader gave, and each turn gave a byte or was an interruption
abbrev pub invariant-loop-turn : goal.invariant-loop-turn
invariant-loop-turn g l =
    record {
      given : Consumes (g.R.Read.remaining l.initial.reader) (g.R.Read.remaining l.reader) l.bytes.items;
      not_too_long : length l.bytes.items ≤ most_bytes;
      not_too_often : l.troubles.interruptions ≤ most_interruptions;
      in_time : l._turn ≤ length l.bytes.items + l.troubles.interruptions;
      some_room : 0 < length l.chunk.items;
    }
