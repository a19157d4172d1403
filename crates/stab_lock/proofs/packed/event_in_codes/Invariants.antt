use Rattle.std.proofs.Common.{◌≡◌, ◌+◌, ◌≤◌, drop, length, slice_get}
use Rattle.stab_lock.specs.CodesInside.{expand, all_parts, numbers_in, unpack}
use Rattle.stab_lock.proofs.packed.event_in_codes.Given as goal

-- the event is at what is left of its place in the codes that are left, whose numbers are there
abbrev pub invariant-loop-code : goal.invariant-loop-code
invariant-loop-code l =
    (slice_get (expand (unpack l.numbers l.number (all_parts (drop l.code-index l.codes)))) l.left
    ≡ slice_get (expand (unpack l.numbers l.first (all_parts l.codes))) l.place)
    × (l.number + numbers_in (all_parts (drop l.code-index l.codes)) ≤ length l.numbers)
