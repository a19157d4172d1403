use Rattle.std.proofs.Common.{◌≡◌, ◌+◌, ◌*◌, ◌++◌, length, drop}
use Rattle.std.specs.List.{flat_map}
use Rattle.stab_page.specs.Report.{frame_numbers}
use Rattle.stab_page.proofs.numbers.push_frames.Given as goal

-- the numbers so far, and then those of what is left, are all of them
abbrev pub invariant-loop-entry : goal.invariant-loop-entry
invariant-loop-entry l =
    (l.out.items ++ flat_map frame_numbers (drop l.entry-index l.frames) ≡ l.initial.out.items ++ flat_map frame_numbers l.frames)
    × (length l.out.items ≡ length l.initial.out.items + 2 * l.entry-index)
