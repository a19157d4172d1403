use Rattle.std.proofs.Common.{◌≡◌, ◌++◌, length, map, drop}
use Rattle.stab_core.specs.Trace.{strays_from}
use Rattle.stab_page.specs.Codes.{frame_of}
use Rattle.stab_page.proofs.link.strays.Given as goal

-- the frames and strays so far, and then those that are left, are all of them
abbrev pub invariant-loop-code : goal.invariant-loop-code
invariant-loop-code l =
    (l.entries.items ++ map frame_of (drop l.code-index l.frames) ≡ map frame_of l.frames)
    × (l.strays.items ++ strays_from l.code-index (map frame_of (drop l.code-index l.frames))
    ≡ strays_from 0 (map frame_of l.frames))
    × (length l.entries.items ≡ l.code-index)
    × (length l.strays.items ≡ l.code-index)
