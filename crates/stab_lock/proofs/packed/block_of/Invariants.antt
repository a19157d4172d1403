use Rattle.std.proofs.Common.{◌-◌, ◌<◌, ◌≤◌, length, get_or}
use Rattle.stab_lock.proofs.packed.block_of.Given as goal

-- the block that is sought is this one or a later one, and lies before the end
abbrev pub invariant-loop-end : goal.invariant-loop-end
invariant-loop-end l =
    (l.block < l.end)
    × (l.end ≤ length l.marks)
    × (get_or l.marks l.block 0 ≤ l.place)
    × (l.end < length l.marks → l.place < get_or l.marks l.end 0)

abbrev pub decreases-loop-end : goal.decreases-loop-end
decreases-loop-end l = l.end - l.block
