use Rattle.std.proofs.Common.{◌≡◌, length, map, take, vec_len, vec_capacity}
use Rattle.stab_core.specs.Replay.{start_items}
use Rattle.stab_judge.proofs.judge.Judge.new.Given as goal

-- the items of the first starts, and there is room for all
abbrev pub invariant-loop-start : goal.invariant-loop-start
invariant-loop-start l =
    (vec_capacity l.garbage ≡ length l.starts)
    × (vec_len l.garbage ≡ l.start-index)
    × (l.garbage.items ≡ map start_items (take l.start-index l.starts))
