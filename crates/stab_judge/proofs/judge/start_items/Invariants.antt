use Rattle.std.proofs.Common.{◌≡◌, length, map, take, vec_len, vec_capacity}
use Rattle.stab_judge.proofs.judge.start_items.Given as goal

-- the items of the first frames, and there is room for all
abbrev pub invariant-loop-frame : goal.invariant-loop-frame
invariant-loop-frame l =
    (vec_capacity l.items ≡ length l.start.frames)
    × (vec_len l.items ≡ l.frame-index)
    × (l.items.items ≡ map (λ f. f.item) (take l.frame-index l.start.frames))
