use Rattle.std.proofs.Common.{◌≡◌, map, take}
use Rattle.rignolda_verdict.proofs.link_lists.start_items.Given as goal

-- the items of the frames so far
abbrev pub invariant-loop-frame : goal.invariant-loop-frame
invariant-loop-frame l = l.items ≡ map (λ f. f.item) (take l.frame-index l.start.frames)
