use Rattle.rignolda_draw.specs.Takes.{TakesNone}
use Rattle.rignolda_draw.proofs.tree_walk.take_starts.Given as goal

-- no rows are taken so far
abbrev pub invariant-loop-place : goal.invariant-loop-place
invariant-loop-place g l = TakesNone g.T.TakesRows.HasTaken l.initial.to l.to
