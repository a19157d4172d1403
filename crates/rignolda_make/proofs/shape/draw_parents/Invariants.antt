use Rattle.std.proofs.Common.{[]}
use Rattle.rignolda_make.specs.DrawnTrees.{parent_drawn}
use Rattle.rignolda_make.proofs.Drawing.{HasDrawn}
use Rattle.rignolda_make.proofs.shape.draw_parents.Given as goal

abbrev pub invariant-loop-place : goal.invariant-loop-place
invariant-loop-place g l = HasDrawn (parent_drawn l.nodes l.reach l.root) l.place [] l.parents.items (g.R.Rng.stream l.initial.rng) (g.R.Rng.stream l.rng)
