use Rattle.std.proofs.Common.{[]}
use Rattle.rignolda_make.specs.DrawnTrees.{link_if_child}
use Rattle.rignolda_make.proofs.Drawing.{HasDrawn}
use Rattle.rignolda_make.proofs.shape.draw_links.Given as goal

abbrev pub invariant-loop-place : goal.invariant-loop-place
invariant-loop-place g l = HasDrawn (link_if_child l.of_job l.are_drawn l.parents) l.place [] l.links.items (g.R.Rng.stream l.initial.rng) (g.R.Rng.stream l.rng)
