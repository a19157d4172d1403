use Rattle.std.proofs.Common.{ap, ◌∙◌, ◌++◌}
use Rattle.rignolda_make.proofs.Drawing.{piece_none, piece_on}
use Rattle.rignolda_make.proofs.shape.draw_parents.Goals as goal

pub loop-place-init : goal.loop-place-init
loop-place-init g c = piece_none _ _ _ c.in_ok-parents.ensures.items

pub loop-place-preserved : goal.loop-place-preserved
loop-place-preserved g c =
    piece_on _ _ _ _ _ _ _ _ c.loop-place.invariant (c.in_ok-push.ensures.items ∙ ap (λ x. c.loop-place.parents.items ++ x.0) c.draw_parent.ensures)
    (ap (λ x. x.1) c.draw_parent.ensures)
