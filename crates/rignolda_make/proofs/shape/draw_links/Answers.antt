use Rattle.rignolda_make.proofs.Drawing.{piece_none, piece_on}
use Rattle.rignolda_make.proofs.shape.draw_links.Goals as goal

pub loop-place-init : goal.loop-place-init
loop-place-init g c = piece_none _ _ _ c.new-links.ensures.items

pub loop-place-preserved : goal.loop-place-preserved
loop-place-preserved g c = piece_on _ _ _ _ _ _ _ _ c.loop-place.invariant c.in_ok-push_drawn_link.ensures.link c.in_ok-push_drawn_link.ensures.words
