use Rattle.rignolda_make.proofs.Drawing.{piece_first, piece_on}
use Rattle.rignolda_make.proofs.starts.push_starts.Goals as goal

pub loop-place-init : goal.loop-place-init
loop-place-init g c = piece_first _ _ _

pub loop-place-preserved : goal.loop-place-preserved
loop-place-preserved g c = piece_on _ _ _ _ _ _ _ _ c.loop-place.invariant c.in_ok-push_start_at.ensures.text c.in_ok-push_start_at.ensures.words
