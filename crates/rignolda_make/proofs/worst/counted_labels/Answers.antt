use Rattle.std.proofs.Common.{refl}
use Rattle.rignolda_make.proofs.Counting.{labels_on}
use Rattle.rignolda_make.proofs.worst.counted_labels.Goals as goal

pub loop-label-preserved : goal.loop-label-preserved
loop-label-preserved c = labels_on _ _ c.loop-label.label _ c.loop-label.invariant c.in_ok-push.ensures refl
