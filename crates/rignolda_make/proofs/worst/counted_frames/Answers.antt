use Rattle.std.proofs.Common.{rules}
use Rattle.rignolda_make.proofs.Counting.{frames_on}
use Rattle.rignolda_make.proofs.worst.counted_frames.Goals as goal

pub loop-place-preserved : goal.loop-place-preserved
loop-place-preserved c =
    frames_on _ _ c.args.first 900 c.loop-place.place _ _ c.loop-place.invariant c.in_ok-push.ensures (search rules) (search rules)
