use Rattle.rignolda_make.proofs.Drawing.{text_first, text_on}
use Rattle.rignolda_make.proofs.parts.push_tree.Goals as goal

pub loop-place-init : goal.loop-place-init
loop-place-init c = text_first _ _

pub loop-place-preserved : goal.loop-place-preserved
loop-place-preserved c = text_on _ _ _ _ _ c.loop-place.invariant c.in_ok-push_node.ensures
