use Rattle.std.proofs.Common.{ap, string_bytes, ◌∙◌, ◌++◌}
use Rattle.rignolda_make.specs.DrawnTexts.{number_text}
use Rattle.rignolda_make.proofs.Drawing.{piece_first, piece_on}
use Rattle.rignolda_make.proofs.text.push_numbers_below.Goals as goal

pub loop-place-init : goal.loop-place-init
loop-place-init g c = piece_first _ _ _

pub loop-place-preserved : goal.loop-place-preserved
loop-place-preserved g c =
    piece_on _ _ _ _ _ _ _ _ c.loop-place.invariant
    (c.in_ok-push_entry.ensures ∙ ap (λ x. string_bytes c.loop-place.text ++ number_text c.loop-place.place x.0) c.below.ensures.drawn)
    (ap (λ x. x.1) c.below.ensures.drawn)
