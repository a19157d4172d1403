use Rattle.std.proofs.Common.{ap, string_bytes, ◌∙◌, ◌++◌}
use Rattle.rignolda_make.specs.DrawnTexts.{script_text}
use Rattle.rignolda_make.proofs.Drawing.{piece_first, piece_on}
use Rattle.rignolda_make.proofs.parts.push_scripts.Goals as goal

pub loop-place-init : goal.loop-place-init
loop-place-init g c = piece_first _ _ _

pub loop-place-preserved : goal.loop-place-preserved
loop-place-preserved g c =
    piece_on _ _ _ _ _ _ _ _ c.loop-place.invariant
    (c.in_ok-push_script.ensures ∙ ap (λ x. string_bytes c.loop-place.text ++ script_text c.args.options.now x.0 c.loop-place.place) c.next_u32.ensures)
    (ap (λ x. x.1) c.next_u32.ensures)
