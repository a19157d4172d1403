use Rattle.std.proofs.Common.{◌∙◌}
use Rattle.rignolda_verdict.proofs.LinkTexts.{frames_made}
use Rattle.rignolda_verdict.proofs.link_read.frames_of.Goals as goal

pub returns : goal.returns
returns c =
    frames_made c.as_frames.result c.args.line.now c.as_slice.result.now c.as_frames.ensures
    (λ all shows. c.as_slice.ensures ∙ c.in_ok-numbers.ensures all shows)
