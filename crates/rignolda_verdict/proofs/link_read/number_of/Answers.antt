use Rattle.std.proofs.Common.{◌∙◌, Some, ap, unwrap_or}
use Rattle.rignolda_verdict.proofs.link_read.number_of.Goals as goal

pub returns : goal.returns
returns c front n small is = c.unwrap_or.ensures ∙ ap (λ count. unwrap_or count 0) (c.count_of.ensures front (Some n) small is)
