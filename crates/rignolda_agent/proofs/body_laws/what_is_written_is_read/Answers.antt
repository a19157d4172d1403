use Rattle.std.proofs.Common.{ap, ◌∙◌}
use Rattle.rignolda_agent.specs.Reading.{body_of}
use Rattle.rignolda_agent.proofs.Again.{body_again}
use Rattle.rignolda_agent.proofs.Texts.{body_written}
use Rattle.rignolda_agent.proofs.body_laws.what_is_written_is_read.Goals as goal

pub returns : goal.returns
returns c buffer b is = ap body_of (body_written buffer b) ∙ body_again b is
