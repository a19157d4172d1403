use Rattle.std.proofs.Common.{rules}
use Rattle.std.proofs.lemmas.Fn.{All-from_retain}
use Rattle.rignolda_explain.specs.Findings.{IsNoRefusal}
use Rattle.rignolda_explain.proofs.explained.unrefused.Goals as goal

-- what is retained is of no refusal, by what each test says
pub returns : goal.returns
returns c = All-from_retain _ IsNoRefusal _ (λ finding is_kept same told. search rules) _ _ c.retain.ensures.filtered
