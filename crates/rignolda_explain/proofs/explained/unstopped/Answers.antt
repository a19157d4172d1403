use Rattle.std.proofs.Common.{◌≡◌, None, All, rules}
use Rattle.std.proofs.lemmas.Fn.{All-from_retain}
use Rattle.rignolda_findings.specs.declared.explanation.Finding.{Finding}
use Rattle.rignolda_explain.specs.Findings.{IsNoRefusal}
use Rattle.rignolda_explain.specs.Stops.{stop_in}
use Rattle.rignolda_explain.proofs.Stops.{no_stops}
use Rattle.rignolda_explain.proofs.explained.unstopped.Goals as goal

pub returns-clause-unrefused : goal.returns-clause-unrefused
returns-clause-unrefused c = All-from_retain _ IsNoRefusal _ (λ finding is_kept same told. search rules) _ _ c.retain.ensures.filtered

pub returns-clause-unstopped : goal.returns-clause-unstopped
returns-clause-unstopped c =
    no_stops _ (All-from_retain _ (λ finding. stop_in finding.matter ≡ None) _ (λ finding is_kept same told. search rules) _ _ c.retain.ensures.filtered)
