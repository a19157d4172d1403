-- The first stop that findings are of.
use Rattle.std.proofs.Common.{◌≡◌, List, [], ◌∷◌, None, All, refl}
use Rattle.std.proofs.lemmas.List.Elements.{All-head, All-tail}
use Rattle.rignolda_findings.specs.declared.explanation.Finding.{Finding}
use Rattle.rignolda_explain.specs.Stops.{first_stop, stop_in}

-- findings that are of no stop
abbrev IsOfNone : Finding → Type 0
IsOfNone finding = stop_in finding.matter ≡ None

pub no_stops : (findings : List Finding) → All (λ finding. stop_in finding.matter ≡ None) findings → first_stop findings ≡ None
no_stops [] all = refl
no_stops (finding ∷ findings) all = rw (All-head IsOfNone finding findings all) (no_stops findings (All-tail IsOfNone finding findings all))
