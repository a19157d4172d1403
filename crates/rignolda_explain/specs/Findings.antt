-- Findings: the first of them is of the refusal, where there is one, and else none is of a refusal.
-- Example: A job that the reader accepts and that has a member of an unknown name has one finding,
-- of the matter `Ignored`. A finding of the matter `Refused` would say that the reader refuses it.
-- Source: this project's own.
use Rattle.std.specs.Prelude.{◌≡◌, ◌≢◌, List, [], ◌∷◌, All, Option, Some, None}
use Rattle.rignolda_findings.specs.declared.explanation.Finding.{Finding}
use Rattle.rignolda_findings.specs.declared.explanation.Matter.TheVariants.{Refused}
use Rattle.rignolda_findings.specs.declared.refusal.Refusal.{Refusal}

-- the finding says of no check of the reader that it fails
abbrev pub IsNoRefusal : Finding → Type 0
IsNoRefusal finding = (refusal : Refusal) → finding.matter ≢ Refused refusal

-- the first finding is of this refusal; where nothing is refused, no finding is of a refusal
abbrev pub LedBy : Option Refusal → List Finding → Type 0
LedBy None findings = All IsNoRefusal findings
LedBy (Some refusal) [] = ⊥
LedBy (Some refusal) (finding ∷ findings) = finding.matter ≡ Refused refusal
