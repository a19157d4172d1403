-- Gathered notes: the findings so far, and how an explanation takes one more.
-- Example: After 100 findings two more are counted, so there are 100 and 2 omitted; what was found
-- before is as it was.
-- Source: this project's own.
use Rattle.std.specs.Prelude.{◌≡◌, ◌<◌, ◌≤◌, ◌++◌, ℕ, suc, List, [], ◌∷◌, length}
use Rattle.rignolda_findings.specs.declared.explanation.Finding.{Finding}
use Rattle.rignolda_findings.specs.declared.explanation.Matter.{Matter}
use Rattle.rignolda_findings.specs.declared.refusal.Kind.{Kind}

-- the findings in their order, how many more there were, and what the bytes were read as
pub record Gathered : Type 0 where
  pub findings : List Finding
  pub omitted : ℕ
  pub kind : Kind

-- the most findings that an explanation has
abbrev pub most_findings : ℕ
most_findings = 100

-- the most further findings that are counted
abbrev pub most_counted : ℕ
most_counted = 1000000

-- nothing was found yet
abbrev pub nothing : Kind → Gathered
nothing kind = record { findings = []; omitted = 0; kind = kind }

-- one finding more of this matter, behind those before
pub record Adds (matter : Matter) (before after : Gathered) : Type 0 where
  pub finding : Finding
  pub of_matter : finding.matter ≡ matter
  pub behind : after.findings ≡ before.findings ++ finding ∷ []
  pub same_omitted : after.omitted ≡ before.omitted

-- one finding more is only counted, and not even this where as many are counted as ever are
pub record Counts (before after : Gathered) : Type 0 where
  pub same_findings : after.findings ≡ before.findings
  pub one_more : before.omitted < most_counted → after.omitted ≡ suc before.omitted
  pub no_more : most_counted ≤ before.omitted → after.omitted ≡ before.omitted
