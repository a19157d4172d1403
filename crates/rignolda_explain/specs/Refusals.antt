-- Refusals: the answer of the reader of a kind, of which only a fault is kept.
-- Example: the bytes `{}` are a link job by their looks, and `link_job` of them is `Err Shape`, so
-- their refusal is `LinkJob Shape`.
-- Source: this project's own, over the answers of the two readers.
use Rattle.std.specs.Prelude.{ℕ, List, Option, Some, None, Result, Ok, Err}
use Rattle.stab_job.specs.Jobs.{job}
use Rattle.stab_script.specs.LinkJobs.{link_job}
use Rattle.rignolda_findings.specs.declared.refusal.Kind.{Kind}
use Rattle.rignolda_findings.specs.declared.refusal.Kind.TheVariants as kind
use Rattle.rignolda_findings.specs.declared.refusal.Refusal.{Refusal}
use Rattle.rignolda_findings.specs.declared.refusal.Refusal.TheVariants as refusal

-- the fault of an answer, as a refusal
abbrev pub refused : {A F : Type 0} → (F → Refusal) → Result A F → Option Refusal
refused as_refusal (Ok x) = None
refused as_refusal (Err fault) = Some (as_refusal fault)

-- why the reader of that kind refuses the bytes, where it does
abbrev pub refusal_of : Kind → List ℕ → Option Refusal
refusal_of kind.LinkJob bytes = refused refusal.LinkJob (link_job bytes)
refusal_of kind.Job bytes = refused refusal.Job (job bytes)
