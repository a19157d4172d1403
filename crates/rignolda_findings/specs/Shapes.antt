-- Shapes: how a job that has another shape, or is no JSON, is refused.
-- Source: this project's own.
use Rattle.stab_job.specs.declared.fault.JobFault.TheVariants as job
use Rattle.stab_script.specs.declared.link_job.LinkJobFault.TheVariants as link_job
use Rattle.rignolda_findings.specs.declared.refusal.Kind.{Kind}
use Rattle.rignolda_findings.specs.declared.refusal.Kind.TheVariants as kind
use Rattle.rignolda_findings.specs.declared.refusal.Refusal.{Refusal}
use Rattle.rignolda_findings.specs.declared.refusal.Refusal.TheVariants as refusal

-- the refusal of what has another shape
abbrev pub of_shape : Kind → Refusal
of_shape kind.LinkJob = refusal.LinkJob link_job.Shape
of_shape kind.Job = refusal.Job job.Shape

-- the refusal of what is no JSON
abbrev pub of_json : Kind → Refusal
of_json kind.LinkJob = refusal.LinkJob link_job.Json
of_json kind.Job = refusal.Job job.Json
