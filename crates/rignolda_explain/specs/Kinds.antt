-- Kinds: what bytes are read as, where the caller does not say it: an object with a member `tree`
-- is a job of a tree, and everything else, also what is no JSON, is a link job.
-- Source: this project's own.
use Rattle.std.specs.Prelude.{codes, is_some, if◌then◌else◌, Option, Some, None}
use Rattle.serde_json.specs.Data.{Data}
use Rattle.serde_json.specs.Find.{get}
use Rattle.rignolda_findings.specs.declared.refusal.Kind.{Kind}
use Rattle.rignolda_findings.specs.declared.refusal.Kind.TheVariants.{LinkJob, Job}

-- the kind that a value looks like
abbrev pub kind_of : Option Data → Kind
kind_of None = LinkJob
kind_of (Some d) = if is_some (get (codes "tree") d) then Job else LinkJob

-- the kind that is given, or the one that the value looks like
abbrev pub chosen : Option Kind → Option Data → Kind
chosen (Some kind) value = kind
chosen None value = kind_of value
