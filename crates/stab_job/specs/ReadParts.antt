-- The job that the code's record of its parts makes, on a tree and with items.
-- Source: this project's own.
use Rattle.std.specs.Prelude.{ℕ, List}
use Rattle.stab_tree.specs.Nodes.{Nodes}
use Rattle.stab_job.specs.declared.read.ReadParts.{ReadParts}
use Rattle.stab_job.specs.JobValues.{JobValue}

abbrev pub job_read : Nodes → List ℕ → ReadParts → JobValue
job_read t items read = record {
  params = read.params;
  tree = t;
  items = items;
  starts = read.starts;
  scripts = read.scripts;
  turns = read.turns;
  schedule = read.schedule;
  openings = read.openings;
}
