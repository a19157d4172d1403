use Rattle.std.proofs.Common.{◌≡◌, List, Option, Some, None, ℕ}
use Rattle.serde_json.specs.Data.{Data}
use Rattle.serde_json.specs.View.{view}
use Rattle.stab_json.specs.Values.{value_of}
use Rattle.stab_job.proofs.Parts.{nothing_beside}
use Rattle.stab_job.proofs.stream_read.read_plain_job.Goals as goal

pub returns-in-Some-clause-members : goal.returns-in-Some-clause-members
returns-in-Some-clause-members c =
    let its = rw c.in-Some.is at c.in_ok-job.ensures.members in
    (its.0, its.1, nothing_beside its.0 (view c.in-Some.members) c.in-Some.field-0-2 its.2)
