use Rattle.std.proofs.Common.{◌≡◌, Some, Ok, sym, ap, ◌∙◌, subst}
use Rattle.serde_json.specs.Data.{object}
use Rattle.serde_json.specs.View.{view, members_view}
use Rattle.serde_json.proofs.Views.{view-Object}
use Rattle.stab_job.specs.Jobs.{job_of_data}
use Rattle.stab_job.specs.Parts.{HasJobParts}
use Rattle.stab_job.specs.Unscheduled.{IsKeptOf}
use Rattle.stab_job.proofs.Rescheduled.{job_without_schedule}
use Rattle.stab_job.proofs.stream_read.whole_job.Goals as goal

pub returns-in_default-steps-clause-job : goal.returns-in_default-steps-clause-job
returns-in_default-steps-clause-job c =
    let others = members_view c.args.others.entries in
    let first = rw (c.in-Some.is, view-Object c.args.others) at c.in_ok-job.ensures in
    λ ms has.
    let read : job_of_data (object ms) ≡ Ok c.in-Some.job = sym (job_without_schedule others ms has.0 has.1 (has.3 c.in_default-steps.is)) ∙ first in
    subst (λ its. IsKeptOf c.args.keeps its c.kept_job.result) (sym read) c.kept_job.ensures

pub returns-clause-job : goal.returns-clause-job
returns-clause-job c =
    let others = members_view c.args.others.entries in
    let first = rw (c.in-Some.is, view-Object c.args.others) at c.in_ok-job.ensures in
    let whole = rw c.in-Some-2.is at c.in_ok-job-2.ensures in
    λ ms has. whole c.args.keeps others ms (subst (λ o. HasJobParts c.args.keeps others o ms) c.in-Some-steps.is has) first
