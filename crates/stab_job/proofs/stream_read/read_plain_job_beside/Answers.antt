use Rattle.std.proofs.Common.{◌≡◌, [], Some, Ok, sym, ap, ◌∙◌, subst}
use Rattle.json.specs.Lex.{tokens}
use Rattle.serde_json.specs.Data.{object}
use Rattle.serde_json.specs.Find.{get}
use Rattle.serde_json.specs.View.{members_view}
use Rattle.stab_json.specs.Checks.{◌>>=◌, ◌or◌}
use Rattle.stab_json.specs.Values.{value_of}
use Rattle.stab_job.specs.Jobs.{job, job_of_data}
use Rattle.stab_job.specs.declared.fault.JobFault.TheVariants as fault
use Rattle.stab_script.specs.Members.{in_job}
use Rattle.stab_script.specs.Standing.{Stands}
use Rattle.stab_script.proofs.Jobs.{whole_text}
use Rattle.stab_job.specs.Unscheduled.{IsKeptOf}
use Rattle.stab_job.proofs.Parts.{beside_read, parts_of_job}
use Rattle.stab_job.proofs.stream_read.read_plain_job_beside.Goals as goal

pub returns-clause-job : goal.returns-clause-job
returns-clause-job g c =
    let b = g.M.Beside in
    let bytes = c.args.bytes.now in
    let text = c.in-Ok.ensures.cases in
    let parts = c.in-Some.parts in
    let found = rw c.in-Some.is at c.in_ok-parts.ensures.value in
    let first : Stands in_job (tokens bytes) (object found.0) [] = subst (λ t. Stands in_job (tokens t) (object found.0) []) text.0 found.1 in
    let is = (rw c.in-Some-2.is at c.in_ok-job.ensures.job) found.0 (parts_of_job b.its_name b.meaning c.args.keeps (members_view parts.others.entries) found.0 parts.steps parts.beside found.2) in
    let read : job_of_data (object found.0) ≡ job bytes = ap (λ o. (o or fault.Json) >>= job_of_data) (whole_text bytes (object found.0) text.1 first) in
    subst (λ its. IsKeptOf c.args.keeps its c.in-Some-2.job) read is

pub returns-clause-members : goal.returns-clause-members
returns-clause-members g c =
    let b = g.M.Beside in
    let bytes = c.args.bytes.now in
    let text = c.in-Ok.ensures.cases in
    let parts = c.in-Some.parts in
    let found = rw c.in-Some.is at c.in_ok-parts.ensures.value in
    let first : Stands in_job (tokens bytes) (object found.0) [] = subst (λ t. Stands in_job (tokens t) (object found.0) []) text.0 found.1 in
    let seen = rw c.in-Some-2.is at c.in_ok-job.ensures.members in
    (object found.0, sym (whole_text bytes (object found.0) text.1 first), (λ name other apart. sym (ap (get name) seen ∙ found.2.0 name other apart), beside_read b.its_name b.meaning c.args.keeps found.0 parts.beside found.2.4))
