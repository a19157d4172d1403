use Rattle.std.proofs.Common.{[], Some, None, subst}
use Rattle.json.specs.Lex.{tokens}
use Rattle.serde_json.specs.Data.{object}
use Rattle.stab_script.specs.Standing.{Stands}
use Rattle.stab_script.specs.Members.{in_job, HasJob, job_with}
use Rattle.stab_script.proofs.Jobs.{a_job, a_bad_event}
use Rattle.stab_script.proofs.replay.replay_plain_link_job.Goals as goal

pub returns-in-Some-Some-clause-replay : goal.returns-in-Some-Some-clause-replay
returns-in-Some-Some-clause-replay g c =
    let bytes = c.args.bytes.now in
    let text = c.in-Ok.ensures.cases in
    let found = rw (c.in-Some-Some.is, c.in-Some-Some.field-0-is) at c.in_ok-stepped.ensures.value in
    let params = found.2 in
    let start = found.3 in
    let stands = found.8 in
    let first : Stands in_job (tokens bytes) (object found.0) [] = subst (λ t. Stands in_job (tokens t) (object found.0) []) text.0 found.1 in
    let has : HasJob (Some params.capacity) (Some params.labels) (Some start) (Some (Some stands.0)) found.0 = rw stands.1 at found.6 in
    (job_with params start stands.0, a_job bytes found.0 params start text.1 first stands.0 has found.5, found.7, stands.2)

pub returns-in-Some-None-clause-fault : goal.returns-in-Some-None-clause-fault
returns-in-Some-None-clause-fault g c =
    let bytes = c.args.bytes.now in
    let text = c.in-Ok.ensures.cases in
    let found = rw (c.in-Some-None.is, c.in-Some-None.field-0-is) at c.in_ok-stepped.ensures.value in
    let first : Stands in_job (tokens bytes) (object found.0) [] = subst (λ t. Stands in_job (tokens t) (object found.0) []) text.0 found.1 in
    let has : HasJob (Some found.2.capacity) (Some found.2.labels) (Some found.3) (Some None) found.0 = rw found.8 at found.6 in
    λ other. a_bad_event bytes found.0 found.2 found.3 text.1 first has found.5
