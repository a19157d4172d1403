use Rattle.std.proofs.Common.{◌≡◌, [], Some, IfSome, MatchOption, Ok, Err, sym, subst}
use Rattle.stab_json.proofs.Bytes.{value_of_unread}
use Rattle.json.specs.Lex.{tokens}
use Rattle.serde_json.specs.Data.{object}
use Rattle.stab_script.specs.LinkJobs.{link_job}
use Rattle.stab_script.specs.declared.link_job.LinkJobFault.TheVariants as LinkJobFault
use Rattle.stab_script.specs.Standing.{Stands}
use Rattle.stab_script.specs.Members.{in_job, HasJob, HasNoOthers}
use Rattle.stab_script.proofs.Jobs.{a_plain_job, whole_job, whole_text}
use Rattle.stab_script.proofs.Plain.{no_some}
use Rattle.stab_script.proofs.stream_job.read_plain.Goals as goal

pub returns-clause-job : goal.returns-clause-job
returns-clause-job c =
    let bytes = c.args.bytes.now in
    let is = c.in-Some-whole_job.ensures.job in
    let params = is.0 in
    let start = is.1 in
    let text = c.in-Ok.ensures.cases in
    let found = rw c.in-Some.is at c.in_ok-parts.ensures.value in
    let first : Stands in_job (tokens bytes) (object found.0) [] = subst (λ t. Stands in_job (tokens t) (object found.0) []) text.0 found.1 in
    let has : HasJob (Some params.capacity) (Some params.labels) (Some start) (Some is.2) found.0 = rw (is.3, is.4, is.6, is.7) at found.2 in
    subst (λ o. MatchOption o (link_job bytes ≡ Err LinkJobFault.Event) (λ job. link_job bytes ≡ Ok job)) (sym is.8)
    (a_plain_job bytes found.0 params start text.1 first is.2 has is.5)

pub returns-clause-others : goal.returns-clause-others
returns-clause-others c =
    let bytes = c.args.bytes.now in
    let text = c.in-Ok.ensures.cases in
    let found = rw c.in-Some.is at c.in_ok-parts.ensures.value in
    let first : Stands in_job (tokens bytes) (object found.0) [] = subst (λ t. Stands in_job (tokens t) (object found.0) []) text.0 found.1 in
    subst (λ o. IfSome o HasNoOthers) (whole_text bytes (object found.0) text.1 first) found.2.4

pub returns-in_default-clause-plain : goal.returns-in_default-clause-plain
returns-in_default-clause-plain c = λ plain job is.
    let never = rw (← value_of_unread c.args.bytes.now (λ is_text. absurd (c.in_default.ensures.cases.0 is_text))) at is in
    absurd (cc)

pub returns-in_default-whole_job-clause-plain : goal.returns-in_default-whole_job-clause-plain
returns-in_default-whole_job-clause-plain c =
    let bytes = c.args.bytes.now in
    let parts = c.in-Some.parts in
    let text = c.in-Ok.ensures.cases in
    let found = rw c.in-Some.is at c.in_ok-parts.ensures.value in
    let first : Stands in_job (tokens bytes) (object found.0) [] = subst (λ t. Stands in_job (tokens t) (object found.0) []) text.0 found.1 in
    λ plain job is.
    let w = whole_job bytes found.0 text.1 first parts.capacity parts.labels parts.start parts.events job found.2 is in
    absurd (no_some c.in_default-whole_job.is (c.whole_job.ensures.plain w.0 w.1 w.2 w.3 w.4 w.5 w.6 w.7 w.8))
