use Rattle.std.proofs.Common.{◌≡◌, ◌≢◌, rules}
use Rattle.serde_json.specs.View.{members_view}
use Rattle.stab_job.specs.Parts.{the_schedule}
use Rattle.stab_job.proofs.Lists.{of_what_is_done}
use Rattle.stab_job.proofs.Parts.{one_more_other, the_beside, the_steps}
use Rattle.stab_job.proofs.stream_members.read_member.Goals as goal

pub returns-then-eq-clause-value : goal.returns-then-eq-clause-value
returns-then-eq-clause-value g c =
    let b = g.M.Beside in
    let old = c.args.parts.now in
    let named : c.args.name.now ≡ the_schedule = search rules in
    let first = rw c.in-Some.is at c.in_ok-steps.ensures.value in
    let means = first.2 in
    λ yes. (means.0, means.1, λ ms has. rw named (the_steps b.its_name b.meaning c.args.keeps (members_view old.others.entries) ms old.steps old.beside means.0 c.in-Some.steps first.0 means.2 first.1 has))

pub returns-then-is_named-clause-value : goal.returns-then-is_named-clause-value
returns-then-is_named-clause-value g c =
    let b = g.M.Beside in
    let old = c.args.parts.now in
    let its = c.if-is_named.ensures in
    let first = rw c.in-Some-2.is at c.in_ok-beside.ensures.value in
    λ yes. (first.0, first.1, λ ms has. rw its.0 (the_beside b.its_name b.meaning c.args.keeps (members_view old.others.entries) ms old.steps old.beside first.0 c.in-Some-2.beside first.2 (rw its.0 at its.1) has))

pub returns-clause-value : goal.returns-clause-value
returns-clause-value g c =
    let b = g.M.Beside in
    let old = c.args.parts.now in
    let apart : c.args.name.now ≢ the_schedule = search rules in
    of_what_is_done c.read_member.result (λ done means yes. let first = means yes in (first.0, first.1, λ ms has. rw first.2 (one_more_other b.its_name b.meaning c.args.keeps (members_view old.others.entries) ms old.steps old.beside c.args.name.now first.0 apart c.if-is_named.ensures has))) c.read_member.ensures.value
