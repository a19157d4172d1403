-- The parts of a job are right where the numbers of entries and turns are.
use Rattle.stab_job.specs.BorrowedMembers.{borrowed_members}
use Rattle.stab_job.proofs.Counts.{parts_of_job}
use Rattle.stab_job.proofs.OwnParams.{one_params_each}
use Rattle.stab_job.proofs.read.parts_with.Goals as goal

pub returns-clause-lawful : goal.returns-clause-lawful
returns-clause-lawful c =
    let t = c.args.tree.now in
    let m = c.args.members.now in
    let each = one_params_each t c.args.params m.links c.in_ok-params.params c.capacity-lawful.ensures.lawful c.in_ok-params.ensures.params in
    rw c.in_ok-turns.ensures.0 (parts_of_job (borrowed_members m) t c.in_ok-params.params c.link_count.result c.in_ok-starts.starts c.args.scripts
    c.in_ok-schedule.schedule c.in_ok-openings.openings each.number each.lawful c.requires.counted c.requires.one_script_each c.link_count.ensures.value
    (rw c.take-2.ensures.value at c.in_ok-starts.ensures) c.in_ok-turns.ensures.1 c.in_ok-openings.ensures.fit
    c.in_ok-openings.ensures.few_held)
