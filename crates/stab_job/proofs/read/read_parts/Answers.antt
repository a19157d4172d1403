-- Where the numbers of entries are right, there is a script for each link.
use Rattle.std.proofs.Common.{refl}
use Rattle.stab_job.specs.BorrowedMembers.{borrowed_members}
use Rattle.stab_job.proofs.Counts.{script_each}
use Rattle.stab_job.proofs.read.read_parts.Goals as goal

pub parts_with-requires-clause-counted : goal.parts_with-requires-clause-counted
parts_with-requires-clause-counted c =
    let counted = rw c.link_count-links.ensures.value at c.in_ok-check_counts.ensures.counted in
    record {
      few_items = counted.few_items;
      few_events = counted.few_events;
      one_start_each = counted.one_start_each;
      one_script_each = rw c.take.ensures.after refl;
    }

pub parts_with-requires-clause-one_script_each : goal.parts_with-requires-clause-one_script_each
parts_with-requires-clause-one_script_each c =
    script_each (borrowed_members c.args.members.now) c.args.tree.now c.link_count-links.result c.in_ok-scripts.scripts
    c.in_ok-check_counts.ensures.counted c.link_count-links.ensures.value (rw c.take.ensures.value at c.in_ok-scripts.ensures)
