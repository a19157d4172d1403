-- The members that the code's record of them lends.
-- Source: this project's own.
use Rattle.serde_json.specs.View.{view, items_view}
use Rattle.stab_job.specs.declared.members.BorrowedMembers.{BorrowedMembers}
use Rattle.stab_job.specs.JobMembers.{Members}

abbrev pub borrowed_members : BorrowedMembers → Members
borrowed_members m = record {
  capacity = m.capacity;
  labels = m.labels;
  tree = view m.tree.now;
  items = m.items;
  starts = m.starts;
  scripts = m.scripts;
  turns = m.turns;
  schedule = items_view m.schedule.now;
  links = m.links;
  hold = m.hold;
  openings = m.openings;
}
