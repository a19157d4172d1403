use Rattle.std.proofs.Common.{append_assoc}
use Rattle.stab_core.specs.Texts.{number_entry}
use Rattle.stab_core.proofs.Entries.{next_entry}
use Rattle.stab_core.proofs.text.push_acks_line.Goals as goal

pub loop-place-preserved : goal.loop-place-preserved
loop-place-preserved c =
    rw (next_entry number_entry c.args.link.now.state.acks c.loop-place.place, ← c.ack_at.ensures, ← append_assoc, ← c.loop-place.invariant) c.in_ok-push_ack.ensures
