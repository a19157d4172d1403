-- How the fields of a link of the code show its value, and what they keep.
-- Source: this project's own.
use Rattle.std.specs.Prelude.{◌≡◌, ◌+◌, ◌==◌, ◌≤◌, length, slice_index, if◌then◌else◌, Some, None}
use Rattle.stab_core.specs.declared.link.Link.TheInside.{Inside}
use Rattle.stab_core.specs.Link.{LinkValue, link_at}

-- the state that the fields show
abbrev pub link_view : Inside → LinkValue
link_view l =
    link_at l.params (record {
      frames = l.frames.entries;
      acks = l.acks.entries;
      send_label = l.sender.label;
      offered = l.offered.items;
      acked = l.acked;
      recv_label = l.receiver;
      delivered = l.delivered.items;
      closed = l.closed;
    })

-- both queues have the link's capacity, and the sender holds the offered item that is not
-- acknowledged, where there is one
pub record IsSound (l : Inside) : Type 0 where
  pub frames_capacity : l.frames.capacity ≡ l.params.capacity
  pub acks_capacity : l.acks.capacity ≡ l.params.capacity
  pub acked_were_offered : l.acked ≤ length l.offered.items
  pub one_waits_at_most : length l.offered.items ≤ l.acked + 1
  pub holds_the_last :
      l.sender.item ≡
      (if length l.offered.items == l.acked + 1
      then Some (slice_index l.offered.items l.acked) else None)
