-- How the arrays of a link of the page show its value, and what they keep.
-- Source: this project's own.
use Rattle.std.specs.Prelude.{◌≡◌, ◌+◌, ◌≤◌, length}
use Rattle.stab_core.specs.Tracer.{TracerValue, tracer_at}
use Rattle.stab_page.specs.PageLink.{parameters}
use Rattle.stab_page.specs.declared.link.PageLink.TheInside.{Inside}

-- the state that the arrays show
abbrev pub page_link_view : Inside → TracerValue
page_link_view l =
    tracer_at (parameters l.capacity l.labels) (record {
      state = record {
        frames = l.frames.items;
        acks = l.acks.items;
        send_label = l.send_label;
        offered = l.offered.items;
        acked = l.acked;
        recv_label = l.recv_label;
        delivered = l.delivered.items;
        closed = l.closed;
      };
      queued = l.queued.items;
      origins = l.origins.items;
    })

-- a queue fits its array, there is a label, there is an origin for each queued frame and for each
-- delivered item, and all offered items but at most the last are acknowledged
pub record IsSound (l : Inside) : Type 0 where
  pub small_capacity : l.capacity ≤ 64
  pub some_label : 1 ≤ l.labels
  pub queued_pace : length l.queued.items ≡ length l.frames.items
  pub origins_pace : length l.origins.items ≡ length l.delivered.items
  pub acked_were_offered : l.acked ≤ length l.offered.items
  pub one_waits_at_most : length l.offered.items ≤ l.acked + 1
