-- The initial state of a link, and the replay of an event list from a state: its steps, one after
-- the other.
-- Example: The worst start has 1 frame and 1 acknowledgement, and both are at most the capacity 1,
-- so it is lawful. Its replay of no events is the initial state: nothing is offered, delivered or
-- acknowledged (`examples/links/no_events`).
-- Source: this project's profile. A start is arbitrary, but for the capacity of its two queues.
use Rattle.std.specs.Prelude.{ℕ, ◌≤◌, List, [], ◌∷◌, length, map, false}
use Rattle.stab_frames.specs.Parameters.{Parameters}
use Rattle.stab_core.specs.declared.event.Event.{Event}
use Rattle.stab_core.specs.declared.start.Start.{Start}
use Rattle.stab_core.specs.LinkState.{LinkState}
use Rattle.stab_core.specs.Step.{step}

-- neither queue holds more than its capacity; the labels may be any
pub record IsLawful (p : Parameters) (start : Start) : Type 0 where
  pub frames : length start.frames ≤ p.capacity
  pub acks : length start.acks ≤ p.capacity

-- the largest u16: a sender that begins with the label 0 never uses it
abbrev pub unused_label : ℕ
unused_label = 65535

-- the start of a link that nobody disturbed: empty queues, and a receiver that remembers no label
-- of its sender
abbrev pub clean_start : Start
clean_start = record { frames = []; acks = []; send_label = 0; recv_label = unused_label }

-- the items in a start's frames, the front first
abbrev pub start_items : Start → List ℕ
start_items start = map (λ f. f.item) start.frames

-- the link at its start: nothing offered, acknowledged or delivered, and open
abbrev pub initial : Start → LinkState
initial start =
    record {
      frames = start.frames;
      acks = start.acks;
      send_label = start.send_label;
      offered = [];
      acked = 0;
      recv_label = start.recv_label;
      delivered = [];
      closed = false;
    }

-- the state after these events
abbrev pub replay : Parameters → LinkState → List Event → LinkState
replay p s [] = s
replay p s (e ∷ es) = replay p (step p s e) es
