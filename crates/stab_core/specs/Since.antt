-- A link counted from a moment: what is in it then is a start like any other, and an item that its
-- sender holds then is the first one that it is offered since.
-- Example: A sender that was offered 10, 11 and 12, of which 2 are acknowledged, holds 12. If it is
-- offered 13 later and 3 are acknowledged then, it was offered 12 and 13 since, and 1 is
-- acknowledged since.
-- Source: this project's own.
use Rattle.std.specs.Prelude.{ℕ, ◌+◌, ◌-◌, ◌≤◌, List, length, drop}
use mathlib.Core.List.{IsPrefix}
use Rattle.stab_frames.specs.Parameters.{Parameters}
use Rattle.stab_core.specs.declared.start.Start.{Start}
use Rattle.stab_core.specs.LinkState.{LinkState}
use Rattle.stab_core.specs.Replay.{IsLawful}

-- what is in the link: its queues and its labels
abbrev pub start_at : LinkState → Start
start_at s =
    record {
      frames = s.frames;
      acks = s.acks;
      send_label = s.send_label;
      recv_label = s.recv_label;
    }

-- Any state that a link can be in, whatever put it there: its queues fit, and of what its sender
-- was offered all but at most the last item is acknowledged. The labels may be any, the sender may
-- hold an item or none, and the link may be closed.
pub record IsBounded (p : Parameters) (s : LinkState) : Type 0 where
  pub lawful : IsLawful p (start_at s)
  pub acked_were_offered : s.acked ≤ length s.offered
  pub one_waits_at_most : length s.offered ≤ s.acked + 1

-- what the sender was offered since, first the item that it held then
abbrev pub offered_since : LinkState → LinkState → List ℕ
offered_since s t = drop s.acked t.offered

-- how many items were acknowledged since
abbrev pub acked_since : LinkState → LinkState → ℕ
acked_since s t = t.acked - s.acked

-- what was delivered since
abbrev pub delivered_since : LinkState → LinkState → List ℕ
delivered_since s t = drop (length s.delivered) t.delivered

-- From the first of these states to the second the link passed on exactly what it was offered from
-- a place on: that of the first item that was not acknowledged, or the next one, if that item had
-- been delivered.
pub record PassesOn (s t : LinkState) : Type 0 where
  pub from : ℕ
  pub no_earlier : s.acked ≤ from
  pub no_later : from ≤ s.acked + 1
  pub was_offered : from ≤ length s.offered
  pub in_order : IsPrefix (delivered_since s t) (drop from t.offered)
  pub none_missing : t.acked ≤ from + length (delivered_since s t)
