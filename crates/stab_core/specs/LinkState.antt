-- The state of one link: the entries of its two queues, what its sender and its receiver remember,
-- and whether it is closed.
-- Source: the stop-and-wait data link of Dolev, Self-Stabilization, MIT Press 2000, over queues of
-- bounded capacity.
use Rattle.std.specs.Prelude.{ℕ, ◌+◌, ◌==◌, Bool, List, length, nat_lt, slice_index}
use Rattle.stab_frames.specs.declared.frame.Frame.{Frame}
use Rattle.stab_frames.specs.Parameters.{Parameters}

pub record LinkState : Type 0 where
  -- the frames on their way to the receiver, the front first
  pub frames : List Frame
  -- the labels on their way back to the sender, the front first
  pub acks : List ℕ
  -- the sender's label, the items that it was offered, and how many of them were acknowledged
  pub send_label : ℕ
  pub offered : List ℕ
  pub acked : ℕ
  -- the label that the receiver took last, and the items that it delivered
  pub recv_label : ℕ
  pub delivered : List ℕ
  pub closed : Bool

-- each offered item was acknowledged
abbrev pub is_idle : LinkState → Bool
is_idle s = length s.offered == s.acked

-- one offered item waits for its acknowledgement
abbrev pub is_holding : LinkState → Bool
is_holding s = length s.offered == s.acked + 1

-- the frame of the item that waits, under the sender's label
abbrev pub current_frame : LinkState → Frame
current_frame s = record { label = s.send_label; item = slice_index s.offered s.acked }

-- a queue with these entries takes one more
abbrev pub has_room : {A : Type 0} → Parameters → List A → Bool
has_room p entries = nat_lt (length entries) p.capacity
