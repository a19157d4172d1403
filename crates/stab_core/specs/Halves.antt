-- The two halves of a link's step: what a sender remembers. (A receiver remembers one label and
-- nothing else.)
-- Source: the stop-and-wait data link of Dolev, Self-Stabilization, MIT Press 2000.
use Rattle.std.specs.Prelude.{ℕ, ◌==◌, ◌&&◌, Bool, Option, is_some}

pub record SenderState : Type 0 where
  pub label : ℕ
  -- the item that waits for its acknowledgement; a sender without one is idle
  pub item : Option ℕ

-- the sender holds an item, and this acknowledgement carries its label
abbrev pub waits_for : SenderState → ℕ → Bool
waits_for s label = is_some s.item && (label == s.label)
