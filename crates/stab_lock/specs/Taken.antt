-- When two scripts have the same acts, as far as they were taken. A list of acts is taken from its
-- front, so of a list all acts were taken but those that remain. What calls note depends on these
-- acts alone, and where all were taken on where the list ends.
-- Example: Of the acts Drop, Pass, Evict two remain, so Drop alone was taken. The list Drop, Drop,
-- Drop has the same act there. Pass, Pass, Evict has another one; and Drop, Pass has too few acts,
-- so more calls would come past its end.
-- Source: this project's profile.
use Rattle.std.specs.Prelude.{◌≡◌, ℕ, ◌-◌, List, length, take}
use Rattle.stab_acts.specs.Scripts.{Acts, ActsRemaining, receiver_half, sender_half}

-- two lists have as many acts, and the same ones but for this many that remain
pub record SameTaken {A : Type 0} (left : ℕ) (one other : List A) : Type 0 where
  pub as_many : length one ≡ length other
  pub taken : take (length one - left) one ≡ take (length one - left) other

-- the same of both lists of a half, of which these acts remain
pub record SameHalfTaken (remaining one other : ActsRemaining) : Type 0 where
  pub outs : SameTaken (length remaining.outs) one.outs other.outs
  pub ins : SameTaken (length remaining.ins) one.ins other.ins

-- and of both halves of a script
pub record SameScriptTaken (sender receiver : ActsRemaining) (one other : Acts) : Type 0 where
  pub by_sender : SameHalfTaken sender (sender_half one) (sender_half other)
  pub by_receiver : SameHalfTaken receiver (receiver_half one) (receiver_half other)
