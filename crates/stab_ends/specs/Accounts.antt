-- The account of an end of a link: what this end did by its own calls, as plain data that no call
-- of the other end changes.
-- Example: A sender with offered 7 and acked 0, after `poll_ack` answered Acked, has acked 1; after
-- Ignored it is the same. `MayOffer` of it fails before: 1 item is offered and 0 are acknowledged,
-- so it is not idle.
-- Source: this project's profile.
use Rattle.std.specs.Prelude.{◌≡◌, ℕ, ◌+◌, Bool, true, false, List, [], ◌∷◌, ◌++◌, length}
use Rattle.std.specs.Prelude.{Result, Ok, Err}
use Rattle.std.specs.declared.alloc.AllocError.{AllocError}
use Rattle.stab_core.specs.declared.event.Effect.{Effect}
use Rattle.stab_core.specs.declared.event.Effect.TheVariants.{Acked}
use Rattle.stab_ends.specs.declared.seen.FrameSeen.{FrameSeen}
use Rattle.stab_ends.specs.declared.seen.FrameSeen.TheVariants as seen

-- what the sender took, how many of these items are acknowledged, and whether it closed the link
pub record SenderAccount : Type 0 where
  pub offered : List ℕ
  pub acked : ℕ
  pub closed : Bool

-- what the receiver delivered, and whether it was shown the close
pub record ReceiverAccount : Type 0 where
  pub delivered : List ℕ
  pub closed : Bool

-- an end that has made no call
abbrev pub new_sender : SenderAccount
new_sender = record { offered = []; acked = 0; closed = false }

abbrev pub new_receiver : ReceiverAccount
new_receiver = record { delivered = []; closed = false }

-- every item that was taken is acknowledged, and the link is open
pub record MayOffer (s : SenderAccount) : Type 0 where
  pub idle : length s.offered ≡ s.acked
  pub is_open : s.closed ≡ false

-- the last item that was taken is not acknowledged, and the link is open
pub record Waits (s : SenderAccount) : Type 0 where
  pub holding : length s.offered ≡ s.acked + 1
  pub is_open : s.closed ≡ false

-- an offer that is answered true adds the item
abbrev pub after_offer : SenderAccount → ℕ → Result Bool AllocError → SenderAccount
after_offer s item (Ok true) = record s { offered = s.offered ++ item ∷ [] }
after_offer s item (Ok false) = s
after_offer s item (Err refused) = s

-- an acknowledgement that fits is counted
abbrev pub after_effect : SenderAccount → Effect → SenderAccount
after_effect s Acked = record s { acked = s.acked + 1 }
after_effect s _ = s

abbrev pub after_poll_ack : SenderAccount → Result Effect AllocError → SenderAccount
after_poll_ack s (Ok effect) = after_effect s effect
after_poll_ack s (Err refused) = s

-- a close that is answered is for good
abbrev pub after_close : SenderAccount → Result Effect AllocError → SenderAccount
after_close s (Ok effect) = record s { closed = true }
after_close s (Err refused) = s

-- a fresh item is delivered, and a close that is shown is for good
abbrev pub after_seen : ReceiverAccount → FrameSeen → ReceiverAccount
after_seen r (seen.Fresh item) = record r { delivered = r.delivered ++ item ∷ [] }
after_seen r seen.Closed = record r { closed = true }
after_seen r _ = r

abbrev pub after_poll_frame : ReceiverAccount → Result FrameSeen AllocError → ReceiverAccount
after_poll_frame r (Ok frame_seen) = after_seen r frame_seen
after_poll_frame r (Err refused) = r

-- a fresh item comes only to an end that was not shown the close
abbrev pub IsOpenFor : ReceiverAccount → FrameSeen → Type 0
IsOpenFor r (seen.Fresh item) = r.closed ≡ false
IsOpenFor r _ = Unit {0}
