-- What holds of a node while its worker makes turns, and before its lower ends are closed.
-- Source: this project's own.
use Rattle.std.specs.Prelude.{◌≡◌, ◌⊎◌, ℕ, ◌+◌, Bool, true, false, List, [], ◌∷◌, ◌++◌, length, All}
use Rattle.std.specs.Prelude.{Option, IfSome}
use Rattle.stab_ends.specs.Accounts.{SenderAccount, ReceiverAccount}
use Rattle.stab_ends.specs.declared.seen.FrameSeen.{FrameSeen}
use Rattle.stab_ends.specs.declared.seen.FrameSeen.TheVariants as seen
use Rattle.stab_node.specs.declared.account.Ended.{Ended}
use Rattle.stab_node.specs.declared.account.Ended.TheVariants.{Upstream}
use Rattle.stab_node.specs.Work.{IsHandedOn, received_by}
use mathlib.Core.List.{IsPrefix}

-- what a lower end offered is a prefix of what the node received
pub record OffersPrefix (received : List ℕ) (down : SenderAccount) : Type 0 where
  pub offered : IsPrefix down.offered received

-- a lower end is open, and at most its last item is not acknowledged
pub record IsInUse (down : SenderAccount) : Type 0 where
  pub is_open : down.closed ≡ false
  pub counts : (length down.offered ≡ down.acked) ⊎ (length down.offered ≡ down.acked + 1)

-- an upstream that counts as ended is closed
pub record EndedIsClosed (ended : Bool) (up : Option ReceiverAccount) : Type 0 where
  pub upstream : ended ≡ true → IfSome up (λ r. r.closed ≡ true)

-- what holds between two turns
pub record IsUnderWay (initial received : List ℕ) (ended : Bool) (up : Option ReceiverAccount)
    (downs : List SenderAccount) : Type 0 where
  pub received_is : received ≡ received_by up initial
  pub upstream : EndedIsClosed ended up
  pub lower : All (OffersPrefix received) downs

-- a lower end has offered this many items, and all of them are acknowledged
pub record IsAllAcked (count : ℕ) (down : SenderAccount) : Type 0 where
  pub offered : length down.offered ≡ count
  pub acked : down.acked ≡ count

-- an account but for its close
abbrev pub but_for_the_close : SenderAccount → SenderAccount
but_for_the_close s = record s { closed = false }

-- what holds once no further turn is made, and before the lower ends are closed
pub record HasEnded (initial received : List ℕ) (up : Option ReceiverAccount)
    (downs : List SenderAccount) (ended : Ended) : Type 0 where
  pub received_is : received ≡ received_by up initial
  pub lower : All (OffersPrefix received) downs
  pub handed_on : ended ≡ Upstream → IsHandedOn received up downs

-- a list, and what was seen where it is a fresh item
abbrev pub with_seen : List ℕ → FrameSeen → List ℕ
with_seen received (seen.Fresh item) = received ++ item ∷ []
with_seen received _ = received
