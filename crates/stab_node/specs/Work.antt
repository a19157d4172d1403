-- What a worker leaves at a node: what the node received, and what it handed on.
-- Example: In the turns drawn in docs/PROTOCOL.md the upper end delivered 7, 7, 8 and was shown the
-- close, and the lower end offered 7, 7, 8 with 3 acknowledged and is closed. So `IsWork` holds
-- with Upstream and with Turns. After 3 turns only 2 are acknowledged, and the upper end was shown
-- no close: `IsHandedOn` fails twice, and `IsWork` holds with Turns alone. A lower end that offered
-- 7, 8 is not served: 7, 8 is no prefix of 7, 7, 8. Had the node begun with 50, 51, it would have
-- received 50, 51, 7, 7, 8, and the lower end would have offered 50 first.
-- Source: this project's profile.
use Rattle.std.specs.Prelude.{◌≡◌, ◌⊎◌, ℕ, ◌+◌, true, List, ◌++◌, length, All, Option, Some, None}
use Rattle.std.specs.Prelude.{IfSome}
use Rattle.stab_ends.specs.Accounts.{SenderAccount, ReceiverAccount, new_sender, new_receiver}
use Rattle.stab_node.specs.declared.account.Ended.{Ended}
use Rattle.stab_node.specs.declared.account.Ended.TheVariants.{Upstream}
use mathlib.Core.List.{IsPrefix}

-- ends that have made no call
pub record AreNew (up : Option ReceiverAccount) (downs : List SenderAccount) : Type 0 where
  pub upper : IfSome up (λ r. r ≡ new_receiver)
  pub lower : All (λ s. s ≡ new_sender) downs

-- what a node has: what it began with, and then what its upper end delivered; the root has no upper
-- end
abbrev pub received_by : Option ReceiverAccount → List ℕ → List ℕ
received_by None initial = initial
received_by (Some up) initial = initial ++ up.delivered

-- a lower end offered a prefix of what the node received, and is closed
pub record IsServed (received : List ℕ) (down : SenderAccount) : Type 0 where
  pub offered : IsPrefix down.offered received
  pub closed : down.closed ≡ true

-- a lower end offered all that the node received, or the last item that it offered waits for its
-- acknowledgement
abbrev pub HasOffered : List ℕ → SenderAccount → Type 0
HasOffered received down = (down.offered ≡ received) ⊎ (length down.offered ≡ down.acked + 1)

-- the same but of an end that may refuse an offer, with what is known there
abbrev pub OffersUnlessRefused : {L : Type 0} → (L → Type 0) → List ℕ → L → SenderAccount → Type 0
OffersUnlessRefused may_refuse received link down = may_refuse link ⊎ HasOffered received down

-- a lower end offered all that the node received, and all of it is acknowledged
pub record HasAll (received : List ℕ) (down : SenderAccount) : Type 0 where
  pub offered : down.offered ≡ received
  pub acked : down.acked ≡ length received

-- the upstream has ended, and everything is handed on
pub record IsHandedOn (received : List ℕ) (up : Option ReceiverAccount) (downs : List SenderAccount)
    : Type 0 where
  pub upstream : IfSome up (λ r. r.closed ≡ true)
  pub lower : All (HasAll received) downs

-- a worker's answer, by what its node began with and the accounts of its finished ends
pub record IsWork (initial received : List ℕ) (up : Option ReceiverAccount)
    (downs : List SenderAccount) (ended : Ended) : Type 0 where
  pub received_is : received ≡ received_by up initial
  pub served : All (IsServed received) downs
  pub handed_on : ended ≡ Upstream → IsHandedOn received up downs
