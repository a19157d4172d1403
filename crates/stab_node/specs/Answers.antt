-- What a worker answers, by what its node began with.
-- Source: this project's profile.
use Rattle.std.specs.Prelude.{◌≡◌, ℕ, List, Option, map, option_map}
use Rattle.stab_ends.specs.Accounts.{SenderAccount, ReceiverAccount}
use Rattle.stab_node.specs.declared.account.Ended.{Ended}
use Rattle.stab_node.specs.Turns.{IsOver}
use Rattle.stab_node.specs.Work.{AreNew, IsWork, OffersUnlessRefused}
use Rattle.std.specs.List.{AllZip}

-- the ends of a node: the account of each, and its link
pub record NodeEnds (L M : Type 0) : Type 0 where
  pub up : Option ReceiverAccount
  pub up_link : Option L
  pub downs : List SenderAccount
  pub down_links : List M

-- ends, by what their account and their link are
abbrev pub node_ends : {U D L M : Type 0} → (U → ReceiverAccount) → (U → L)
    → (D → SenderAccount) → (D → M) → Option U → List D → NodeEnds L M
node_ends received link_above sent link_below up downs = record {
  up = option_map received up;
  up_link = option_map link_above up;
  downs = map sent downs;
  down_links = map link_below downs;
}

-- what a worker left that was not refused
pub record HasWorked {L M : Type 0} (has_passed : ℕ → Type 0) (may_refuse : M → Type 0) (turns : ℕ)
    (first : List ℕ) (before after : NodeEnds L M) (received : List ℕ) (ended : Ended)
    : Type 0 where
  pub work : AreNew before.up before.downs
      → IsWork first received after.up after.downs ended
  pub offers : AreNew before.up before.downs
      → AllZip (OffersUnlessRefused may_refuse received) after.down_links after.downs
  pub up_link : after.up_link ≡ before.up_link
  pub down_links : after.down_links ≡ before.down_links
  pub over : IsOver has_passed turns ended
