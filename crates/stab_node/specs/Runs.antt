-- A run of one worker per node: what the workers leave, what they asked of their gate, and why they
-- leave nothing.
-- Example: The root r published 7, 8, and a, below it, has the opening 50. The sender's end of the
-- link into a offered 7 and is closed, the receiver's end delivered 7, and both workers ended as
-- Turns. So r received 7, 8, and a received 50, 7. If nothing is acknowledged, the 7 waits; if it
-- is, the end offered less than r received with nothing waiting, which only an end does that may
-- refuse an offer. Had r ended as Upstream, 7, 8 would be offered, and both acknowledged.
-- Source: this project's profile.
use Rattle.std.specs.Prelude.{◌≡◌, ◌<◌, ◌++◌, ℕ, true, List, length, Option, Some}
use Rattle.stab_ends.specs.Accounts.{SenderAccount, ReceiverAccount}
use Rattle.stab_tree.specs.Nodes.{parent_at, root_of}
use Rattle.stab_tree.specs.NodeOpenings.{opening_at}
use Rattle.stab_node.specs.declared.account.Ended.{Ended}
use Rattle.stab_node.specs.declared.account.Ended.TheVariants.{Upstream}
use Rattle.stab_node.specs.declared.fault.NodeFault.TheVariants.{Gate}
use Rattle.stab_node.specs.declared.workers_fault.WorkersFault.{WorkersFault}
use Rattle.stab_node.specs.declared.workers_fault.WorkersFault.TheVariants.{Memory, Node, Thread}
use Rattle.stab_node.specs.ByNode.{ended_at, entry_into, received_at}
use Rattle.stab_node.specs.FirstFault.{IsFirstToGiveUp, IsFirstUnstarted}
use Rattle.stab_node.specs.Turns.{IsOver, IsRefused}
use Rattle.stab_node.specs.Work.{HasAll, IsServed, OffersUnlessRefused}

-- What the workers leave: what each node received, why its worker made no further turn, and the two
-- finished ends of each link, with the account of each and what is known where a sender's end may
-- refuse an offer.
pub record IsRun {U D : Type 0} (delivered_by : U → ReceiverAccount) (sent_by : D → SenderAccount)
    (may_refuse : D → Type 0) (parents : List (Option ℕ)) (openings : List (List ℕ))
    (published : List ℕ) (received : List (List ℕ)) (ended : List Ended) (recvs : List U)
    (sends : List D) : Type 0 where
  -- there is one list and one reason for each node
  pub all_received : length received ≡ length parents
  pub all_ended : length ended ≡ length parents
  -- the root received the published items
  pub at_root : received_at received (root_of parents) ≡ published
  -- each other node received its opening, and then what the link into it delivered
  pub delivered : (child : ℕ) (recv : U) → entry_into parents recvs child ≡ Some recv
      → received_at received child ≡ opening_at openings child ++ (delivered_by recv).delivered
  -- each link is closed, and offered a prefix of what the parent received
  pub served : (child parent : ℕ) (send : D) → parent_at parents child ≡ Some parent
      → entry_into parents sends child ≡ Some send
      → IsServed (received_at received parent) (sent_by send)
  -- it offered all of that, or its last item waits, unless its end may refuse an offer
  pub offers : (child parent : ℕ) (send : D) → parent_at parents child ≡ Some parent
      → entry_into parents sends child ≡ Some send
      → OffersUnlessRefused may_refuse (received_at received parent) send (sent_by send)
  -- the link into a node that ended as Upstream was shown the close
  pub upstream : (child : ℕ) (recv : U) → entry_into parents recvs child ≡ Some recv
      → ended_at ended child ≡ Upstream → (delivered_by recv).closed ≡ true
  -- such a node handed on all that it received, and all of it is acknowledged
  pub handed_on : (child parent : ℕ) (send : D) → parent_at parents child ≡ Some parent
      → entry_into parents sends child ≡ Some send → ended_at ended parent ≡ Upstream
      → HasAll (received_at received parent) (sent_by send)

-- What the workers of `count` nodes asked of their gate, each with these turns and ended for this
-- reason: the gate let each turn begin that a worker made, and was told by each node that it is
-- done.
pub record HaveAsked (has_passed : ℕ → ℕ → Type 0) (is_done : ℕ → Type 0) (count turns : ℕ)
    (ended : List Ended) : Type 0 where
  pub over : (node : ℕ) → node < count → IsOver (has_passed node) turns (ended_at ended node)
  pub done : (node : ℕ) → node < count → is_done node

-- Why the workers of `count` nodes leave nothing: the worker of this node is the first that could
-- not be started, or the first that gave up. The gate is named only where it refused a turn of that
-- node.
abbrev pub IsWorkersReason : (ℕ → ℕ → Type 0) → (ℕ → ℕ → Type 0) → (ℕ → Type 0) → ℕ → ℕ
    → WorkersFault → Type 0
IsWorkersReason has_passed may_refuse is_done count turns (Thread node) =
    IsFirstUnstarted count is_done node
IsWorkersReason has_passed may_refuse is_done count turns (Node node why) =
    IsFirstToGiveUp count has_passed is_done turns node
    × (why ≡ Gate → IsRefused (has_passed node) (may_refuse node) turns)
IsWorkersReason has_passed may_refuse is_done count turns Memory = Unit {0}
