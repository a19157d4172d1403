-- The fault that the workers of a tree give up with: the first of them.
-- Example: Where the gate refuses node 1, memory is refused at node 2, and node 0 has its account,
-- node 1 gives up with Gate.
-- Source: this project's profile.
use Rattle.std.specs.Prelude.{◌≡◌, ◌<◌, ◌⊎◌, ℕ, List, [], ◌∷◌, All}
use Rattle.stab_node.specs.declared.account.Ended.{Ended}
use Rattle.stab_node.specs.declared.fault.NodeFault.{NodeFault}
use Rattle.stab_node.specs.declared.fault.NodeFault.TheVariants.{Gate}
use Rattle.stab_node.specs.Turns.{IsOver, IsRefused}
use Rattle.stab_node.specs.declared.workers_fault.WorkersFault.{WorkersFault}
use Rattle.stab_node.specs.declared.workers_fault.WorkersFault.TheVariants.{Memory, Node, Thread}

-- the fault of a node, put before what those after it came to: before faults of nodes, and not
-- before others
abbrev pub first_of : WorkersFault → WorkersFault → WorkersFault
first_of own (Node node why) = own
first_of own later = later

-- of these nodes, whose workers are started one after the other, this is the one whose worker was
-- not started; those before it are done
abbrev pub StopsAt : (ℕ → Type 0) → List ℕ → ℕ → Type 0
StopsAt is_done [] node = ⊥
StopsAt is_done (first ∷ nodes) node = (node ≡ first) ⊎ (is_done first × StopsAt is_done nodes node)

-- of these nodes this is the first of which the second holds, and the first holds of each before it
abbrev pub IsFirstOf : (ℕ → Type 0) → (ℕ → Type 0) → List ℕ → ℕ → Type 0
IsFirstOf before here [] node = ⊥
IsFirstOf before here (first ∷ nodes) node =
    ((node ≡ first) × here first) ⊎ (before first × IsFirstOf before here nodes node)

-- the turns of the worker of a node are over
abbrev pub AreOver : (ℕ → ℕ → Type 0) → ℕ → ℕ → Type 0
AreOver has_passed turns node = (ended : Ended) × IsOver (has_passed node) turns ended

-- Of these nodes this is the first whose worker gave up, and for this reason: the turns of those
-- before it are over, where its gate refused it did so at some turn, and all nodes are done.
pub record GivesUp (has_passed may_refuse : ℕ → ℕ → Type 0) (is_done : ℕ → Type 0) (turns : ℕ)
    (nodes : List ℕ) (node : ℕ) (why : NodeFault) : Type 0 where
  pub first : IsFirstOf (AreOver has_passed turns)
      (λ k. why ≡ Gate → IsRefused (has_passed k) (may_refuse k) turns) nodes node
  pub done : All is_done nodes

-- why the workers of these nodes, which are started one after the other, give no accounts
abbrev pub IsReasonAmong : (ℕ → ℕ → Type 0) → (ℕ → ℕ → Type 0) → (ℕ → Type 0) → ℕ → List ℕ
    → WorkersFault → Type 0
IsReasonAmong has_passed may_refuse is_done turns nodes (Thread node) =
    StopsAt is_done nodes node × All is_done nodes
IsReasonAmong has_passed may_refuse is_done turns nodes (Node node why) =
    GivesUp has_passed may_refuse is_done turns nodes node why
IsReasonAmong has_passed may_refuse is_done turns nodes Memory = Unit {0}

-- of `count` nodes this is the first whose worker was not started, and all nodes are done
pub record IsFirstUnstarted (count : ℕ) (is_done : ℕ → Type 0) (node : ℕ) : Type 0 where
  pub known : node < count
  pub done : (each : ℕ) → each < count → is_done each

-- Of `count` nodes this is the first whose worker gave up: the turns of those before it are over,
-- and all nodes are done.
pub record IsFirstToGiveUp (count : ℕ) (has_passed : ℕ → ℕ → Type 0) (is_done : ℕ → Type 0)
    (turns node : ℕ) : Type 0 where
  pub known : node < count
  pub before : (earlier : ℕ) → earlier < node
      → (ended : Ended) × IsOver (has_passed earlier) turns ended
  pub done : (each : ℕ) → each < count → is_done each
