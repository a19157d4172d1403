-- A tree of agents: the tree of links and lists, and beside each node what its agent made of the
-- items that its list gained. An item is all that a frame carries, so its body too.
-- Example: The list of a node gained the items 5 and 7 since the start, which are read as bodies.
-- Then its agent is the one at the start after it heard the body of 5, and then that of 7.
-- Source: this project's own.
use Rattle.std.specs.Prelude.{◌≡◌, ◌≤◌, ◌<◌, ℕ, true, List, ◌++◌, length, map, Some, IfSome}
use Rattle.std.specs.List.{AllByRecursion}
use Rattle.stab_tree.specs.Nodes.{Nodes}
use Rattle.stab_treecore.specs.declared.change.Change.{Change}
use Rattle.stab_treecore.specs.Changes.{changes_replay}
use Rattle.stab_treecore.specs.Hits.{Spare}
use Rattle.stab_treecore.specs.Moment.{garbage_since, missing_since, published_since}
use Rattle.stab_treecore.specs.Since.{IsState, gained, moment}
use Rattle.stab_treecore.specs.WholeTree.{WholeTree}
use Rattle.stab_rounds.specs.Kinds.{Kind}
use Rattle.stab_convergence.specs.PathRounds.{IsPathOpen, PathRounds, TakesAtMost, rounds_since}
use Rattle.rignolda_agent.specs.BodySpelling.{Body}
use Rattle.rignolda_agent.specs.Agents.{Agent}
use Rattle.rignolda_agent.specs.Items.{Reading, SaysBehind, hears_items}
use Rattle.rignolda_agent.specs.Rounds.{IsNear, IsReady, IsRound, is_behind}

pub record AgentTree : Type 0 where
  pub tree : WholeTree
  -- the agent at each node; what it remembers may be anything
  pub agents : ℕ → Agent

-- after these changes each agent has heard what its list gained
abbrev pub agents_replay : Reading → AgentTree → List Change → AgentTree
agents_replay reading s changes = record {
  tree = changes_replay s.tree changes;
  agents = λ node.
      hears_items reading (s.agents node) (gained s.tree (changes_replay s.tree changes) node);
}

-- No fault hits the node's path, from a state on. After what comes before, its links complete
-- enough rounds, counted at their beginning, in which none of them is closed.
pub record FaultsEnd (kind : Kind) (each : ℕ) (tree : Nodes) (s : WholeTree)
    (before after later : List Change) (node : ℕ) : Type 0 where
  pub start : IsState tree s
  pub node_is : node < length s.parents
  pub spare : Spare s.parents node (before ++ (after ++ later))
  pub middle : IsState tree (changes_replay s before)
  pub is_open : IsPathOpen (changes_replay (changes_replay s before) after) node
  pub takes : TakesAtMost kind each (changes_replay s before) node
  pub rounds : ℕ
  pub are_rounds : PathRounds kind (changes_replay s before) node rounds after
  pub enough : rounds_since each (moment (changes_replay s before)) node ≤ rounds

-- What the root published in the node's count up to a moment says these bodies. Behind the first
-- items, of which some may be missing, there is a round; and its table has a number ahead of the
-- agent's, of those of all strays, and of those of the first items.
pub record HasARound (reading : Reading) (s m : WholeTree) (node : ℕ) (agent : Agent)
    (bodies : List Body) : Type 0 where
  pub first : List Body
  pub round : List Body
  pub table : Body
  pub more : List Body
  pub published : map reading (published_since (moment s) (gained s m) node) ≡ map Some bodies
  pub parts : bodies ≡ first ++ round
  pub is_round : IsRound round table more
  pub enough : missing_since (moment s) node ≤ length first
  pub ready : IsReady table.number agent.taker
  pub strays : AllByRecursion (SaysBehind reading table.number) (garbage_since (moment s) node)
  pub older : AllByRecursion (λ b. is_behind table.number b.number ≡ true) first

-- the number of the item's body is near a lowest one, if it says anything
abbrev pub SaysNear : Reading → ℕ → ℕ → Type 0
SaysNear reading low item = IfSome (reading item) (λ b. IsNear low b.number)

abbrev pub AllSayNear : Reading → ℕ → List ℕ → Type 0
AllSayNear reading low items = AllByRecursion (SaysNear reading low) items
