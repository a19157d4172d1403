-- What a root publishes above the report of an agent, which received by then all that was on its
-- path.
-- Example: Let the one link into a node have capacity 1, and the root two items for it. Three items
-- may be there. A report of the node counts once it has received three, whichever they are. If the
-- root then hears it twice, its next whole table has a number ahead of those of the agent, and of
-- whatever it had heard by then.
-- Source: this project's own.
use Rattle.std.specs.Prelude.{◌≡◌, ◌≤◌, ◌<◌, ℕ, ◌+◌, List, [], ◌∷◌, ◌++◌, length, map, Some}
use Rattle.std.specs.List.{AllByRecursion, count_by}
use Rattle.stab_tree.specs.Nodes.{root_of}
use Rattle.stab_treecore.specs.Moment.{Moment, garbage_since, missing_since, published_since}
use Rattle.stab_treecore.specs.Moment.{strays_since}
use Rattle.stab_treecore.specs.Since.{gained, moment}
use Rattle.stab_treecore.specs.WholeTree.{WholeTree}
use Rattle.rignolda_agent.specs.declared.body.Kind.TheVariants.{Table}
use Rattle.rignolda_agent.specs.BodySpelling.{Body}
use Rattle.rignolda_agent.specs.Agents.{Agent}
use Rattle.rignolda_agent.specs.Items.{Reading}
use Rattle.rignolda_agent.specs.Numbers.{circle}
use Rattle.rignolda_agent.specs.Reports.{AreNumbered, Publication, all_heard, bodies_of, covers}
use Rattle.rignolda_agent.specs.Rounds.{IsNear}
use Rattle.rignolda_agent.specs.Takers.{Taker}
use Rattle.rignolda_convergence.specs.AgentTrees.{AllSayNear}

-- what the root has for its child on the node's path
abbrev pub roots_backlog : Moment → ℕ → List ℕ
roots_backlog m node = published_since m (λ other. []) node

-- so many items there may be for the node that are not its own yet: in the frames of the links of
-- its path, and in the lists of the nodes above it
abbrev pub there_since : Moment → ℕ → ℕ
there_since m node = strays_since m node + length (roots_backlog m node)

-- From s to m all numbers are near a lowest one: those of the agent, those that are in links and
-- lists of its path at first, and those that the root publishes.
pub record AreAllNearSince (reading : Reading) (low : ℕ) (s m : WholeTree) (node : ℕ)
    (agent : Agent) : Type 0 where
  pub low_is : low < circle
  pub number : IsNear low agent.taker.number
  pub floor : IsNear low agent.taker.floor
  pub there : AllSayNear reading low (garbage_since (moment s) node)
  pub published : AllSayNear reading low (published_since (moment s) (gained s m) node)

-- What the root published from s to m says these bodies. After more than may be missing at the node
-- there is a whole table, and before that the root heard two reports of these numbers or of ones
-- that are further ahead.
pub record HasATableAbove (reading : Reading) (low : ℕ) (s m : WholeTree) (node : ℕ)
    (reported : Taker) (bodies : List Body) : Type 0 where
  -- the number of the root at s
  pub from : ℕ
  pub before : List Publication
  pub table : Publication
  pub more : List Body
  pub published : map reading (gained s m (root_of s.parents)) ≡ map Some bodies
  pub parts : bodies ≡ bodies_of before ++ table.body ∷ more
  pub is_table : table.body.kind ≡ Table
  pub enough : missing_since (moment s) node ≤ length before
  pub from_near : IsNear low from × (0 < from)
  pub numbered : AreNumbered from (before ++ table ∷ [])
  pub heard_near : AllByRecursion (IsNear low) (all_heard (before ++ table ∷ []))
  pub twice : 2 ≤ count_by (covers low reported) (all_heard (before ++ table ∷ []))
