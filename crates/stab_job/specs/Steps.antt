-- Steps: the steps of a schedule, kept with a table of the names of their nodes; the events over a
-- tree that they are; and what is kept of steps that are only looked at.
-- Example: The table a, b, and the steps (1, an offer), (0, a close) are an offer on the link into b
-- and a close of the link into a. In a tree r, b, a the names of the table have the places 2, 1, so
-- the events are (1, an offer), (2, a close). Where they are only looked at, the table and their
-- number, 2, are kept.
-- Source: this project's own.
use Rattle.std.specs.Prelude.{◌≡◌, ℕ, ◌<◌, ◌≤◌, Bool, true, false, List, [], length, map, get_or}
use Rattle.std.specs.Prelude.{All, Some}
use Rattle.stab_job.specs.ScheduleEntries.{NamedAct}
use Rattle.stab_script.specs.LinkJobs.{most_events}
use Rattle.stab_tree.specs.Nodes.{place_of}
use Rattle.stab_treecore.specs.declared.event.TreeEvent.{TreeEvent}

-- the act of a step on the link into the node of the name at its place
abbrev pub named_in : List (List ℕ) → TreeEvent → NamedAct
named_in names step = record { child = get_or names step.child []; act = step.act }

-- the acts of steps
abbrev pub acts_in : List (List ℕ) → List TreeEvent → List NamedAct
acts_in names kept = map (named_in names) kept

-- each step has a place of the table
abbrev pub AreIn : List (List ℕ) → List TreeEvent → Type 0
AreIn names kept = All (λ step. step.child < length names) kept

-- these are the nodes of the names of a table in a tree, whose nodes have such names
abbrev pub AreNodesOf : List (List ℕ) → List (List ℕ) → List ℕ → Type 0
AreNodesOf of_tree names nodes = (length nodes ≡ length names)
    × ((k : ℕ) → k < length names → place_of of_tree (get_or names k []) ≡ Some (get_or nodes k 0))

-- the event of a step over the nodes that have the names of the table
abbrev pub event_over : List ℕ → TreeEvent → TreeEvent
event_over nodes step = record { child = get_or nodes step.child 0; act = step.act }

-- steps or events where they are kept, and otherwise none
abbrev pub kept_of : Bool → List TreeEvent → List TreeEvent
kept_of true steps = steps
kept_of false steps = []

-- a table of names, how many steps there are, whether they are kept, and those that are
pub record KeptSteps : Type 0 where
  pub names : List (List ℕ)
  pub count : ℕ
  pub are_kept : Bool
  pub kept : List TreeEvent

-- this is kept of the steps that are these acts, which are not too many
pub record AreKept (keeps : Bool) (s : KeptSteps) (acts : List NamedAct) : Type 0 where
  pub steps : List TreeEvent
  pub within : AreIn s.names steps
  pub are : acts_in s.names steps ≡ acts
  pub counted : length steps ≡ s.count
  pub few : s.count ≤ most_events
  pub as_said : s.are_kept ≡ keeps
  pub kept : s.kept ≡ kept_of keeps steps
