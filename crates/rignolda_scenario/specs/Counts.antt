-- What a scenario comes to at a node, counted from the last fault on the node's path: how many
-- strays there are at most, and how many of the first published items may be missing.
-- Source: this project's own.
use Rattle.std.specs.Prelude.{ℕ, ◌<◌, List, length, take}
use Rattle.stab_treecore.specs.Changes.{changes_replay}
use Rattle.stab_treecore.specs.Moment.{missing_since, published_since, strays_since}
use Rattle.stab_treecore.specs.ChangeRefusals.{AllCanBeMade, IsChangeReason}
use Rattle.stab_treecore.specs.Network.{IsNetwork}
use Rattle.stab_treecore.specs.Since.{gained, moment}
use Rattle.stab_job.specs.JobValues.{JobValue, network}
use Rattle.stab_treecore.specs.TreeReplay.{initial_tree}
use Rattle.stab_treecore.specs.WholeTree.{WholeTree}
use Rattle.rignolda_scenario.specs.declared.fault.ScenarioFault.{ScenarioFault}
use Rattle.rignolda_scenario.specs.declared.fault.ScenarioFault.TheVariants as fault
use Rattle.rignolda_scenario.specs.declared.step.Step.{Step}
use Rattle.rignolda_scenario.specs.LastFault.{last_fault}
use Rattle.rignolda_scenario.specs.Played.{changes_of, most_changes}

-- the whole tree of a job after these steps
abbrev pub state_after : JobValue → List Step → WholeTree
state_after j steps =
    changes_replay (initial_tree (network j)) (changes_of j.tree.parents j.params steps)

-- the whole tree after the last fault that hits a node
abbrev pub state_since : JobValue → List Step → ℕ → WholeTree
state_since j steps node = state_after j (take (last_fault j.tree.parents node steps) steps)

-- what the steps come to at a node
pub record Counted : Type 0 where
  -- the number of the step from which is counted
  pub since : ℕ
  -- what the node received since
  pub gained : List ℕ
  -- the most strays
  pub strays : ℕ
  -- how many of the first published items may be missing
  pub missing : ℕ
  -- what was published since, in its count
  pub published : List ℕ

-- what happens to a node from the state `s`, which the step of this number left, to the state `t`
abbrev pub counted_over : ℕ → WholeTree → WholeTree → ℕ → Counted
counted_over since s t node =
    record {
      since = since;
      gained = gained s t node;
      strays = strays_since (moment s) node;
      missing = missing_since (moment s) node;
      published = published_since (moment s) (gained s t) node;
    }

abbrev pub counted : JobValue → List Step → ℕ → Counted
counted j steps node =
    counted_over (last_fault j.tree.parents node steps) (state_since j steps node)
    (state_after j steps) node

-- the tree of a job can begin, and all changes of these steps can be made
abbrev pub CanBePlayed : JobValue → List Step → Type 0
CanBePlayed j steps =
    IsNetwork (network j)
    × AllCanBeMade (initial_tree (network j)) (changes_of j.tree.parents j.params steps)

-- why a scenario is not run: its steps are too many changes; its tree cannot begin, or one of them
-- cannot be made; or memory
abbrev pub IsUnrun : JobValue → List Step → ScenarioFault → Type 0
IsUnrun j steps fault.TooManyEvents =
    most_changes < length (changes_of j.tree.parents j.params steps)
IsUnrun j steps (fault.Run refusal) =
    IsChangeReason j.params j.starts (network j) (changes_of j.tree.parents j.params steps) refusal
IsUnrun j steps fault.Memory = Unit {0}
IsUnrun j steps _ = ⊥
