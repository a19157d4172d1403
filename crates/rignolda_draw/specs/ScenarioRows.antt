-- The rows of a scenario: one for each act of its steps, those of its rounds as well, from the
-- state that the changes before it left. Publishing and faults have no row; they change that state.
-- Source: this project's own.
use Rattle.std.specs.Prelude.{List, [], ◌∷◌, ◌++◌, option_to_list}
use Rattle.rignolda_draw.specs.Rows.{step_row}
use Rattle.rignolda_draw.specs.declared.row.Row.{Row}
use Rattle.stab_treecore.specs.Changes.{change_step}
use Rattle.stab_treecore.specs.declared.change.Change.{Change}
use Rattle.stab_treecore.specs.declared.change.Change.TheVariants.{Act}
use Rattle.stab_job.specs.JobValues.{network}
use Rattle.rignolda_scenario.specs.Played.{changes_of}
use Rattle.rignolda_scenario.specs.declared.read.Scenario.{Scenario}
use Rattle.stab_treecore.specs.TreeReplay.{initial_tree}
use Rattle.stab_treecore.specs.WholeTree.{WholeTree}

-- the row of a change, where it is an act
abbrev pub change_row : WholeTree → Change → List Row
change_row t (Act e) = option_to_list (step_row t e)
change_row t _ = []

-- the rows of these changes, one after the other, from this state
abbrev pub change_rows : WholeTree → List Change → List Row
change_rows t [] = []
change_rows t (change ∷ changes) = change_row t change ++ change_rows (change_step t change) changes

-- the rows of a scenario
abbrev pub scenario_rows : Scenario → List Row
scenario_rows s =
    change_rows (initial_tree (network s.job)) (changes_of s.job.tree.parents s.job.params s.steps)
