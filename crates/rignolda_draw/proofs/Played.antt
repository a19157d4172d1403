-- The rows of changes, and the tree after them, part by part.
use Rattle.std.proofs.Common.{◌≡◌, ◌∙◌, List, [], ◌∷◌, ◌++◌, option_to_list, refl, ap, sym, append_assoc}
use Rattle.stab_treecore.specs.declared.change.Change.{Change}
use Rattle.stab_treecore.specs.Changes.{change_step, changes_replay}
use Rattle.rignolda_scenario.specs.Played.{acts}
use Rattle.stab_treecore.specs.TreeReplay.{tree_replay}
use Rattle.stab_treecore.specs.TreeStep.{tree_step}
use Rattle.stab_treecore.specs.WholeTree.{WholeTree}
use Rattle.stab_treecore.specs.declared.event.TreeEvent.{TreeEvent}
use Rattle.rignolda_draw.specs.Rows.{step_row, tree_rows_from}
use Rattle.rignolda_draw.specs.ScenarioRows.{change_row, change_rows}

-- changes, and others after them
pub rows_of_both : (t : WholeTree) (first rest : List Change)
    → change_rows t (first ++ rest) ≡ change_rows t first ++ change_rows (changes_replay t first) rest
rows_of_both t [] rest = refl
rows_of_both t (change ∷ changes) rest =
    ap (λ rows. change_row t change ++ rows) (rows_of_both (change_step t change) changes rest)
    ∙ sym (append_assoc (change_row t change) (change_rows (change_step t change) changes) _)

-- acts, and changes after them
pub acts_first : (t : WholeTree) (events : List TreeEvent) (rest : List Change)
    → changes_replay t (acts events ++ rest) ≡ changes_replay (tree_replay t events) rest
acts_first t [] rest = refl
acts_first t (e ∷ es) rest = acts_first (tree_step t e) es rest

pub rows_of_acts_first : (t : WholeTree) (events : List TreeEvent) (rest : List Change)
    → change_rows t (acts events ++ rest) ≡ tree_rows_from t events ++ change_rows (tree_replay t events) rest
rows_of_acts_first t [] rest = refl
rows_of_acts_first t (e ∷ es) rest =
    ap (λ rows. option_to_list (step_row t e) ++ rows) (rows_of_acts_first (tree_step t e) es rest)
    ∙ sym (append_assoc (option_to_list (step_row t e)) (tree_rows_from (tree_step t e) es) _)
