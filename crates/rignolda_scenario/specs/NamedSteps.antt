-- Named steps: what a JSON value means as a step whose node is given by its name alone, whatever
-- tree it is of; and the step of a tree that this is, or the first check that it fails.
-- Example: `["a", "offer"]` means an offer on the link into the node that is called a. In the chain
-- r, a, b that is the node at place 1. In a tree without an a it is refused, and so it is in a tree
-- whose root is a.
-- Source: this project's own.
use Rattle.std.specs.Prelude.{◌≡◌, ℕ, ◌<◌, codes, List, [], ◌∷◌, length, get_or, slice_get}
use Rattle.std.specs.Prelude.{if◌then◌else◌, Option, Some, None, option_and_then, option_map}
use Rattle.std.specs.Prelude.{Result, Ok}
use Rattle.serde_json.specs.Data.{Data, number, string, array, object}
use Rattle.serde_json.specs.Find.{as_str, as_array}
use Rattle.stab_frames.specs.Parameters.{Parameters}
use Rattle.stab_core.specs.declared.act.LinkAct.{LinkAct}
use Rattle.stab_core.specs.declared.start.Start.{Start}
use Rattle.stab_json.specs.Checks.{◌>>=◌, ◌or◌}
use Rattle.stab_json.specs.Values.{entries, item_number, label}
use Rattle.stab_script.specs.Events.{plain_act, loss_act}
use Rattle.stab_script.specs.Starts.{start}
use Rattle.stab_tree.specs.Nodes.{Nodes}
use Rattle.stab_treecore.specs.declared.change.Change.TheVariants.{Publish, Strike, Restart}
use Rattle.rignolda_scenario.specs.declared.fault.StepFault.{StepFault}
use Rattle.rignolda_scenario.specs.declared.fault.StepFault.TheVariants as fault
use Rattle.rignolda_scenario.specs.declared.named.KeptStep.{KeptStep}
use Rattle.rignolda_scenario.specs.declared.named.KeptStep.TheVariants as kept
use Rattle.rignolda_scenario.specs.declared.named.ReadStep.{ReadStep}
use Rattle.rignolda_scenario.specs.declared.named.ReadStep.TheVariants as read
use Rattle.rignolda_scenario.specs.declared.step.Step.{Step}
use Rattle.rignolda_scenario.specs.declared.step.Step.TheVariants.{One, Rounds, ReadingRounds}
use Rattle.rignolda_scenario.specs.Entries.{act_step, is_word, link_named, node_named, start_fits}
use Rattle.rignolda_scenario.specs.Entries.{two_or_three}

pub data NamedStep : Type 0 where
  -- an act on the link into the node of a name
  act_on : List ℕ → LinkAct → NamedStep
  -- items that are published
  published : List ℕ → NamedStep
  -- a strike at the link into the node of a name
  strike_at : List ℕ → Start → NamedStep
  -- the restart of the node of a name, with items
  restart_of : List ℕ → List ℕ → NamedStep
  -- rounds, and reading rounds, of all links
  rounds : ℕ → NamedStep
  reading_rounds : ℕ → NamedStep

-- the act on the link into the node that a value names
abbrev pub named_act_on : Data → Option LinkAct → Option NamedStep
named_act_on d act = option_and_then (λ name. option_map (act_on name) act) (as_str d)

-- rounds of the kind that a word names
abbrev pub named_rounds : Data → ℕ → Option NamedStep
named_rounds word count =
    if is_word (codes "rounds") word then Some (rounds count)
    else (if is_word (codes "reading_rounds") word then Some (reading_rounds count) else None)

-- the step of two values, by the second
abbrev pub named_of_two : Data → Data → Option NamedStep
named_of_two first (array ds) =
    if is_word (codes "publish") first then option_map published (entries item_number ds) else None
named_of_two first (number n) = option_and_then (named_rounds first) (label (number n))
named_of_two first second = named_act_on first (option_and_then plain_act (as_str second))

-- the step of three values, by the third
abbrev pub named_of_three : Data → Data → Data → Option NamedStep
named_of_three first second (array ds) =
    if is_word (codes "restart") first
    then option_and_then (λ name. option_map (restart_of name) (entries item_number ds))
    (as_str second)
    else None
named_of_three first second (object ms) =
    if is_word (codes "strike") first
    then option_and_then (λ name. option_map (strike_at name) (start (object ms))) (as_str second)
    else None
named_of_three first second third =
    named_act_on first (option_and_then (λ word. loss_act word third) (as_str second))

-- the step of two values, or of three
abbrev pub named_of_parts : Data × Data × Option Data → Option NamedStep
named_of_parts (first, second, None) = named_of_two first second
named_of_parts (first, second, Some third) = named_of_three first second third

-- the step that a value means
abbrev pub named_step : Data → Option NamedStep
named_step d =
    option_and_then (λ ds. option_and_then named_of_parts (two_or_three ds)) (as_array d)

-- a strike at a link, whose child and place these are, of a tree whose links have these parameters
abbrev pub strike_on : List Parameters → (ℕ × ℕ) → Start → Result Step StepFault
strike_on params link its_start = do
  own ← slice_get params link.1 or fault.Root
  fits ← start_fits own its_start
  Ok (One (Strike link.0 its_start))

-- the step of a tree, whose links have these parameters
abbrev pub step_of_named : Nodes → List Parameters → NamedStep → Result Step StepFault
step_of_named t params (act_on name act) = act_step t (string name) (Some act)
step_of_named t params (published items) = Ok (One (Publish items))
step_of_named t params (strike_at name its_start) = do
  link ← link_named t (string name)
  strike_on params link its_start
step_of_named t params (restart_of name items) = do
  node ← node_named t (string name)
  Ok (One (Restart node items))
step_of_named t params (rounds count) = Ok (Rounds count)
step_of_named t params (reading_rounds count) = Ok (ReadingRounds count)

-- the steps of a tree are those that are named
abbrev pub AreStepsOf : Nodes → List Parameters → List NamedStep → List Step → Type 0
AreStepsOf t params [] [] = Unit {0}
AreStepsOf t params (n ∷ ns) (step ∷ steps) =
    (step_of_named t params n ≡ Ok step) × AreStepsOf t params ns steps
AreStepsOf t params _ _ = ⊥

-- the step that the code's record of a text lends
abbrev pub named_of : ReadStep → NamedStep
named_of (read.Act name act) = act_on name.now act
named_of (read.Publish items) = published items
named_of (read.Strike name its_start) = strike_at name.now its_start
named_of (read.Restart name items) = restart_of name.now items
named_of (read.Rounds count) = rounds count
named_of (read.ReadingRounds count) = reading_rounds count

-- the step whose name is at its place in a table
abbrev pub named_in : List (List ℕ) → KeptStep → NamedStep
named_in names (kept.Act place act) = act_on (get_or names place []) act
named_in names (kept.Publish items) = published items
named_in names (kept.Strike place its_start) = strike_at (get_or names place []) its_start
named_in names (kept.Restart place items) = restart_of (get_or names place []) items
named_in names (kept.Rounds count) = rounds count
named_in names (kept.ReadingRounds count) = reading_rounds count

-- a step has a place of the table, where it names a node
abbrev pub IsIn : List (List ℕ) → KeptStep → Type 0
IsIn names (kept.Act place act) = place < length names
IsIn names (kept.Strike place its_start) = place < length names
IsIn names (kept.Restart place items) = place < length names
IsIn names step = Unit {0}
