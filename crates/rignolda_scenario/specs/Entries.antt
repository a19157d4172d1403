-- Steps: what a JSON value means as a step of a scenario, of a tree whose links have these
-- parameters in their order; or the first check that it fails.
-- Example: `["a", "offer"]` is an act on the link into a, and `["a", "lose_frame", 0]` another.
-- `["publish", [20]]` ends with a list, `["restart", "b", [50]]` too, `["strike", "b", {"send": 0,
-- "recv": 1}]` with an object, and `["rounds", 22]` with a number: so each kind is told by its last
-- value, whatever the nodes are called. A step of a wrong shape that names no node is refused for
-- its shape.
-- Source: this project's profile.
use Rattle.std.specs.Prelude.{ℕ, codes, nat_lt, length, List, slice_get, Bool, false, not}
use Rattle.std.specs.Prelude.{if◌then◌else◌}
use Rattle.std.specs.Prelude.{Option, Some, None, option_and_then, Result, Ok, Err, ⊤}
use Rattle.std.specs.Option.{option_map_or}
use Rattle.std.specs.Str.{bytes_eq}
use Rattle.serde_json.specs.Data.{Data, number, array, object, Items, no_items, item}
use Rattle.serde_json.specs.Find.{as_str, as_array}
use Rattle.stab_frames.specs.Parameters.{Parameters}
use Rattle.stab_core.specs.declared.act.LinkAct.{LinkAct}
use Rattle.stab_core.specs.declared.start.Start.{Start}
use Rattle.stab_json.specs.Checks.{◌>>=◌, ◌>>◌, ◌or◌, ◌when◌}
use Rattle.stab_json.specs.Values.{entries, item_number, label}
use Rattle.stab_script.specs.Events.{plain_act, loss_act}
use Rattle.stab_script.specs.Starts.{start}
use Rattle.stab_tree.specs.Links.{link_place_of}
use Rattle.stab_tree.specs.Nodes.{Nodes, place_of}
use Rattle.stab_treecore.specs.declared.change.Change.TheVariants.{Act, Publish, Strike, Restart}
use Rattle.rignolda_scenario.specs.declared.fault.StepFault.{StepFault}
use Rattle.rignolda_scenario.specs.declared.fault.StepFault.TheVariants as fault
use Rattle.rignolda_scenario.specs.declared.step.Step.{Step}
use Rattle.rignolda_scenario.specs.declared.step.Step.TheVariants.{One, Rounds, ReadingRounds}

-- a value is this word
abbrev pub is_word : List ℕ → Data → Bool
is_word word d = option_map_or (λ its_word. bytes_eq its_word word) (as_str d) false

-- the node that a value names
abbrev pub node_named : Nodes → Data → Result ℕ StepFault
node_named t d = do
  name ← as_str d or fault.Shape
  place_of t.names name or fault.UnknownNode

-- the child of the link that a value names, and the place of the link
abbrev pub link_named : Nodes → Data → Result (ℕ × ℕ) StepFault
link_named t d = do
  child ← node_named t d
  place ← link_place_of t.parents child or fault.Root
  Ok (child, place)

-- an act on the link that a value names, where there is an act
abbrev pub act_step : Nodes → Data → Option LinkAct → Result Step StepFault
act_step t d act = do
  its_act ← act or fault.Shape
  link ← link_named t d
  Ok (One (Act (record { child = link.0; act = its_act })))

-- items that are published
abbrev pub publish_step : Data → Items → Result Step StepFault
publish_step word its_items = do
  fault.Shape when not (is_word (codes "publish") word)
  items ← entries item_number its_items or fault.Shape
  Ok (One (Publish items))

-- the restart of a node
abbrev pub restart_step : Nodes → Data → Data → Items → Result Step StepFault
restart_step t word name its_items = do
  fault.Shape when not (is_word (codes "restart") word)
  items ← entries item_number its_items or fault.Shape
  node ← node_named t name
  Ok (One (Restart node items))

-- what a strike leaves in a link is within its capacity
abbrev pub start_fits : Parameters → Start → Result ⊤ StepFault
start_fits p its_start = do
  fault.TooManyFrames when nat_lt p.capacity (length its_start.frames)
  fault.TooManyAcks when nat_lt p.capacity (length its_start.acks)
  Ok tt

-- a strike at a link
abbrev pub strike_step : Nodes → List Parameters → Data → Data → Data → Result Step StepFault
strike_step t params word name d = do
  fault.Shape when not (is_word (codes "strike") word)
  its_start ← start d or fault.Shape
  link ← link_named t name
  own ← slice_get params link.1 or fault.Root
  fits ← start_fits own its_start
  Ok (One (Strike link.0 its_start))

-- the step of `count` rounds, of the kind that the word names
abbrev pub rounds_step : Data → ℕ → Result Step StepFault
rounds_step word count =
    if is_word (codes "rounds") word then Ok (Rounds count)
    else (if is_word (codes "reading_rounds") word then Ok (ReadingRounds count)
    else Err fault.Shape)

-- the rounds of a number that is one of 16 bits
abbrev pub rounds_of : Data → Option ℕ → Result Step StepFault
rounds_of word None = Err fault.Shape
rounds_of word (Some count) = rounds_step word count

-- the step of two values, by the second
abbrev pub step_of_two : Nodes → Data → Data → Result Step StepFault
step_of_two t first (array its_items) = publish_step first its_items
step_of_two t first (number n) = rounds_of first (label (number n))
step_of_two t first second = act_step t first (option_and_then plain_act (as_str second))

-- the step of three values, by the third
abbrev pub step_of_three : Nodes → List Parameters → Data → Data → Data → Result Step StepFault
step_of_three t params first second (array its_items) = restart_step t first second its_items
step_of_three t params first second (object ms) = strike_step t params first second (object ms)
step_of_three t params first second third =
    act_step t first (option_and_then (λ word. loss_act word third) (as_str second))

-- the two values of a list, and the third where there are three
abbrev pub two_or_three : Items → Option (Data × Data × Option Data)
two_or_three (item first (item second no_items)) = Some (first, second, None)
two_or_three (item first (item second (item third no_items))) = Some (first, second, Some third)
two_or_three _ = None

-- the step of two values, or of three
abbrev pub step_of_parts : Nodes → List Parameters → Option (Data × Data × Option Data)
    → Result Step StepFault
step_of_parts t params None = Err fault.Shape
step_of_parts t params (Some (first, second, None)) = step_of_two t first second
step_of_parts t params (Some (first, second, Some third)) =
    step_of_three t params first second third

-- the step of a list of values
abbrev pub step_of_items : Nodes → List Parameters → Items → Result Step StepFault
step_of_items t params ds = step_of_parts t params (two_or_three ds)

-- the step that a value means
abbrev pub step_of : Nodes → List Parameters → Data → Result Step StepFault
step_of t params d = do
  its_items ← as_array d or fault.Shape
  step_of_items t params its_items
