-- Options: what a random job is drawn by, and the first check that the options fail.
-- Example: 64 nodes of capacity 64 without labels pass: each link draws its labels, and the job has
-- 1000. Capacity 2 with 5 labels are no parameters of a link, so `Params LabelsTooFew`, whatever
-- the turns are.
-- Source: this project's own.
use Rattle.std.specs.Prelude.{ℕ, nat_lt, ◌||◌, ◌==◌, if◌then◌else◌, option_map, unwrap_or}
use Rattle.std.specs.Prelude.{Option, Some, None}
use Rattle.stab_frames.specs.Parameters.{fault_of, most_labels}
use Rattle.stab_job.specs.JobValues.{most_items, most_turns}
use Rattle.stab_tree.specs.Nodes.{most_nodes}
use Rattle.stab_tree.specs.NodeOpenings.{most_hold}
use Rattle.rignolda_make.specs.declared.options.DrawOptions.{DrawOptions}
use Rattle.rignolda_make.specs.declared.options.OptionsFault.{OptionsFault}
use Rattle.rignolda_make.specs.declared.options.OptionsFault.TheVariants as fault

-- the most steps that are drawn
abbrev pub most_steps : ℕ
most_steps = 500000

-- the largest rate of a drawn script
abbrev pub most_rate : ℕ
most_rate = 1000

-- how many labels the links have that say none of their own
abbrev pub labels_of : DrawOptions → ℕ
labels_of o = unwrap_or o.labels most_labels

-- the first check after those of the nodes, the items and the parameters
abbrev pub rest_fault : DrawOptions → Option OptionsFault
rest_fault o =
    if nat_lt o.turns 1 || nat_lt most_turns o.turns then Some fault.TurnsOutOfRange
    else if nat_lt most_rate o.loss || nat_lt most_rate o.repeat then Some fault.RateOutOfRange
    else if nat_lt most_hold o.hold then Some fault.HoldOutOfRange
    else if nat_lt most_steps o.steps then Some fault.TooManySteps
    else None

-- the fault of the parameters, or that of the rest
abbrev pub params_or_rest : Option OptionsFault → Option OptionsFault → Option OptionsFault
params_or_rest (Some fault) rest = Some fault
params_or_rest None rest = rest

-- the first check that the options fail
abbrev pub options_fault : DrawOptions → Option OptionsFault
options_fault o =
    if nat_lt o.nodes 1 || nat_lt most_nodes o.nodes then Some fault.NodesOutOfRange
    else if nat_lt most_items o.items then Some fault.TooManyItems
    else params_or_rest (option_map fault.Params (fault_of o.capacity (labels_of o))) (rest_fault o)

-- how many steps the schedule has: a tree of one node has no links, and so no steps
abbrev pub steps_of : DrawOptions → ℕ
steps_of o = if o.nodes == 1 then 0 else o.steps
