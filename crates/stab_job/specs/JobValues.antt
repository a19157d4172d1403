-- The value of a job: a tree, parameters, a start and a script for each of its links, the openings
-- of its nodes, published items, a number of turns and a schedule.
-- Source: this project's profile.
use Rattle.std.specs.Prelude.{◌≡◌, ℕ, ◌≤◌, List, length, All}
use Rattle.stab_frames.specs.Parameters.{Parameters, AreLawful}
use Rattle.stab_core.specs.declared.start.Start.{Start}
use Rattle.stab_acts.specs.Scripts.{Acts}
use Rattle.stab_tree.specs.Links.{links_of}
use Rattle.stab_tree.specs.Nodes.{Nodes}
use Rattle.stab_treecore.specs.declared.event.TreeEvent.{TreeEvent}
use Rattle.stab_treecore.specs.Network.{Network, network_of}
use Rattle.stab_tree.specs.NodeOpenings.{FitTree, OpeningsValue, most_hold}

pub record JobValue : Type 0 where
  pub params : List Parameters
  pub tree : Nodes
  pub items : List ℕ
  pub starts : List Start
  pub scripts : List Acts
  pub turns : ℕ
  pub schedule : List TreeEvent
  pub openings : OpeningsValue

-- the most items that a job may have
abbrev pub most_items : ℕ
most_items = 10000

-- the most turns that a job may name
abbrev pub most_turns : ℕ
most_turns = 1000000

-- how many links the nodes have
abbrev pub links : Nodes → ℕ
links t = length (links_of t.parents)

-- the network of a job: all that its runs and its schedule are about
abbrev pub network : JobValue → Network
network j = network_of j.params j.tree j.items j.starts j.openings

-- each link has lawful parameters, a start and a script, the openings are those of the tree, and
-- the items of an opening, the published items and the turns are within their limits
pub record IsJob (j : JobValue) : Type 0 where
  pub one_params_each : length j.params ≡ links j.tree
  pub lawful_params : All AreLawful j.params
  pub one_start_each : length j.starts ≡ links j.tree
  pub one_script_each : length j.scripts ≡ links j.tree
  pub openings_fit : FitTree j.tree.parents j.openings
  pub few_held : j.openings.hold ≤ most_hold
  pub few_items : length j.items ≤ most_items
  pub some_turns : 1 ≤ j.turns
  pub few_turns : j.turns ≤ most_turns
