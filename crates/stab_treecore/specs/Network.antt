-- The network: what a schedule, a run and the laws of all nodes are about, in one record.
-- Example: Of nodes r, a, b in a chain with two setups, `setup_into` a is the first, that of b the
-- second, and r has none. With three setups it is no network, nor where a start has two frames and
-- its parameters the capacity 1.
-- Source: this project's profile.
use Rattle.std.specs.Prelude.{◌≡◌, ℕ, List, length, All, Option, None, slice_index_or}
use Rattle.stab_frames.specs.Parameters.{Parameters}
use Rattle.stab_core.specs.declared.start.Start.{Start}
use Rattle.stab_core.specs.LinkSetup.{CanBegin, LinkSetup, setups}
use Rattle.stab_tree.specs.IsTree.{IsRooted}
use Rattle.stab_tree.specs.Links.{links_of}
use Rattle.stab_tree.specs.Nodes.{Nodes}
use Rattle.stab_tree.specs.ByChild.{by_child}
use Rattle.stab_tree.specs.NodeOpenings.{FitTree, OpeningsValue}

pub record Network : Type 0 where
  pub tree : Nodes
  -- the links, in the file order of their children
  pub links : List LinkSetup
  -- what the nodes begin with that nobody published
  pub openings : OpeningsValue
  -- the items that the root publishes
  pub published : List ℕ

-- the network of these parts, one entry of each list for a link
abbrev pub network_of : List Parameters → Nodes → List ℕ → List Start → OpeningsValue → Network
network_of params tree published starts openings =
    record {
      tree = tree;
      links = setups params starts;
      openings = openings;
      published = published;
    }

-- the link into a node; the root has none
abbrev pub setup_into : Network → ℕ → Option LinkSetup
setup_into net node = slice_index_or (by_child net.tree.parents net.links) node None

-- its nodes are a tree, its openings fit it, and into each node but the root there is one link,
-- which can begin
pub record IsNetwork (net : Network) : Type 0 where
  pub tree : IsRooted net.tree.parents
  pub openings_fit : FitTree net.tree.parents net.openings
  pub one_per_link : length net.links ≡ length (links_of net.tree.parents)
  pub can_begin : All CanBegin net.links
