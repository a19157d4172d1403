-- The initial state of a whole tree, and the replay of a schedule: its steps, one after the other.
-- Source: this project's profile. The starts are arbitrary, but for the capacity of their queues,
-- and so are the openings, but for their number of items.
use Rattle.std.specs.Prelude.{List, [], ◌∷◌, map}
use Rattle.stab_core.specs.Link.{LinkValue, link_at}
use Rattle.stab_core.specs.LinkSetup.{LinkSetup}
use Rattle.stab_core.specs.Replay.{initial}
use Rattle.stab_treecore.specs.declared.event.TreeEvent.{TreeEvent}
use Rattle.stab_tree.specs.ByChild.{by_child}
use Rattle.stab_treecore.specs.Network.{Network}
use Rattle.stab_treecore.specs.TreeStep.{tree_step}
use Rattle.stab_treecore.specs.WholeTree.{WholeTree}

-- a link at its start
abbrev pub opened : LinkSetup → LinkValue
opened link = link_at link.params (initial link.start)

-- the whole tree with each link at its start, and each node with its opening
abbrev pub initial_tree : Network → WholeTree
initial_tree net =
    record {
      published = net.published;
      openings = net.openings.lists;
      parents = net.tree.parents;
      links = by_child net.tree.parents (map opened net.links);
    }

-- the whole tree after these events
abbrev pub tree_replay : WholeTree → List TreeEvent → WholeTree
tree_replay t [] = t
tree_replay t (e ∷ es) = tree_replay (tree_step t e) es
