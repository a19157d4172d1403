use Rattle.std.proofs.Common.{◌≡◌, All, take, drop}
use Rattle.stab_treecore.specs.Network.{network_of}
use Rattle.stab_treecore.specs.Refusals.{NamesLink}
use Rattle.stab_treecore.specs.TreeReplay.{initial_tree, tree_replay}
use Rattle.stab_treecore.specs.WholeTree.{WholeTree}
use Rattle.stab_treecore.proofs.Refused.{CarriesOver}
use Rattle.stab_treecore.proofs.schedule.replayed.Given as goal

-- The events so far named links. The replay of the events to come, from the state so far, is that
-- of all events, and what refuses them refuses all.
abbrev pub invariant-loop-event : goal.invariant-loop-event
invariant-loop-event l =
    let t : WholeTree = initial_tree (network_of l.params l.tree l.published l.starts l.openings) in
    (l.state.parents ≡ l.tree.parents)
    × All (NamesLink l.tree.parents) (take l.event-index l.events)
    × (tree_replay l.state (drop l.event-index l.events) ≡ tree_replay t l.events)
    × CarriesOver l.state (drop l.event-index l.events) t l.events
