use Rattle.std.proofs.Common.{◌≡◌, drop}
use Rattle.stab_treecore.specs.TreeReplay.{tree_replay}
use Rattle.rignolda_draw.specs.Rows.{tree_rows_from}
use Rattle.rignolda_draw.proofs.Going.{GoesOn}
use Rattle.rignolda_draw.proofs.Taking.{Continues}
use Rattle.rignolda_draw.proofs.tree_walk.take_acts.Given as goal

-- what takes the rows of the remaining events, from the state so far, has taken all rows; and the
-- replay of these events is that of all
abbrev pub invariant-loop-event : goal.invariant-loop-event
invariant-loop-event g l =
    (l.state.parents ≡ l.tree.parents)
    × GoesOn l.state (drop l.event-index l.events) l.initial.state l.events
    × (tree_replay l.state (drop l.event-index l.events) ≡ tree_replay l.initial.state l.events)
    × Continues g.T.TakesRows.HasTaken l.to (tree_rows_from l.state (drop l.event-index l.events))
    l.initial.to (tree_rows_from l.initial.state l.events)
