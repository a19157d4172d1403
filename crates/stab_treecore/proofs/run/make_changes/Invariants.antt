use Rattle.std.proofs.Common.{◌≡◌, take}
use Rattle.stab_treecore.proofs.Running.{IsRunning}
use Rattle.stab_treecore.proofs.run.make_changes.Given as goal

-- the state is of the tree; the changes so far could be made, and were
abbrev pub invariant-loop-change : goal.invariant-loop-change
invariant-loop-change l =
    (l.state.parents ≡ l.tree.parents) × IsRunning l.fn.state (take l.change-index l.changes) l.state
