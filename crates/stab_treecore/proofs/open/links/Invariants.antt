use Rattle.std.proofs.Common.{◌≡◌, ◌≤◌, length, map, vec_len, vec_capacity}
use Rattle.stab_core.specs.LinkSetup.{setups}
use Rattle.stab_treecore.specs.TreeReplay.{opened}
use Rattle.stab_treecore.proofs.Opened.{OpenedSoFar}
use Rattle.stab_treecore.proofs.open.links.Given as goal

-- the links so far have begun, no more than there are nodes so far, and there is room for all
abbrev pub invariant-loop-parent : goal.invariant-loop-parent
invariant-loop-parent l =
    (vec_capacity l.links ≡ length l.parents)
    × (vec_len l.links ≡ l.parent-index)
    × (l.begun ≤ l.parent-index)
    × OpenedSoFar l.parents (map opened (setups l.params l.starts)) l.links.items l.begun l.parent-index
