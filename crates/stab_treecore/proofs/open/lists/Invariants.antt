use Rattle.std.proofs.Common.{◌≡◌, length, map, take, vec_len, vec_capacity}
use Rattle.stab_treecore.proofs.open.lists.Given as goal

-- the copies so far are those of the first openings, and there is room for all
abbrev pub invariant-nodes : goal.invariant-nodes
invariant-nodes l =
    (vec_capacity l.lists ≡ length l.tree.parents)
    × (vec_len l.lists ≡ l.node)
    × (map (λ list. list.items) l.lists.items ≡ take l.node l.openings.lists)
