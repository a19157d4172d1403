use Rattle.std.proofs.Common.{◌≡◌, [], length, replicate, vec_len, vec_capacity}
use Rattle.stab_tree.proofs.openings.Openings.none.Given as goal

-- the lists so far are empty, and there is room for all
abbrev pub invariant-nodes : goal.invariant-nodes
invariant-nodes l =
    (vec_capacity l.lists ≡ length l.tree.parents) × (vec_len l.lists ≡ l.counter) × (l.lists.items ≡ replicate l.counter [])
