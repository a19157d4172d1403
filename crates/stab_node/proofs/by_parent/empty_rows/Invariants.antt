use Rattle.std.proofs.Common.{◌≡◌, [], replicate, vec_len, vec_capacity}
use Rattle.stab_node.proofs.by_parent.empty_rows.Given as goal

-- the rows so far are empty, and there is room for all
abbrev pub invariant-rows : goal.invariant-rows
invariant-rows g l = record {
  room : vec_capacity l.rows ≡ l.count;
  number : vec_len l.rows ≡ l.counter;
  empty : l.rows.items ≡ replicate l.counter [];
}
