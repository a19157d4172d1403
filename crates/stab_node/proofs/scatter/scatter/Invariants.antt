use Rattle.std.proofs.Common.{◌≡◌, drop, length, map, vec_len, vec_capacity}
use Rattle.std.specs.List.{range_with_len}
use Rattle.stab_tree.specs.ByChild.{by_child}
use Rattle.stab_node.specs.Scattering.{by_parent}
use Rattle.stab_node.proofs.Taken.{TakenSoFar}
use Rattle.stab_node.proofs.scatter.scatter.Given as goal

-- each node so far has its worker, and there is room for all
abbrev pub invariant-nodes : goal.invariant-nodes
invariant-nodes g l = record {
  room : vec_capacity l.workers ≡ length l.tree.parents;
  number : vec_len l.workers ≡ l.node;
  nodes : map (λ s. s.node) l.workers.items ≡ range_with_len 0 l.node;
  ups : TakenSoFar (λ s. s.up) l.workers.items (by_child (drop l.node l.tree.parents) l.ups) (by_child l.tree.parents l.fn.recvs.items);
  downs : TakenSoFar (λ s. s.downs.items) l.workers.items l.downs (by_parent l.tree.parents l.fn.sends.items);
}
