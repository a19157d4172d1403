use Rattle.std.proofs.Common.{◌≡◌, length, vec_capacity}
use Rattle.stab_tree.specs.Links.{links_of}
use Rattle.stab_node.proofs.GatheredByParent.{GatheredSoFar}
use Rattle.stab_node.proofs.gather.gather_by_parent.Given as goal

-- each node so far has given back what belongs to the link into it, and there is room for all links
abbrev pub invariant-nodes : goal.invariant-nodes
invariant-nodes g l = record {
  room : vec_capacity l.entries ≡ length (links_of l.tree.parents);
  so_far : GatheredSoFar l.tree.parents l.fn.scattered.items l.scattered.items l.entries.items l.node;
}
