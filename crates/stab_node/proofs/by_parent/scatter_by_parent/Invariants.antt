use Rattle.stab_node.proofs.Scattered.{ByParentSoFar}
use Rattle.stab_node.proofs.by_parent.scatter_by_parent.Given as goal

-- the rows have what the nodes so far add to them
abbrev pub invariant-nodes : goal.invariant-nodes
invariant-nodes g l = ByParentSoFar l.tree.parents l.fn.entries.items l.scattered.items l.left l.node
