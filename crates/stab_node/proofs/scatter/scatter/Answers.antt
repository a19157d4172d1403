use Rattle.std.specs.List.{range_with_len}
use Rattle.std.proofs.Common.{[], ◌∷◌, ◌++◌, rules, arith, ap, ◌∙◌, sym}
use Rattle.std.proofs.lemmas.List.{map-append}
use Rattle.stab_tree.proofs.ForCallers.{length-by_child}
use Rattle.stab_node.proofs.ByParent.{length-by_parent}
use Rattle.stab_node.proofs.Taken.{one_more_taken, more_to_take, all_taken, one_more_number}
use Rattle.stab_node.proofs.scatter.scatter.Goals as goal

pub next_worker-requires-clause-downs : goal.next_worker-requires-clause-downs
next_worker-requires-clause-downs g c =
    more_to_take _ c.nodes.workers.items c.nodes.downs _ c.nodes.invariant.downs
    (omega (arith, length-by_parent c.args.tree.now.parents c.args.sends.items))

pub nodes-preserved : goal.nodes-preserved
nodes-preserved g c = record {
  room = search rules;
  number = search rules;
  nodes =
      rw c.push_reserved.ensures.items
      (map-append (λ s. s.node) c.nodes.workers.items _
      ∙ (ap (λ front. front ++ c.next_worker.result.node ∷ []) c.nodes.invariant.nodes
      ∙ (ap (λ k. range_with_len 0 c.nodes.node ++ k ∷ []) c.next_worker.ensures.node ∙ sym (one_more_number c.nodes.node))));
  ups = rw c.push_reserved.ensures.items (one_more_taken _ c.nodes.workers.items c.next_worker.result _ _ _ c.nodes.invariant.ups c.next_worker.ensures.up);
  downs = rw c.push_reserved.ensures.items (one_more_taken _ c.nodes.workers.items c.next_worker.result c.nodes.downs c.next_worker.new.downs _ c.nodes.invariant.downs c.next_worker.ensures.downs);
}

pub returns-clause-ups : goal.returns-clause-ups
returns-clause-ups g c =
    all_taken _ c.nodes.workers.items _ _ c.nodes.invariant.ups
    (omega (arith, length-by_child c.args.tree.now.parents c.args.recvs.items))

pub returns-clause-downs : goal.returns-clause-downs
returns-clause-downs g c =
    all_taken _ c.nodes.workers.items c.nodes.downs _ c.nodes.invariant.downs
    (omega (arith, length-by_parent c.args.tree.now.parents c.args.sends.items))
