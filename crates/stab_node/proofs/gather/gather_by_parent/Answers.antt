use Rattle.std.proofs.Common.{rules, ◌≡◌, ◌<◌, length, get_or, None, arith, ap, ◌∙◌, sym}
use Rattle.stab_node.proofs.GatheredByParent.{none_gathered, root_gathered, child_gathered, all_gathered}
use Rattle.stab_node.proofs.gather.gather_by_parent.Goals as goal
use Rattle.stab_node.proofs.gather.gather_by_parent.Goals.{in-None, in-Some}

pub nodes-init : goal.nodes-init
nodes-init g c = record {
  room = search rules;
  so_far = rw c.in_ok-entries.ensures.items (none_gathered c.args.tree.now.parents c.args.scattered.items c.requires);
}

pub nodes-preserved : goal.nodes-preserved
nodes-preserved g c =
    let parents = c.args.tree.now.parents in
    let in_list : c.nodes.node < length parents = omega arith in
    let read : get_or parents c.nodes.node None ≡ c.parent.result =
    ap (λ k. get_or parents k None) (omega arith) ∙ sym c.parent.ensures.value in
    elim c.match-parent.branch [
      | in-None w ↦ record {
        room = rw w.entries-is c.nodes.invariant.room;
        so_far =
            rw (w.scattered-is, w.entries-is)
            (root_gathered parents c.args.scattered.items c.nodes.scattered.items c.nodes.entries.items c.nodes.node c.nodes.invariant.so_far in_list
            (read ∙ w.in-None.is));
      }
      | in-Some w ↦ record {
        room = rw (w.entries-is, w.push_reserved.ensures.capacity) c.nodes.invariant.room;
        so_far =
            rw (w.scattered-is, w.entries-is, w.push_reserved.ensures.items, w.take_from.ensures.rows)
            (child_gathered parents c.args.scattered.items c.nodes.scattered.items c.nodes.entries.items c.nodes.node c.nodes.invariant.so_far in_list
            w.in-Some.parent (read ∙ w.in-Some.is) w.in-Some.ensures.known w.take_from.result _ w.take_from.ensures.entry);
      }
    ]

pub returns-clause-entries : goal.returns-clause-entries
returns-clause-entries g c =
    (all_gathered c.args.tree.now.parents c.args.scattered.items c.nodes.scattered.items c.nodes.entries.items c.nodes.node c.nodes.invariant.so_far
    (omega arith)).1
