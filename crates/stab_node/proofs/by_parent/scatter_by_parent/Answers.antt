use Rattle.std.proofs.Common.{◌≡◌, ◌<◌, length, get_or, None, arith, ap, ◌∙◌, sym}
use Rattle.stab_node.proofs.Scattered.{root_adds_nothing, none_left_to_add, child_adds, rows_whole}
use Rattle.stab_node.proofs.by_parent.scatter_by_parent.Goals as goal
use Rattle.stab_node.proofs.by_parent.scatter_by_parent.Goals.{in-None, in-Some+in-None-take, in-Some+in-Some-take+in_ok-add_to-in-Some-take}

pub nodes-preserved : goal.nodes-preserved
nodes-preserved g c =
    let parents = c.args.tree.now.parents in
    let in_list : c.nodes.node < length parents = omega arith in
    let read : get_or parents c.nodes.node None ≡ c.parent.result =
    ap (λ k. get_or parents k None) (omega arith) ∙ sym c.parent.ensures.value in
    elim c.match-parent.branch [
      | in-None w ↦
          rw (w.scattered-is, w.left-is)
          (root_adds_nothing parents c.args.entries.items c.nodes.scattered.items c.nodes.node in_list c.nodes.left c.nodes.invariant (read ∙ w.in-None.is))
      | in-Some+in-None-take w ↦
          rw (w.scattered-is, w.left-is)
          (none_left_to_add parents c.args.entries.items c.nodes.scattered.items c.nodes.node in_list w.in-Some.parent c.nodes.left w.take.new.self
          c.nodes.invariant (read ∙ w.in-Some.is) w.in-None-take.ensures.0 w.in-None-take.ensures.1)
      | in-Some+in-Some-take+in_ok-add_to-in-Some-take w ↦
          rw (w.scattered-is, w.left-is, w.in_ok-add_to-in-Some-take.ensures)
          (child_adds parents c.args.entries.items c.nodes.scattered.items c.nodes.node in_list w.in-Some.parent w.in-Some-take.entry c.nodes.left w.take.new.self
          c.nodes.invariant (read ∙ w.in-Some.is) w.in-Some-take.ensures)
    ]

pub returns : goal.returns
returns g c =
    rows_whole c.args.tree.now.parents c.args.entries.items c.nodes.scattered.items c.nodes.left c.nodes.node c.nodes.invariant (omega arith)
