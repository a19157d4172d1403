use Rattle.std.proofs.Common.{◌-◌, ◌<◌, length, sym, ◌∙◌, ltb-true, arith, rules}
use Rattle.std.proofs.lemmas.Bool.{and_parts}
use Rattle.stab_c.specs.declared.node.Node.{Node}
use Rattle.stab_c.proofs.Rings.{list_put}
use Rattle.stab_c.proofs.node.rignolda_node_publish.Goals as goal

pub returns-clause-list : goal.returns-clause-list
returns-clause-list c items is_list =
    let before : Node = c.args.node.now in
    let (shorter, below) = and_parts _ _ (sym c.has_room.ensures ∙ c.if-not-has_room.false) in
    let room : before.length - before.forgotten < length c.args.list.now = ltb-true _ _ shorter in
    list_put before _ c.args.list.now _ items c.args.item room (search rules) (omega arith) is_list
