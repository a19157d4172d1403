use Rattle.std.proofs.Common.{◌≡◌, Some, arith}
use Rattle.std.proofs.lemmas.Grind.{common_steps}
use Rattle.std.proofs.lemmas.Option.{gets}
use Rattle.stab_tree.specs.Nodes.{parent_at}
use Rattle.stab_treecore.proofs.state.TreeState.source.Goals as goal

pub received-requires : goal.received-requires
received-requires c =
    let here : parent_at c.self.inside.parents.items c.args.child ≡ Some c.in-Some-Some.parent = grind (arith, common_steps, gets) in
    rw (← c.self.view_is) (c.self.invariant.known_parents c.args.child c.in-Some-Some.parent here)
