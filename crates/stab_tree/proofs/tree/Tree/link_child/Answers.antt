use Rattle.std.proofs.Common.{◌+◌, arith}
use Rattle.stab_tree.proofs.Links.{LinkInto, length-links_from, link_before_root, link_after_root}
use Rattle.stab_tree.proofs.Trees.{one_root}
use Rattle.stab_tree.proofs.tree.Tree.link_child.Goals as goal
use Rattle.stab_tree.proofs.tree.Tree.link_child.Goals.{Else-place}

-- after the root the link leads to the node one place further
after_root : (c : Else-place) → LinkInto c.args.self.now.parents c.args.place (c.args.place + 1)
after_root c =
    let within = rw (← c.self.view_is) at c.requires in
    let one = one_root _ c.self.invariant.tree.rooted in
    let number = length-links_from 0 c.self.inside.parents.items in
    let root = c.self.invariant.root_is in
    rw (← c.self.view_is) (link_after_root _ one c.args.place (omega arith) (omega arith))

pub overflow_add-place : goal.overflow_add-place
overflow_add-place c =
    let few = c.self.invariant.tree.few_nodes in
    let inside = rw (← c.self.view_is) at (after_root (goal.at.overflow_add-place c).Else-place).inside in
    omega arith

pub returns-then-place-clause-value : goal.returns-then-place-clause-value
returns-then-place-clause-value c =
    let one = one_root _ c.self.invariant.tree.rooted in
    let root = c.self.invariant.root_is in
    rw (← c.self.view_is, c.new.ensures) (link_before_root c.self.inside.parents.items one c.args.place (omega arith)).at

pub returns-else-place-clause-value : goal.returns-else-place-clause-value
returns-else-place-clause-value c =
    rw c.new-else-place.ensures (after_root (goal.at.returns-else-place-clause-value c).Else-place).at

pub returns-else-place-clause-known : goal.returns-else-place-clause-known
returns-else-place-clause-known c =
    rw c.new-else-place.ensures (after_root (goal.at.returns-else-place-clause-known c).Else-place).inside

pub returns-else-place-clause-child : goal.returns-else-place-clause-child
returns-else-place-clause-child c =
    rw c.new-else-place.ensures (after_root (goal.at.returns-else-place-clause-child c).Else-place).child
