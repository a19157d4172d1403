use Rattle.std.proofs.Common.{◌≡◌, ℕ, suc, ◌+◌, ◌-◌, ◌*◌, ◌<◌, length, Some, ap, sym, ◌∙◌, subst, arith}
use Rattle.stab_tree.specs.Nodes.{Nodes, parent_at}
use Rattle.stab_tree.specs.Steps.{depth_of}
use Rattle.stab_treecore.specs.Network.{Network}
use Rattle.stab_treecore.specs.NodeLaws.{capacity_into, held_bound, most_missing, strays_bound}
use Rattle.stab_tree.specs.NodeOpenings.{hold_at}
use Rattle.stab_judge.proofs.Climbing.{Climbing, climbed}
use Rattle.stab_judge.proofs.judge.Judge.bounds_at.Goals as goal

pub links-preserved : goal.links-preserved
links-preserved c =
    let net = c.args.self.now in
    let parents = net.tree.parents in
    let node = c.args.node in
    let at = c.links.at in
    let up = c.in-Some.parent in
    let hold = hold_at parents net.openings.hold in
    let missing : ℕ → ℕ = λ child. 2 * capacity_into net child + 1 in
    let left = depth_of parents node - c.links.counter in
    let more = depth_of parents node - (c.links.counter + 1) in
    let tree_is : c.self.inside.tree.now ≡ net.tree = ap (λ (n : Network). n.tree) c.self.view_is in
    let depth_is : c.depth.result ≡ depth_of parents node =
    c.depth.ensures.value ∙ ap (λ (t : Nodes). depth_of t.parents node) tree_is in
    let one : left ≡ suc more = omega (arith, depth_is, c.links-test.true) in
    let is_child : parent_at parents at ≡ Some up =
    sym (c.in-Some.ensures.value ∙ ap (λ (t : Nodes). parent_at t.parents at) tree_is) in
    let capacity_is : c.from-capacity.result ≡ capacity_into net at = c.from-capacity.ensures ∙ c.capacity_into.ensures in
    let held_is : c.from.result ≡ hold at = c.from.ensures ∙ c.most_held.ensures in
    let sums = c.links.bounds in (
      subst (λ (t : Nodes). up < length t.parents) tree_is c.in-Some.ensures.known,
      c.links.invariant.1,
      omega (arith, c.links.invariant.2, c.from-capacity.ensures, c.capacity_into.type_inv),
      omega (arith, c.links.invariant.3, c.from.ensures, c.most_held.type_inv),
      omega (arith, c.links.invariant.4, c.from-capacity.ensures, c.capacity_into.type_inv),
      subst (λ (n : ℕ). Climbing parents (capacity_into net) more up (sums.link_strays + n) (strays_bound net node)) (sym capacity_is)
          (climbed parents (capacity_into net) left more at up sums.link_strays (strays_bound net node) one is_child c.links.invariant.5),
      subst (λ (n : ℕ). Climbing parents hold more up (sums.opening_strays + n) (held_bound net node)) (sym held_is)
          (climbed parents hold left more at up sums.opening_strays (held_bound net node) one is_child c.links.invariant.6),
      subst (λ (n : ℕ). Climbing parents missing more up (sums.missing + (2 * n + 1)) (most_missing net node)) (sym capacity_is)
          (climbed parents missing left more at up sums.missing (most_missing net node) one is_child c.links.invariant.7),
    )
