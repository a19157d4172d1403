use Rattle.std.proofs.Common.{◌≡◌, ℕ, suc, ◌+◌, ◌-◌, ◌*◌, ◌<◌, max, length, Some, ap, sym, ◌∙◌, subst, arith}
use Rattle.stab_tree.specs.Nodes.{Nodes, parent_at}
use Rattle.stab_tree.specs.Steps.{depth_of}
use Rattle.stab_treecore.specs.Network.{Network}
use Rattle.stab_treecore.specs.NodeLaws.{capacity_into}
use Rattle.stab_treecore.specs.SharperLaw.{fewest_missing}
use Rattle.stab_judge.proofs.Climbing.{PeakClimbing, not_climbed, peak_climbed}
use Rattle.stab_judge.proofs.judge.Judge.fewest_missing.Goals as goal

pub links-preserved : goal.links-preserved
links-preserved c =
    let net = c.args.self.now in
    let parents = net.tree.parents in
    let node = c.args.node in
    let at = c.links.at in
    let up = c.in-Some.parent in
    let left = depth_of parents node - c.links.counter in
    let rest = depth_of parents node - (c.links.counter + 1) in
    let tree_is : c.self.inside.tree.now ≡ net.tree = ap (λ (n : Network). n.tree) c.self.view_is in
    let depth_is : c.depth-end.result ≡ depth_of parents node =
    c.depth-end.ensures.value ∙ ap (λ (t : Nodes). depth_of t.parents node) tree_is in
    let one : left ≡ suc rest = omega (arith, depth_is, c.links-test.true) in
    let is_child : parent_at parents at ≡ Some up =
    sym (c.in-Some.ensures.value ∙ ap (λ (t : Nodes). parent_at t.parents at) tree_is) in
    let capacity_is : c.from-capacity.result ≡ capacity_into net at = c.from-capacity.ensures ∙ c.capacity_into.ensures in
    let more_is : c.max-more.result ≡ max c.links.more (c.from-capacity.result - c.links.paid) = omega arith in
    let small = c.capacity_into.type_inv in (
      subst (λ (t : Nodes). up < length t.parents) tree_is c.in-Some.ensures.known,
      omega (arith, c.links.invariant.1, c.from-capacity.ensures, small),
      omega (arith, c.links.invariant.2, c.from-capacity.ensures, small),
      subst (λ (n : ℕ). PeakClimbing parents (capacity_into net) rest up (c.links.paid + (c.from-capacity.result + 1)) n (fewest_missing net node))
          (sym more_is)
          (subst (λ (n : ℕ). PeakClimbing parents (capacity_into net) rest up (c.links.paid + (n + 1)) (max c.links.more (n - c.links.paid))
          (fewest_missing net node)) (sym capacity_is)
          (peak_climbed parents (capacity_into net) left rest at up c.links.paid c.links.more (fewest_missing net node) one is_child
          c.links.invariant.3)),
    )
