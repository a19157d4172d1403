use Rattle.std.proofs.Common.{◌≡◌, ℕ, suc, ◌+◌, ◌-◌, ◌*◌, ◌<◌, length, Some, ap, sym, ◌∙◌, subst, arith}
use Rattle.stab_tree.specs.Nodes.{Nodes, parent_at}
use Rattle.stab_tree.specs.Steps.{depth_of}
use Rattle.stab_treecore.specs.NodeLaws.{capacity_into}
use Rattle.stab_judge.proofs.Climbing.{Climbing, climbed}
use Rattle.rignolda_since.specs.ObeysLogs.{kept_for, strays_at}
use Rattle.rignolda_since.proofs.judged_logs.strays_at.Goals as goal

pub links-preserved : goal.links-preserved
links-preserved c =
    let net = c.args.judge.now in
    let parents = net.tree.parents in
    let node = c.args.node in
    let at = c.links.at in
    let up = c.in-Some.parent in
    let number : ℕ → ℕ = λ w. capacity_into net w + kept_for parents net.openings.hold w in
    let left = depth_of parents node - c.links.counter in
    let more = depth_of parents node - (c.links.counter + 1) in
    let same = c.requires.same_tree in
    let depth_is : c.depth-depth.result ≡ depth_of parents node =
    c.depth-depth.ensures.value ∙ ap (λ (t : Nodes). depth_of t.parents node) (sym same) in
    let one : left ≡ suc more = omega (arith, depth_is, c.links-test.true) in
    let is_child : parent_at parents at ≡ Some up =
    ap (λ (t : Nodes). parent_at t.parents at) same ∙ sym c.in-Some.ensures.value in
    let added : c.strays_into-strays.result ≡ number at = c.strays_into-strays.ensures.is in (
      c.in-Some.ensures.known,
      omega (arith, c.links.invariant.1, c.strays_into-strays.ensures.few),
      subst (λ (n : ℕ). Climbing parents number more up (c.links.strays + n) (strays_at net node)) (sym added)
          (climbed parents number left more at up c.links.strays (strays_at net node) one is_child c.links.invariant.2),
    )
