use Rattle.std.proofs.Common.{◌≡◌, ℕ, suc, ◌+◌, ◌-◌, length, Some, ap, sym, ◌∙◌, subst, arith}
use Rattle.stab_treecore.specs.Moment.{old_backlog}
use Rattle.stab_treecore.specs.Since.{moment}
use Rattle.stab_judge.proofs.Climbing.{climbed}
use Rattle.stab_tree.specs.Nodes.{parent_at}
use Rattle.stab_tree.specs.Steps.{depth_of}
use Rattle.stab_treecore.specs.Paths.{path_sum, sum_above}
use Rattle.rignolda_scenario.proofs.count.old_backlogs.Goals as goal

pub up-preserved : goal.up-preserved
up-preserved c =
    let s = c.args.state.now in
    let parents = s.parents in
    let node = c.args.node in
    let held : ℕ → ℕ = λ w. length (old_backlog (moment s) w) in
    let at = c.up.at in
    let above = c.in-Some.parent in
    let left = depth_of parents node - c.up.counter in
    let more = depth_of parents node - (c.up.counter + 1) in
    let same = c.requires.same_tree in
    let depth_is : c.depth-end.result ≡ depth_of parents node =
    c.depth-end.ensures.value ∙ ap (λ ps. depth_of ps node) (sym same) in
    let one : left ≡ suc more = omega (arith, depth_is, c.up-test.true) in
    let is_child : parent_at parents at ≡ Some above =
    ap (λ ps. parent_at ps at) same ∙ sym c.in-Some.ensures.value in (
      c.in-Some.ensures.known,
      omega (arith, c.up.invariant.1, c.old_backlog_len-sum.ensures.small),
      subst (λ n. c.up.sum + n + sum_above parents held more above ≡ path_sum parents held node) (sym c.old_backlog_len-sum.ensures.len)
          (climbed parents held left more at above c.up.sum (path_sum parents held node) one is_child c.up.invariant.2),
    )
