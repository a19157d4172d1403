use Rattle.std.proofs.Common.{◌≡◌, suc, ◌+◌, ◌-◌, ◌==◌, false, Some, ap, sym, ◌∙◌, arith}
use Rattle.stab_tree.specs.Nodes.{parent_at}
use Rattle.stab_tree.specs.Steps.{depth_of}
use Rattle.rignolda_scenario.specs.LastFault.{is_within}
use Rattle.rignolda_scenario.proofs.Climbing.{further_up}
use Rattle.rignolda_scenario.proofs.hits.is_on_path.Goals as goal

pub up-preserved : goal.up-preserved
up-preserved c =
    let parents = c.args.tree.now.parents in
    let node = c.args.node in
    let other = c.args.other in
    let at = c.up.at in
    let above = c.in-Some.parent in
    let more = depth_of parents node - (c.up.counter + 1) in
    let one : depth_of parents node - c.up.counter ≡ suc more = omega (arith, c.depth-end.ensures.value, c.up-test.true) in
    let is_child : parent_at parents at ≡ Some above = sym c.in-Some.ensures.value in
    let not : (at == other) ≡ false = sym c.eq.ensures ∙ c.if-eq.false in (
      c.in-Some.ensures.known,
      sym (further_up parents more other at above not is_child) ∙ (ap (λ n. is_within parents n other at) (sym one) ∙ c.up.invariant.1),
    )
