use Rattle.std.proofs.Common.{◌≡◌, ◌+◌, ◌-◌, suc, Some, [], ap, sym, ◌∙◌, arith}
use Rattle.std.specs.Option.{option_map_or}
use Rattle.stab_treecore.specs.Moment.{published_above}
use Rattle.stab_treecore.specs.Since.{gained, moment}
use Rattle.stab_tree.specs.Nodes.{parent_at}
use Rattle.stab_tree.specs.Steps.{ancestor, depth_of}
use Rattle.stab_tree.proofs.Steps.{ancestor-suc}
use Rattle.rignolda_scenario.proofs.count.top.Goals as goal

pub up-init : goal.up-init
up-init c =
    let ps = c.args.tree.now.parents in
    let node = c.args.node in
    let depth = depth_of ps node in
    let all : depth + 1 - 1 ≡ depth = omega arith in (
      c.requires,
      omega arith,
      λ some. some,
      ap (λ n. ancestor ps n node) all ∙ (ap (λ n. ancestor ps n node) (sym c.depth-end.ensures.value) ∙ c.depth-end.ensures.steps),
      λ s t same.
          ap (λ n. published_above (moment s) (gained s t) n node) (all ∙ ap (λ qs. depth_of qs node) (sym same)),
    )

pub up-preserved : goal.up-preserved
up-preserved c =
    let ps = c.args.tree.now.parents in
    let node = c.args.node in
    let at = c.up.at in
    let above = c.in-Some.parent in
    let depth = depth_of ps node in
    let depth_is : c.depth-end.result ≡ depth = c.depth-end.ensures.value in
    let more = depth - (c.up.counter + 1) in
    let one : depth + 1 - c.up.counter ≡ suc (suc more) = omega (arith, depth_is, c.up-test.true) in
    let next : suc more ≡ depth + 1 - (c.up.counter + 1) = omega (arith, depth_is, c.up-test.true) in
    let is_child : parent_at ps at ≡ Some above = sym c.in-Some.ensures.value in (
      c.in-Some.ensures.known,
      omega arith,
      λ some. omega (arith, depth_is, c.up-test.true),
      ap (λ n. ancestor ps n above) (sym next)
          ∙ (sym (ancestor-suc ps (suc more) at above is_child) ∙ (ap (λ n. ancestor ps n at) (sym one) ∙ c.up.invariant.3)),
      λ s t same.
          let m = moment s in
          let g = gained s t in
          let child : parent_at s.parents at ≡ Some above = ap (λ qs. parent_at qs at) same ∙ is_child in
          ap (λ n. published_above m g n above) (sym next)
          ∙ (ap (λ o. option_map_or (published_above m g (suc more)) o []) (sym child)
          ∙ (ap (λ n. published_above m g n at) (sym one) ∙ c.up.invariant.4 s t same)),
    )
