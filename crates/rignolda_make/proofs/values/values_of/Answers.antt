use Rattle.std.proofs.Common.{◌∷◌, ◌++◌, [], take, ap, sym, ◌∙◌, arith}
use Rattle.std.proofs.lemmas.List.{take_more}
use Rattle.rignolda_make.proofs.Pushed.{depth_push, entries_push}
use Rattle.rignolda_make.proofs.values.values_of.Goals as goal

pub loop-element-preserved : goal.loop-element-preserved
loop-element-preserved g c =
    let xs = c.args.elements.now in
    let i = c.loop-element.element-index in
    let x = c.element-item.result in
    let longer = take_more xs i x (omega (arith, c.loop-element-test.true)) ∙ ap (λ y. take i xs ++ y ∷ []) (sym c.element-item.is) in
    rw c.in_ok-push.ensures.items (
      entries_push g.E.Element.meaning c.loop-element.values.items _ _ _ _ c.loop-element.invariant.0 c.in_ok-value.ensures.means longer,
      depth_push c.loop-element.values.items _ 1 c.loop-element.invariant.1 c.in_ok-value.ensures.flat,
    )
