use Rattle.std.proofs.Common.{All, subst, sym}
use Rattle.stab_page.specs.TracedTree.{HasAtMost}
use Rattle.stab_page.proofs.Trees.{grown}
use Rattle.stab_page.proofs.tree.PageTree.apply.Goals as goal

pub returns-clause-grows : goal.returns-clause-grows
returns-clause-grows c =
    λ most all.
    grown most c.index-place.result c.self.inside.links.items c.as_mut_slice-links.result.now c.index-links-place.result c.step.new.link
    c.as_mut_slice-links.ensures.value c.if-place-links.false (c.step.ensures.grows most) (subst (λ t. All (HasAtMost most) t.links) (sym c.self.view_is) all)
