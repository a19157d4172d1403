use Rattle.std.proofs.Common.{ap, arith, option_copied, subst, sym, ◌∙◌, Some}
use Rattle.stab_page.specs.TracedTree.{HasAtMost}
use Rattle.stab_page.proofs.Trees.{few_at}
use Rattle.stab_page.proofs.tree_numbers.push_link.Goals as goal

pub returns-in-Some-clause-len : goal.returns-in-Some-clause-len
returns-in-Some-clause-len c =
    let few : HasAtMost 256 (Some c.in-Some.link.now) =
    subst (HasAtMost 256) (sym c.link.ensures.link ∙ ap option_copied c.in-Some.is) (few_at 256 c.args.node c.args.tree.now.links c.requires.few) in
    omega (arith, few.0, few.1, c.push_report.ensures.len)
