use Rattle.std.proofs.Common.{refl, sym, ◌∙◌, arith}
use Rattle.stab_tree.proofs.Depths.{have_depths-lack, have_depths-all}
use Rattle.stab_tree.proofs.parents.find_depths.Goals as goal

pub returns-in_default-clause-found : goal.returns-in_default-clause-found
returns-in_default-clause-found c =
    sym (have_depths-lack c.args.parents.now c.loop-node.node c.loop-node-test.true (sym c.find_depth.ensures ∙ c.in_default.is))

pub returns-clause-found : goal.returns-clause-found
returns-clause-found c =
    sym (have_depths-all c.args.parents.now (λ w within. rw (c.loop-node.invariant.1 w (omega arith)) refl))
