use Rattle.std.proofs.Common.{All, map, subst, sym}
use Rattle.stab_page.specs.TracedTree.{HasAtMost}
use Rattle.stab_page.specs.TreeCodes.{parent_of, setup_of}
use Rattle.stab_page.proofs.Trees.{opened_few}
use Rattle.stab_page.proofs.tree_export.report_of.Goals as goal

pub run_tree-had-requires-clause-nothing_done : goal.run_tree-had-requires-clause-nothing_done
run_tree-had-requires-clause-nothing_done c =
    subst (λ t. All (HasAtMost 0) t.links) (sym c.new-tree.ensures)
    (opened_few (map parent_of c.args.parents.now) (map setup_of c.args.links.now))
