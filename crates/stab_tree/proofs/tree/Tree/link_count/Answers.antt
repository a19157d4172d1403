use Rattle.std.proofs.Common.{arith}
use Rattle.stab_tree.proofs.Links.{length-links_from}
use Rattle.stab_tree.proofs.Trees.{one_root}
use Rattle.stab_tree.proofs.tree.Tree.link_count.Goals as goal

pub returns-clause-value : goal.returns-clause-value
returns-clause-value c =
    rw (← c.self.view_is) (omega (arith, one_root _ c.self.invariant.tree.rooted, length-links_from 0 c.self.inside.parents.items, c.self.inside.parents.ok.0))
