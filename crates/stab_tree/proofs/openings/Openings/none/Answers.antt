use Rattle.std.proofs.Common.{arith}
use Rattle.stab_tree.proofs.Fitting.{empty_lists_fit}
use Rattle.stab_tree.proofs.openings.Openings.none.Goals as goal

pub returns-clause-fit : goal.returns-clause-fit
returns-clause-fit c = rw c.nodes.invariant.2 (empty_lists_fit c.args.tree.now.parents c.nodes.counter (omega arith))
