use Rattle.std.proofs.Common.{◌≡◌, ◌≤◌, ◌*◌, length}
use Rattle.stab_page.specs.TreeReport.{numbers_to}
use Rattle.stab_page.proofs.tree_numbers.tree_report.Given as goal

-- the numbers of the nodes so far
abbrev pub invariant-nodes : goal.invariant-nodes
invariant-nodes l = (l.out.items ≡ numbers_to l.tree l.node) × (length l.out.items ≤ 2000 * l.node)
