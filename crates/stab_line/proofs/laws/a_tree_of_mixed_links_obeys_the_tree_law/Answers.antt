use Rattle.stab_line.proofs.MixedTrees.{mixed_tree_obeys_law, mixed_tree_obeys_starts}
use Rattle.stab_line.proofs.laws.a_tree_of_mixed_links_obeys_the_tree_law.Goals as goal

pub returns-clause-law : goal.returns-clause-law
returns-clause-law c = mixed_tree_obeys_law

pub returns-clause-of_starts : goal.returns-clause-of_starts
returns-clause-of_starts c = mixed_tree_obeys_starts
