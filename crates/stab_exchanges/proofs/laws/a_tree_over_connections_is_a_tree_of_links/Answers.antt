use Rattle.stab_exchanges.proofs.TreeRuns.{shown_is_state, stays_counted}
use Rattle.stab_exchanges.proofs.laws.a_tree_over_connections_is_a_tree_of_links.Goals as goal

pub returns-clause-state : goal.returns-clause-state
returns-clause-state c = shown_is_state

pub returns-clause-stays : goal.returns-clause-stays
returns-clause-stays c = stays_counted
