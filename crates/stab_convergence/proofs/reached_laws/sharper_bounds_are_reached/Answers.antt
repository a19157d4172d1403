use Rattle.stab_convergence.proofs.Reached.{misses, misses_all}
use Rattle.stab_convergence.proofs.reached_laws.sharper_bounds_are_reached.Goals as goal

pub returns-clause-at_each_link : goal.returns-clause-at_each_link
returns-clause-at_each_link c = λ net steps node child parent is is_node leads is_child. misses net is node is_node steps child parent leads is_child

pub returns-clause-at_every_node : goal.returns-clause-at_every_node
returns-clause-at_every_node c = misses_all
