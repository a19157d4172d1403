use Rattle.stab_line.proofs.Places.{place_offers, place_delivers, place_delivers_of_start, place_obeys}
use Rattle.stab_line.proofs.laws.a_child_made_anew_gets_the_list_from_its_place.Goals as goal

pub returns-clause-offered : goal.returns-clause-offered
returns-clause-offered c = place_offers

pub returns-clause-delivered : goal.returns-clause-delivered
returns-clause-delivered c = place_delivers

pub returns-clause-of_its_start : goal.returns-clause-of_its_start
returns-clause-of_its_start c = place_delivers_of_start

pub returns-clause-in_a_tree : goal.returns-clause-in_a_tree
returns-clause-in_a_tree c = place_obeys
