use Rattle.std.proofs.Common.{map}
use Rattle.stab_treecore.specs.Changes.{changes_replay}
use Rattle.stab_treecore.specs.Moment.{garbage_since, published_since, strays_since}
use Rattle.stab_treecore.specs.Since.{gained, moment}
use Rattle.rignolda_convergence.proofs.Near.{bodies_near, received_near}
use Rattle.rignolda_convergence.proofs.laws.nothing_older_is_applied_in_a_tree.Goals as goal

pub returns : goal.returns
returns c reading tree start changes node low is_state node_is spare low_is floor old new =
    let s = start.tree in
    let came = gained s (changes_replay s changes) in
    let law = c.tree_law_from_any_state.ensures tree s changes node is_state node_is spare in
    let near = received_near reading low (strays_since (moment s) node) (garbage_since (moment s) node) (published_since (moment s) came node) (came node) law.0 law.1 old new in
    c.nothing_older_is_applied.ensures.never low (start.agents node) (map reading (came node)) low_is floor (bodies_near reading low (came node) near)
