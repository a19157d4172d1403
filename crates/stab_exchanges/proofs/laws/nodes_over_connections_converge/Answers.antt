use Rattle.std.proofs.Common.{◌≤◌, [], ◌++◌, append-nil, ap, ◌∙◌, sym, subst}
use Rattle.stab_convergence.specs.Meanwhile.{HasAllBefore}
use Rattle.stab_convergence.specs.PathRounds.{IsPathOpen, PathRounds, TakesAtMost, rounds_since}
use Rattle.stab_rounds.specs.Kinds.{reading}
use Rattle.stab_treecore.specs.Changes.{changes_replay}
use Rattle.stab_treecore.specs.Since.{IsState, moment}
use Rattle.stab_treecore.specs.WholeTree.{WholeTree}
use Rattle.stab_line.specs.SessionTree.{SessionTree, tree_run}
use Rattle.stab_exchanges.specs.TreeExchanges.{tree_of_links}
use Rattle.stab_exchanges.proofs.TreeRuns.{exchanges_are_rounds, one_is_enough, path_open_at_first, shown_is_open, shown_is_state, spares_both, stays_counted}
use Rattle.stab_exchanges.proofs.laws.nodes_over_connections_converge.Goals as goal

pub returns : goal.returns
returns c net t before acts node rounds is_network in_turn counted is_node are_exchanges are_open enough =
    let s : WholeTree = tree_of_links net t in
    let middle : SessionTree = tree_run net t before in
    let m : WholeTree = tree_of_links net middle in
    let (in_turn_then, counted_then) = stays_counted net t before is_network in_turn counted in
    let (first, no_fault, leads, _) =
    exchanges_are_rounds net t before node 0 is_network in_turn counted tt (path_open_at_first net middle acts node are_open)
    in
    let (second, no_fault_then, leads_on, are_rounds) =
    exchanges_are_rounds net middle acts node rounds is_network in_turn_then counted_then are_exchanges are_open
    in
    let converged =
    subst
    (λ (u : WholeTree). IsState net.tree u → IsPathOpen (changes_replay u second) node → TakesAtMost reading 1 u node
    → PathRounds reading u node rounds second → rounds_since 1 (moment u) node ≤ rounds
    → HasAllBefore s u (changes_replay u (second ++ [])) node) leads
    (c.nodes_converge.ensures reading 1 net.tree s first second [] rounds node (shown_is_state net t is_network in_turn counted) is_node
    (spares_both s.parents node first second no_fault no_fault_then))
    in
    subst (λ (u : WholeTree). HasAllBefore s m u node) (ap (changes_replay m) (append-nil second) ∙ leads_on)
    (converged (shown_is_state net middle is_network in_turn_then counted_then)
    (subst (λ (u : WholeTree). IsPathOpen u node) (sym leads_on) (shown_is_open net (tree_run net middle acts) node)) (one_is_enough m node)
    are_rounds enough)
