use Rattle.std.proofs.Common.{◌∙◌, ap, sym, subst}
use Rattle.std.proofs.lemmas.Result.{err_from_is_err_and}
use Rattle.stab_core.proofs.Setups.{as_many_setups}
use Rattle.stab_treecore.specs.Network.{network_of}
use Rattle.stab_treecore.specs.TreeReplay.{initial_tree}
use Rattle.stab_treecore.specs.WholeTree.{WholeTree}
use Rattle.stab_treecore.specs.Changes.{changes_replay}
use Rattle.stab_treecore.specs.ChangeRefusals.{AllCanBeMade, IsReasonAt, ReachesChange}
use Rattle.stab_treecore.proofs.Running.{parents_stay, refused_by}
use Rattle.stab_treecore.proofs.run.replayed.Goals as goal

pub make_changes-requires : goal.make_changes-requires
make_changes-requires c = ap (λ (t : WholeTree). t.parents) c.in_ok-state.ensures.initial

pub returns-clause-replay : goal.returns-clause-replay
returns-clause-replay c =
    c.in_ok-make_changes.ensures.replay ∙ ap (λ t. changes_replay t c.args.changes.now) c.in_ok-state.ensures.initial

pub returns-clause-same_tree : goal.returns-clause-same_tree
returns-clause-same_tree c =
    ap (λ (t : WholeTree). t.parents) c.in_ok-make_changes.ensures.replay
    ∙ (parents_stay c.in_ok-state.state c.args.changes.now ∙ ap (λ (t : WholeTree). t.parents) c.in_ok-state.ensures.initial)

pub returns-clause-made : goal.returns-clause-made
returns-clause-made c =
    subst (λ t. AllCanBeMade t c.args.changes.now) c.in_ok-state.ensures.initial c.in_ok-make_changes.ensures.made

pub returns-clause-network : goal.returns-clause-network
returns-clause-network c =
    let begun = c.in_ok-state.ensures in
    record {
      tree = c.root-root.ensures.tree.rooted;
      openings_fit = c.requires.fit;
      one_per_link = as_many_setups c.args.params.now c.args.starts.now (begun.params_per_link ∙ sym begun.one_per_link) ∙ begun.one_per_link;
      can_begin = begun.lawful;
    }

pub returns-in_err-make_changes-clause-refused : goal.returns-in_err-make_changes-clause-refused
returns-in_err-make_changes-clause-refused c =
    let net = network_of c.args.params.now c.args.tree.now c.args.published.now c.args.starts.now c.args.openings.now in
    let begun = c.in_ok-state.ensures in
    let p = err_from_is_err_and c.from_residual-in_err-make_changes.result c.from_residual-in_err-make_changes.ensures.1 in
    rw (p.1, p.2)
    (refused_by c.args.params.now c.args.starts.now net c.args.changes.now c.in_err-make_changes.field-0.0 begun.params_per_link begun.one_per_link
    begun.lawful
    (subst (λ t. ReachesChange (IsReasonAt c.in_err-make_changes.field-0.0) t c.args.changes.now) begun.initial c.in_err-make_changes.ensures.refused))
