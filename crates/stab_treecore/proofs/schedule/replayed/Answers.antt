use Rattle.std.proofs.Common.{◌≡◌, ◌+◌, ◌∙◌, ◌∷◌, All, Err, ap, sym, subst, get_or, drop, arith}
use Rattle.std.proofs.lemmas.List.{at_drop_more, take_all}
use Rattle.std.proofs.lemmas.List.Elements.{All-more}
use Rattle.std.proofs.lemmas.Result.{err_from_is_err_and}
use Rattle.stab_treecore.specs.Network.{network_of}
use Rattle.stab_treecore.specs.Refusals.{NamesLink}
use Rattle.stab_treecore.specs.TreeReplay.{initial_tree, tree_replay}
use Rattle.stab_treecore.specs.TreeStep.{tree_step}
use Rattle.stab_treecore.specs.WholeTree.{WholeTree}
use Rattle.stab_treecore.proofs.Refused.{CarriesOver, carries_on, refused_here, why_refused}
use Rattle.stab_treecore.proofs.schedule.replayed.Goals as goal

pub loop-event-preserved : goal.loop-event-preserved
loop-event-preserved c =
    let t : WholeTree = initial_tree (network_of c.args.params.now c.args.tree.now c.args.published.now c.args.starts.now c.args.openings.now) in
    let stepped : c.apply.new.self ≡ tree_step c.loop-event.state c.event-item.result = c.in_ok-apply.ensures.steps.0 in
    let names : NamesLink c.args.tree.now.parents (get_or c.args.events.now c.loop-event.event-index c.event-item.result) =
    rw (← c.event-item.is, ← c.loop-event.invariant.0) c.in_ok-apply.ensures.named in (
      ap (λ t. t.parents) stepped ∙ c.loop-event.invariant.0,
      All-more (NamesLink c.args.tree.now.parents) c.args.events.now c.loop-event.event-index c.event-item.result c.loop-event-test.true c.loop-event.invariant.1 names,
      ap (λ t. tree_replay t (drop (c.loop-event.event-index + 1) c.args.events.now)) stepped
          ∙ (ap (λ e. tree_replay c.loop-event.state (e ∷ drop (c.loop-event.event-index + 1) c.args.events.now)) c.event-item.is
          ∙ (sym (at_drop_more (tree_replay c.loop-event.state) c.args.events.now c.loop-event.event-index c.event-item.result c.loop-event-test.true)
          ∙ c.loop-event.invariant.2)),
      subst (λ now. CarriesOver now (drop (c.loop-event.event-index + 1) c.args.events.now) t c.args.events.now) (sym stepped)
          (carries_on t c.loop-event.state c.args.events.now c.loop-event.event-index c.event-item.result c.loop-event-test.true c.event-item.is
          c.loop-event.invariant.3 c.in_ok-apply.ensures.named),
    )

pub returns-clause-named : goal.returns-clause-named
returns-clause-named c =
    subst (λ es. All (NamesLink c.args.tree.now.parents) es) (take_all c.loop-event.event-index c.args.events.now (omega arith))
    c.loop-event.invariant.1

pub returns-in_err-apply-clause-refused : goal.returns-in_err-apply-clause-refused
returns-in_err-apply-clause-refused c =
    let t : WholeTree = initial_tree (network_of c.args.params.now c.args.tree.now c.args.published.now c.args.starts.now c.args.openings.now) in
    let p = err_from_is_err_and c.from_residual-in_err-apply.result c.from_residual-in_err-apply.ensures.1 in
    rw (p.1, p.2) (
      c.in_ok-state.ensures.params_per_link,
      c.in_ok-state.ensures.one_per_link,
      c.in_ok-state.ensures.lawful,
      refused_here t c.loop-event.state c.args.events.now c.loop-event.event-index c.event-item.result c.loop-event-test.true c.event-item.is
          c.loop-event.invariant.3 c.in_err-apply.field-0.0
          (why_refused c.loop-event.state c.event-item.result c.in_err-apply.field-0.0
          (λ is. c.in_err-apply.ensures.no_such_link.0 (ap Err is)) (λ is. c.in_err-apply.ensures.memory (ap Err is))),
    )
