use Rattle.std.proofs.Common.{◌+◌, ◌-◌, ◌∙◌, All, ap, subst, sym}
use Rattle.std.proofs.lemmas.Result.{err_from_is_err_and}
use Rattle.stab_treecore.specs.Refusals.{NamesLink}
use Rattle.stab_rounds.proofs.Named.{reads_named}
use Rattle.stab_treecore.specs.TreeReplay.{tree_replay}
use Rattle.stab_rounds.specs.TreePlayed.{play_reads}
use Rattle.stab_rounds.proofs.PlaysReads.{read_one}
use Rattle.stab_rounds.proofs.reads.apply_reading_rounds.Goals as goal

pub rounds-preserved : goal.rounds-preserved
rounds-preserved c =
    let parents = c.args.tree.now.parents in (
      c.rounds.invariant.0,
      ap (λ t. tree_replay t (play_reads c.args.capacity parents (c.args.rounds - (c.rounds._done + 1))))
          (c.in_ok-apply_all.ensures.replay ∙ ap (λ es. tree_replay c.rounds.state es) (c.deref.ensures.value ∙ c.rounds.invariant.0))
          ∙ sym (read_one c.rounds.state c.args.capacity parents c.args.rounds c.rounds._done c.rounds-test.true) ∙ c.rounds.invariant.1,
      c.apply_all.ensures.same_tree ∙ c.rounds.invariant.2,
    )

pub returns-in_err-apply_all-clause-memory : goal.returns-in_err-apply_all-clause-memory
returns-in_err-apply_all-clause-memory c own =
    let parents = c.args.tree.now.parents in
    let named : All (NamesLink c.rounds.state.parents) c.deref.result.now =
    subst (λ ps. All (NamesLink ps) c.deref.result.now) (sym (c.rounds.invariant.2 ∙ own))
    (subst (λ es. All (NamesLink parents) es) (sym (c.deref.ensures.value ∙ c.rounds.invariant.0)) (reads_named c.args.capacity parents)) in
    let p = err_from_is_err_and c.from_residual-in_err-apply_all.result c.from_residual-in_err-apply_all.ensures.1 in
    rw (p.1, p.2) (c.in_err-apply_all.ensures.memory named)
