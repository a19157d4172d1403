use Rattle.std.proofs.Common.{◌≡◌, ◌+◌, ◌++◌, ◌∙◌, suc, [], take, ap, refl, sym, subst, add-one, arith}
use Rattle.std.proofs.lemmas.Result.{err_from_is_err_and}
use Rattle.stab_job.specs.JobValues.{network}
use Rattle.stab_treecore.specs.Since.{capacity_at}
use Rattle.stab_treecore.specs.TreeReplay.{initial_tree}
use Rattle.stab_treecore.specs.WholeTree.{WholeTree}
use Rattle.rignolda_scenario.specs.Counts.{state_after}
use Rattle.rignolda_scenario.specs.Marks.{IsMarkAfter, IsMarkOf}
use Rattle.rignolda_scenario.specs.Played.{Makes, changes_in, changes_of}
use Rattle.rignolda_scenario.proofs.Counting.{capacities_of}
use Rattle.rignolda_scenario.proofs.Marking.{all_marked, marked_more}
use Rattle.rignolda_scenario.proofs.Playing.{changes_more, make_on, tree_stays, unrun_there}
use Rattle.rignolda_scenario.proofs.play.play_steps.Goals as goal

pub first_marks-requires : goal.first_marks-requires
first_marks-requires c =
    let net = network c.args.job.now in
    let begun = c.in_ok-end.ensures.initial in
    record {
      own = (
        c.in_ok-judge.ensures,
        ap (λ (t : WholeTree). t.parents) begun,
        λ w. ap (λ (t : WholeTree). capacity_at t w) begun ∙ capacities_of net [] w,
      );
    }

pub make_step-requires-clause-same_tree : goal.make_step-requires-clause-same_tree
make_step-requires-clause-same_tree c =
    let j = c.args.job.now in
    tree_stays (initial_tree (network j)) c.loop-step.end (changes_of j.tree.parents j.params (take c.loop-step.step-index c.args.steps.now))
    c.loop-step.invariant.0

pub returns-in_err-make_step-clause-refused : goal.returns-in_err-make_step-clause-refused
returns-in_err-make_step-clause-refused c =
    let p = err_from_is_err_and c.from_residual-in_err-make_step.result c.from_residual-in_err-make_step.ensures.1 in
    rw (p.1, p.2)
    (unrun_there c.args.job.now c.tree-tree.ensures.job c.in_ok-end.ensures.network c.args.steps.now c.loop-step.step-index c.step-item.result
    c.loop-step.end c.in_err-make_step.field-0.0 c.loop-step-test.true c.step-item.is c.loop-step.invariant.0 c.in_err-make_step.ensures.refused)

pub mark_hit-requires-clause-own : goal.mark_hit-requires-clause-own
mark_hit-requires-clause-own c =
    let j = c.args.job.now in
    let net = network j in
    let t = initial_tree net in
    let new = c.make_step.new.state in
    let before = changes_of j.tree.parents j.params (take c.loop-step.step-index c.args.steps.now) in
    let here = changes_in j.tree.parents j.params c.step-item.result in
    let made : Makes t (before ++ here) new = make_on t c.loop-step.end new before here c.loop-step.invariant.0 c.in_ok-make_step.ensures.made in (
      c.in_ok-judge.ensures,
      tree_stays t new (before ++ here) made,
      λ w. ap (λ (u : WholeTree). capacity_at u w) made.0 ∙ capacities_of net (before ++ here) w,
    )

pub loop-step-init : goal.loop-step-init
loop-step-init c =
    let j = c.args.job.now in
    let begun = c.in_ok-end.ensures.initial in (
      (begun, tt),
      refl,
      c.in_ok-marks.ensures.each,
      λ node mark there.
          let first = c.in_ok-marks.ensures.marks node mark there in (
            first.0,
            subst (λ n. IsMarkOf (state_after j (take n c.args.steps.now)) node mark) (sym first.0) (subst (λ t. IsMarkOf t node mark) begun first.1),
          ),
    )

pub loop-step-preserved : goal.loop-step-preserved
loop-step-preserved c =
    let j = c.args.job.now in
    let t = initial_tree (network j) in
    let steps = c.args.steps.now in
    let i = c.loop-step.step-index in
    let step = c.step-item.result in
    let new = c.make_step.new.state in
    let before = changes_of j.tree.parents j.params (take i steps) in
    let here = changes_in j.tree.parents j.params step in
    let next : i + 1 ≡ suc i = add-one i in
    let made : Makes t (changes_of j.tree.parents j.params (take (suc i) steps)) new =
    subst (λ cs. Makes t cs new) (sym (changes_more j.tree.parents j.params steps i step c.loop-step-test.true c.step-item.is))
    (make_on t c.loop-step.end new before here c.loop-step.invariant.0 c.in_ok-make_step.ensures.made) in
    let number : c.loop-step.number + 1 ≡ suc i = ap (λ n. n + 1) c.loop-step.invariant.1 ∙ next in (
      subst (λ n. Makes t (changes_of j.tree.parents j.params (take n steps)) new) (sym next) made,
      ap (λ n. n + 1) c.loop-step.invariant.1,
      c.in_ok-mark_hit.ensures.each ∙ c.loop-step.invariant.2,
      λ node mark there.
          rw next (marked_more j steps i step new c.loop-step.marks.items c.mark_hit.new.marks.items c.loop-step-test.true c.step-item.is made.0
          c.loop-step.invariant.3
          (λ n m is.
          let hit = c.in_ok-mark_hit.ensures.marks n m is in
          (hit.0, hit.1, subst (λ k. IsMarkAfter j.tree.parents new k step n hit.0 m) number hit.2))
          node mark there),
    )

pub returns-clause-marks : goal.returns-clause-marks
returns-clause-marks c =
    all_marked c.args.job.now c.args.steps.now c.loop-step.step-index c.loop-step.marks.items (omega (arith, c.loop-step-test.false)) c.loop-step.invariant.3
