use Rattle.std.proofs.Common.{◌≡◌, ◌-◌, ◌<◌, [], ◌∷◌, ◌++◌, length, sym, subst, arith, append-nil}
use Rattle.stab_script.specs.Standing.{EntriesMean}
use Rattle.stab_script.proofs.Entries.{ReadBefore, read_one}
use Rattle.stab_script.proofs.Standing.{no_entries}
use Rattle.rignolda_scenario.specs.NamedSteps.{named_of, named_step}
use Rattle.rignolda_scenario.proofs.stream.rest_of_steps.Goals as goal

pub steps-init : goal.steps-init
steps-init c =
    let whole = c.args.reader.now in (
      length whole,
      omega arith,
      omega arith,
      λ depth some. subst (λ none. ReadBefore depth named_step (length whole) whole none (length whole) whole) (sym c.new-steps.ensures) (λ xs rest later. later),
    )

pub steps-preserved : goal.steps-preserved
steps-preserved c =
    let l = c.steps in
    let inv = l.invariant in
    let n = inv.0 in
    let whole = c.args.reader.now in
    let r = c.next_step.new.reader in
    let same : c.take_end_array.new.self ≡ l.reader = grind arith in
    let means = rw c.in-Some.is at c.in_ok-step.ensures.value in
    let shorter = rw c.in-Some.is at c.in_ok-step.ensures.shorter in
    let less : length r < length l.reader = rw (← same) shorter in
    let pushed : c.push.new.self ≡ l.steps ++ named_of c.in-Some.step ∷ [] = c.in_ok-push.ensures c.if-not-branch.false in (
      n - 1,
      omega (arith, inv.1, less),
      omega (arith, inv.2, less),
      λ depth some.
          subst (λ read. ReadBefore depth named_step (length whole) whole read (n - 1) r) (sym pushed)
          (read_one depth named_step (length whole) n whole l.reader r l.steps (named_of c.in-Some.step) (omega (arith, inv.1, less)) (inv.3 depth some) (rw (← same) (means depth some))),
    )

pub returns-clause-value : goal.returns-clause-value
returns-clause-value c =
    let l = c.steps in
    let inv = l.invariant in
    let whole = c.args.reader.now in
    let r = c.take_end_array.new.self in
    λ depth some.
    subst (λ list. EntriesMean depth named_step (length whole) whole list r) (append-nil l.steps)
    (inv.3 depth some [] r (no_entries depth named_step inv.0 l.reader r inv.1 c.steps-test.ensures))
