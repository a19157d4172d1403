use Rattle.std.proofs.Common.{◌≡◌, ◌-◌, ◌<◌, [], ◌∷◌, ◌++◌, length, subst, arith, append-nil}
use Rattle.stab_job.specs.ScheduleEntries.{named_act}
use Rattle.stab_script.specs.Standing.{MeansWithin, EntriesMean}
use Rattle.stab_script.proofs.Entries.{read_one}
use Rattle.stab_script.proofs.Standing.{no_entries}
use Rattle.stab_job.proofs.step.read_entries.Goals as goal

pub entries-init : goal.entries-init
entries-init c = (length c.args.reader.now, omega arith, omega arith, [], c.new-steps.ensures, λ depth some xs rest later. later)

pub entries-preserved : goal.entries-preserved
entries-preserved c =
    let l = c.entries in
    let inv = l.invariant in
    let n = inv.0 in
    let all = length c.args.reader.now in
    let whole = c.args.reader.now in
    let r = c.next_step.new.reader in
    let step = c.in-Some.step in
    let same : c.take_end_array.new.self ≡ l.reader = grind arith in
    let less : length r < length l.reader = rw (← same) c.in-Some.ensures.shorter in (
      n - 1,
      omega (arith, inv.1, less),
      omega (arith, inv.2, less),
      inv.3 ++ step ∷ [],
      c.in_ok-push.ensures c.if-not-branch.false c.args.keeps inv.3 inv.4,
      λ depth some.
          let first : MeansWithin depth named_act l.reader step r = rw (← same) (c.in-Some.ensures.value depth some) in
          read_one depth named_act all n whole l.reader r inv.3 step (omega (arith, inv.1, less)) (inv.5 depth some) first,
    )

pub returns-clause-value : goal.returns-clause-value
returns-clause-value c =
    let l = c.entries in
    let inv = l.invariant in
    let r = c.take_end_array.new.self in (
      inv.3,
      inv.4,
      λ depth some. subst (λ list. EntriesMean depth named_act (length c.args.reader.now) c.args.reader.now list r) (append-nil inv.3)
          (inv.5 depth some [] r (no_entries depth named_act inv.0 l.reader r inv.1 c.entries-test.ensures)),
    )
