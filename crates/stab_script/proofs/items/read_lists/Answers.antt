use Rattle.std.proofs.Common.{◌≡◌, ◌-◌, ◌<◌, [], length, sym, subst, arith, append-nil}
use Rattle.stab_json.specs.Values.{item_number, list_of}
use Rattle.stab_script.specs.Standing.{MeansWithin, EntriesMean}
use Rattle.stab_script.proofs.Entries.{ReadBefore, read_one}
use Rattle.stab_script.proofs.Standing.{no_entries}
use Rattle.stab_script.proofs.items.read_lists.Goals as goal

pub lists-preserved : goal.lists-preserved
lists-preserved c =
    let l = c.lists in
    let n = l.invariant.0 in
    let all = length c.args.reader.now in
    let whole = c.args.reader.now in
    let r = c.next_items.new.reader in
    let items = c.in-Some.items in
    let same : c.take_end_array.new.self ≡ l.reader = grind arith in
    let means = rw c.in-Some.is at c.in_ok-items.ensures.value in
    let less : length r < length l.reader = rw (← same) (rw c.in-Some.is at c.in_ok-items.ensures.shorter) in (
      n - 1,
      omega (arith, l.invariant.1, less),
      omega (arith, l.invariant.2, less),
      λ depth deep.
          let first : MeansWithin depth (list_of item_number) l.reader items r = rw (← same) (means depth deep) in
          subst (λ read. ReadBefore depth (list_of item_number) all whole read (n - 1) r) (sym c.in_ok-push.ensures)
          (read_one depth (list_of item_number) all n whole l.reader r l.lists items (omega (arith, l.invariant.1, less)) (l.invariant.3 depth deep) first),
    )

pub returns-clause-value : goal.returns-clause-value
returns-clause-value c =
    let l = c.lists in
    let r = c.take_end_array.new.self in
    λ depth deep. subst (λ lists. EntriesMean depth (list_of item_number) (length c.args.reader.now) c.args.reader.now lists r) (append-nil l.lists)
    (l.invariant.3 depth deep [] r (no_entries depth (list_of item_number) l.invariant.0 l.reader r l.invariant.1 c.lists-test.ensures))
