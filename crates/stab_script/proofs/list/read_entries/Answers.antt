use Rattle.std.proofs.Common.{◌≡◌, ◌-◌, ◌<◌, [], length, None, refl, sym, subst, arith, append-nil}
use Rattle.json.specs.Json.{after_end_array}
use Rattle.stab_script.specs.Standing.{MeansWithin, EntriesMean}
use Rattle.stab_script.proofs.Entries.{ReadBefore, read_one}
use Rattle.stab_script.proofs.Plain.{no_some, next_entry, last_entry}
use Rattle.stab_script.proofs.Standing.{no_entries}
use Rattle.stab_script.proofs.list.read_entries.Goals as goal

pub entries-preserved : goal.entries-preserved
entries-preserved g c =
    let meaning = g.E.Entry.meaning in
    let l = c.entries in
    let n = l.invariant.0 in
    let all = length c.args.reader.now in
    let whole = c.args.reader.now in
    let r = c.next.new.reader in
    let entry = c.in-Some.entry in
    let same : c.take_end_array.new.self ≡ l.reader = grind arith in
    let none : after_end_array l.reader ≡ None = grind arith in
    let less : length r < length l.reader = rw (← same) c.in-Some.ensures.shorter in (
      n - 1,
      omega (arith, l.invariant.1, less),
      omega (arith, l.invariant.2, less),
      λ depth some.
          let first : MeansWithin depth meaning l.reader entry r = rw (← same) (c.in-Some.ensures.value depth some) in
          subst (λ read. ReadBefore depth meaning all whole read (n - 1) r) (sym c.in_ok-push.ensures.items)
          (read_one depth meaning all n whole l.reader r l.list.items entry (omega (arith, l.invariant.1, less)) (l.invariant.3 depth some) first),
      λ rest p.
          let q = l.invariant.4 rest p in
          let e = next_entry g.E.Entry.form q.0 l.reader rest r c.next.result q.1 none (λ mid is. c.next.ensures.plain mid (subst (λ ts. g.E.Entry.form ts mid) (sym same) is)) in
          (e.1, e.3),
    )

pub returns-clause-value : goal.returns-clause-value
returns-clause-value g c =
    let meaning = g.E.Entry.meaning in
    let l = c.entries in
    let r = c.take_end_array.new.self in
    λ depth some. subst (λ list. EntriesMean depth meaning (length c.args.reader.now) c.args.reader.now list r) (append-nil l.list.items)
    (l.invariant.3 depth some [] r (no_entries depth meaning l.invariant.0 l.reader r l.invariant.1 c.entries-test.ensures))

pub returns-in_default-clause-plain : goal.returns-in_default-clause-plain
returns-in_default-clause-plain g c =
    let l = c.entries in
    let same : c.take_end_array.new.self ≡ l.reader = grind arith in
    let none : after_end_array l.reader ≡ None = grind arith in
    λ rest p.
    let q = l.invariant.4 rest p in
    let e = next_entry g.E.Entry.form q.0 l.reader rest c.next.new.reader c.next.result q.1 none (λ mid is. c.next.ensures.plain mid (subst (λ ts. g.E.Entry.form ts mid) (sym same) is)) in
    absurd (no_some c.in_default.is e.0)

pub returns-clause-plain : goal.returns-clause-plain
returns-clause-plain g c =
    let l = c.entries in
    λ rest p.
    let q = l.invariant.4 rest p in
    (refl, last_entry g.E.Entry.form q.0 l.reader rest c.take_end_array.new.self q.1 c.entries-test.ensures)
