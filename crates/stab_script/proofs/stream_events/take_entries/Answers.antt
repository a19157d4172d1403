use Rattle.std.proofs.Common.{◌≡◌, ◌-◌, ◌<◌, ◌≤◌, ◌+◌, [], length, None, refl, sym, subst, arith, append-nil}
use Rattle.json.specs.Json.{after_end_array}
use Rattle.serde_json.specs.Data.{no_items, item}
use Rattle.stab_script.specs.LinkJobs.{most_events}
use Rattle.stab_script.specs.Plain.{IsEvent}
use Rattle.stab_script.specs.Standing.{Stands}
use Rattle.stab_json.specs.Values.{entries}
use Rattle.stab_script.specs.Events.{event}
use Rattle.stab_script.proofs.Entries.{nothing_before, taken_one_more, all_taken}
use Rattle.stab_script.proofs.Plain.{no_some, next_entry, last_entry}
use Rattle.stab_script.proofs.Standing.{one_more_value, no_values}
use Rattle.stab_script.proofs.stream_events.take_entries.Goals as goal

pub entries-init : goal.entries-init
entries-init g c = (
  omega arith,
  length c.args.reader.now,
  omega arith,
  omega arith,
  λ ds. ds,
  λ depth ds rest some all. all,
  λ ds. omega arith,
  ([], λ ds. nothing_before (entries event ds), λ params start earlier is. subst (λ es. g.T.TakesEvents.StandsAfter c.args.to.now params start es) (sym (append-nil earlier)) is),
  λ n rest few p. (n, omega arith, p),
)

pub entries-preserved : goal.entries-preserved
entries-preserved g c =
    let l = c.entries in
    let inv = l.invariant in
    let r = c.next_event.new.reader in
    let found = c.in-Some.ensures.value in
    let d = found.0 in
    let same : c.take_end_array.new.self ≡ l.reader = grind arith in
    let less : length r < length l.reader = rw (← same) c.in-Some.ensures.shorter in
    let none : after_end_array l.reader ≡ None = grind arith in
    let room : l.count + 1 ≤ most_events = grind (arith, inv.0) in (
      room,
      inv.1 - 1,
      omega (arith, inv.2, less),
      omega (arith, inv.3, less),
      λ ds. inv.4 (item d ds),
      λ depth ds rest some later.
          let first : Stands depth l.reader d r = rw (← same) (found.1 depth some) in
          inv.5 depth (item d ds) rest some (one_more_value depth inv.1 l.reader r rest d ds (omega (arith, inv.2, less)) first later),
      λ ds. rw (inv.6 (item d ds)) (omega arith),
      taken_one_more g.T.TakesEvents.StandsAfter c.args.to.now l.to c.take_entry.new.to inv.4 l.are_events c.in_ok-are_events.are_events d c.in-Some.entry found.2 inv.7 c.in_ok-are_events.ensures,
      λ n rest few p.
          let q = inv.8 n rest few p in
          let e = next_entry IsEvent q.0 l.reader rest r c.next_event.result q.2 none (λ mid is. c.next_event.ensures.plain mid (subst (λ ts. IsEvent ts mid) (sym same) is)) in
          (e.1, omega (arith, q.1, e.2), e.3),
    )

pub returns-clause-value : goal.returns-clause-value
returns-clause-value g c =
    let l = c.entries in
    let inv = l.invariant in
    let r = c.take_end_array.new.self in (
      inv.4 no_items,
      λ depth some. inv.5 depth no_items r some (no_values depth inv.1 l.reader r inv.2 c.entries-test.ensures),
      rw (inv.6 no_items) (omega (arith, inv.0)),
      all_taken g.T.TakesEvents.StandsAfter c.args.to.now l.to inv.4 l.are_events inv.7,
    )

pub returns-in_default-clause-plain : goal.returns-in_default-clause-plain
returns-in_default-clause-plain g c =
    let l = c.entries in
    let inv = l.invariant in
    let r = c.next_event.new.reader in
    let same : c.take_end_array.new.self ≡ l.reader = grind arith in
    let none : after_end_array l.reader ≡ None = grind arith in
    λ n rest few p.
    let q = inv.8 n rest few p in
    let e = next_entry IsEvent q.0 l.reader rest r c.next_event.result q.2 none (λ mid is. c.next_event.ensures.plain mid (subst (λ ts. IsEvent ts mid) (sym same) is)) in
    absurd (no_some c.in_default.is e.0)

pub returns-then-count-eq-MAX_EVENTS-clause-plain : goal.returns-then-count-eq-MAX_EVENTS-clause-plain
returns-then-count-eq-MAX_EVENTS-clause-plain g c =
    let l = c.entries in
    let inv = l.invariant in
    let r = c.next_event.new.reader in
    let same : c.take_end_array.new.self ≡ l.reader = grind arith in
    let none : after_end_array l.reader ≡ None = grind arith in
    λ n rest few p.
    let q = inv.8 n rest few p in
    let e = next_entry IsEvent q.0 l.reader rest r c.next_event.result q.2 none (λ mid is. c.next_event.ensures.plain mid (subst (λ ts. IsEvent ts mid) (sym same) is)) in
    absurd (omega (arith, q.1, e.2, few, c.if-count-eq-MAX_EVENTS.true))

pub returns-clause-plain : goal.returns-clause-plain
returns-clause-plain g c =
    let l = c.entries in
    λ n rest few p.
    let q = l.invariant.8 n rest few p in
    (refl, last_entry IsEvent q.0 l.reader rest c.take_end_array.new.self q.2 c.entries-test.ensures)
