use Rattle.std.proofs.Common.{◌≡◌, ◌-◌, ◌<◌, [], ◌∷◌, length, map, Some, None, option_map, refl, sym, ap, ◌∙◌, subst, arith, rules, append-nil}
use Rattle.json.specs.Token.{Token}
use Rattle.json.specs.Json as json
use Rattle.json.specs.Json.{read_key}
use Rattle.json.specs.Reads.{token_of}
use Rattle.json.proofs.Grammar.{value_is, read_key-shorter}
use Rattle.serde_json.specs.Data.{null, boolean, number, unsigned, string}
use Rattle.serde_json.specs.View.{view, number_view, members_view}
use Rattle.serde_json.specs.declared.value.Value.{String, Number, Bool, Null, the_lemmas}
use Rattle.serde_json.proofs.Views.{view-Array, view-Object}
use Rattle.stab_script.specs.Standing.{Stands, EntriesMean}
use Rattle.stab_script.proofs.Entries.{ReadBefore, PutBefore, read_one, put_one}
use Rattle.stab_script.proofs.Standing.{a_text, a_number, an_object, no_entries, no_members}
use Rattle.stab_job.proofs.Lists.{a_list_of, one_more_seen}
use Rattle.stab_job.proofs.value.+next_value.Goals as goal

pub next_items-entries-preserved : goal.next_items-entries-preserved
next_items-entries-preserved t c =
    let depth = c.args.depth in
    let l = c.entries in
    let n = l.invariant.0 in
    let all = length c.args.reader.now in
    let whole = c.args.reader.now in
    let r = c.next_value.new.reader in
    let entry = c.in-Some.entry in
    let same : c.take_end_array.new.self ≡ l.reader = grind arith in
    let less : length r < length l.reader = rw (← same) (rw c.in-Some.is at c.in_ok-entry.ensures.shorter) in
    let first : Stands depth l.reader (view entry) r = rw (← same) (rw c.in-Some.is at c.in_ok-entry.ensures.value) in (
      n - 1,
      omega (arith, l.invariant.1, less),
      omega (arith, l.invariant.2, less),
      subst (λ read. ReadBefore depth Some all whole read (n - 1) r) (sym (ap (map view) c.in_ok-push.ensures.items ∙ one_more_seen l.list.items entry))
          (read_one depth Some all n whole l.reader r (map view l.list.items) (view entry) (omega (arith, l.invariant.1, less)) l.invariant.3 (view entry, first, refl)),
    )

pub next_items-returns-clause-value : goal.next_items-returns-clause-value
next_items-returns-clause-value t c =
    let depth = c.args.depth in
    let l = c.entries in
    let r = c.take_end_array.new.self in
    subst (λ list. EntriesMean depth Some (length c.args.reader.now) c.args.reader.now list r) (append-nil (map view l.list.items))
    (l.invariant.3 [] r (no_entries depth Some l.invariant.0 l.reader r l.invariant.1 c.entries-test.ensures))

pub next_members-returns-in_default-name-clause-value : goal.next_members-returns-in_default-name-clause-value
next_members-returns-in_default-name-clause-value t c =
    let l = c.members in
    let inv = l.invariant in
    let r = c.next_key.new.self in
    let read = members_view l.members.entries in
    let over : read_key l.reader ≡ Some (None, r) = c.in-Ok.ensures.value ∙ ap (λ o. Some (option_map (λ s. s.now) o, r)) c.in_default-name.is in
    inv.3 read r (no_members c.args.depth read inv.0 l.reader r inv.1 over)

pub next_members-members-preserved : goal.next_members-members-preserved
next_members-members-preserved t c =
    let depth = c.args.depth in
    let l = c.members in
    let inv = l.invariant in
    let name = c.in-Some.name.now in
    let us = c.next_key.new.self in
    let r = c.next_value.new.reader in
    let member = c.in-Some-2.member in
    let read = members_view l.members.entries in
    let named : read_key l.reader ≡ Some (Some name, us) = c.in-Ok.ensures.value ∙ ap (λ o. Some (option_map (λ s. s.now) o, us)) c.in-Some.is in
    let first : Stands depth us (view member) r = rw c.in-Some-2.is at c.in_ok-member.ensures.value in
    let less : length us < length l.reader = read_key-shorter l.reader (Some name) us named in
    let lesser : length r < length us = rw c.in-Some-2.is at c.in_ok-member.ensures.shorter in (
      inv.0 - 1,
      omega (arith, inv.1, less, lesser),
      omega (arith, inv.2, less, lesser),
      subst (λ found. PutBefore depth (length c.args.reader.now) c.args.reader.now found (inv.0 - 1) r) (sym c.in_ok-insert.ensures)
          (put_one depth (length c.args.reader.now) inv.0 c.args.reader.now l.reader us r read name (view member) (omega (arith, inv.1, less)) inv.3 named first),
    )

pub next_value-returns-in_ok-from_str-in-String-clause-value : goal.next_value-returns-in_ok-from_str-in-String-clause-value
next_value-returns-in_ok-from_str-in-String-clause-value t c =
    let rest = c.next.new.self in
    let text = c.in-String.text.now in
    let first : c.args.reader.now ≡ token_of c.in-Some.token ∷ rest = grind arith in
    let is : c.args.reader.now ≡ Token.string text ∷ rest = grind (arith, first) in
    let seen : view (String c.in_ok-from_str-in-String.field-0) ≡ string text = search (rules, the_lemmas) in
    rw (is, seen) (a_text c.args.depth text rest)

pub next_value-returns-in-Some-whole_of-clause-value : goal.next_value-returns-in-Some-whole_of-clause-value
next_value-returns-in-Some-whole_of-clause-value t c =
    let rest = c.next.new.self in
    let text = c.in-Number.text.now in
    let n = c.in-Some-whole_of.number in
    let first : c.args.reader.now ≡ token_of c.in-Some.token ∷ rest = grind arith in
    let is : c.args.reader.now ≡ Token.number text ∷ rest = grind (arith, first) in
    let seen : view (Number c.from.result) ≡ number (unsigned n) = (let at : view (Number c.from.result) ≡ number (number_view c.from.result) = search (rules, the_lemmas) in at ∙ ap number c.from.ensures) in
    rw (is, seen) (a_number c.args.depth text n rest c.in-Some-whole_of.ensures.value)

pub next_value-returns-in-Bool-clause-value : goal.next_value-returns-in-Bool-clause-value
next_value-returns-in-Bool-clause-value t c =
    let rest = c.next.new.self in
    let truth = c.in-Bool.truth in
    let first : c.args.reader.now ≡ token_of c.in-Some.token ∷ rest = grind arith in
    let is : c.args.reader.now ≡ Token.boolean truth ∷ rest = grind (arith, first) in
    let seen : view (Bool truth) ≡ boolean truth = search (rules, the_lemmas) in
    rw (is, seen) (json.boolean truth, value_is c.args.depth (Token.boolean truth ∷ rest), refl)

pub next_value-returns-in-Null-clause-value : goal.next_value-returns-in-Null-clause-value
next_value-returns-in-Null-clause-value t c =
    let rest = c.next.new.self in
    let first : c.args.reader.now ≡ token_of c.in-Some.token ∷ rest = grind arith in
    let is : c.args.reader.now ≡ Token.null ∷ rest = grind (arith, first) in
    let seen : view Null ≡ null = search (rules, the_lemmas) in
    rw (is, seen) (json.null, value_is c.args.depth (Token.null ∷ rest), refl)

pub next_value-returns-in-Some-2-clause-value : goal.next_value-returns-in-Some-2-clause-value
next_value-returns-in-Some-2-clause-value t c =
    let ts = c.next.new.self in
    let items = c.in-Some-2.items in
    let first : c.args.reader.now ≡ token_of c.in-Some.token ∷ ts = grind arith in
    let is : c.args.reader.now ≡ Token.begin_array ∷ ts = grind (arith, first) in
    let inside = rw c.in-Some-2.is at c.in_ok-items-in-BeginArray.ensures.value in
    rw (is, view-Array items) (a_list_of c.args.depth ts c.next_items.new.reader (map view items.items) (omega arith) inside)

pub next_value-returns-in-Some-3-clause-value : goal.next_value-returns-in-Some-3-clause-value
next_value-returns-in-Some-3-clause-value t c =
    let ts = c.next.new.self in
    let members = c.in-Some-3.members in
    let first : c.args.reader.now ≡ token_of c.in-Some.token ∷ ts = grind arith in
    let is : c.args.reader.now ≡ Token.begin_object ∷ ts = grind (arith, first) in
    let inside = rw c.in-Some-3.is at c.in_ok-members-in-BeginObject.ensures.value in
    rw (is, view-Object members) (an_object c.args.depth ts c.next_members.new.reader (members_view members.entries) (omega arith) inside)
