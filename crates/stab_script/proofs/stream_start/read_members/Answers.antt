use Rattle.std.proofs.Common.{◌≡◌, ◌-◌, ◌<◌, length, Some, None, option_map, refl, sym, ap, ◌∙◌, arith}
use Rattle.json.specs.Json.{read_key}
use Rattle.json.proofs.Grammar.{read_key-shorter}
use Rattle.serde_json.specs.Data as values
use Rattle.serde_json.specs.Data.{put}
use Rattle.stab_script.specs.Plain.{IsMemberOfStart}
use Rattle.stab_script.proofs.Entries.{put_one}
use Rattle.stab_script.proofs.Plain.{next_member, last_member, some_key}
use Rattle.stab_script.proofs.Standing.{no_members}
use Rattle.stab_script.proofs.stream_start.read_members.Goals as goal

pub members-init : goal.members-init
members-init c = (
  length c.args.reader.now,
  omega arith,
  omega arith,
  λ depth some. (values.no_members, λ ms rest later. later, (ap Some (sym c.new.ensures), ap Some (sym c.new-2.ensures), refl, refl)),
  λ rest p. p,
)

pub returns-in_default-name-clause-value : goal.returns-in_default-name-clause-value
returns-in_default-name-clause-value c =
    let l = c.members in
    let inv = l.invariant in
    let r = c.next_key.new.self in
    let over : read_key l.reader ≡ Some (None, r) = c.in-Ok.ensures.value ∙ ap (λ o. Some (option_map (λ s. s.now) o, r)) c.in_default-name.is in
    λ depth some.
    let before = inv.3 depth some in
    (before.0, before.1 before.0 r (no_members depth before.0 inv.0 l.reader r inv.1 over), before.2)

pub members-preserved : goal.members-preserved
members-preserved c =
    let l = c.members in
    let inv = l.invariant in
    let name = c.in-Some.name.now in
    let us = c.next_key.new.self in
    let r = c.read_member.new.reader in
    let named : read_key l.reader ≡ Some (Some name, us) = c.in-Ok.ensures.value ∙ ap (λ o. Some (option_map (λ s. s.now) o, us)) c.in-Some.is in
    let its = c.in_ok-read_member.ensures.value c.if-not-branch.false in
    let less : length us < length l.reader = read_key-shorter l.reader (Some name) us named in
    let lesser : length r < length us = c.in_ok-read_member.ensures.shorter c.if-not-branch.false in (
      inv.0 - 1,
      omega (arith, inv.1, less, lesser),
      omega (arith, inv.2, less, lesser),
      λ depth some.
          let before = inv.3 depth some in
          let done = its depth some in (
            put name done.0 before.0,
            put_one depth (length c.args.reader.now) inv.0 c.args.reader.now l.reader us r before.0 name done.0 (omega (arith, inv.1, less)) before.1 named done.1,
            done.2 before.0 before.2,
          ),
      λ rest p.
          let q = inv.4 rest p in
          let e = next_member IsMemberOfStart q.0 l.reader rest us r name c.in_ok-read_member.field-0 q.1 named (c.in_ok-read_member.ensures.plain) in
          (e.1, e.2),
    )

pub returns-in_default-clause-plain : goal.returns-in_default-clause-plain
returns-in_default-clause-plain c =
    let l = c.members in
    λ rest p.
    let q = l.invariant.4 rest p in
    absurd (some_key IsMemberOfStart q.0 l.reader rest q.1 c.in_default.ensures.value)

pub returns-in_default-name-clause-plain : goal.returns-in_default-name-clause-plain
returns-in_default-name-clause-plain c =
    let l = c.members in
    let r = c.next_key.new.self in
    let over : read_key l.reader ≡ Some (None, r) = c.in-Ok.ensures.value ∙ ap (λ o. Some (option_map (λ s. s.now) o, r)) c.in_default-name.is in
    λ rest p.
    let q = l.invariant.4 rest p in
    (refl, last_member IsMemberOfStart q.0 l.reader rest r q.1 over)

pub returns-then-not-branch-clause-plain : goal.returns-then-not-branch-clause-plain
returns-then-not-branch-clause-plain c =
    let l = c.members in
    let inv = l.invariant in
    let name = c.in-Some.name.now in
    let us = c.next_key.new.self in
    let r = c.read_member.new.reader in
    let named : read_key l.reader ≡ Some (Some name, us) = c.in-Ok.ensures.value ∙ ap (λ o. Some (option_map (λ s. s.now) o, us)) c.in-Some.is in
    λ rest p.
    let q = inv.4 rest p in
    let e = next_member IsMemberOfStart q.0 l.reader rest us r name c.in_ok-read_member.field-0 q.1 named (c.in_ok-read_member.ensures.plain) in
    let done = e.0 in
    absurd (cc)
