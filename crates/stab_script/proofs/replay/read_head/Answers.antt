use Rattle.std.proofs.Common.{◌≡◌, ◌-◌, ◌<◌, ◌≤◌, length, codes, Some, option_map, refl, ap, ◌∙◌, arith}
use Rattle.json.specs.Json.{read_key}
use Rattle.json.proofs.Grammar.{read_key-shorter}
use Rattle.serde_json.specs.Data as values
use Rattle.serde_json.specs.Data.{put}
use Rattle.stab_script.specs.Members.{in_member}
use Rattle.stab_script.proofs.Entries.{put_one}
use Rattle.stab_script.proofs.Standing.{no_members}
use Rattle.stab_script.proofs.replay.read_head.Goals as goal

pub members-init : goal.members-init
members-init c = (length c.args.reader.now, omega arith, omega arith, values.no_members, λ ms rest later. later, (refl, refl, refl, refl, λ name other. refl))

pub returns-in-events : goal.returns-in-events
returns-in-events c =
    let l = c.members in
    let inv = l.invariant in
    let us = c.next_key.new.self in
    let named : read_key l.reader ≡ Some (Some (codes "events"), us) = c.in-Ok-Some.ensures.value ∙ ap (λ o. Some (option_map (λ s. s.now) o, us)) c.in-Ok-Some.field-0-is ∙ ap (λ k. Some (Some k, us)) c.in-events.is in
    let less : length us < length l.reader = read_key-shorter l.reader (Some (codes "events")) us named in (
      inv.3,
      λ d r rest lesser first over.
          let all = put_one in_member (length c.args.reader.now) inv.0 c.args.reader.now l.reader us r inv.3 (codes "events") d (omega (arith, inv.1, less)) inv.4 named first in
          let few : length r ≤ inv.0 - 1 = omega (arith, inv.1, less, lesser) in
          all (put (codes "events") d inv.3) rest (no_members in_member (put (codes "events") d inv.3) (inv.0 - 1) r rest few over),
      inv.5,
    )

pub members-preserved : goal.members-preserved
members-preserved c =
    let l = c.members in
    let inv = l.invariant in
    let name = c.in-Ok-Some.name.now in
    let us = c.next_key.new.self in
    let r = c.read_member.new.reader in
    let named : read_key l.reader ≡ Some (Some name, us) = c.in-Ok-Some.ensures.value ∙ ap (λ o. Some (option_map (λ s. s.now) o, us)) c.in-Ok-Some.field-0-is in
    let done = c.in_ok-read_member-in_default-name.ensures.value c.if-not-branch.false in
    let less : length us < length l.reader = read_key-shorter l.reader (Some name) us named in
    let lesser : length r < length us = c.in_ok-read_member-in_default-name.ensures.shorter c.if-not-branch.false in (
      inv.0 - 1,
      omega (arith, inv.1, less, lesser),
      omega (arith, inv.2, less, lesser),
      put name done.0 inv.3,
      put_one in_member (length c.args.reader.now) inv.0 c.args.reader.now l.reader us r inv.3 name done.0 (omega (arith, inv.1, less)) inv.4 named done.1,
      done.2 inv.3 inv.5,
    )
