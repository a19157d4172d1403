use Rattle.std.proofs.Common.{◌≡◌, ◌-◌, ◌<◌, length, Some, None, option_map, ap, ◌∙◌, arith}
use Rattle.json.specs.Json.{read_key}
use Rattle.json.proofs.Grammar.{read_key-shorter}
use Rattle.serde_json.specs.Data as values
use Rattle.serde_json.specs.Data.{put}
use Rattle.stab_script.specs.Members.{in_member}
use Rattle.stab_script.proofs.Entries.{put_one}
use Rattle.stab_script.proofs.Standing.{no_members}
use Rattle.stab_job.proofs.Parts.{no_parts}
use Rattle.stab_job.proofs.stream_members.read_members.Goals as goal

pub members-init : goal.members-init
members-init g c = (length c.args.reader.now, omega arith, omega arith, values.no_members, λ ms rest later. later, rw c.new.ensures.empty (no_parts g.M.Beside.its_name g.M.Beside.meaning c.args.keeps))

pub returns-in_default-name : goal.returns-in_default-name
returns-in_default-name g c =
    let l = c.members in
    let inv = l.invariant in
    let r = c.next_key.new.self in
    let over : read_key l.reader ≡ Some (None, r) = c.in-Ok.ensures.value ∙ ap (λ o. Some (option_map (λ s. s.now) o, r)) c.in_default-name.is in
    (inv.3, inv.4 inv.3 r (no_members in_member inv.3 inv.0 l.reader r inv.1 over), inv.5)

pub members-preserved : goal.members-preserved
members-preserved g c =
    let l = c.members in
    let inv = l.invariant in
    let name = c.in-Some.name.now in
    let us = c.next_key.new.self in
    let r = c.read_member.new.reader in
    let named : read_key l.reader ≡ Some (Some name, us) = c.in-Ok.ensures.value ∙ ap (λ o. Some (option_map (λ s. s.now) o, us)) c.in-Some.is in
    let done = c.in_ok-read_member.ensures.value c.if-not-branch.false in
    let less : length us < length l.reader = read_key-shorter l.reader (Some name) us named in
    let lesser : length r < length us = c.in_ok-read_member.ensures.shorter c.if-not-branch.false in (
      inv.0 - 1,
      omega (arith, inv.1, less, lesser),
      omega (arith, inv.2, less, lesser),
      put name done.0 inv.3,
      put_one in_member (length c.args.reader.now) inv.0 c.args.reader.now l.reader us r inv.3 name done.0 (omega (arith, inv.1, less)) inv.4 named done.1,
      done.2 inv.3 inv.5,
    )
