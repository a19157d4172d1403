use Rattle.std.proofs.Common.{◌≡◌, ◌-◌, ◌∷◌, Some, IsSome, refl, ap, subst, ◌∙◌, arith}
use Rattle.json.specs.Token.{Token}
use Rattle.json.specs.Reads.{token_of}
use Rattle.serde_json.specs.Data.{object}
use Rattle.stab_script.specs.Starts.{start}
use Rattle.stab_script.specs.Members.{HasStart, in_member, in_start}
use Rattle.stab_script.specs.Plain.{IsInObject, IsMemberOfStart}
use Rattle.stab_script.specs.Standing.{Stands}
use Rattle.stab_script.proofs.Jobs.{a_start, labels_read}
use Rattle.stab_script.proofs.Plain.{no_some, one_rest}
use Rattle.stab_script.proofs.Standing.{an_object}
use Rattle.stab_script.proofs.stream_start.next_start.Goals.{in_default-3-via-in-Some+in_default, in_default-3-via-in_default}
use Rattle.stab_script.proofs.stream_start.next_start.Goals as goal

pub returns-clause-value : goal.returns-clause-value
returns-clause-value c =
    let ts = c.next.new.self in
    let is : c.args.reader.now ≡ Token.begin_object ∷ ts = c.in-Some-BeginObject.ensures.value ∙ ap (λ k. token_of k ∷ ts) c.in-Some-BeginObject.field-0-is in
    let parts = c.in-Some.parts in
    let s = c.in-Some-Some.send_label in
    let r = c.in-Some-Some.recv_label in
    let lists = rw c.in-Some.is at c.in_ok-parts.ensures.value in
    λ depth some.
    let found = lists (depth - 1) (omega (arith, some)) in
    let has : HasStart parts.frames parts.acks (Some s) (Some r) found.0 = rw (c.in-Some-Some.is-0, c.in-Some-Some.is-1) at found.2 in
    rw is (a_start depth ts c.read_members.new.reader parts.frames parts.acks s r found.0 (omega (arith, some)) found.1 has)

pub returns-in_default-3-clause-plain : goal.returns-in_default-3-clause-plain
returns-in_default-3-clause-plain c =
    let ts = c.next.new.self in
    let is : c.args.reader.now ≡ Token.begin_object ∷ ts = c.in-Some-BeginObject.ensures.value ∙ ap (λ k. token_of k ∷ ts) c.in-Some-BeginObject.field-0-is in
    let parts = c.in-Some.parts in
    let found = (rw c.in-Some.is at c.in_ok-parts.ensures.value) in_start (omega arith) in
    λ rest p.
    let same : p.0 ≡ ts = one_rest Token.begin_object p.1 is in
    let over = (c.in_ok-parts.ensures.plain rest (subst (λ us. IsInObject IsMemberOfStart us rest) same p.2)).1 in
    let first : Stands in_member (Token.begin_object ∷ ts) (object found.0) rest = subst (λ us. Stands in_member (Token.begin_object ∷ ts) (object found.0) us) over (an_object in_member ts c.read_members.new.reader found.0 (omega arith) found.1) in
    let means : IsSome (start (object found.0)) = p.3 (object found.0) (rw is first) in
    let both : IsSome parts.send × IsSome parts.recv = labels_read parts.frames parts.acks parts.send parts.recv found.0 found.2 means in
    absurd (
    elim c.in_default-3.branch [
      | in_default-3-via-in-Some+in_default w ↦ no_some w.in_default-3.is-1 both.1
      | in_default-3-via-in_default w ↦ no_some w.in_default-3.is-0 both.0
    ]
    )

pub returns-in_default-2-clause-plain : goal.returns-in_default-2-clause-plain
returns-in_default-2-clause-plain c =
    let ts = c.next.new.self in
    let is : c.args.reader.now ≡ Token.begin_object ∷ ts = c.in-Some-BeginObject.ensures.value ∙ ap (λ k. token_of k ∷ ts) c.in-Some-BeginObject.field-0-is in
    λ rest p.
    let inside = c.in_ok-parts.ensures.plain rest (subst (λ us. IsInObject IsMemberOfStart us rest) (one_rest Token.begin_object p.1 is) p.2) in
    absurd (no_some c.in_default-2.is inside.0)

pub returns-clause-plain : goal.returns-clause-plain
returns-clause-plain c =
    let ts = c.next.new.self in
    let is : c.args.reader.now ≡ Token.begin_object ∷ ts = c.in-Some-BeginObject.ensures.value ∙ ap (λ k. token_of k ∷ ts) c.in-Some-BeginObject.field-0-is in
    λ rest p.
    let inside = c.in_ok-parts.ensures.plain rest (subst (λ us. IsInObject IsMemberOfStart us rest) (one_rest Token.begin_object p.1 is) p.2) in
    (refl, inside.1)
