use Rattle.std.proofs.Common.{◌≡◌, ◌-◌, ◌∷◌, refl, ap, subst, ◌∙◌, arith}
use Rattle.json.specs.Token.{Token}
use Rattle.json.specs.Reads.{token_of}
use Rattle.stab_script.specs.Plain.{IsInList}
use Rattle.stab_script.proofs.Plain.{no_some, one_rest}
use Rattle.stab_script.proofs.Standing.{a_list}
use Rattle.stab_script.proofs.list.read_list.Goals as goal

pub returns-clause-value : goal.returns-clause-value
returns-clause-value g c =
    let ts = c.next.new.self in
    let is : c.args.reader.now ≡ Token.begin_array ∷ ts = c.in-Some-BeginArray.ensures.value ∙ ap (λ k. token_of k ∷ ts) c.in-Some-BeginArray.field-0-is in
    let inside = rw c.in-Some.is at c.in_ok-list.ensures.value in
    λ depth deep. rw is (a_list depth g.E.Entry.meaning ts c.read_entries.new.reader c.in-Some.list.items (omega (arith, deep)) (inside (depth - 1) (omega (arith, deep))))

pub returns-in_default-2-clause-plain : goal.returns-in_default-2-clause-plain
returns-in_default-2-clause-plain g c =
    let ts = c.next.new.self in
    let is : c.args.reader.now ≡ Token.begin_array ∷ ts = c.in-Some-BeginArray.ensures.value ∙ ap (λ k. token_of k ∷ ts) c.in-Some-BeginArray.field-0-is in
    λ rest p.
    let inside = c.in_ok-list.ensures.plain rest (subst (λ us. IsInList g.E.Entry.form us rest) (one_rest Token.begin_array p.1 is) p.2) in
    absurd (no_some c.in_default-2.is inside.0)

pub returns-clause-plain : goal.returns-clause-plain
returns-clause-plain g c =
    let ts = c.next.new.self in
    let is : c.args.reader.now ≡ Token.begin_array ∷ ts = c.in-Some-BeginArray.ensures.value ∙ ap (λ k. token_of k ∷ ts) c.in-Some-BeginArray.field-0-is in
    λ rest p.
    let inside = c.in_ok-list.ensures.plain rest (subst (λ us. IsInList g.E.Entry.form us rest) (one_rest Token.begin_array p.1 is) p.2) in
    (refl, inside.1)
