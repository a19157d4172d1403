use Rattle.std.proofs.Common.{◌≡◌, ◌-◌, ◌∷◌, refl, ap, subst, ◌∙◌, arith}
use Rattle.json.specs.Token.{Token}
use Rattle.json.specs.Reads.{token_of}
use Rattle.stab_script.specs.Members.{in_member}
use Rattle.stab_script.specs.Plain.{AreEntries, IsEvent}
use Rattle.stab_script.proofs.Plain.{no_some, one_rest}
use Rattle.stab_script.proofs.Standing.{a_list_of_values}
use Rattle.stab_script.proofs.stream_events.take_list.Goals as goal

pub returns-clause-value : goal.returns-clause-value
returns-clause-value g c =
    let ts = c.next.new.self in
    let r = c.take_entries.new.reader in
    let is : c.args.reader.now ≡ Token.begin_array ∷ ts = c.in-Some-BeginArray.ensures.value ∙ ap (λ k. token_of k ∷ ts) c.in-Some-BeginArray.field-0-is in
    let inside = rw c.in-Some.is at c.in_ok-are_events.ensures.value in
    (inside.0, rw is (a_list_of_values in_member ts r inside.0 (omega arith) (inside.1 (in_member - 1) (omega arith))), inside.2, inside.3)

pub returns-in_default-2-clause-plain : goal.returns-in_default-2-clause-plain
returns-in_default-2-clause-plain g c =
    let ts = c.next.new.self in
    let is : c.args.reader.now ≡ Token.begin_array ∷ ts = c.in-Some-BeginArray.ensures.value ∙ ap (λ k. token_of k ∷ ts) c.in-Some-BeginArray.field-0-is in
    λ rest p.
    let inside = c.in_ok-are_events.ensures.plain p.2 rest p.3 (subst (λ us. AreEntries IsEvent p.2 us rest) (one_rest Token.begin_array p.1 is) p.4) in
    absurd (no_some c.in_default-2.is inside.0)

pub returns-clause-plain : goal.returns-clause-plain
returns-clause-plain g c =
    let ts = c.next.new.self in
    let is : c.args.reader.now ≡ Token.begin_array ∷ ts = c.in-Some-BeginArray.ensures.value ∙ ap (λ k. token_of k ∷ ts) c.in-Some-BeginArray.field-0-is in
    λ rest p.
    let inside = c.in_ok-are_events.ensures.plain p.2 rest p.3 (subst (λ us. AreEntries IsEvent p.2 us rest) (one_rest Token.begin_array p.1 is) p.4) in
    (refl, inside.1)
