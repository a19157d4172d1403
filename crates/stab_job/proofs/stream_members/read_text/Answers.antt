use Rattle.std.proofs.Common.{◌≡◌, ◌<◌, [], ◌∷◌, length, ap, ◌∙◌, sym, subst, arith}
use Rattle.json.specs.Token.{Token}
use Rattle.json.specs.Lex.{tokens}
use Rattle.json.specs.Reads.{token_of}
use Rattle.serde_json.specs.Data.{object}
use Rattle.stab_script.specs.Members.{in_job}
use Rattle.stab_script.specs.Standing.{Stands}
use Rattle.stab_script.proofs.Jobs.{some_text}
use Rattle.stab_script.proofs.Standing.{an_object}
use Rattle.stab_job.proofs.stream_members.read_text.Goals as goal

pub returns-in_err-parts-clause-memory : goal.returns-in_err-parts-clause-memory
returns-in_err-parts-clause-memory g c =
    let is : tokens c.args.text.now ≡ token_of c.in-Some-BeginObject.field-0 ∷ c.next.new.self = sym c.in_ok-reader.ensures.ok ∙ c.in-Some-BeginObject.ensures.value in
    let some : 0 < length c.args.text.now = some_text c.args.text.now (rw is (omega arith)) in
    grind (arith, some)

pub returns-clause-value : goal.returns-clause-value
returns-clause-value g c =
    let ts = c.next.new.self in
    let is : tokens c.args.text.now ≡ Token.begin_object ∷ ts = sym c.in_ok-reader.ensures.ok ∙ c.in-Some-BeginObject.ensures.value ∙ ap (λ k. token_of k ∷ ts) c.in-Some-BeginObject.field-0-is in
    let found = rw c.in-Some.is at c.in_ok-parts.ensures in
    let over : c.read_members.new.reader ≡ [] = c.in-None.ensures.value.0 in
    let first : Stands in_job (Token.begin_object ∷ ts) (object found.0) [] =
    subst (λ rest. Stands in_job (Token.begin_object ∷ ts) (object found.0) rest) over (an_object in_job ts c.read_members.new.reader found.0 (omega arith) found.1) in
    (found.0, rw is first, found.2)

pub returns-clause-some : goal.returns-clause-some
returns-clause-some g c =
    let is : tokens c.args.text.now ≡ token_of c.in-Some-BeginObject.field-0 ∷ c.next.new.self = sym c.in_ok-reader.ensures.ok ∙ c.in-Some-BeginObject.ensures.value in
    some_text c.args.text.now (rw is (omega arith))
