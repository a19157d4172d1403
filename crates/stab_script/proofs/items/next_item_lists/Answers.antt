use Rattle.std.proofs.Common.{◌≡◌, ◌-◌, ◌∷◌, ap, ◌∙◌, arith}
use Rattle.json.specs.Token.{Token}
use Rattle.json.specs.Reads.{token_of}
use Rattle.stab_json.specs.Values.{item_number, list_of}
use Rattle.stab_script.proofs.Standing.{a_list}
use Rattle.stab_script.proofs.items.next_item_lists.Goals as goal

pub returns-clause-value : goal.returns-clause-value
returns-clause-value c =
    let ts = c.next.new.self in
    let is : c.args.reader.now ≡ Token.begin_array ∷ ts = c.in-Some-BeginArray.ensures.value ∙ ap (λ k. token_of k ∷ ts) c.in-Some-BeginArray.field-0-is in
    let inside = rw c.in-Some.is at c.in_ok-lists.ensures.value in
    λ depth deep. rw is (a_list depth (list_of item_number) ts c.read_lists.new.reader c.in-Some.lists (omega (arith, deep)) (inside (depth - 1) (omega (arith, deep))))
