use Rattle.std.proofs.Common.{◌≡◌, ◌∷◌, ap, ◌∙◌, arith}
use Rattle.json.specs.Token.{Token}
use Rattle.json.specs.Reads.{token_of}
use Rattle.rignolda_scenario.proofs.Streamed.{an_act}
use Rattle.rignolda_scenario.proofs.stream.next_act_on.Goals as goal

pub returns-clause-value : goal.returns-clause-value
returns-clause-value c =
    let ts = c.next.new.self in
    let name = c.args.name.now in
    let word = c.in-String.word.now in
    let is : c.args.reader.now ≡ Token.string word ∷ ts = c.in_ok-word.ensures.value ∙ ap (λ k. token_of k ∷ ts) c.in-String.is in
    λ depth some. rw is (an_act depth (Token.begin_array ∷ Token.string name ∷ Token.string word ∷ ts) c.next_act.new.reader name c.in_ok-act.act (c.in_ok-act.ensures.value name depth (omega (arith, some))))
