use Rattle.std.proofs.Common.{◌≡◌, ◌∷◌, ap, ◌∙◌}
use Rattle.json.specs.Token.{Token}
use Rattle.json.specs.Reads.{token_of}
use Rattle.stab_job.proofs.step.next_step.Goals as goal

pub returns-clause-value : goal.returns-clause-value
returns-clause-value c =
    let us = c.next.new.self in
    let vs = c.next-2.new.self in
    let ws = c.next-3.new.self in
    let child = c.in-String.child.now in
    let word = c.in-String-2.word.now in
    let opened : c.args.reader.now ≡ Token.begin_array ∷ us = c.in_ok-next.ensures.value ∙ ap (λ k. token_of k ∷ us) c.in-BeginArray.is in
    let named : us ≡ Token.string child ∷ vs = c.in_ok-child.ensures.value ∙ ap (λ k. token_of k ∷ vs) c.in-String.is in
    let acted : vs ≡ Token.string word ∷ ws = c.in_ok-word.ensures.value ∙ ap (λ k. token_of k ∷ ws) c.in-String-2.is in
    let is : c.args.reader.now ≡ Token.begin_array ∷ Token.string child ∷ Token.string word ∷ ws = opened ∙ ap (λ r. Token.begin_array ∷ r) (named ∙ ap (λ r. Token.string child ∷ r) acted) in
    λ depth some. rw is (c.in_ok-act.ensures.value child depth some)
