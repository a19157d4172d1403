use Rattle.std.proofs.Common.{◌≡◌, ◌∷◌, ◌-◌, ap, ◌∙◌, arith}
use Rattle.json.specs.Token.{Token}
use Rattle.json.specs.Reads.{token_of}
use Rattle.stab_script.proofs.Standing.{a_number}
use Rattle.stab_job.proofs.Steps.{a_loss}
use Rattle.stab_job.proofs.step.next_loss.Goals as goal

pub returns-then-take_end_array-clause-value : goal.returns-then-take_end_array-clause-value
returns-then-take_end_array-clause-value c =
    let us = c.next.new.self in
    let text = c.in-Number.text.now in
    let place = c.in_ok-place.place in
    let is : c.args.reader.now ≡ Token.number text ∷ us = c.in_ok-text.ensures.value ∙ ap (λ k. token_of k ∷ us) c.in-Number.is in
    λ child depth some. rw is (a_loss depth child c.args.word.now place (Token.number text ∷ us) us c.take_end_array.new.self c.in_ok-act.act some
    (a_number (depth - 1) text place us c.in_ok-place.ensures.value) (omega arith) c.if-take_end_array.ensures c.in_ok-act.ensures)
