use Rattle.std.proofs.Common.{ap, ◌∙◌}
use Rattle.rignolda_ways.specs.Turns.{asked, after_answer}
use Rattle.rignolda_ways.specs.Answers.{answer_of}
use Rattle.rignolda_ways.proofs.Steps.{learned, turn_elsewhere, turn_here}
use Rattle.rignolda_ways.proofs.laws.a_turn_is_an_answer.Goals as goal

pub returns-clause-own : goal.returns-clause-own
returns-clause-own c net s turn is =
    turn_here net s turn ∙ ap (λ none. after_answer (answer_of none (asked net s turn)) (learned turn) (s turn.agent)) is

pub returns-clause-others : goal.returns-clause-others
returns-clause-others c net s turn v other = turn_elsewhere net s turn v other
