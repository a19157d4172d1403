use Rattle.std.proofs.Common.{◌*◌, ◌∙◌, length, ap, sym}
use Rattle.stab_rounds.specs.TreePlayed.{round_from}
use Rattle.stab_tree.specs.Links.{links_of}
use Rattle.rignolda_scenario.specs.declared.step.Step.{Step}
use Rattle.rignolda_scenario.specs.Played.{changes_in, reading_round_of}
use Rattle.rignolda_scenario.proofs.Lengths.{repeated_acts}
use Rattle.rignolda_scenario.proofs.few.step_len.Goals as goal

pub returns-in-Rounds-clause-changes : goal.returns-in-Rounds-clause-changes
returns-in-Rounds-clause-changes c parents params is_round is_reading_round =
    let count = c.in-Rounds.count in
    ap (λ n. n * c.args.round) c.from.ensures
    ∙ (ap (λ n. count * n) is_round
    ∙ (sym (repeated_acts count (round_from 0 parents))
    ∙ ap (λ (step : Step). length (changes_in parents params step)) (sym c.in-Rounds.is)))

pub returns-in-ReadingRounds-clause-changes : goal.returns-in-ReadingRounds-clause-changes
returns-in-ReadingRounds-clause-changes c parents params is_round is_reading_round =
    let count = c.in-ReadingRounds.count in
    ap (λ n. n * c.args.reading_round) c.from-in-ReadingRounds.ensures
    ∙ (ap (λ n. count * n) is_reading_round
    ∙ (sym (repeated_acts count (reading_round_of (links_of parents) params))
    ∙ ap (λ (step : Step). length (changes_in parents params step)) (sym c.in-ReadingRounds.is)))
