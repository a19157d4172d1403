use Rattle.std.proofs.Common.{◌≡◌}
use Rattle.stab_script.proofs.Meaning.{of_what_is_there}
use Rattle.stab_job.proofs.Steps.{a_plain_step}
use Rattle.stab_job.proofs.step.next_act.Goals as goal

pub returns-then-take_end_array-clause-value : goal.returns-then-take_end_array-clause-value
returns-then-take_end_array-clause-value c =
    of_what_is_there c.act_of_word.result (λ act means child depth some. a_plain_step depth child c.args.word.now c.args.reader.now c.take_end_array.new.self act some c.if-take_end_array.ensures means) c.act_of_word.ensures

pub returns-else-take_end_array-clause-value : goal.returns-else-take_end_array-clause-value
returns-else-take_end_array-clause-value c =
    let same : c.take_end_array.new.self ≡ c.args.reader.now = c.if-take_end_array.ensures.1 in
    rw (← same) c.next_loss.ensures.value
