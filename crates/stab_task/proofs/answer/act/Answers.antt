use Rattle.std.proofs.Common.{rules, string_bytes}
use Rattle.stab_task.proofs.Refusals.{answered, failed}
use Rattle.stab_task.proofs.answer.act.Goals as goal

pub returns-in_err-text-clause-refused : goal.returns-in_err-text-clause-refused
returns-in_err-text-clause-refused g c =
    failed c.args.task (g.R.Read.remaining c.args.reader.now) c.from_residual.result c.from_residual.ensures.0 (search rules)

pub returns-clause-refused : goal.returns-clause-refused
returns-clause-refused g c =
    answered c.args.task (g.R.Read.remaining c.args.reader.now) (string_bytes c.in_ok-text.text) c.in_ok-text.ensures.whole_answer
