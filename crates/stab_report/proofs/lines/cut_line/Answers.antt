use Rattle.std.proofs.Common.{◌∙◌, sym, length}
use Rattle.std.proofs.lemmas.Option.{none-some, same_Some}
use Rattle.stab_report.proofs.Numbers.{cut_there, newline_there}
use Rattle.stab_report.proofs.lines.cut_line.Goals as goal

pub returns-in-None : goal.returns-in-None
returns-in-None c line rest one is =
    absurd (none-some (length line) (sym c.in-None.is ∙ c.line_end.ensures ∙ newline_there c.args.text.now line rest one is))

pub returns-in-Some : goal.returns-in-Some
returns-in-Some c line rest one is =
    cut_there c.args.text.now line rest c.split_at-in-Some.result.0.now c.split_at-in-Some.result.1.now c.in-Some.end
    (same_Some c.in-Some.end (length line) (sym c.in-Some.is ∙ c.line_end.ensures ∙ newline_there c.args.text.now line rest one is))
    is c.split_at-in-Some.ensures.front c.split_at-in-Some.ensures.back
