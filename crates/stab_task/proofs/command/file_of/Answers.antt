use Rattle.std.proofs.Common.{◌∙◌, ap, Some, codes}
use Rattle.clap.specs.Words.{found_of}
use Rattle.stab_task.proofs.Commands.{first_value_by_rows}
use Rattle.stab_task.proofs.command.file_of.Goals as goal

pub returns-in-None-clause-file : goal.returns-in-None-clause-file
returns-in-None-clause-file c = c.in-None.ensures ∙ first_value_by_rows (found_of c.args.matches.now) (codes "FILE")

pub returns-in_ok-from_str-in-Some-clause-file : goal.returns-in_ok-from_str-in-Some-clause-file
returns-in_ok-from_str-in-Some-clause-file c =
    ap Some c.in_ok-from_str-in-Some.ensures.ok ∙ (c.in-Some.ensures ∙ first_value_by_rows (found_of c.args.matches.now) (codes "FILE"))
