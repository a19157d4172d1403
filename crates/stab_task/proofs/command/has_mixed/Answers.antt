use Rattle.std.proofs.Common.{◌∙◌}
use Rattle.clap.specs.Words.{found_of}
use Rattle.stab_task.proofs.Commands.{mixed_by_rows}
use Rattle.stab_task.proofs.command.has_mixed.Goals as goal

pub returns : goal.returns
returns c = c.is_written.ensures ∙ mixed_by_rows (found_of c.args.matches.now) c.value_source.result c.value_source.ensures
