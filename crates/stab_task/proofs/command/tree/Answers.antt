use Rattle.std.proofs.Common.{codes}
use Rattle.clap.specs.Words.{new_app}
use Rattle.stab_task.proofs.command.tree.Goals as goal

pub returns : goal.returns
returns c =
    c.with_file.ensures (new_app (codes "tree")) (record { shape = c.new.ensures.app; local = c.new.ensures.local })
