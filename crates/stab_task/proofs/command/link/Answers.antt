use Rattle.std.proofs.Common.{codes}
use Rattle.clap.specs.Words.{new_app, with_rule}
use Rattle.stab_task.specs.CommandLine.{trace_flag}
use Rattle.stab_task.proofs.command.link.Goals as goal

pub returns : goal.returns
returns c =
    let bare = new_app (codes "link") in
    c.with_file.ensures (with_rule bare trace_flag)
    (c.with_flag.ensures bare (record { shape = c.new.ensures.app; local = c.new.ensures.local }))
