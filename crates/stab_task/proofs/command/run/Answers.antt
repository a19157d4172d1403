use Rattle.std.proofs.Common.{codes}
use Rattle.clap.specs.Words.{new_app, with_rule}
use Rattle.stab_task.specs.CommandLine.{mixed_flag, words_flag}
use Rattle.stab_task.proofs.command.run.Goals as goal

pub returns : goal.returns
returns c =
    let bare = new_app (codes "run") in
    let with_words = with_rule bare words_flag in
    c.with_file.ensures (with_rule with_words mixed_flag)
    (c.with_flag.ensures with_words
    (c.with_flag-with_words.ensures bare (record { shape = c.new.ensures.app; local = c.new.ensures.local })))
