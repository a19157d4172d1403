use Rattle.std.proofs.Common.{rules, ◌≡◌}
use Rattle.clap.specs.Words.{app_of, with_subcommand}
use Rattle.stab_task.specs.CommandLine.{bare_line, link_line, run_line, tree_line}
use Rattle.stab_task.proofs.command.stab.Goals as goal

pub returns : goal.returns
returns c =
    let bare : app_of c.disable_help_subcommand-bare.result ≡ bare_line = search rules in
    let link_only = with_subcommand bare_line link_line.top in
    let link_and_tree = with_subcommand link_only tree_line.top in
    let link = c.in_ok-with_link.ensures bare_line link_line bare c.link.ensures in
    let tree = c.in_ok-with_tree.ensures link_only tree_line link c.tree.ensures in
    c.add_to-3.ensures link_and_tree run_line tree c.run.ensures
