-- The command line of `stab`, and the task and the file that its words name.
-- Example: The words `stab`, `link`, `--trace`, `job`: the command word is `link`, the flag is
-- among the words after it, and `job` is the first value of `FILE`. So the task is a link job with
-- its trace, from the file `job`. The words `stab`, `--` have no command word, so the task is a
-- link job without a trace, from standard input. The words `stab`, `run`, `--words`, `--mixed`
-- match the model, and `has_both_flags` of them is true, so they are not taken.
-- Source: this project's own; which words match is the model of the crate `clap`.
use Rattle.std.specs.Prelude.{◌≡◌, ◌⊎◌, Bool, true, false, List, [], Option, Some, None}
use Rattle.std.specs.Prelude.{◌&&◌, codes, find, option_and_then, if◌then◌else◌}
use Rattle.std.specs.Str.{bytes_eq}
use Rattle.clap.specs.Words.{App, Row, Rule, Text, app_of, fault_of, first_of}
use Rattle.clap.specs.Words.{new_app, new_rule}
use Rattle.clap.specs.Words.{subcommand_of, with_rule, with_subcommand}
use Rattle.clap.specs.Simple.{on_top}
use Rattle.clap.specs.declared.builder.command.Command.{Command}
use Rattle.clap.specs.declared.builder.command.Command.TheViews.{out-Command as fields_of}
use Rattle.clap.specs.declared.builder.action.ArgAction.TheVariants.{SetTrue}
use Rattle.clap.specs.declared.parser.matches.ValueSource.{ValueSource}
use Rattle.clap.specs.declared.parser.matches.ValueSource.TheVariants as source
use Rattle.stab_run.specs.declared.links.Links.{Links}
use Rattle.stab_run.specs.declared.links.Links.TheVariants.{Locked, Words, Mixed}
use Rattle.stab_task.specs.declared.command.Task.{Task}
use Rattle.stab_task.specs.declared.command.Task.TheVariants.{Link, Tree, Run}
use Rattle.stab_task.specs.declared.fault.CliFault.{CliFault}
use Rattle.stab_task.specs.declared.fault.CliFault.TheVariants.{CommandLine, Memory}

-- a flag of this name
abbrev pub flag_of : Text → Rule
flag_of name = record (new_rule name) {
  long = Some name;
  action = Some SetTrue;
}

-- the flag `--trace`
abbrev pub trace_flag : Rule
trace_flag = flag_of (codes "trace")

-- the flag `--words`
abbrev pub words_flag : Rule
words_flag = flag_of (codes "words")

-- the flag `--mixed`
abbrev pub mixed_flag : Rule
mixed_flag = flag_of (codes "mixed")

-- a file, which may be left out
abbrev pub file_argument : Rule
file_argument = new_rule (codes "FILE")

-- `link [--trace] [FILE]`
abbrev pub link_line : App
link_line = with_rule (with_rule (new_app (codes "link")) trace_flag) file_argument

-- `tree [FILE]`
abbrev pub tree_line : App
tree_line = with_rule (new_app (codes "tree")) file_argument

-- `run [--words | --mixed] [FILE]`, where nothing is said yet of both flags together
abbrev pub run_line : App
run_line = with_rule (with_rule (with_rule (new_app (codes "run")) words_flag) mixed_flag)
    file_argument

-- `stab` without its subcommands; it has no subcommand `help`
abbrev pub bare_line : App
bare_line = on_top (λ s. record s { disable_help_subcommand = true }) (new_app (codes "stab"))

-- `stab link [--trace] [FILE]`, `stab tree [FILE]` and `stab run [--words | --mixed] [FILE]`
abbrev pub stab_line : App
stab_line = with_subcommand
    (with_subcommand (with_subcommand bare_line link_line.top) tree_line.top) run_line.top

-- a command has this line, and no argument that is global
pub record HasLine (line : App) (command : Command) : Type 0 where
  pub shape : app_of command ≡ line
  pub local : (fields_of command).has_globals ≡ false

-- where the value of an argument came from
abbrev pub source_of : Text → List Row → Option ValueSource
source_of id rows = option_and_then (λ r. r.source) (find (λ r. bytes_eq r.id id) rows)

-- a value came from the words, and is no default
abbrev pub is_from_words : Option ValueSource → Bool
is_from_words None = false
is_from_words (Some source.DefaultValue) = false
is_from_words (Some source.CommandLine) = true

-- `--trace` is among the words after the command word
abbrev pub has_trace : List Row → Bool
has_trace rows = is_from_words (source_of (codes "trace") rows)

-- `--words` is among the words after the command word
abbrev pub has_words_flag : List Row → Bool
has_words_flag rows = is_from_words (source_of (codes "words") rows)

-- `--mixed` is among the words after the command word
abbrev pub has_mixed_flag : List Row → Bool
has_mixed_flag rows = is_from_words (source_of (codes "mixed") rows)

-- `--words` and `--mixed` are both among the words after the command word
abbrev pub has_both_flags : Option (Text × List Row) → Bool
has_both_flags None = false
has_both_flags (Some p) = has_words_flag p.1 && has_mixed_flag p.1

-- the links of a run: those that a flag names, and locked ones where there is no flag
abbrev pub links_by_flags : List Row → Links
links_by_flags rows =
    if has_words_flag rows then Words else (if has_mixed_flag rows then Mixed else Locked)

-- the task of a command word
abbrev pub task_of : Text → List Row → Task
task_of word rows = if bytes_eq word (codes "link") then Link (has_trace rows)
    else (if bytes_eq word (codes "tree") then Tree else Run (links_by_flags rows))

-- the task and the file of a command word and what follows it; with no command word, those of
-- `stab link`
abbrev pub task_and_file : Option (Text × List Row) → Task × Option Text
task_and_file None = (Link false, None)
task_and_file (Some p) = (task_of p.0 p.1, first_of (codes "FILE") p.1)

-- the task and the file that the words of a command line name, where they are taken
abbrev pub named_by : List Text → Task × Option Text
named_by words = task_and_file (subcommand_of stab_line words)

-- the words of a command line are taken: they match, and do not have both flags of `run`
pub record IsTaken (words : List Text) : Type 0 where
  pub matched : fault_of stab_line words ≡ []
  pub one_kind : has_both_flags (subcommand_of stab_line words) ≡ false

-- why words name no task: memory was refused, or they are
abbrev pub IsWordsFault : List Text → CliFault → Type 0
IsWordsFault words fault = (fault ≡ Memory) ⊎ ((fault ≡ CommandLine) × ¬ IsTaken words)
