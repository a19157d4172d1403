-- The status that the program ends with, by the fault of its command.
-- Example: A report that cannot be read has status 1, as a job that cannot be read has, and memory
-- that is refused has status 3 in both. Options by which no job is drawn are part of the command
-- line, so they have status 2.
-- Source: this project's own.
use Rattle.std.specs.Prelude.{ℕ}
use Rattle.rignolda_make.specs.declared.checked.RandomFault.{RandomFault}
use Rattle.rignolda_make.specs.declared.checked.RandomFault.TheVariants as random
use Rattle.stab_task.specs.Statuses.{status_of}
use Rattle.rignolda_commands.specs.declared.fault.CommandFault.{CommandFault}
use Rattle.rignolda_commands.specs.declared.fault.CommandFault.TheVariants.{Job, Draw, LinkJob}
use Rattle.rignolda_commands.specs.declared.fault.CommandFault.TheVariants.{Steps, Logs, Unloaded}
use Rattle.rignolda_commands.specs.declared.fault.CommandFault.TheVariants.{Backlogs, Line, LinkLine}

-- 2 for options that are refused, and 3 for a drawn job that is none and for memory
abbrev pub draw_status : RandomFault → ℕ
draw_status (random.Options refusal) = 2
draw_status random.Unlike = 3
draw_status random.Memory = 3

-- the status that `stab` has for a fault of the job or of a file, that of the drawing, and 1 for a
-- link job without bounds, for what is refused beside a job, and for a text that is no report
abbrev pub command_status : CommandFault → ℕ
command_status (Job refusal) = status_of refusal
command_status (Draw refusal) = draw_status refusal
command_status LinkJob = 1
command_status (Steps refusal) = 1
command_status (Logs refusal) = 1
command_status (Unloaded refusal) = status_of refusal
command_status (Backlogs refusal) = 1
command_status (Line line) = 1
command_status (LinkLine line) = 1
