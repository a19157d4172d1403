-- Which faults a command has, whatever it reads and writes.
-- Example: `bounds` has the fault of a link job, and `random` those of its options. What it reads is
-- no job, so its job is never refused: what is left is that writing fails.
-- Source: this project's own.
use Rattle.std.specs.Prelude.{◌≡◌}
use Rattle.stab_task.specs.declared.fault.CliFault.TheVariants.{Write}
use Rattle.rignolda_commands.specs.declared.fault.CommandFault.{CommandFault}
use Rattle.rignolda_commands.specs.declared.fault.CommandFault.TheVariants as fault

-- the commands that have faults of their own; the steps of a scenario are drawn, too
pub data Command : Type 0 where
  Bounds : Command
  Check : Command
  Judge : Command
  Random : Command
  Steps : Command

-- this command may have this fault
abbrev pub IsFaultOf : Command → CommandFault → Type 0
IsFaultOf Random (fault.Job refusal) = refusal ≡ Write
IsFaultOf Random (fault.Draw refusal) = Unit {0}
IsFaultOf Bounds (fault.Job refusal) = Unit {0}
IsFaultOf Bounds fault.LinkJob = Unit {0}
IsFaultOf Steps (fault.Job refusal) = Unit {0}
IsFaultOf Steps (fault.Steps refusal) = Unit {0}
IsFaultOf Judge (fault.Job refusal) = Unit {0}
IsFaultOf Judge (fault.Logs refusal) = Unit {0}
IsFaultOf Check (fault.Job refusal) = Unit {0}
IsFaultOf Check (fault.Unloaded refusal) = Unit {0}
IsFaultOf Check (fault.Backlogs refusal) = Unit {0}
IsFaultOf Check (fault.Line line) = Unit {0}
IsFaultOf Check (fault.LinkLine line) = Unit {0}
IsFaultOf command its_fault = ⊥
