-- What loading a file promises of a reader that tells its bytes.
-- Source: this project's own.
use Rattle.std.specs.Prelude.{◌≡◌, ℕ, ◌<◌, ◌≤◌, List, length, Option, IfSome}
use Rattle.stab_task.specs.declared.file.LoadFault.{LoadFault}
use Rattle.stab_task.specs.declared.file.LoadFault.TheVariants as load
use Rattle.stab_task.specs.declared.fault.CliFault.{CliFault}
use Rattle.stab_task.specs.declared.fault.CliFault.TheVariants.{Read, TooLong, Memory}

-- the most bytes of a file
abbrev pub most_bytes : ℕ
most_bytes = 16777216

-- how often a read may be interrupted while one file is loaded
abbrev pub most_interruptions : ℕ
most_interruptions = 1000

-- all the bytes that the reader had, which are not too many
pub record IsWhole (had : Option (List ℕ)) (bytes : List ℕ) : Type 0 where
  pub all : IfSome had (λ it. bytes ≡ it)
  pub not_too_long : length bytes ≤ most_bytes

-- why loading may fail: a file is too long only where it has more bytes; a reader may fail, and
-- memory may be refused, at any bytes
abbrev pub IsLoadFault : Option (List ℕ) → LoadFault → Type 0
IsLoadFault had load.Read = Unit {0}
IsLoadFault had load.TooLong = IfSome had (λ it. most_bytes < length it)
IsLoadFault had load.Memory = Unit {0}

-- the program's fault of a file that cannot be loaded
abbrev pub fault_of_load : LoadFault → CliFault
fault_of_load load.Read = Read
fault_of_load load.TooLong = TooLong
fault_of_load load.Memory = Memory

-- the program's fault is that of a file that cannot be loaded
abbrev pub IsUnloaded : Option (List ℕ) → CliFault → Type 0
IsUnloaded had fault = (why : LoadFault) × (fault ≡ fault_of_load why) × IsLoadFault had why
