-- Hosts: which bytes a task reads, where the system that it runs on tells what its files hold.
-- Example: On a host that tells nothing but that the file `a.json` holds `{}`, a task with that file
-- reads `{}`. Of what it reads without a file, or from another one, nothing is told.
-- Source: this project's own.
use Rattle.std.specs.Prelude.{ℕ, List, Option, Some, None}

-- the bytes of the file of a name, or where there is no name those of the standard input
abbrev pub bytes_of : Option (List ℕ) → (List ℕ → Option (List ℕ)) → Option (List ℕ)
    → Option (List ℕ)
bytes_of standard file None = standard
bytes_of standard file (Some path) = file path
