-- Checks: the words for a list of checks in their order, each beside the fault that it reports.
-- Example: `TooManyEvents when` a test says so, and then `Event` where an entry means nothing: for
-- a list that is too long and has such an entry the fault is `TooManyEvents`, and the entries are
-- not looked at.
-- Source: this project's own. In a `do` block of these words a check is made only where those
-- before it pass.
use Rattle.std.specs.Prelude.{Bool, true, false, Option, Some, None, Result, Ok, Err}

infixl 10 ◌>>=◌
infixl 10 ◌>>◌
infixl 20 ◌or◌
infixl 20 ◌when◌
infixl 20 ◌refused_as◌
-- the checks that follow, over what the one before found
abbrev pub ◌>>=◌ : {A B F : Type 0} → Result A F → (A → Result B F) → Result B F
◌>>=◌ (Ok x) following = following x
◌>>=◌ (Err fault) following = Err fault

-- the checks that follow, where the one before has no fault
abbrev pub ◌>>◌ : {B F : Type 0} → Option F → Result B F → Result B F
◌>>◌ None following = following
◌>>◌ (Some fault) following = Err fault

-- what there is, or this fault where there is nothing
abbrev pub ◌or◌ : {A F : Type 0} → Option A → F → Result A F
◌or◌ (Some x) fault = Ok x
◌or◌ None fault = Err fault

-- this fault, when the test says so
abbrev pub ◌when◌ : {F : Type 0} → F → Bool → Option F
◌when◌ fault true = Some fault
◌when◌ fault false = None

-- what there is, or the fault that this refusal is in the words of the checks
abbrev pub ◌refused_as◌ : {A R F : Type 0} → Result A R → (R → F) → Result A F
◌refused_as◌ (Ok x) fault_of = Ok x
◌refused_as◌ (Err refusal) fault_of = Err (fault_of refusal)
