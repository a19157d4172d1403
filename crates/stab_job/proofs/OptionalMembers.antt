-- Members that a job has to have.
-- A member that must be there is read as one that may be absent.
use Rattle.std.proofs.Common.{◌≡◌, Option, Some, None, option_and_then, refl}
use Rattle.std.specs.Option.{option_flatten}
use Rattle.serde_json.specs.Data.{Data}
use Rattle.stab_job.specs.JobMembers.{if_there}

some_of : {X : Type 0} (o : Option X) → option_flatten (Rattle.std.proofs.Common.option_map Some o) ≡ o
some_of None = refl
some_of (Some x) = refl

-- a member that may be absent, and is not, means what it means where it may not
pub is_there : {X : Type 0} (meaning : Data → Option X) (o : Option Data) → option_flatten (if_there meaning o) ≡ option_and_then meaning o
is_there meaning None = refl
is_there meaning (Some d) = some_of (meaning d)
