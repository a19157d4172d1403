-- The parameters of each link of a job: the job's own, or those that its entry says.
-- Example: Nodes r, a, b in a chain, and a job whose own parameters are 1 and 4. By `[null,
-- {"capacity": 2, "labels": 6}]` the link into a has 1 and 4 and the link into b has 2 and 6. By
-- `[null, {"capacity": 2, "labels": 5}]` five labels are fewer than 2 * 2 + 2, so `LinkParams` of
-- node 2 and `LabelsTooFew`. `[{"capacity": 0, "labels": 4}]` is one entry for two links, so
-- `LinkCount`; its numbers are not looked at.
-- Source: this project's profile.
use Rattle.std.specs.Prelude.{ℕ, List, [], ◌∷◌, replicate, Option, Some, None, Result, Ok}
use Rattle.stab_frames.specs.Parameters.{Parameters, fault_of}
use Rattle.stab_frames.specs.declared.params.ParamsFault.{ParamsFault}
use Rattle.stab_json.specs.Checks.{◌>>=◌, ◌>>◌, ◌when◌, ◌refused_as◌}
use Rattle.stab_tree.specs.Links.{links_of}
use Rattle.stab_tree.specs.Nodes.{Nodes}
use Rattle.stab_job.specs.declared.fault.JobFault.{JobFault}
use Rattle.stab_job.specs.declared.fault.JobFault.TheVariants as fault
use Rattle.stab_job.specs.declared.link_entry.LinkEntry.{LinkEntry}
use Rattle.stab_job.specs.declared.link_entry.LinkEntry.TheVariants.{OfJob, Own}
use Rattle.stab_job.specs.JobLinks.{are_miscounted}
use Rattle.stab_job.specs.JobValues.{links}

-- the parameters of the link of this entry, where the job has these, or the check that they fail
abbrev pub params_by : Parameters → LinkEntry → Result Parameters ParamsFault
params_by of_job OfJob = Ok of_job
params_by of_job (Own capacity labels) = do
  fault_of capacity labels
  Ok (record { capacity = capacity; labels = labels })

-- the parameters of the link into this child, whose fault names the child
abbrev pub params_into : Parameters → ℕ → LinkEntry → Result Parameters JobFault
params_into of_job child entry = params_by of_job entry refused_as fault.LinkParams child

-- the parameters of the links into these children, an entry for each, or the fault of the first
-- entry whose numbers are none
abbrev pub all_params : Parameters → List ℕ → List LinkEntry → Result (List Parameters) JobFault
all_params of_job [] entries = Ok []
all_params of_job (child ∷ children) [] = Ok []
all_params of_job (child ∷ children) (entry ∷ entries) = do
  params ← params_into of_job child entry
  others ← all_params of_job children entries
  Ok (params ∷ others)

-- the parameters of the links of these nodes
abbrev pub params_of : Nodes → Parameters → Option (List LinkEntry)
    → Result (List Parameters) JobFault
params_of t of_job None = Ok (replicate (links t) of_job)
params_of t of_job (Some entries) = all_params of_job (links_of t.parents) entries

-- there is one entry for each link, where entries are given, and only then is each checked
abbrev pub link_params : Nodes → Parameters → Option (List LinkEntry)
    → Result (List Parameters) JobFault
link_params t of_job entries = do
  fault.LinkCount when are_miscounted (links t) entries
  params_of t of_job entries
