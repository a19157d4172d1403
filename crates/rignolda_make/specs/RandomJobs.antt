-- Random jobs: what a drawn text is, whatever the words of the generator were.
-- Example: By 5 nodes, 3 items, capacity 2, 9 labels, loss 10, repeat 20 and 100 steps a text is
-- one if it is read as a job whose tree has 5 nodes and so 4 links, whose root publishes 3 items,
-- each of whose links has a capacity of 1 or 2, 9 labels, a start that fits it and a script that
-- drops 10 of a thousand messages and keeps 20, and whose schedule has 100 steps, each on a link.
-- Source: this project's own.
use Rattle.std.specs.Prelude.{◌≡◌, ◌≤◌, ℕ, codes, List, length, All, IfSome, Option, Some, Ok}
use Rattle.serde_json.specs.Find.{get}
use Rattle.stab_job.specs.JobValues.{JobValue}
use Rattle.stab_job.specs.Jobs.{job}
use Rattle.stab_job.specs.Replays.{IsReplayed}
use Rattle.stab_json.specs.Values.{◌>>=◌, list_of, value_of}
use Rattle.stab_script.specs.ScriptEntries.{script_entry}
use Rattle.stab_script.specs.declared.script_entry.ScriptEntry.{ScriptEntry}
use Rattle.stab_script.specs.declared.script_entry.ScriptEntry.TheVariants.{Lists, Draw}
use Rattle.rignolda_make.specs.declared.options.DrawOptions.{DrawOptions}
use Rattle.rignolda_make.specs.Options.{steps_of}

-- the job has as many of everything that is counted as the options ask for, and each link as many
-- labels, where they say how many
pub record IsAsAsked (o : DrawOptions) (its_job : JobValue) : Type 0 where
  pub nodes : length its_job.tree.parents ≡ o.nodes
  pub items : length its_job.items ≡ o.items
  pub turns : its_job.turns ≡ o.turns
  pub hold : its_job.openings.hold ≡ o.hold
  pub steps : length its_job.schedule ≡ steps_of o
  pub capacities : All (λ p. p.capacity ≤ o.capacity) its_job.params
  pub labels : IfSome o.labels (λ wanted. All (λ p. p.labels ≡ wanted) its_job.params)

-- the script of a link is drawn, and drops and keeps as many of a thousand as the options ask for
abbrev pub IsDrawnAt : DrawOptions → ScriptEntry → Type 0
IsDrawnAt o (Lists frames_out frames_in acks_out acks_in) = ⊥
IsDrawnAt o (Draw state stream len loss repeat) = (loss ≡ o.loss) × (repeat ≡ o.repeat)

-- what these bytes say of the scripts, if they have any
abbrev pub scripts_in : List ℕ → Option (List ScriptEntry)
scripts_in text = do
  value ← value_of text
  scripts ← get (codes "scripts") value
  list_of script_entry scripts

-- these bytes have scripts, and each is drawn at the rates of the options
pub record AreDrawnAt (o : DrawOptions) (text : List ℕ) : Type 0 where
  pub scripts : List ScriptEntry
  pub read : scripts_in text ≡ Some scripts
  pub rates : All (IsDrawnAt o) scripts

-- these bytes are read as a job by the options
pub record IsRandomText (o : DrawOptions) (text : List ℕ) : Type 0 where
  pub its_job : JobValue
  pub read : job text ≡ Ok its_job
  pub asked : IsAsAsked o its_job
  pub replayed : IsReplayed its_job
  pub rates : AreDrawnAt o text
