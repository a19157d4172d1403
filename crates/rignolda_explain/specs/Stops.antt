-- Stops: why a job that its reader accepts does not come to its end: a link cannot begin from its
-- start, or a step of the schedule is on no link.
-- Example: A job of two links whose second start has two frames, where the capacity is 1, stops for
-- `TooManyFrames`. With that start put right, and a step on the root, it stops for `Step`. The end
-- of what is said of it is then `stab tree: step: no such link`, and otherwise that it is accepted.
-- Source: this project's own, over the answers of the two readers.
use Rattle.std.specs.Prelude.{◌≡◌, ◌≢◌, ◌++◌, ℕ, codes, List, [], ◌∷◌, All, Option, Some, None}
use Rattle.std.specs.Prelude.{Result, Ok, Err}
use Rattle.stab_core.specs.Link.{IsReason}
use Rattle.stab_core.specs.LinkSetup.{CanBegin}
use Rattle.stab_core.specs.Replay.{IsLawful}
use Rattle.stab_core.specs.declared.start.StartFault.{StartFault}
use Rattle.stab_core.specs.declared.start.StartFault.TheVariants.{TooManyFrames, TooManyAcks}
use Rattle.stab_core.specs.declared.start.StartFault.TheVariants.{Memory}
use Rattle.stab_job.specs.JobValues.{JobValue, network}
use Rattle.stab_job.specs.Jobs.{job}
use Rattle.stab_job.specs.declared.fault.JobFault.{JobFault}
use Rattle.stab_script.specs.LinkJobs.{link_job}
use Rattle.stab_script.specs.declared.link_job.LinkJob.{LinkJob}
use Rattle.stab_script.specs.declared.link_job.LinkJobFault.{LinkJobFault}
use Rattle.stab_treecore.specs.Refusals.{IsFirstFault, NamesLink}
use Rattle.rignolda_findings.specs.declared.explanation.Finding.{Finding}
use Rattle.rignolda_findings.specs.declared.explanation.Matter.{Matter}
use Rattle.rignolda_findings.specs.declared.explanation.Matter.TheVariants as matter
use Rattle.rignolda_findings.specs.declared.refusal.Kind.{Kind}
use Rattle.rignolda_findings.specs.declared.refusal.Kind.TheVariants as kind
use Rattle.rignolda_explain.specs.declared.stop.Stop.{Stop}
use Rattle.rignolda_explain.specs.declared.stop.Stop.TheVariants.{Start, Step}

-- the stop that a finding of this matter is of, if it is of one
abbrev pub stop_in : Matter → Option Stop
stop_in (matter.Refused refusal) = None
stop_in (matter.Start fault) = Some (Start fault)
stop_in matter.Step = Some Step
stop_in matter.Command = None
stop_in matter.Ignored = None

-- the first stop, or else the one of the others
abbrev pub or_stop : Option Stop → Option Stop → Option Stop
or_stop (Some stop) others = Some stop
or_stop None others = others

-- the stop that the first such finding is of
abbrev pub first_stop : List Finding → Option Stop
first_stop [] = None
first_stop (finding ∷ findings) = or_stop (stop_in finding.matter) (first_stop findings)

-- why this link job stops, if it does
abbrev pub StopsLinkJob : LinkJob → Option Stop → Type 0
StopsLinkJob its_job None = IsLawful its_job.params its_job.start
StopsLinkJob its_job (Some (Start fault)) =
    IsReason its_job.params its_job.start fault × (fault ≢ Memory)
StopsLinkJob its_job (Some Step) = ⊥

-- why this job of a tree stops, if it does
abbrev pub StopsJob : JobValue → Option Stop → Type 0
StopsJob its_job None =
    All CanBegin (network its_job).links
    × All (NamesLink its_job.tree.parents) its_job.schedule
StopsJob its_job (Some (Start fault)) =
    IsFirstFault (network its_job).links fault × (fault ≢ Memory)
StopsJob its_job (Some Step) =
    All CanBegin (network its_job).links
    × ¬ All (NamesLink its_job.tree.parents) its_job.schedule

-- the same of what a reader answers; a job that it refuses does not stop
abbrev pub StopsAnswer : {A F : Type 0} → (A → Option Stop → Type 0) → Result A F → Option Stop
    → Type 0
StopsAnswer Stops (Ok its_job) stop = Stops its_job stop
StopsAnswer Stops (Err fault) stop = stop ≡ None

-- why the job of that kind stops that these bytes are
abbrev pub IsStopOf : Kind → List ℕ → Option Stop → Type 0
IsStopOf kind.LinkJob bytes stop = StopsAnswer StopsLinkJob (link_job bytes) stop
IsStopOf kind.Job bytes stop = StopsAnswer StopsJob (job bytes) stop

-- the last words of what is said of a job that is accepted
abbrev pub stop_words : Option Stop → List ℕ
stop_words None = codes "accepted\n"
stop_words (Some (Start TooManyFrames)) = codes "start: too many frames\n"
stop_words (Some (Start TooManyAcks)) = codes "start: too many acknowledgements\n"
stop_words (Some (Start Memory)) = codes "out of memory\n"
stop_words (Some Step) = codes "step: no such link\n"

-- the words before them
abbrev pub kind_words : Kind → List ℕ
kind_words kind.LinkJob = codes "stab link: "
kind_words kind.Job = codes "stab tree: "

-- a text that ends with these words
abbrev pub EndsWith : List ℕ → List ℕ → Type 0
EndsWith text words = (before : List ℕ) × (text ≡ before ++ words)
