-- What a run of a job without the steps of its schedule comes to is what a run of the whole job
-- comes to.
use Rattle.std.proofs.Common.{◌≡◌, ℕ, List, Result, Ok, Err, IfErr, subst, sym}
use Rattle.stab_job.specs.JobValues.{JobValue}
use Rattle.stab_job.specs.Jobs.{job}
use Rattle.stab_job.specs.Unscheduled.{unscheduled, IsUnscheduled}
use Rattle.stab_run.specs.declared.links.Links.{Links}
use Rattle.stab_run.specs.ByScript.{IsByScript, IsByLockedScript}
use Rattle.stab_run.specs.Reports.{Reported}
use Rattle.stab_run.specs.Runs.{IsReport}
use Rattle.stab_run.specs.declared.run_fault.RunFault.{RunFault}
use Rattle.stab_run.specs.declared.run_fault.RunFault.TheVariants as run
use Rattle.stab_acts.specs.Scripts.{Acts}
use Rattle.stab_core.specs.LinkSetup.{LinkSetup}
use Rattle.stab_task.specs.Answers.{IsFault, IsFreeRunReason, IsRunAnswer, IsRunText}
use Rattle.stab_task.specs.declared.command.Task.TheVariants.{Run as RunTask}
use Rattle.stab_task.specs.declared.fault.CliFault.{CliFault}
use Rattle.stab_task.specs.declared.fault.CliFault.TheVariants.{Run as RunRefused}

-- a link of two words is by its script
by_script : (j : JobValue) (r : Reported) (link : LinkSetup) (script : Acts) (child parent : ℕ)
    → IsByScript (unscheduled j) r link script child parent → IsByScript j r link script child parent
by_script j r link script child parent is = record {
  sent = is.sent;
  received = is.received;
  sender = is.sender;
  receiver = is.receiver;
  explained = is.explained;
  frames = is.frames;
  acks = is.acks;
  offers = is.offers;
  offers_all = is.offers_all;
  closed = is.closed;
  delivers = is.delivers;
  counts = is.counts;
}

-- and so is a link with a lock
by_locked_script : (j : JobValue) (r : Reported) (link : LinkSetup) (script : Acts) (child parent : ℕ)
    → IsByLockedScript (unscheduled j) r link script child parent → IsByLockedScript j r link script child parent
by_locked_script j r link script child parent is = record {
  events = is.events;
  sender = is.sender;
  receiver = is.receiver;
  agree = is.agree;
  noted = is.noted;
  offers = is.offers;
  closed = is.closed;
  delivers = is.delivers;
  counts = is.counts;
}

-- a report is one of the whole job
report_of_whole : (links : Links) (j : JobValue) (r : Reported) → IsReport links (unscheduled j) r → IsReport links j r
report_of_whole links j r is = record {
  one_place = is.one_place;
  nodes = is.nodes;
  root = is.root;
  edges = is.edges;
  kinds = is.kinds;
  scripts =
      λ child parent link script leads into its_script words.
      by_script j r link script child parent (is.scripts child parent link script leads into its_script words);
  locked_scripts =
      λ child parent link script leads into its_script locked.
      by_locked_script j r link script child parent (is.locked_scripts child parent link script leads into its_script locked);
  handed_on = is.handed_on;
  half_tree_law = is.half_tree_law;
  tree_law = is.tree_law;
  sharper_tree_law = is.sharper_tree_law;
  complete = is.complete;
  network = is.network;
}

-- and so is its text
text_of_whole : (links : Links) (j : JobValue) (text : List ℕ) → IsRunText links (unscheduled j) text → IsRunText links j text
text_of_whole links j text is =
    record { report = is.report; holds = report_of_whole links j is.report is.holds; the_text = is.the_text }

-- a run is refused for what the whole job is refused for
reason_of_whole : (links : Links) (j : JobValue) (fault : RunFault) → IsFreeRunReason links (unscheduled j) fault → IsFreeRunReason links j fault
reason_of_whole links j run.CapacityNotOne reason = reason
reason_of_whole links j (run.Start child why) reason = reason
reason_of_whole links j (run.Settle child why) reason = reason
reason_of_whole links j (run.Thread node) reason = reason
reason_of_whole links j (run.Node node why) reason = reason
reason_of_whole links j run.Memory reason = reason

-- the text of a run is that of the bytes
pub run_answered : (links : Links) (input text : List ℕ) (j : JobValue) → IsUnscheduled (job input) j → IsRunText links j text
    → IsRunAnswer links input text
run_answered links input text j (whole, read, same) is =
    record { job = whole; read = read; run = text_of_whole links whole text (subst (λ k. IsRunText links k text) same is) }

-- and its refusal is one of the bytes
run_refused : (links : Links) (input : List ℕ) (why : RunFault) (j : JobValue) → IsUnscheduled (job input) j → IsFreeRunReason links j why
    → IsFault (RunTask links) input (RunRefused why)
run_refused links input why j (whole, read, same) reason =
    (whole, read, reason_of_whole links whole why (subst (λ k. IsFreeRunReason links k why) same reason))

-- the same of a result
pub run_failed : {A : Type 0} (links : Links) (input : List ℕ) (r : Result A CliFault) (j : JobValue) → IsUnscheduled (job input) j
    → IfErr r (λ fault. (why : RunFault) × (fault ≡ RunRefused why) × IsFreeRunReason links j why)
    → IfErr r (IsFault (RunTask links) input)
run_failed links input (Ok x) j is reason = tt
run_failed links input (Err fault) j is (why, same, reason) =
    subst (IsFault (RunTask links) input) (sym same) (run_refused links input why j is reason)
