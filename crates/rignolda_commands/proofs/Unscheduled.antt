-- What is said of a job that was read without the steps of its schedule is said of the whole job.
use Rattle.std.proofs.Common.{◌≡◌, ℕ, Bool, List, Option, Some, None, Ok, Err, codes, get_or, refl, sym, ap, ◌∙◌, subst, arith}
use Rattle.serde_json.specs.Data.{Data}
use Rattle.serde_json.specs.Find.{get}
use Rattle.stab_job.specs.JobValues.{JobValue, network}
use Rattle.stab_job.specs.Jobs.{job}
use Rattle.stab_job.specs.declared.fault.JobFault.TheVariants as tree
use Rattle.stab_job.specs.Parts.{SameMembers, the_schedule}
use Rattle.stab_job.proofs.ForCallers.{member_of}
use Rattle.stab_job.specs.Unscheduled.{unscheduled, IsUnscheduled}
use Rattle.stab_json.specs.Values.{value_of}
use Rattle.stab_report.specs.Texts.{IsNoText}
use Rattle.rignolda_commands.specs.Unanswered.{IsUnanswered}
use Rattle.stab_task.specs.declared.command.Task.TheVariants.{Tree}
use Rattle.stab_task.specs.declared.fault.CliFault.{CliFault}
use Rattle.stab_task.specs.declared.fault.CliFault.TheVariants as task
use Rattle.stab_treecore.specs.Network.{IsNetwork}
use Rattle.stab_treecore.specs.Refusals.{IsScheduleReason}
use Rattle.stab_treecore.specs.declared.event.TreeEvent.{TreeEvent}
use Rattle.stab_treecore.specs.declared.fault.TreeStartFault.{TreeStartFault}
use Rattle.rignolda_since.specs.Backlogs.{backlogs}
use Rattle.rignolda_since.specs.declared.backlogs.BacklogFault.{BacklogFault}
use Rattle.rignolda_verdict.specs.BoundsTexts.{bounds_text}
use Rattle.rignolda_commands.specs.Begun.{AreBounds, HasNoBounds, IsBegunUnscheduled}
use Rattle.rignolda_commands.specs.Checked.{IsCheckedTree, IsJudgedBy, IsUncheckedTree, given_backlogs}
use Rattle.rignolda_commands.specs.declared.fault.CommandFault.TheVariants.{Backlogs, Job, Line}

-- it can begin
pub begun_unscheduled : (input : List ℕ) (its_job : JobValue) → IsUnscheduled (job input) its_job → IsNetwork (network its_job) → IsBegunUnscheduled input its_job
begun_unscheduled input its_job (whole, read, same) begins = record {
  whole = whole;
  begun = record { read = read; network = subst (λ j. IsNetwork (network j)) same begins };
  same = same;
}

-- or not
pub unbegun : (input : List ℕ) (its_job : JobValue) (fault : TreeStartFault) → IsUnscheduled (job input) its_job
    → ((events : List TreeEvent) → IsScheduleReason its_job.params its_job.starts (network its_job) events fault) → IsUnanswered Tree input (task.Tree fault)
unbegun input its_job fault (whole, read, same) why =
    (whole, read, subst (λ j. IsScheduleReason j.params j.starts (network j) whole.schedule fault) same (why whole.schedule))

-- why it has no bounds, where its links cannot begin: it has the shape of a job of a tree
pub no_bounds : (input : List ℕ) (its_job : JobValue) (fault : CliFault) → IsUnscheduled (job input) its_job → IsUnanswered Tree input fault → HasNoBounds input (Job fault)
no_bounds input its_job fault (whole, read, same) why = (
  why,
  λ is shaped. let refused : IsUnanswered Tree input (task.Job tree.Shape) = subst (IsUnanswered Tree input) is why in
      absurd (let never : job input ≡ Err tree.Shape = refused (λ memory. absurd (cc)) in cc),
  λ is shaped. let refused : IsUnanswered Tree input (task.Job tree.Version) = subst (IsUnanswered Tree input) is why in
      absurd (let never : job input ≡ Err tree.Version = refused (λ memory. absurd (cc)) in cc),
)

-- its bounds
pub bounds_of_whole : (input : List ℕ) (its_job : JobValue) (text : List ℕ) → IsBegunUnscheduled input its_job → text ≡ bounds_text (network its_job) → AreBounds input text
bounds_of_whole input its_job text begun is = record { its_job = begun.whole; begun = begun.begun; the_text = is ∙ ap (λ j. bounds_text (network j)) begun.same }

-- a report of it that is judged
judged_by_whole : (given : Option Data) (whole : JobValue) (text : List ℕ) (obeys : Bool) (answer : List ℕ) → IsJudgedBy given (unscheduled whole) text obeys answer → IsJudgedBy given whole text obeys answer
judged_by_whole None whole text obeys answer is =
    record { report = is.report; its_text = is.its_text; entries = is.entries; exactly = is.exactly; says = is.says }
judged_by_whole (Some given) whole text obeys answer (lists, means, is) = (
  lists,
  means,
  record { report = is.report; its_text = is.its_text; entries = is.entries; exactly = is.exactly; says = is.says },
)

pub checked_by_whole : (input : List ℕ) (its_job : JobValue) (text : List ℕ) (obeys : Bool) (answer : List ℕ) → IsBegunUnscheduled input its_job
    → IsJudgedBy (given_backlogs (value_of input)) its_job text obeys answer → IsCheckedTree input text obeys answer
checked_by_whole input its_job text obeys answer begun is = record {
  its_job = begun.whole;
  begun = begun.begun;
  judged = judged_by_whole (given_backlogs (value_of input)) begun.whole text obeys answer
      (subst (λ j. IsJudgedBy (given_backlogs (value_of input)) j text obeys answer) begun.same is);
}

-- its backlogs, which were read beside it
pub backlogs_beside : (input : List ℕ) (others : Data) → (d : Data) × (value_of input ≡ Some d) × SameMembers d others
    → given_backlogs (value_of input) ≡ get (codes "backlogs") others
backlogs_beside input others (d, is, same) =
    member_of input d others (codes "backlogs") is same
    (λ e. let at : get_or (codes "backlogs") 0 0 ≡ get_or the_schedule 0 0 = ap (λ s. get_or s 0 0) e in absurd (omega (arith, at)))

-- backlogs of it that are refused
pub refused_backlogs : (input : List ℕ) (had : Option (List ℕ)) (its_job : JobValue) (given : Data) (refusal : BacklogFault) → IsBegunUnscheduled input its_job
    → given_backlogs (value_of input) ≡ Some given → backlogs its_job.tree given ≡ Err refusal → IsUncheckedTree input had (Backlogs refusal)
refused_backlogs input had its_job given refusal begun has why =
    (refl, begun.whole, begun.begun, given, has, ap (λ j. backlogs j.tree given) (sym begun.same) ∙ why)

-- a text that is no report of it
pub no_report : (input text : List ℕ) (its_job : JobValue) (line : ℕ) → IsBegunUnscheduled input its_job → IsNoText its_job.tree text
    → IsUncheckedTree input (Some text) (Line line)
no_report input text its_job line begun none = (refl, begun.whole, begun.begun, subst (λ j. IsNoText j.tree text) begun.same none)
