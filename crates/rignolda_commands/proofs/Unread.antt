-- Why a report is not read.
use Rattle.std.proofs.Common.{◌≡◌, ℕ, List, [], Option, Some, None, IfSome, subst, ◌∙◌}
use Rattle.rignolda_findings.specs.declared.refusal.Kind.{Kind}
use Rattle.rignolda_findings.specs.declared.refusal.Kind.TheVariants as kind
use Rattle.rignolda_explain.specs.Kinds.{chosen}
use Rattle.stab_json.specs.Values.{value_of}
use Rattle.rignolda_commands.specs.Checked.{IsUnchecked, IsUncheckedAs, IsUnloadedReport}
use Rattle.rignolda_commands.specs.declared.fault.CommandFault.{CommandFault}
use Rattle.rignolda_commands.specs.declared.fault.CommandFault.TheVariants.{Job, Backlogs, Unloaded, Line, LinkLine}
use Rattle.stab_task.specs.Loading.{IsLoadFault, IsUnloaded}
use Rattle.stab_task.specs.declared.file.LoadFault.{LoadFault}
use Rattle.stab_task.specs.declared.file.LoadFault.TheVariants as load
use Rattle.stab_task.specs.declared.fault.CliFault.{CliFault}
use Rattle.stab_task.specs.declared.fault.CliFault.TheVariants.{Memory as no_memory}

-- a report that is not loaded is not checked, whatever the job is
pub whatever_is_read : (asked had : Option (List ℕ)) (fault : CliFault) → IsUnloadedReport had fault
    → IfSome asked (λ input. IsUnchecked input had (Unloaded fault))
whatever_is_read None had fault why = tt
whatever_is_read (Some input) had fault why = why

-- nor is one for which memory is refused
pub memory_is_refused : (asked had : Option (List ℕ)) → IfSome asked (λ input. IsUnchecked input had (Job no_memory))
memory_is_refused None had = tt
memory_is_refused (Some input) had = tt

-- a file that cannot be loaded for what it is cannot be loaded where it is not told what it is
unloaded_untold : (text : List ℕ) (why : LoadFault) → IsLoadFault (Some text) why → IsLoadFault None why
unloaded_untold text load.Read is = tt
unloaded_untold text load.TooLong is = tt
unloaded_untold text load.Memory is = tt

fault_untold : (text : List ℕ) (fault : CliFault) → IsUnloaded (Some text) fault → IsUnloaded None fault
fault_untold text fault (why, is, of) = (why, is, unloaded_untold text why of)

report_untold : (text : List ℕ) (fault : CliFault) → IsUnloadedReport (Some text) fault → IsUnloadedReport None fault
report_untold text fault (other, why) = (other, fault_untold text fault why)

-- why there is no verdict on a text is why there is none where it is not told what the text is
untold : (its_kind : Kind) (input text : List ℕ) (fault : CommandFault) → IsUncheckedAs its_kind input (Some text) fault
    → IsUncheckedAs its_kind input None fault
untold its_kind input text (Job fault) why = why
untold its_kind input text (Backlogs refusal) why = why
untold its_kind input text (Unloaded fault) why = report_untold text fault why
untold its_kind input text (Line line) (is, its_job, begun, none) = (is, its_job, begun, tt)
untold its_kind input text (LinkLine line) (is, begun, none) = (is, begun, tt)
untold its_kind input text other why = absurd why

-- and where it is told, it is that text
told_as : (its_kind : Kind) (input text : List ℕ) (had : Option (List ℕ)) (fault : CommandFault) → IfSome had (λ it. text ≡ it)
    → IsUncheckedAs its_kind input (Some text) fault → IsUncheckedAs its_kind input had fault
told_as its_kind input text None fault same why = untold its_kind input text fault why
told_as its_kind input text (Some it) fault same why = subst (λ told. IsUncheckedAs its_kind input (Some told) fault) same why

-- so it is of the job as well, and of bytes that are lent as a list
pub as_told : (asked had : Option (List ℕ)) (bytes text lent lent_text : List ℕ) (fault : CommandFault) → lent ≡ bytes → lent_text ≡ text
    → IfSome asked (λ it. bytes ≡ it) → IfSome had (λ it. text ≡ it) → IsUnchecked lent (Some lent_text) fault
    → IfSome asked (λ input. IsUnchecked input had fault)
as_told None had bytes text lent lent_text fault same_bytes same_text same_job same why = tt
as_told (Some input) had bytes text lent lent_text fault same_bytes same_text same_job same why =
    subst (λ told. IsUnchecked told had fault) (same_bytes ∙ same_job)
    (told_as (chosen None (value_of lent)) lent text had fault same (subst (λ told. IsUnchecked lent (Some told) fault) same_text why))

-- a text that was loaded is as little unloaded as its reader tells
pub unloaded_as_told : (had : Option (List ℕ)) (text : List ℕ) (fault : CliFault) → IfSome had (λ it. text ≡ it)
    → IsUnloadedReport (Some text) fault → IsUnloadedReport had fault
unloaded_as_told had text fault same why = told_as kind.Job [] text had (Unloaded fault) same why
