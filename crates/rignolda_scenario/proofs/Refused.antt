-- Why a scenario is not run, where one of its changes is refused.
use Rattle.std.proofs.Common.{List, [], ◌∷◌, ◌++◌, inl, inr}
use Rattle.stab_core.specs.declared.start.StartFault.TheVariants as start
use Rattle.stab_treecore.specs.declared.change.Change.{Change}
use Rattle.stab_treecore.specs.declared.change_fault.ChangeFault.{ChangeFault}
use Rattle.stab_treecore.specs.declared.change_fault.ChangeFault.TheVariants as change
use Rattle.stab_core.specs.declared.start.Start.{Start}
use Rattle.stab_frames.specs.Parameters.{Parameters}
use Rattle.stab_treecore.specs.Changes.{change_step}
use Rattle.stab_treecore.specs.ChangeRefusals.{IsChangeReason, IsReasonAt, ReachesChange}
use Rattle.stab_treecore.specs.Network.{Network}
use Rattle.stab_treecore.specs.TreeReplay.{initial_tree}
use Rattle.stab_treecore.specs.WholeTree.{WholeTree}
use Rattle.stab_job.specs.JobValues.{JobValue, network}
use Rattle.stab_treecore.specs.declared.fault.RestartFault.TheVariants as restart
use Rattle.stab_treecore.specs.declared.fault.TreeStartFault.TheVariants as begin
use Rattle.stab_treecore.specs.declared.fault.TreeStepFault.TheVariants as step
use Rattle.rignolda_scenario.specs.Counts.{IsUnrun}
use Rattle.rignolda_scenario.specs.Played.{changes_of}
use Rattle.rignolda_scenario.specs.Refusals.{change_refused}
use Rattle.rignolda_scenario.specs.declared.step.Step.{Step}

pub unrun_by_change : (j : JobValue) (steps : List Step) (refusal : ChangeFault)
    → IsChangeReason j.params j.starts (network j) (changes_of j.tree.parents j.params steps) refusal → IsUnrun j steps (change_refused refusal)
unrun_by_change j steps change.Memory why = tt
unrun_by_change j steps (change.Act step.Memory) why = tt
unrun_by_change j steps (change.Act step.NoSuchLink) why = why
unrun_by_change j steps (change.Strike refusal) why = why
unrun_by_change j steps (change.Restart restart.Memory) why = tt
unrun_by_change j steps (change.Restart restart.NoSuchNode) why = why
unrun_by_change j steps (change.Begin begin.StartCount) why = why
unrun_by_change j steps (change.Begin (begin.Start start.TooManyFrames)) why = why
unrun_by_change j steps (change.Begin (begin.Start start.TooManyAcks)) why = why
unrun_by_change j steps (change.Begin (begin.Start start.Memory)) why = tt
unrun_by_change j steps (change.Begin (begin.Step refusal)) why = why

-- what reaches a change of the first ones reaches it in all
pub reaches_more : (P : WholeTree → Change → Type 0) (t : WholeTree) (before after : List Change) → ReachesChange P t before → ReachesChange P t (before ++ after)
reaches_more P t [] after reaches = absurd reaches
reaches_more P t (change ∷ changes) after (inl here) = inl here
reaches_more P t (change ∷ changes) after (inr later) = inr (later.0, reaches_more P (change_step t change) changes after later.1)

pub reason_more : (params : List Parameters) (starts : List Start) (net : Network) (before after : List Change) (refusal : ChangeFault)
    → IsChangeReason params starts net before refusal → IsChangeReason params starts net (before ++ after) refusal
reason_more params starts net before after (change.Begin refusal) why = why
reason_more params starts net before after (change.Act refusal) why =
    (why.0, why.1, why.2, reaches_more (IsReasonAt (change.Act refusal)) (initial_tree net) before after why.3)
reason_more params starts net before after (change.Strike refusal) why =
    (why.0, why.1, why.2, reaches_more (IsReasonAt (change.Strike refusal)) (initial_tree net) before after why.3)
reason_more params starts net before after (change.Restart refusal) why =
    (why.0, why.1, why.2, reaches_more (IsReasonAt (change.Restart refusal)) (initial_tree net) before after why.3)
reason_more params starts net before after change.Memory why =
    (why.0, why.1, why.2, reaches_more (IsReasonAt change.Memory) (initial_tree net) before after why.3)
