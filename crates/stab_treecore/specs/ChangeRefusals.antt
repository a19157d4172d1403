-- Why changes cannot be made: the tree cannot begin, or the first change that cannot be made.
-- Example: In the chain r, a, b a strike at the link into r names no link. After it a restart of
-- node number 7 is not looked at: the reason is that of the strike.
-- Source: this project's own.
use Rattle.std.specs.Prelude.{◌⊎◌, ◌<◌, List, [], ◌∷◌, length, All, IsSome}
use Rattle.stab_frames.specs.Parameters.{Parameters}
use Rattle.stab_core.specs.declared.start.Start.{Start}
use Rattle.stab_core.specs.Link.{Grows}
use Rattle.stab_core.specs.LinkSetup.{CanBegin}
use Rattle.stab_treecore.specs.declared.fault.TreeStepFault.TheVariants.{NoSuchLink}
use Rattle.stab_treecore.specs.declared.fault.TreeStepFault.TheVariants.{Memory as StepMemory}
use Rattle.stab_treecore.specs.Network.{Network}
use Rattle.stab_treecore.specs.Refusals.{IsRestartReason, IsStartReason, IsStrikeReason, NamesLink}
use Rattle.stab_treecore.specs.Refusals.{NamesNoLink, OnePerLink}
use Rattle.stab_treecore.specs.TreeReplay.{initial_tree}
use Rattle.stab_treecore.specs.TreeStep.{tree_effect}
use Rattle.stab_treecore.specs.WholeTree.{WholeTree, link_into}
use Rattle.stab_treecore.specs.declared.change_fault.ChangeFault.{ChangeFault}
use Rattle.stab_treecore.specs.declared.change_fault.ChangeFault.TheVariants as fault
use Rattle.stab_treecore.specs.Changes.{Change, Act, Publish, Strike, Restart, FitsTree, change_step}

-- a change can be made: an act or a strike names a link, a strike fits it, a restart names a node
abbrev pub CanBeMade : WholeTree → Change → Type 0
CanBeMade t (Act e) = NamesLink t.parents e
CanBeMade t (Publish items) = Unit {0}
CanBeMade t (Strike child start) = IsSome (link_into t child) × FitsTree t (Strike child start)
CanBeMade t (Restart node list) = node < length t.parents

-- and so can each of these when it comes
abbrev pub AllCanBeMade : WholeTree → List Change → Type 0
AllCanBeMade t [] = Unit {0}
AllCanBeMade t (change ∷ changes) =
    CanBeMade t change × AllCanBeMade (change_step t change) changes

-- why a change cannot be made
abbrev pub IsReasonAt : ChangeFault → WholeTree → Change → Type 0
IsReasonAt (fault.Act NoSuchLink) t (Act e) = NamesNoLink t.parents e
IsReasonAt (fault.Act StepMemory) t (Act e) = Grows (tree_effect t e)
IsReasonAt (fault.Strike refused) t (Strike child start) = IsStrikeReason t child start refused
IsReasonAt (fault.Restart refused) t (Restart node list) = IsRestartReason t.parents node refused
IsReasonAt fault.Memory t (Publish items) = Unit {0}
IsReasonAt _ t change = ⊥

-- The changes reach one of which this holds, beside the state that it finds: those before it can
-- all be made.
abbrev pub ReachesChange : (WholeTree → Change → Type 0) → WholeTree → List Change → Type 0
ReachesChange P t [] = ⊥
ReachesChange P t (change ∷ changes) =
    P t change ⊎ (CanBeMade t change × ReachesChange P (change_step t change) changes)

-- why changes of a network are refused: it cannot begin, or one of them cannot be made
abbrev pub IsChangeReason : List Parameters → List Start → Network → List Change → ChangeFault
    → Type 0
IsChangeReason params starts net changes (fault.Begin refused) =
    IsStartReason params net.tree.parents starts refused
IsChangeReason params starts net changes refused =
    OnePerLink net.tree.parents params × OnePerLink net.tree.parents starts
    × All CanBegin net.links × ReachesChange (IsReasonAt refused) (initial_tree net) changes
