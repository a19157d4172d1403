-- Why a whole tree cannot begin or go on: the first check that fails, or memory.
-- Example: One start for two links: `StartCount`, and so it is with the parameters of one link
-- alone. Two starts of which the second has two frames, where both links have capacity 1: the first
-- is lawful and the second is not, so `TooManyFrames`. Where the second link has capacity 2, both
-- are lawful. A schedule of acknowledgements alone makes no list grow, so no reason of memory at a
-- step exists for it.
-- Source: this project's own.
use Rattle.std.specs.Prelude.{◌≡◌, ◌≢◌, ◌⊎◌, ℕ, ◌<◌, ◌≤◌, List, [], ◌∷◌, length, Option, Some, None}
use Rattle.std.specs.Prelude.{All, IsSome, IsNone}
use Rattle.stab_frames.specs.Parameters.{Parameters}
use Rattle.stab_core.specs.declared.start.Start.{Start}
use Rattle.stab_core.specs.declared.start.StartFault.{StartFault}
use Rattle.stab_core.specs.declared.start.StartFault.TheVariants.{TooManyFrames, TooManyAcks}
use Rattle.stab_core.specs.declared.start.StartFault.TheVariants.{Memory}
use Rattle.stab_core.specs.Link.{Grows, IsReason, LinkValue}
use Rattle.stab_core.specs.LinkSetup.{CanBegin, LinkSetup, setups}
use Rattle.stab_tree.specs.Links.{links_of}
use Rattle.stab_tree.specs.Nodes.{parent_at}
use Rattle.stab_treecore.specs.declared.event.TreeEvent.{TreeEvent}
use Rattle.stab_treecore.specs.declared.fault.RestartFault.{RestartFault}
use Rattle.stab_treecore.specs.declared.fault.RestartFault.TheVariants.{NoSuchNode}
use Rattle.stab_treecore.specs.declared.fault.RestartFault.TheVariants.{Memory as RestartMemory}
use Rattle.stab_treecore.specs.declared.fault.StrikeFault.{StrikeFault}
use Rattle.stab_treecore.specs.declared.fault.StrikeFault.TheVariants.{NoSuchLink as NoLinkStruck}
use Rattle.stab_treecore.specs.declared.fault.StrikeFault.TheVariants.{Start as StrikeRefused}
use Rattle.stab_treecore.specs.declared.fault.TreeStartFault.{TreeStartFault}
use Rattle.stab_treecore.specs.declared.fault.TreeStartFault.TheVariants.{StartCount}
use Rattle.stab_treecore.specs.declared.fault.TreeStartFault.TheVariants.{Start as StartRefused}
use Rattle.stab_treecore.specs.declared.fault.TreeStartFault.TheVariants.{Step}
use Rattle.stab_treecore.specs.declared.fault.TreeStepFault.{TreeStepFault}
use Rattle.stab_treecore.specs.declared.fault.TreeStepFault.TheVariants.{NoSuchLink}
use Rattle.stab_treecore.specs.declared.fault.TreeStepFault.TheVariants.{Memory as StepMemory}
use Rattle.stab_treecore.specs.Network.{Network}
use Rattle.stab_treecore.specs.TreeReplay.{initial_tree}
use Rattle.stab_treecore.specs.TreeStep.{tree_step, tree_effect}
use Rattle.stab_treecore.specs.WholeTree.{WholeTree, link_into}

-- there is one entry for each link
abbrev pub OnePerLink : {A : Type 0} → List (Option ℕ) → List A → Type 0
OnePerLink parents xs = length xs ≡ length (links_of parents)

-- the first start that is refused is refused for this fault, under the parameters of its link
abbrev pub IsFirstFault : List LinkSetup → StartFault → Type 0
IsFirstFault [] fault = ⊥
IsFirstFault (link ∷ links) fault =
    IsReason link.params link.start fault ⊎ (CanBegin link × IsFirstFault links fault)

-- why the links cannot begin: the first fault among their starts, or memory where all starts are
-- lawful
abbrev pub IsOpeningReason : List LinkSetup → StartFault → Type 0
IsOpeningReason links TooManyFrames = IsFirstFault links TooManyFrames
IsOpeningReason links TooManyAcks = IsFirstFault links TooManyAcks
IsOpeningReason links Memory = All CanBegin links

-- why a whole tree cannot begin
abbrev pub IsStartReason : List Parameters → List (Option ℕ) → List Start → TreeStartFault → Type 0
IsStartReason params parents starts StartCount =
    ¬ (OnePerLink parents params × OnePerLink parents starts)
IsStartReason params parents starts (StartRefused fault) =
    OnePerLink parents params × OnePerLink parents starts
    × IsOpeningReason (setups params starts) fault
IsStartReason params parents starts (Step fault) = ⊥

-- an event names a link by its child; the root and what is no node name none
abbrev pub NamesLink : List (Option ℕ) → TreeEvent → Type 0
NamesLink parents e = IsSome (parent_at parents e.child)

abbrev pub NamesNoLink : List (Option ℕ) → TreeEvent → Type 0
NamesNoLink parents e = IsNone (parent_at parents e.child)

-- The schedule reaches an event of which this holds, beside the state that it finds: the events
-- before it all name links.
abbrev pub ReachesEvent : (WholeTree → TreeEvent → Type 0) → WholeTree → List TreeEvent → Type 0
ReachesEvent P t [] = ⊥
ReachesEvent P t (e ∷ es) = P t e ⊎ (NamesLink t.parents e × ReachesEvent P (tree_step t e) es)

-- why a schedule is refused at a step: at the first event that names no link, or for memory at an
-- event that makes a list grow
abbrev pub IsStepReason : WholeTree → List TreeEvent → TreeStepFault → Type 0
IsStepReason t events NoSuchLink = ReachesEvent (λ now e. NamesNoLink now.parents e) t events
IsStepReason t events StepMemory = ReachesEvent (λ now e. Grows (tree_effect now e)) t events

-- why a schedule is refused: as a whole tree that cannot begin, or at a step
abbrev pub IsScheduleReason : List Parameters → List Start → Network → List TreeEvent
    → TreeStartFault → Type 0
IsScheduleReason params starts net events StartCount =
    IsStartReason params net.tree.parents starts StartCount
IsScheduleReason params starts net events (StartRefused fault) =
    IsStartReason params net.tree.parents starts (StartRefused fault)
IsScheduleReason params starts net events (Step fault) =
    OnePerLink net.tree.parents params × OnePerLink net.tree.parents starts
    × All CanBegin net.links
    × IsStepReason (initial_tree net) events fault

-- why a fault cannot strike a link: there is none, or what is to be in it does not fit; never
-- memory
abbrev pub IsStrikeReasonOf : Option LinkValue → Start → StrikeFault → Type 0
IsStrikeReasonOf link start NoLinkStruck = IsNone link
IsStrikeReasonOf None start (StrikeRefused fault) = ⊥
IsStrikeReasonOf (Some link) start (StrikeRefused fault) =
    IsReason link.params start fault × (fault ≢ Memory)

-- why a fault cannot strike the link into a node
abbrev pub IsStrikeReason : WholeTree → ℕ → Start → StrikeFault → Type 0
IsStrikeReason t child = IsStrikeReasonOf (link_into t child)

-- why a node cannot restart: there is no such node, or memory where there is one
abbrev pub IsRestartReason : List (Option ℕ) → ℕ → RestartFault → Type 0
IsRestartReason parents node NoSuchNode = length parents ≤ node
IsRestartReason parents node RestartMemory = node < length parents
