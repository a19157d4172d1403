-- Why rounds of all links are refused: the network cannot begin, or memory is refused. No link is
-- ever missing, since rounds are of the links that are there.
-- Source: this project's own.
use Rattle.std.specs.Prelude.{◌≡◌, List, All}
use Rattle.stab_core.specs.declared.start.Start.{Start}
use Rattle.stab_core.specs.LinkSetup.{CanBegin}
use Rattle.stab_frames.specs.Parameters.{Parameters}
use Rattle.stab_treecore.specs.declared.fault.TreeStartFault.{TreeStartFault}
use Rattle.stab_treecore.specs.declared.fault.TreeStartFault.TheVariants as fault
use Rattle.stab_treecore.specs.declared.fault.TreeStepFault.TheVariants.{Memory}
use Rattle.stab_treecore.specs.Network.{Network}
use Rattle.stab_treecore.specs.Refusals.{IsStartReason, OnePerLink}

abbrev pub IsRoundsReason : List Parameters → List Start → Network → TreeStartFault → Type 0
IsRoundsReason params starts net (fault.Step refused) =
    OnePerLink net.tree.parents params × OnePerLink net.tree.parents starts
    × All CanBegin net.links × (refused ≡ Memory)
IsRoundsReason params starts net refused = IsStartReason params net.tree.parents starts refused
