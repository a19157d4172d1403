-- What the fields of a judge keep, and which parts of a node are whole where one is found broken.
-- Source: this project's own.
use Rattle.std.specs.Prelude.{◌≡◌, ⊤, ℕ, List, map}
use Rattle.stab_core.specs.Replay.{start_items}
use Rattle.stab_core.specs.declared.start.Start.{Start}
use Rattle.stab_frames.specs.Parameters.{Parameters}
use Rattle.stab_tree.specs.Nodes.{Nodes}
use Rattle.stab_tree.specs.NodeOpenings.{FitTree, OpeningsValue}
use Rattle.stab_treecore.specs.Network.{Network}
use Rattle.stab_treecore.specs.Refusals.{OnePerLink}
use Rattle.stab_judge.specs.Obeys.{IsBroken}
use Rattle.stab_report.specs.Reports.{ReportValue}
use Rattle.stab_judge.specs.declared.broken.Broken.{Broken}
use Rattle.stab_judge.specs.declared.broken.Broken.TheVariants as broken

-- there are parameters and a start for each link, the openings fit the tree, and beside each start
-- there are the items of its frames
pub record IsJudge (params : List Parameters) (nodes : Nodes) (starts : List Start)
    (openings : OpeningsValue) (garbage : List (List ℕ)) : Type 0 where
  pub params_per_link : OnePerLink nodes.parents params
  pub starts_per_link : OnePerLink nodes.parents starts
  pub openings_fit : FitTree nodes.parents openings
  pub items : garbage ≡ map start_items starts

-- the parts of its node that are looked at before this one are not broken
abbrev pub AreWholeBefore : Network → ReportValue → Broken → Type 0
AreWholeBefore net r broken.Entries = ⊤
AreWholeBefore net r broken.Published = ⊤
AreWholeBefore net r broken.RootCount = ¬ IsBroken net r broken.Published
AreWholeBefore net r (broken.NoCount child) = ⊤
AreWholeBefore net r (broken.Opening child) = ¬ IsBroken net r (broken.NoCount child)
AreWholeBefore net r (broken.LinkLaw child) =
    ¬ IsBroken net r (broken.NoCount child) × ¬ IsBroken net r (broken.Opening child)
AreWholeBefore net r (broken.HandedOn child) =
    ¬ IsBroken net r (broken.NoCount child) × ¬ IsBroken net r (broken.Opening child)
    × ¬ IsBroken net r (broken.LinkLaw child)
