-- What a run says of a link is more than is asked of it.
use Rattle.std.proofs.Common.{◌≡◌, ℕ, Some}
use Rattle.stab_treecore.specs.EdgeLaw.{EdgeInto}
use Rattle.stab_treecore.specs.Network.{Network}
use Rattle.stab_judge.specs.Obeys.{LinkObeys}
use Rattle.stab_report.specs.EndedNodes.{ObeysAsCounted}
use Rattle.stab_report.specs.Reports.{ReportValue, received_at, acked_at}

-- the law of the layer below that this needs
abbrev pub EdgesObey : Type 0
EdgesObey =
    (net : Network) (r : ReportValue) (child parent : ℕ) (edge : EdgeInto net child (received_at r parent) (received_at r child))
    → acked_at r child ≡ Some edge.acked → ObeysAsCounted net r child parent

-- so it is a link that obeys
pub edge_obeys : EdgesObey → (net : Network) (r : ReportValue) (child parent : ℕ)
    → (edge : EdgeInto net child (received_at r parent) (received_at r child)) → acked_at r child ≡ Some edge.acked
    → LinkObeys net r child parent
edge_obeys obey net r child parent edge is_counted =
    let (delivered, has, link) = obey net r child parent edge is_counted in
    let (offered, acked, begins, counted_law) = link in
    let (counted, law) = counted_law in
    record { acked = acked; counted = counted; delivered = delivered; has = has; law = (offered, begins, law) }
