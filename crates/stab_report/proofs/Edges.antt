-- The link law of an edge, with the count that a report has of it.
use Rattle.std.proofs.Common.{◌≡◌, ℕ, List, [], Some, ap, sym, subst}
use Rattle.std.specs.Option.{option_map_or}
use Rattle.stab_core.specs.LinkLaw.{SharperLinkLaw}
use Rattle.stab_core.specs.LinkSetup.{LinkSetup}
use Rattle.stab_core.specs.Replay.{initial, replay, start_items}
use Rattle.stab_treecore.specs.EdgeLaw.{EdgeInto}
use Rattle.stab_treecore.specs.Network.{Network}
use Rattle.stab_treecore.specs.NodeLaws.{capacity_into, garbage_into}
use Rattle.stab_treecore.proofs.Replayed.{ReplaysObey}
use Rattle.stab_report.specs.EndedNodes.{ObeysAsCounted}
use Rattle.stab_report.specs.Reports.{ReportValue, received_at, acked_at}

-- an edge obeys with the count that it has
pub edge_obeys : ReplaysObey SharperLinkLaw → (net : Network) (r : ReportValue) (child parent : ℕ)
    → (edge : EdgeInto net child (received_at r parent) (received_at r child)) → acked_at r child ≡ Some edge.acked
    → ObeysAsCounted net r child parent
edge_obeys obey net r child parent edge counted =
    let p = edge.link.params in
    let start = edge.link.start in
    let s = replay p (initial start) edge.edge.events in
    let law : SharperLinkLaw p.capacity (start_items start) s.offered s.acked s.delivered =
    obey p start edge.edge.events edge.begins.0 edge.begins.1 in
    let own_capacity : p.capacity ≡ capacity_into net child =
    ap (λ o. option_map_or (λ (l : LinkSetup). l.params.capacity) o 0) (sym edge.leads) in
    let own_garbage : start_items start ≡ garbage_into net child =
    ap (λ o. option_map_or (λ (l : LinkSetup). start_items l.start) o []) (sym edge.leads) in
    let as_reported : SharperLinkLaw p.capacity (start_items start) s.offered edge.acked edge.delivered =
    subst (λ (n : ℕ). SharperLinkLaw p.capacity (start_items start) s.offered n edge.delivered) edge.edge.counts
    (subst (λ (xs : List ℕ). SharperLinkLaw p.capacity (start_items start) s.offered s.acked xs) edge.edge.delivers law) in
    let own : SharperLinkLaw (capacity_into net child) (garbage_into net child) s.offered edge.acked edge.delivered =
    subst (λ (c : ℕ). SharperLinkLaw c (garbage_into net child) s.offered edge.acked edge.delivered) own_capacity
    (subst (λ (xs : List ℕ). SharperLinkLaw p.capacity xs s.offered edge.acked edge.delivered) own_garbage as_reported) in
    (edge.delivered, edge.has, (s.offered, edge.acked, edge.edge.offers, (counted, own)))
