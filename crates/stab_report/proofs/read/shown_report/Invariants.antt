use Rattle.std.proofs.Common.{◌≡◌, ◌-◌, Bool, false, length, map, unwrap_or, vec_capacity, vec_len}
use Rattle.std.specs.List.{flat_map, range_with_len}
use Rattle.stab_report.specs.Reports.{ReportValue, acked_at, received_at}
use Rattle.stab_report.specs.LinesInside.{IsPrint}
use Rattle.stab_report.specs.Texts.{end_at, lines_at}
use Rattle.stab_report.proofs.read.shown_report.Given as goal

-- there is one entry for each node so far, and room for all; of a printed report they are its entries, and what remains are the lines
-- of the other nodes
abbrev pub invariant-nodes : goal.invariant-nodes
invariant-nodes l =
    (vec_capacity l.received ≡ length l.tree.parents)
    × (vec_capacity l.acked ≡ length l.tree.parents)
    × (vec_capacity l.ended_upstream ≡ length l.tree.parents)
    × (vec_len l.received ≡ l.counter)
    × (vec_len l.acked ≡ l.counter)
    × (vec_len l.ended_upstream ≡ l.counter)
    × ((r : ReportValue) (says_so : Bool) → IsPrint l.tree l.fn.text r says_so
    → (l.rest ≡ flat_map (lines_at l.tree r says_so) (range_with_len l.counter (length l.tree.parents - l.counter)))
    × (l.received.items ≡ map (received_at r) (range_with_len 0 l.counter))
    × (l.acked.items ≡ map (acked_at r) (range_with_len 0 l.counter))
    × (l.ended_upstream.items ≡ map (λ node. unwrap_or (end_at r says_so node) false) (range_with_len 0 l.counter)))
