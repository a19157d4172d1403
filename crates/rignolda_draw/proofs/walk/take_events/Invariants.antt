use Rattle.std.proofs.Common.{◌≡◌, drop}
use Rattle.rignolda_draw.specs.Rows.{rows_from}
use Rattle.rignolda_draw.proofs.Taking.{Continues}
use Rattle.rignolda_draw.proofs.walk.take_events.Given as goal

-- what takes the rows of the remaining events, from the state so far, has taken all rows
abbrev pub invariant-loop-event : goal.invariant-loop-event
invariant-loop-event g l =
    (l.link.params ≡ l.initial.link.params)
    × Continues g.T.TakesRows.HasTaken l.to (rows_from l.link.params l.link.state (drop l.event-index l.events))
    l.initial.to (rows_from l.initial.link.params l.initial.link.state l.events)
