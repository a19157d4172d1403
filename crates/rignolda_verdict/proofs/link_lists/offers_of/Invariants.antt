use Rattle.std.proofs.Common.{◌≡◌, take}
use Rattle.rignolda_verdict.specs.LinkVerdicts.{offers_of}
use Rattle.rignolda_verdict.proofs.link_lists.offers_of.Given as goal

-- what the events so far offer
abbrev pub invariant-loop-event : goal.invariant-loop-event
invariant-loop-event l = l.offers ≡ offers_of (take l.event-index l.events)
