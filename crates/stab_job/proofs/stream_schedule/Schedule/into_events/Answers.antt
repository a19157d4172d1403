use Rattle.std.proofs.Common.{◌≡◌, map, sym, subst}
use Rattle.stab_job.specs.Steps.{AreKept, AreNodesOf, KeptSteps, event_over}
use Rattle.stab_job.proofs.Kept.{kept_events}
use Rattle.stab_job.proofs.stream_schedule.Schedule.into_events.Goals as goal

pub returns : goal.returns
returns c =
    let of_tree = c.args.tree.now.names in
    let old : KeptSteps = record { names = c.self.inside.names; count = c.self.inside.count; are_kept = c.self.inside.are_kept; kept = c.self.inside.kept.items } in
    let nodes = c.in-Some.nodes.items in
    let events = c.in_ok-events.events in
    let are : AreNodesOf of_tree old.names nodes = rw c.in-Some.is at c.in_ok-nodes.ensures in
    let made : events ≡ map (event_over nodes) old.kept = rw (c.as_slice.ensures.value, c.as_slice-2.ensures.value) at c.in_ok-events.ensures in
    λ keeps acts k. kept_events keeps old acts of_tree nodes events are made (subst (λ s. AreKept keeps s acts) (sym c.self.view_is) k)
