use Rattle.std.proofs.Common.{[], Some, refl, sym, ap, ◌∙◌}
use Rattle.stab_core.specs.declared.start.Start.{Start}
use Rattle.stab_frames.specs.Parameters.{Parameters}
use Rattle.stab_script.proofs.Plain.{no_some}
use Rattle.stab_script.proofs.stream_job.read_events.Goals as goal

pub returns-then-are_events-clause-value : goal.returns-then-are_events-clause-value
returns-then-are_events-clause-value c =
    let list = rw c.in-Some.is at c.in_ok-are_events.ensures.value in
    let taken = rw c.if-are_events.true at list.3 in
    let params : Parameters = record { capacity = 0; labels = 0 } in
    let start : Start = record { frames = []; acks = []; send_label = 0; recv_label = 0 } in
    (list.0, list.1, list.2, taken.1 ∙ ap Some (sym (taken.2 params start [] c.new-events.ensures)))

pub returns-in_default-clause-plain : goal.returns-in_default-clause-plain
returns-in_default-clause-plain c = λ rest p. absurd (no_some c.in_default.is (c.in_ok-are_events.ensures.plain rest p).0)

pub returns-then-are_events-clause-plain : goal.returns-then-are_events-clause-plain
returns-then-are_events-clause-plain c = λ rest p. (refl, (c.in_ok-are_events.ensures.plain rest p).1)

pub returns-else-are_events-clause-plain : goal.returns-else-are_events-clause-plain
returns-else-are_events-clause-plain c = λ rest p. (refl, (c.in_ok-are_events.ensures.plain rest p).1)
