use Rattle.std.proofs.Common.{refl, arith}
use Rattle.serde_json.specs.Data.{array}
use Rattle.stab_script.specs.Members.{in_member}
use Rattle.stab_script.proofs.Meaning.{not_capped}
use Rattle.stab_script.proofs.Members.{has_capacity, has_labels, has_start, has_events}
use Rattle.stab_script.proofs.Plain.{no_some, capacity_form, labels_form, start_form, events_form}
use Rattle.stab_script.proofs.stream_job.read_member.Goals as goal

pub returns-in-Some-clause-value : goal.returns-in-Some-clause-value
returns-in-Some-clause-value c =
    let old = c.args.parts.now in
    let number = c.in-Some in
    let first = not_capped 65535 in_member number.capacity c.args.reader.now c.next_u16.new.reader (number.ensures.value in_member) number.ensures.small in
    λ yes. (first.0, first.1, λ ms has. rw c.in-capacity.is (has_capacity old.capacity old.labels old.start old.events first.0 ms has number.capacity first.2))

pub returns-in-Some-next_u16-clause-value : goal.returns-in-Some-next_u16-clause-value
returns-in-Some-next_u16-clause-value c =
    let old = c.args.parts.now in
    let number = c.in-Some-next_u16 in
    let first = not_capped 65535 in_member number.labels c.args.reader.now c.next_u16-in-labels.new.reader (number.ensures.value in_member) number.ensures.small in
    λ yes. (first.0, first.1, λ ms has. rw c.in-labels.is (has_labels old.capacity old.labels old.start old.events first.0 ms has number.labels first.2))

pub returns-in-Some-2-clause-value : goal.returns-in-Some-2-clause-value
returns-in-Some-2-clause-value c =
    let old = c.args.parts.now in
    let first = (rw c.in-Some-2.is at c.in_ok-start-in-start.ensures.value) in_member (omega arith) in
    λ yes. (first.0, first.1, λ ms has. rw c.in-start.is (has_start old.capacity old.labels old.start old.events first.0 ms has c.in-Some-2.start first.2))

pub returns-in-Some-3-clause-value : goal.returns-in-Some-3-clause-value
returns-in-Some-3-clause-value c =
    let old = c.args.parts.now in
    let list = rw c.in-Some-3.is at c.in_ok-events-in-events.ensures.value in
    λ yes. (array list.0, list.1, λ ms has. rw c.in-events.is (has_events old.capacity old.labels old.start old.events (array list.0) ms has list.0 c.in-Some-3.events refl list.2 list.3))

pub returns-in_default-next_u16-clause-plain : goal.returns-in_default-next_u16-clause-plain
returns-in_default-next_u16-clause-plain c = λ rest p.
    let never = (c.in_default-next_u16.ensures.plain rest (capacity_form c.args.name.now c.args.reader.now rest c.in-capacity.is p)).0 in
    absurd (cc)

pub returns-in-Some-clause-plain : goal.returns-in-Some-clause-plain
returns-in-Some-clause-plain c = λ rest p. (refl, (c.in-Some.ensures.plain rest (capacity_form c.args.name.now c.args.reader.now rest c.in-capacity.is p)).1)

pub returns-in_default-next_u16-2-clause-plain : goal.returns-in_default-next_u16-2-clause-plain
returns-in_default-next_u16-2-clause-plain c = λ rest p.
    let never = (c.in_default-next_u16-2.ensures.plain rest (labels_form c.args.name.now c.args.reader.now rest c.in-labels.is p)).0 in
    absurd (cc)

pub returns-in-Some-next_u16-clause-plain : goal.returns-in-Some-next_u16-clause-plain
returns-in-Some-next_u16-clause-plain c = λ rest p. (refl, (c.in-Some-next_u16.ensures.plain rest (labels_form c.args.name.now c.args.reader.now rest c.in-labels.is p)).1)

pub returns-in_default-2-clause-plain : goal.returns-in_default-2-clause-plain
returns-in_default-2-clause-plain c = λ rest p. absurd (no_some c.in_default-2.is (c.in_ok-start-in-start.ensures.plain rest (start_form c.args.name.now c.args.reader.now rest c.in-start.is p)).0)

pub returns-in-Some-2-clause-plain : goal.returns-in-Some-2-clause-plain
returns-in-Some-2-clause-plain c = λ rest p. (refl, (c.in_ok-start-in-start.ensures.plain rest (start_form c.args.name.now c.args.reader.now rest c.in-start.is p)).1)

pub returns-in_default-3-clause-plain : goal.returns-in_default-3-clause-plain
returns-in_default-3-clause-plain c = λ rest p. absurd (no_some c.in_default-3.is (c.in_ok-events-in-events.ensures.plain rest (events_form c.args.name.now c.args.reader.now rest c.in-events.is p)).0)

pub returns-in-Some-3-clause-plain : goal.returns-in-Some-3-clause-plain
returns-in-Some-3-clause-plain c = λ rest p. (refl, (c.in_ok-events-in-events.ensures.plain rest (events_form c.args.name.now c.args.reader.now rest c.in-events.is p)).1)
