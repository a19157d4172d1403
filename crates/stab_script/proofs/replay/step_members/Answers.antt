use Rattle.std.proofs.Common.{◌≡◌, ◌<◌, [], length, codes, Some, None, option_map, refl, ap, ◌∙◌}
use Rattle.json.specs.Json.{read_key}
use Rattle.serde_json.specs.Data.{array, put}
use Rattle.stab_script.specs.Members.{HasJob}
use Rattle.stab_script.proofs.Members.{has_events}
use Rattle.stab_script.proofs.replay.step_members.Goals as goal

pub returns-then-are_events : goal.returns-then-are_events
returns-then-are_events g c =
    let parts = c.in-Some.parts in
    let head = rw c.in-Some.is at c.in_ok-parts.ensures in
    let begun = c.in-Some-begun.ensures in
    let list = rw c.in-Some-2.is at c.in_ok-are_events.ensures.value in
    let taken = rw c.if-are_events.true at list.3 in
    let d = array list.0 in
    let rest = c.next_key.new.self in
    let over : read_key c.take_list.new.reader ≡ Some (None, rest) = c.in-Ok-None.ensures.value ∙ ap (λ o. Some (option_map (λ s. s.now) o, rest)) c.in-Ok-None.field-0-is in
    let less : length c.take_list.new.reader < length c.read_head.new.reader = rw c.in-Some-2.is at c.in_ok-are_events.ensures.shorter in
    let has : HasJob (Some begun.0.capacity) (Some begun.0.labels) (Some begun.1) (Some (Some taken.0)) (put (codes "events") d head.0) =
    rw (begun.2, begun.3, begun.4) at (has_events parts.capacity parts.labels parts.start parts.events d head.0 head.2 list.0 (Some taken.0) refl list.2 taken.1) in
    (put (codes "events") d head.0, head.1 d c.take_list.new.reader rest less list.1 over, begun.0, begun.1, Some taken.0, begun.5, has, begun.6, (taken.0, refl, taken.2 begun.0 begun.1 [] begun.7))

pub returns-else-are_events : goal.returns-else-are_events
returns-else-are_events g c =
    let parts = c.in-Some.parts in
    let head = rw c.in-Some.is at c.in_ok-parts.ensures in
    let begun = c.in-Some-begun.ensures in
    let list = rw c.in-Some-2.is at c.in_ok-are_events.ensures.value in
    let refused = rw c.if-are_events.false at list.3 in
    let d = array list.0 in
    let rest = c.next_key.new.self in
    let over : read_key c.take_list.new.reader ≡ Some (None, rest) = c.in-Ok-None.ensures.value ∙ ap (λ o. Some (option_map (λ s. s.now) o, rest)) c.in-Ok-None.field-0-is in
    let less : length c.take_list.new.reader < length c.read_head.new.reader = rw c.in-Some-2.is at c.in_ok-are_events.ensures.shorter in
    let has : HasJob (Some begun.0.capacity) (Some begun.0.labels) (Some begun.1) (Some None) (put (codes "events") d head.0) =
    rw (begun.2, begun.3, begun.4) at (has_events parts.capacity parts.labels parts.start parts.events d head.0 head.2 list.0 None refl list.2 refused) in
    (put (codes "events") d head.0, head.1 d c.take_list.new.reader rest less list.1 over, begun.0, begun.1, None, begun.5, has, begun.6, refl)
