-- The report of a link: what a page shows, as one list of numbers. Before the lists come their
-- lengths; frames and origins are pairs of numbers.
-- Source: this project's own.
use Rattle.std.specs.Prelude.{ℕ, ◌&&◌, Bool, List, [], ◌∷◌, ◌++◌, length, map, nat_le}
use Rattle.std.specs.Prelude.{if◌then◌else◌}
use Rattle.std.specs.List.{flat_map}
use Rattle.stab_frames.specs.declared.frame.Frame.{Frame}
use Rattle.stab_frames.specs.Parameters.{Parameters}
use Rattle.stab_core.specs.declared.event.Event.{Event}
use Rattle.stab_core.specs.declared.event.Effect.{Effect}
use Rattle.stab_core.specs.declared.event.Effect.TheVariants.{Nothing, Held, Sent, Fresh, Old}
use Rattle.stab_core.specs.declared.event.Effect.TheVariants.{Acked, Ignored, Lost, Closed}
use Rattle.stab_core.specs.declared.origin.Origin.{Origin}
use Rattle.stab_core.specs.declared.origin.Origin.TheVariants.{Stray, Sent as SentItem}
use Rattle.stab_core.specs.declared.start.Start.{Start}
use Rattle.stab_core.specs.Trace.{Traced, traced_initial, traced_replay}
use Rattle.stab_page.specs.Effects.{effects}
use Rattle.stab_page.specs.PageLink.{parameters}
use Rattle.stab_page.specs.Standing.{strays_in, missing_of}

-- a label and an item
abbrev pub frame_numbers : Frame → List ℕ
frame_numbers f = f.label ∷ f.item ∷ []

-- 0 and the place of a stray, or 1 and the place of an offered item
abbrev pub origin_numbers : Origin → List ℕ
origin_numbers (Stray place) = 0 ∷ place ∷ []
origin_numbers (SentItem place) = 1 ∷ place ∷ []

-- the kind of the effect, in the order of the effects
abbrev pub effect_number : Effect → ℕ
effect_number Nothing = 0
effect_number Held = 1
effect_number Sent = 2
effect_number (Fresh item) = 3
effect_number Old = 4
effect_number Acked = 5
effect_number Ignored = 6
effect_number Lost = 7
effect_number Closed = 8

-- 1 for true, and 0 for false
abbrev pub bit : Bool → ℕ
bit b = if b then 1 else 0

-- both labels, how many items are acknowledged, whether the link is closed, the strays and the
-- missing items
abbrev pub single_numbers : Traced → List ℕ
single_numbers t =
    t.state.send_label ∷ t.state.recv_label ∷ t.state.acked ∷ bit t.state.closed
    ∷ strays_in t.origins ∷ missing_of t.state.acked t.origins ∷ []

-- the lengths of the lists, in their order
abbrev pub length_numbers : Traced → List Effect → List ℕ
length_numbers t had =
    length t.state.frames ∷ length t.queued ∷ length t.state.acks ∷ length t.state.offered
    ∷ length t.state.delivered ∷ length t.origins ∷ length had ∷ []

-- the queued frames, where they come from, and the queued acknowledgements, the front first
abbrev pub queue_numbers : Traced → List ℕ
queue_numbers t =
    flat_map frame_numbers t.state.frames ++ flat_map origin_numbers t.queued ++ t.state.acks

-- what was offered and delivered, and where that comes from
abbrev pub item_numbers : Traced → List ℕ
item_numbers t = t.state.offered ++ t.state.delivered ++ flat_map origin_numbers t.origins

-- all of it, and the effects so far
abbrev pub report : Traced → List Effect → List ℕ
report t had =
    single_numbers t ++ length_numbers t had ++ queue_numbers t ++ item_numbers t
    ++ map effect_number had

-- a queue has room for 1 to 64 entries, there are 2 to 1000 labels, the start fits, and there are
-- no more events and no less room for numbers than these
abbrev pub is_accepted : ℕ → ℕ → Start → List Event → ℕ → Bool
is_accepted capacity labels start events room =
    nat_le 1 capacity && nat_le capacity 64 && nat_le 2 labels && nat_le labels 1000
    && nat_le (length start.frames) capacity && nat_le (length start.acks) capacity
    && nat_le (length events) 4096 && nat_le 32768 room

-- the report of the state after these events, or nothing where they are not accepted
abbrev pub answer : ℕ → ℕ → Start → List Event → ℕ → List ℕ
answer capacity labels start events room =
    let p : Parameters = parameters capacity labels in
    if is_accepted capacity labels start events room
    then report (traced_replay p (traced_initial start) events)
    (effects p (traced_initial start) events)
    else []
