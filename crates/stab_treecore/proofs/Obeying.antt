-- What the laws of a tree need of one link: that it obeys a law of links, counted from any state.
use Rattle.std.proofs.Common.{ℕ, ◌+◌, ◌*◌, ◌≤◌, List}
use Rattle.stab_frames.specs.Parameters.{AreLawful, Parameters}
use Rattle.stab_core.specs.declared.event.Event.{Event}
use Rattle.stab_core.specs.LinkState.{LinkState}
use Rattle.stab_core.specs.Replay.{replay, start_items}
use Rattle.stab_core.specs.Since.{IsBounded, PassesOn, start_at, offered_since, acked_since, delivered_since}

-- every replay from any state obeys the law, counted from there
abbrev pub ObeysSince : (ℕ → List ℕ → List ℕ → ℕ → List ℕ → Type 0) → Type 0
ObeysSince Law =
    (p : Parameters) (s : LinkState) (events : List Event) → AreLawful p → IsBounded p s → let t = replay p s events in
    Law p.capacity (start_items (start_at s)) (offered_since s t) (acked_since s t) (delivered_since s t)

-- a link that has acknowledged 2c + 2 items since any state passes on exactly what it is offered
abbrev pub PassesOnExactly : Type 0
PassesOnExactly =
    (p : Parameters) (s : LinkState) (before after : List Event) → AreLawful p → IsBounded p s → let middle = replay p s before in
    2 * p.capacity + 2 ≤ acked_since s middle → PassesOn middle (replay p middle after)
