-- The edge law from a moment on, for whatever runs the links of a tree without a schedule: of each
-- link some events explain what it has done since.
-- Source: this project's own.
use Rattle.std.specs.Prelude.{◌≡◌, ℕ, ◌++◌, List, Some}
use mathlib.Core.List.{IsPrefix}
use Rattle.stab_frames.specs.Parameters.{AreLawful, Parameters}
use Rattle.stab_core.specs.declared.event.Event.{Event}
use Rattle.stab_core.specs.LinkState.{LinkState}
use Rattle.stab_core.specs.Replay.{replay, start_items}
use Rattle.stab_tree.specs.Nodes.{parent_at}
use Rattle.stab_core.specs.Since.{IsBounded, start_at, offered_since, delivered_since}
use Rattle.stab_treecore.specs.Moment.{Moment}

-- From this state some events deliver this list, and offer a prefix of what its parent had for it
-- and received since.
pub record EdgeSince (p : Parameters) (s : LinkState) (above delivered : List ℕ) : Type 0 where
  pub lawful : AreLawful p
  pub bounded : IsBounded p s
  pub events : List Event
  pub delivers : delivered_since s (replay p s events) ≡ delivered
  pub offers : IsPrefix (offered_since s (replay p s events)) above

-- the link into a node was in such a state at the moment, and the edge law holds of it since
pub record EdgeSinceInto (m : Moment) (gained : ℕ → List ℕ) (child parent : ℕ) : Type 0 where
  pub params : Parameters
  pub state : LinkState
  pub capacity : m.capacity child ≡ params.capacity
  pub queued : m.queued child ≡ start_items (start_at state)
  pub edge : EdgeSince params state (m.backlog child ++ gained parent) (gained child)

-- the edge law of each link since
abbrev pub EdgesSince : Moment → (ℕ → List ℕ) → Type 0
EdgesSince m gained =
    (child parent : ℕ) → parent_at m.parents child ≡ Some parent
    → EdgeSinceInto m gained child parent
