-- The edge law, which a run tells of each link whatever ran it: some events explain what the link
-- has done.
-- Under the link's own parameters these events give its delivered list, its count and an offered
-- list that is a prefix of the parent's list, and leave it closed. `EdgeInto` says so of the link
-- into a child, whose own list is its opening and then the delivered list.
-- Example: The worst start with a close after its twelve events: they deliver 99, 13, acknowledge 3
-- and offer 10, 11, 12, 13, which is a prefix of 10, 11, 12, 13, 14. So the edge law holds of 99,
-- 13 and 3 under that list.
-- Source: this project's own.
use Rattle.std.specs.Prelude.{◌≡◌, ℕ, List, ◌++◌, Some, IsTrue}
use mathlib.Core.List.{IsPrefix}
use Rattle.stab_frames.specs.Parameters.{Parameters}
use Rattle.stab_core.specs.declared.event.Event.{Event}
use Rattle.stab_core.specs.declared.start.Start.{Start}
use Rattle.stab_core.specs.LinkSetup.{CanBegin, LinkSetup}
use Rattle.stab_core.specs.Replay.{initial, replay}
use Rattle.stab_treecore.specs.Network.{Network, setup_into}
use Rattle.stab_tree.specs.NodeOpenings.{opening_at}

-- The replay of some events from the start is closed, has delivered this list, has `acked` items
-- acknowledged, and was offered a prefix of the parent's list.
pub record EdgeLaw (p : Parameters) (start : Start) (above : List ℕ) (acked : ℕ)
    (delivered : List ℕ) : Type 0 where
  pub events : List Event
  pub closed : IsTrue (replay p (initial start) events).closed
  pub delivers : (replay p (initial start) events).delivered ≡ delivered
  pub counts : (replay p (initial start) events).acked ≡ acked
  pub offers : IsPrefix (replay p (initial start) events).offered above

-- the link into a node can begin, and the edge law holds of it; the node has its opening, and then
-- what the link delivered
pub record EdgeInto (net : Network) (child : ℕ) (above below : List ℕ) : Type 0 where
  pub link : LinkSetup
  pub leads : setup_into net child ≡ Some link
  pub begins : CanBegin link
  pub acked : ℕ
  pub delivered : List ℕ
  pub has : below ≡ opening_at net.openings.lists child ++ delivered
  pub edge : EdgeLaw link.params link.start above acked delivered
