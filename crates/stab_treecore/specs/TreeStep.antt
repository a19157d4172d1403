-- The step of the whole tree: one act on the link into one node. An offer is of the item of the
-- parent's list that comes next.
-- Example: Before a has received anything, an offer on the link into b looks for item number 0 of
-- a's empty list. There is none, so there is no event, and nothing changes
-- (`examples/trees/an_offer_of_nothing`). Where a's opening is 50, 51, the same offer is of 50
-- (`examples/trees/an_opening_passed_on`).
-- Source: this project's profile.
use Rattle.std.specs.Prelude.{ℕ, length, slice_get, slice_set, Option, Some, None, option_map}
use Rattle.std.specs.Prelude.{option_and_then}
use Rattle.std.specs.Option.{option_map_or}
use Rattle.stab_core.specs.declared.event.Event.{Event}
use Rattle.stab_core.specs.declared.event.Effect.{Effect}
use Rattle.stab_core.specs.declared.event.Effect.TheVariants.{Nothing}
use Rattle.stab_core.specs.Link.{LinkValue, link_at}
use Rattle.stab_core.specs.LinkActs.{event_of}
use Rattle.stab_core.specs.Step.{step, effect}
use Rattle.stab_treecore.specs.declared.event.TreeEvent.{TreeEvent}
use Rattle.stab_treecore.specs.WholeTree.{WholeTree, link_into, source}

-- the item that the link into a node is to be offered next: that of the parent's list after those
-- that it was offered
abbrev pub next_item : WholeTree → ℕ → Option ℕ
next_item t child =
    option_and_then (λ link. slice_get (source t child) (length link.state.offered))
    (link_into t child)

-- the event on the link into its child
abbrev pub event_on : WholeTree → TreeEvent → Option Event
event_on t e = event_of e.act (next_item t e.child)

-- a link after an event, where there is one
abbrev pub link_after : Option Event → LinkValue → LinkValue
link_after None link = link
link_after (Some e) link = link_at link.params (step link.params link.state e)

-- the step of the whole tree: where the event names no link, nothing changes
abbrev pub tree_step : WholeTree → TreeEvent → WholeTree
tree_step t e =
    record t {
      links =
          slice_set t.links e.child (option_map (link_after (event_on t e)) (link_into t e.child));
    }

-- the effect of an event on a link, where there is an event
abbrev pub effect_on : Option Event → LinkValue → Effect
effect_on None link = Nothing
effect_on (Some e) link = effect link.params link.state e

-- the effect of a step of the whole tree
abbrev pub tree_effect : WholeTree → TreeEvent → Effect
tree_effect t e = option_map_or (effect_on (event_on t e)) (link_into t e.child) Nothing
