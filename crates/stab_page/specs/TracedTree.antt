-- A whole tree whose links have origins, its step and its replay. Without the origins it is the
-- whole tree of `stab_treecore`, and its steps are those of the schedule
-- (`laws::every_tree_state_is_that_of_the_schedule`).
-- Source: this project's own.
use Rattle.std.specs.Prelude.{ℕ, ◌≤◌, List, [], ◌∷◌, ◌++◌, length, map, slice_get}
use Rattle.std.specs.Prelude.{slice_index_or, slice_set, Option, Some, None, option_map}
use Rattle.std.specs.Prelude.{option_and_then}
use Rattle.std.specs.Option.{option_map_or}
use Rattle.stab_core.specs.declared.event.Event.{Event}
use Rattle.stab_core.specs.declared.event.Effect.{Effect}
use Rattle.stab_core.specs.declared.event.Effect.TheVariants.{Nothing}
use Rattle.stab_core.specs.Link.{LinkValue, link_at}
use Rattle.stab_core.specs.LinkActs.{event_of}
use Rattle.stab_core.specs.LinkSetup.{LinkSetup}
use Rattle.stab_core.specs.Step.{effect}
use Rattle.stab_core.specs.Trace.{traced_initial, traced_step}
use Rattle.stab_core.specs.Tracer.{TracerValue, tracer_at}
use Rattle.stab_tree.specs.Nodes.{Nodes, parent_at}
use Rattle.stab_treecore.specs.declared.event.TreeEvent.{TreeEvent}
use Rattle.stab_tree.specs.ByChild.{by_child}
use Rattle.stab_tree.specs.NodeOpenings.{OpeningsValue, opening_at}
use Rattle.stab_treecore.specs.Network.{Network}
use Rattle.stab_treecore.specs.WholeTree.{WholeTree}

pub record TracedTree : Type 0 where
  -- the items that the root publishes
  pub published : List ℕ
  -- what each node begins with that nobody published, and how many items that is at most
  pub openings : OpeningsValue
  -- the parent of each node, and nothing at the root
  pub parents : List (Option ℕ)
  -- the link into each node with its origins, and nothing at the root
  pub links : List (Option TracerValue)

-- a link without its origins
abbrev pub untraced : TracerValue → LinkValue
untraced link = link_at link.params link.traced.state

-- the whole tree without origins
abbrev pub whole : TracedTree → WholeTree
whole t =
    record {
      published = t.published;
      openings = t.openings.lists;
      parents = t.parents;
      links = map (option_map untraced) t.links;
    }

-- the network of these parts
abbrev pub page_network : Nodes → OpeningsValue → List LinkSetup → List ℕ → Network
page_network tree openings links published =
    record {
      tree = tree;
      links = links;
      openings = openings;
      published = published;
    }

-- a link at its start
abbrev pub traced_link : LinkSetup → TracerValue
traced_link link = tracer_at link.params (traced_initial link.start)

-- the whole tree with each link at its start
abbrev pub traced_initial_tree : List (Option ℕ) → OpeningsValue → List LinkSetup → List ℕ
    → TracedTree
traced_initial_tree parents openings links published =
    record {
      published = published;
      openings = openings;
      parents = parents;
      links = by_child parents (map traced_link links);
    }

-- the link into a node; the root has none
abbrev pub traced_into : TracedTree → ℕ → Option TracerValue
traced_into t node = slice_index_or t.links node None

-- what a node received: its opening, and then what the link into it delivered; at the root each
-- published item
abbrev pub list_at : TracedTree → ℕ → List ℕ
list_at t node =
    option_map_or (λ link. opening_at t.openings.lists node ++ link.traced.state.delivered)
    (traced_into t node) t.published

-- what the parent of a node received
abbrev pub list_above : TracedTree → ℕ → List ℕ
list_above t child = option_map_or (λ parent. list_at t parent) (parent_at t.parents child) []

-- the item that the link into a node is to be offered next
abbrev pub next_at : TracedTree → ℕ → Option ℕ
next_at t child =
    option_and_then (λ link. slice_get (list_above t child) (length link.traced.state.offered))
    (traced_into t child)

-- the event on the link into its child
abbrev pub event_at : TracedTree → TreeEvent → Option Event
event_at t e = event_of e.act (next_at t e.child)

-- a link after an event, where there is one
abbrev pub traced_after : Option Event → TracerValue → TracerValue
traced_after None link = link
traced_after (Some e) link = tracer_at link.params (traced_step link.params link.traced e)

-- the step of the whole tree
abbrev pub traced_tree_step : TracedTree → TreeEvent → TracedTree
traced_tree_step t e =
    record t {
      links =
          slice_set t.links e.child
          (option_map (traced_after (event_at t e)) (traced_into t e.child));
    }

-- the effect of an event on a link, where there is an event
abbrev pub effect_after : Option Event → TracerValue → Effect
effect_after None link = Nothing
effect_after (Some e) link = effect link.params link.traced.state e

-- the effect of a step of the whole tree
abbrev pub traced_tree_effect : TracedTree → TreeEvent → Effect
traced_tree_effect t e = option_map_or (effect_after (event_at t e)) (traced_into t e.child) Nothing

-- the whole tree after these events
abbrev pub traced_tree_replay : TracedTree → List TreeEvent → TracedTree
traced_tree_replay t [] = t
traced_tree_replay t (e ∷ es) = traced_tree_replay (traced_tree_step t e) es

-- the effects of these events
abbrev pub tree_effects : TracedTree → List TreeEvent → List Effect
tree_effects t [] = []
tree_effects t (e ∷ es) = traced_tree_effect t e ∷ tree_effects (traced_tree_step t e) es

-- no more items than these were offered to this link, or delivered by it
abbrev pub HasAtMost : ℕ → Option TracerValue → Type 0
HasAtMost most None = Unit {0}
HasAtMost most (Some link) =
    (length link.traced.state.offered ≤ most) × (length link.traced.state.delivered ≤ most)
