-- Schedule entries: what a JSON value means as an act on the link into the node of a name.
-- Source: this project's profile.
use Rattle.std.specs.Prelude.{ℕ, List, [], ◌∷◌, Option, Some, None, option_map}
use Rattle.serde_json.specs.Data.{Data, Items, no_items, item}
use Rattle.serde_json.specs.Find.{as_str, as_array}
use Rattle.stab_core.specs.declared.act.LinkAct.{LinkAct}
use Rattle.stab_json.specs.Values.{◌>>=◌}
use Rattle.stab_script.specs.Events.{plain_act, loss_act}
use Rattle.stab_tree.specs.Nodes.{place_of}
use Rattle.stab_treecore.specs.declared.event.TreeEvent.{TreeEvent}

-- an act on the link into the node of a name
pub record NamedAct : Type 0 where
  pub child : List ℕ
  pub act : LinkAct

-- the act on the link into the node that this value names
abbrev pub on_child : Data → Option LinkAct → Option NamedAct
on_child child act =
    as_str child >>= (λ name. option_map (λ its_act. record { child = name; act = its_act }) act)

-- a list of a name and a word, and for the word of a loss also a place
abbrev pub act_of_items : Items → Option NamedAct
act_of_items (item child (item word no_items)) = on_child child (as_str word >>= plain_act)
act_of_items (item child (item word (item place no_items))) =
    on_child child (as_str word >>= (λ its_word. loss_act its_word place))
act_of_items _ = None

abbrev pub named_act : Data → Option NamedAct
named_act d = as_array d >>= act_of_items

-- the event on the link into the node of that name, if there is such a node
abbrev pub event_of : List (List ℕ) → NamedAct → Option TreeEvent
event_of names n =
    option_map (λ place. record { child = place; act = n.act }) (place_of names n.child)

-- the events of these acts, if each names a node
abbrev pub events_of : List (List ℕ) → List NamedAct → Option (List TreeEvent)
events_of names [] = Some []
events_of names (n ∷ ns) =
    event_of names n >>= (λ e. option_map (λ es. e ∷ es) (events_of names ns))
