-- The rows of a run: for each event the link that it is on, the event, its effect, and the numbers
-- of the two ends after it. Pictures are drawn from them.
-- Example: The first row of the run of the worst start of capacity 1 is the offer of 10 with the
-- effect `Held`; after it the sender's label is 0, it holds 10, and the receiver remembers 1.
-- Source: this project's own.
use Rattle.std.specs.Prelude.{ℕ, List, [], ◌∷◌, ◌++◌, Option, Some, option_to_list, slice_get}
use Rattle.std.specs.Prelude.{option_map}
use Rattle.stab_frames.specs.Parameters.{Parameters}
use Rattle.stab_core.specs.declared.event.Event.{Event}
use Rattle.stab_core.specs.declared.event.Effect.{Effect}
use Rattle.stab_core.specs.Link.{LinkValue, link_at}
use Rattle.stab_core.specs.LinkState.{LinkState}
use Rattle.stab_core.specs.Step.{effect, step}
use Rattle.stab_treecore.specs.declared.event.TreeEvent.{TreeEvent}
use Rattle.stab_treecore.specs.TreeStep.{event_on, tree_effect, tree_step}
use Rattle.stab_treecore.specs.WholeTree.{WholeTree, link_into}
use Rattle.rignolda_draw.specs.declared.row.Row.{Row}

-- the row of an event that had this effect on the link into a node, which is so after it
abbrev pub row_of : ℕ → Option Event → Effect → LinkValue → Row
row_of node e had link =
    record {
      child = node;
      event = e;
      effect = had;
      label = link.state.send_label;
      holds = slice_get link.state.offered link.state.acked;
      remembers = link.state.recv_label;
    }

-- the rows of these events, one after the other, from this state
abbrev pub rows_from : Parameters → LinkState → List Event → List Row
rows_from p s [] = []
rows_from p s (e ∷ es) =
    row_of 0 (Some e) (effect p s e) (link_at p (step p s e)) ∷ rows_from p (step p s e) es

-- the row of a step of the whole tree, where its event names a link
abbrev pub step_row : WholeTree → TreeEvent → Option Row
step_row t e =
    option_map (row_of e.child (event_on t e) (tree_effect t e))
    (link_into (tree_step t e) e.child)

-- the rows of these events of a schedule, one after the other, from this state
abbrev pub tree_rows_from : WholeTree → List TreeEvent → List Row
tree_rows_from t [] = []
tree_rows_from t (e ∷ es) = option_to_list (step_row t e) ++ tree_rows_from (tree_step t e) es
