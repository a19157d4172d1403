-- What is published later, and what faults make of a whole tree.
-- A fault strikes the link into a node: its queues and labels become anything that fits. Or a node
-- restarts: its list becomes any list, what the link into it delivered begins anew, and its senders
-- hold nothing and begin with the first item of that list. The labels and queues of its links stay;
-- where a restart changes them too, each of these links is struck as well.
-- Example: In the chain r, a, b the restart of a with the list 50 leaves r its list and its offers,
-- leaves b its list, and makes a's list 50: b is offered 50 next (`examples.worked_out`).
-- Source: this project's own.
use Rattle.std.specs.Prelude.{ℕ, ◌+◌, ◌==◌, Bool, false, List, [], ◌∷◌, ◌++◌, slice_set, Option}
use Rattle.std.specs.Prelude.{option_map, if◌then◌else◌}
use Rattle.std.specs.Option.{option_map_or}
use Rattle.stab_core.specs.declared.start.Start.{Start}
use Rattle.stab_core.specs.Faults.{struck, sender_anew, receiver_anew}
use Rattle.stab_core.specs.Link.{LinkValue, link_at}
use Rattle.stab_core.specs.LinkState.{LinkState}
use Rattle.stab_tree.specs.Nodes.{parent_at, root_of}
use Rattle.stab_treecore.specs.WholeTree.{WholeTree}

-- the root publishes more items
abbrev pub published_more : WholeTree → List ℕ → WholeTree
published_more t items = record t { published = t.published ++ items }

-- the links into the nodes from this one on, each after what happens to it
abbrev pub each_link : (ℕ → LinkState → LinkState) → ℕ → List (Option LinkValue)
    → List (Option LinkValue)
each_link happens w [] = []
each_link happens w (link ∷ links) =
    option_map (λ l. link_at l.params (happens w l.state)) link ∷ each_link happens (w + 1) links

-- what a strike at the link into one node is to the link into this one
abbrev pub struck_at : ℕ → Start → ℕ → LinkState → LinkState
struck_at child start w s = if w == child then struck start s else s

-- the link into a node is struck
abbrev pub struck_tree : WholeTree → ℕ → Start → WholeTree
struck_tree t child start = record t { links = each_link (struck_at child start) 0 t.links }

-- a node is the parent of this one
abbrev pub is_parent : List (Option ℕ) → ℕ → ℕ → Bool
is_parent parents node w = option_map_or (λ parent. parent == node) (parent_at parents w) false

-- a link whose receiver begins anew, whose sender does, or both
abbrev pub begun_anew : Bool → Bool → LinkState → LinkState
begun_anew receiver sender s =
    let received_anew = if receiver then receiver_anew s else s in
    if sender then sender_anew received_anew else received_anew

-- what the restart of a node is to the link into this one: the receiver of the link into the node
-- begins anew, and so does the sender of each link whose parent the node is
abbrev pub restarted_at : List (Option ℕ) → ℕ → ℕ → LinkState → LinkState
restarted_at parents node w = begun_anew (w == node) (is_parent parents node w)

-- a node restarts with this list; at the root it is what is published
abbrev pub restarted_tree : WholeTree → ℕ → List ℕ → WholeTree
restarted_tree t node list =
    record t {
      published = if node == root_of t.parents then list else t.published;
      openings = slice_set t.openings node list;
      links = each_link (restarted_at t.parents node) 0 t.links;
    }
