-- The list of a node, how much of it lies in the buffer of its caller, and what each child was
-- offered of it. The list is all that the node ever had. The buffer is a ring: the item at a place
-- of the list lies there at that place modulo the buffer's size. What the node has forgotten is not
-- kept, nor what is further back than the buffer has places, so every bit pattern means something.
-- Source: this project's own.
use Rattle.std.specs.Prelude.{◌≡◌, ℕ, ◌+◌, ◌-◌, ◌%◌, ◌==◌, ◌≤◌, ◌&&◌, not, Bool, if◌then◌else◌}
use Rattle.std.specs.Prelude.{min, max, nat_lt, nat_le}
use Rattle.std.specs.Prelude.{List, [], ◌∷◌, length, slice_get, Option, Some, None, is_some}
use Rattle.stab_frames.specs.declared.frame.Frame.{Frame}
use Rattle.stab_c.specs.declared.child.Child.{Child}
use Rattle.stab_c.specs.declared.node.Node.{Node}
use Rattle.stab_line.specs.Ends.{ReceiverEnd, SenderEnd, accepts, delivers, offered_to}
use Rattle.stab_c.specs.Meaning.{is_set, receiver_end}

-- the most items of a list, and the highest count
abbrev pub most_items : ℕ
most_items = 18446744073709551615

-- The place from which on the node keeps its list, in a buffer of this size. It is never past the
-- list's end: a node that has forgotten more than its list has, has forgotten all of it.
abbrev pub first_kept : Node → ℕ → ℕ
first_kept node size = max (min node.forgotten node.length) (node.length - size)

-- the place is one of those from which on the node keeps its list, or the list's end
abbrev pub is_kept_place : Node → ℕ → ℕ → Bool
is_kept_place node size place = nat_le (first_kept node size) place && nat_le place node.length

-- the item at a place of the list, where the node keeps it
abbrev pub item_kept : Node → List ℕ → ℕ → Option ℕ
item_kept node buffer place =
    if nat_le (first_kept node (length buffer)) place && nat_lt place node.length
    then slice_get buffer (place % length buffer) else None

-- These may be all the items of the node: there are as many as its length says, and those that it
-- keeps are the ones in the buffer.
abbrev pub IsList : Node → List ℕ → List ℕ → Type 0
IsList node buffer items =
    (length items ≡ node.length)
    × ((place : ℕ) → first_kept node (length buffer) ≤ place
    → slice_get items place ≡ item_kept node buffer place)

-- the list takes one more item
abbrev pub has_place : Node → List ℕ → Bool
has_place node buffer =
    nat_lt (node.length - node.forgotten) (length buffer) && nat_lt node.length most_items

-- the node takes this frame: its receiver would deliver it, and its list has a place for the item
abbrev pub takes_frame : Node → List ℕ → Frame → Bool
takes_frame node buffer frame = delivers (receiver_end node.above) frame && has_place node buffer

-- the node loses this frame: its receiver would deliver it, and its list has no place for the item
abbrev pub loses_frame : Node → List ℕ → Frame → Bool
loses_frame node buffer frame =
    delivers (receiver_end node.above) frame && not (has_place node buffer)

-- the frame is old: the open receiver remembers its label
abbrev pub is_old : ReceiverEnd → Frame → Bool
is_old r frame = not r.closed && (frame.label == r.label)

-- a count goes on, up to the highest
abbrev pub counted : Bool → ℕ → ℕ
counted happened count = if happened then min (count + 1) most_items else count

-- the sender after it was offered the next item, where there is one
abbrev pub offered_next : SenderEnd → Option ℕ → SenderEnd
offered_next s None = s
offered_next s (Some item) = offered_to s item

-- the sender takes the next item: there is one, and the sender is open and idle
abbrev pub takes_next : SenderEnd → Option ℕ → Bool
takes_next s next = is_some next && accepts s

-- the child is left behind: the item that it would be offered next is no more kept, or its count is
-- past the end of the list
abbrev pub is_left_behind : Node → Child → ℕ → Bool
is_left_behind node child size = not (is_kept_place node size child.offered)

-- how many items of the list a child is still to be offered; one that is left behind lacks more
-- than can be counted
abbrev pub still_to_offer : Node → Child → ℕ → ℕ
still_to_offer node child size =
    if is_left_behind node child size then most_items else node.length - child.offered

-- the backlog of a child: the item that its sender holds, and those still to be offered
abbrev pub backlog : Node → Child → ℕ → ℕ
backlog node child size =
    min (still_to_offer node child size + (if is_set child.sender.holding then 1 else 0)) most_items

-- the place from which on a child needs the list, where that is before this place; a child that
-- needs what was forgotten needs nothing more
abbrev pub needs_from : Node → Child → ℕ → ℕ
needs_from node child place =
    if nat_lt child.offered node.forgotten then place else min place child.offered

-- the same of each of these children
abbrev pub all_need_from : Node → List Child → ℕ → ℕ
all_need_from node [] place = place
all_need_from node (child ∷ children) place =
    all_need_from node children (needs_from node child place)

-- how many items the node has forgotten once it is told to forget those before this place: never
-- more than the list has, whatever its count said
abbrev pub forgotten_before : Node → ℕ → ℕ
forgotten_before node place = min (max node.forgotten place) node.length

abbrev pub after_forgetting : Node → ℕ → Node
after_forgetting node place = record node { forgotten = forgotten_before node place }
