-- What a page writes for a tree, its links and its events, as numbers, and what they mean.
-- Example: The parents 65535, 0, 0 are those of a root with two children. The event with the child
-- 2 and the kind 0 is an offer on the link into the second of them. The opening with the count 2
-- has the first two of its eight items, and one with the count 9 has none.
-- Source: this project's own.
use Rattle.std.specs.Prelude.{ℕ, ◌==◌, ◌&&◌, Bool, List, [], map, take, true, false, nat_le}
use Rattle.std.specs.Prelude.{Option, Some, None}
use Rattle.std.specs.Prelude.{if◌then◌else◌}
use Rattle.stab_core.specs.declared.act.LinkAct.{LinkAct}
use Rattle.stab_core.specs.declared.act.LinkAct.TheVariants.{Offer, SendFrame, RecvFrame, SendAck}
use Rattle.stab_core.specs.declared.act.LinkAct.TheVariants.{RecvAck, LoseFrame, LoseAck, Close}
use Rattle.stab_core.specs.LinkSetup.{LinkSetup, setup}
use Rattle.stab_tree.specs.NodeOpenings.{OpeningsValue}
use Rattle.stab_treecore.specs.declared.event.TreeEvent.{TreeEvent}
use Rattle.stab_page.specs.Codes.{start_of}
use Rattle.stab_page.specs.PageLink.{parameters}
use Rattle.stab_page.specs.declared.tree_code.LinkCode.{LinkCode}
use Rattle.stab_page.specs.declared.tree_code.OpeningCode.{OpeningCode}
use Rattle.stab_page.specs.declared.tree_code.TreeEventCode.{TreeEventCode}

-- the act of a kind, with the place of what is lost
abbrev pub act_of_kind : ℕ → ℕ → LinkAct
act_of_kind kind place =
    if kind == 0 then Offer
    else (if kind == 1 then SendFrame
    else (if kind == 2 then RecvFrame false
    else (if kind == 3 then RecvFrame true
    else (if kind == 4 then SendAck
    else (if kind == 5 then RecvAck false
    else (if kind == 6 then RecvAck true
    else (if kind == 7 then LoseFrame place
    else (if kind == 8 then LoseAck place
    else Close))))))))

abbrev pub tree_event_of : TreeEventCode → TreeEvent
tree_event_of code = record { child = code.child; act = act_of_kind code.kind code.place }

-- the place of a node's parent, and nothing for the root's
abbrev pub parent_of : ℕ → Option ℕ
parent_of code = if code == 65535 then None else Some code

-- the parameters and the start of a link: only the first of its frames and acknowledgements count
abbrev pub setup_of : LinkCode → LinkSetup
setup_of code =
    setup (parameters code.capacity code.labels)
    (start_of (take code.frame_count code.frames) (take code.ack_count code.acks) code.send_label
    code.recv_label)

-- what a node begins with: the first of its items, at most eight
abbrev pub opening_of : OpeningCode → List ℕ
opening_of code = if nat_le code.count 8 then take code.count code.items else []

-- the openings of all nodes, each of at most this many items
abbrev pub openings_of : ℕ → List OpeningCode → OpeningsValue
openings_of hold codes = record { hold = hold; lists = map opening_of codes }

-- a queue has room for 1 to 8 entries, there are 2 to 1000 labels, and the start fits
abbrev pub fits : LinkCode → Bool
fits code =
    nat_le 1 code.capacity && nat_le code.capacity 8 && nat_le 2 code.labels
    && nat_le code.labels 1000 && nat_le code.frame_count code.capacity
    && nat_le code.ack_count code.capacity
