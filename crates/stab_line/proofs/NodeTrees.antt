-- Each edge of a tree of nodes has a history of its own, so each node obeys the tree law.
use Rattle.std.proofs.Common.{◌≡◌, ◌<◌, ◌+◌, arith, ℕ, Bool, true, false, if◌then◌else◌, ◌==◌, List, [], ◌∷◌, ◌++◌, length, map, slice_get, Option, Some, None, refl, sym, ◌∙◌, ap, subst, append_assoc, append-nil, eqb-true}
use Rattle.std.specs.Option.{option_map_or}
use mathlib.Core.List.{IsPrefix}
use Rattle.stab_frames.specs.declared.frame.Frame.{Frame}
use Rattle.stab_frames.specs.Parameters.{Parameters}
use Rattle.stab_core.specs.LinkLaw.{LinkLaw, SharperLinkLaw, LinkLawWithin}
use Rattle.stab_core.specs.LinkSetup.{CanBegin, LinkSetup}
use Rattle.stab_core.specs.Replay.{start_items}
use Rattle.stab_core.proofs.LinkLaws.{replay_link_law}
use Rattle.stab_core.proofs.ForCallers.{prefix_of_grown, prefix_of_itself}
use Rattle.stab_tree.specs.Nodes.{parent_at, root_of}
use Rattle.stab_treecore.specs.Network.{Network, IsNetwork}
use Rattle.stab_treecore.specs.NodeLaws.{capacity_into, garbage_into, LawBetween, LawInto, TreeLawAtNode, TreeLawAtNodes}
use Rattle.stab_tree.specs.NodeOpenings.{opening_at}
use Rattle.stab_treecore.proofs.AtNodes.{node_obeys, nodes_obey}
use Rattle.stab_treecore.proofs.Replayed.{ReplaysObey}
use Rattle.stab_treecore.proofs.SharperNodes.{sharper_node, sharper_nodes}
use Rattle.stab_treecore.specs.SharperLaw.{SharperTreeLawAtNode, SharperTreeLawAtNodes}
use Rattle.stab_tree.proofs.ForCallers.{holds_by_child}
use Rattle.stab_line.specs.Ends.{delivers}
use Rattle.stab_line.specs.Line.{Line, LineAct, line_step, start_of, with_taken, receives_frame, receives_ack}
use Rattle.stab_line.specs.Line.{offer_item, frame_sent, frame_comes, ack_sent, ack_comes, frame_lost, ack_lost, sender_closes, receiver_closes}
use Rattle.stab_line.specs.Edge.{Edge, EdgeAct, is_offer, offers_next, edge_step, edge_run, new_edge}
use Rattle.stab_line.specs.Edge.{list_grows, child_polled, on_line}
use Rattle.stab_line.specs.NodeTree.{NodeTree, NodeAct, list_of, list_above, parameters_into, edge_into, put, with_edge, node_step, node_run, BeginsInto, PathBegins, TreeBegins}
use Rattle.stab_line.specs.NodeTree.{publishes, polls, at_line}
use Rattle.stab_line.proofs.Edges.{offers_prefix, edge_obeys, edge_obeys_start}
use Rattle.stab_line.proofs.StartLaws.{within_start}

-- ---- an act adds to the delivered list, and takes nothing from it

taken_grows : (taken : Bool) (items : List ℕ) (item : ℕ) → IsPrefix items (with_taken taken items item)
taken_grows true items item = prefix_of_grown items item
taken_grows false items item = prefix_of_itself items

frame_adds : (repeated : Bool) (l : Line) (front : Option Frame) → IsPrefix l.delivered (receives_frame repeated l front).delivered
frame_adds repeated l None = prefix_of_itself l.delivered
frame_adds repeated l (Some f) = taken_grows (delivers l.receiver f) l.delivered f.item

ack_adds : (p : Parameters) (repeated : Bool) (l : Line) (front : Option ℕ)
    → IsPrefix l.delivered (receives_ack p repeated l front).delivered
ack_adds p repeated l None = prefix_of_itself l.delivered
ack_adds p repeated l (Some label) = prefix_of_itself l.delivered

line_adds : (p : Parameters) (l : Line) (act : LineAct) → IsPrefix l.delivered (line_step p l act).delivered
line_adds p l (offer_item item) = prefix_of_itself l.delivered
line_adds p l frame_sent = prefix_of_itself l.delivered
line_adds p l (frame_comes repeated) = frame_adds repeated l (slice_get l.frames 0)
line_adds p l ack_sent = prefix_of_itself l.delivered
line_adds p l (ack_comes repeated) = ack_adds p repeated l (slice_get l.acks 0)
line_adds p l (frame_lost place) = prefix_of_itself l.delivered
line_adds p l (ack_lost place) = prefix_of_itself l.delivered
line_adds p l sender_closes = prefix_of_itself l.delivered
line_adds p l receiver_closes = prefix_of_itself l.delivered

-- what an act at an edge leaves: the same list above, and a delivered list that begins with the one
-- before
record Adds (before after : Edge) : Type 0 where
  list : after.list ≡ before.list
  adds : IsPrefix before.line.delivered after.line.delivered

poll_adds : (p : Parameters) (e : Edge) (front : Option ℕ) → Adds e (offers_next p e front)
poll_adds p e None = record { list = refl; adds = prefix_of_itself e.line.delivered }
poll_adds p e (Some item) = record { list = refl; adds = prefix_of_itself e.line.delivered }

act_adds : (p : Parameters) (e : Edge) (act : LineAct) (offers : Bool)
    → Adds e (if offers then e else record e { line = line_step p e.line act })
act_adds p e act true = record { list = refl; adds = prefix_of_itself e.line.delivered }
act_adds p e act false = record { list = refl; adds = line_adds p e.line act }

-- ---- so each list only grows

-- the list of a node whose receiver delivered more, or of a root that published more
list_adds : (up : Option ℕ) (opening before after published more : List ℕ) → IsPrefix before after → IsPrefix published more
    → IsPrefix (option_map_or (λ parent. opening ++ before) up published) (option_map_or (λ parent. opening ++ after) up more)
list_adds None opening before after published more delivers publishes_more = publishes_more
list_adds (Some parent) opening before after published more (rest, is) publishes_more =
    (rest, append_assoc opening before rest ∙ ap (λ xs. opening ++ xs) is)

above_adds : (before after : ℕ → List ℕ) → ((node : ℕ) → IsPrefix (before node) (after node)) → (up : Option ℕ)
    → IsPrefix (option_map_or before up []) (option_map_or after up [])
above_adds before after each None = prefix_of_itself []
above_adds before after each (Some parent) = each parent

put_adds : (lines : ℕ → Line) (child node : ℕ) (line : Line) → IsPrefix (lines child).delivered line.delivered
    → (same : Bool) → (node == child) ≡ same → IsPrefix (lines node).delivered (if same then line else lines node).delivered
put_adds lines child node line adds true same =
    subst (λ n. IsPrefix (lines n).delivered line.delivered) (sym (eqb-true node child same)) adds
put_adds lines child node line adds false other = prefix_of_itself (lines node).delivered

edge_adds : (net : Network) (t : NodeTree) (child : ℕ) (e : Edge) → IsPrefix (t.lines child).delivered e.line.delivered
    → (node : ℕ) → IsPrefix (list_of net t node) (list_of net (with_edge t child e) node)
edge_adds net t child e adds node =
    list_adds (parent_at net.tree.parents node) (opening_at net.openings.lists node) (t.lines node).delivered
    (put t.lines child e.line node).delivered t.published t.published
    (put_adds t.lines child node e.line adds (node == child) refl) (prefix_of_itself t.published)

publish_adds : (net : Network) (t : NodeTree) (item node : ℕ)
    → IsPrefix (list_of net t node) (list_of net (node_step net t (publishes item)) node)
publish_adds net t item node =
    list_adds (parent_at net.tree.parents node) (opening_at net.openings.lists node) (t.lines node).delivered
    (t.lines node).delivered t.published (t.published ++ item ∷ [])
    (prefix_of_itself (t.lines node).delivered) (prefix_of_grown t.published item)

-- ---- the history of one edge

run_append : (p : Parameters) (e : Edge) (first second : List EdgeAct)
    → edge_run p e (first ++ second) ≡ edge_run p (edge_run p e first) second
run_append p e [] second = refl
run_append p e (act ∷ first) second = run_append p (edge_step p e act) first second

-- the list grows by these items, one after the other
run_grows : (p : Parameters) (e : Edge) (items : List ℕ)
    → edge_run p e (map list_grows items) ≡ record e { list = e.list ++ items }
run_grows p e [] = ap (λ xs. record e { list = xs }) (sym (append-nil e.list))
run_grows p e (item ∷ items) =
    run_grows p (record e { list = e.list ++ item ∷ [] }) items
    ∙ ap (λ xs. record e { list = xs }) (append_assoc e.list (item ∷ []) items)

-- some acts lead an edge from the one state to the other
abbrev IsEdgeRun : Parameters → Edge → Edge → Type 0
IsEdgeRun p before after = (acts : List EdgeAct) × (edge_run p before acts ≡ after)

grown_run : (p : Parameters) (e : Edge) (list : List ℕ) → IsPrefix e.list list → IsEdgeRun p e (record e { list = list })
grown_run p e list (more, is) = (map list_grows more, run_grows p e more ∙ ap (λ xs. record e { list = xs }) is)

-- an act at the edge into one child, as the edge into any child has it
module _ (net : Network) (t : NodeTree) (place : ℕ) (act : EdgeAct) where
  abbrev stepped : ℕ → Edge
  stepped child = edge_step (parameters_into net child) (edge_into net t child) act

  module _ (adds : (child : ℕ) → Adds (edge_into net t child) (stepped child)) (child : ℕ) where
    abbrev list_after : List ℕ
    list_after = list_above net (with_edge t place (stepped place)) child

    more : IsPrefix (list_above net t child) list_after
    more =
        above_adds (list_of net t) (list_of net (with_edge t place (stepped place)))
        (edge_adds net t place (stepped place) (adds place).adds) (parent_at net.tree.parents child)

    by_same : (same : Bool) → (child == place) ≡ same
        → IsEdgeRun (parameters_into net child) (edge_into net t child)
        (record {
          list = list_after;
          count = if same then (stepped place).count else t.counts child;
          line = if same then (stepped place).line else t.lines child;
        })
    by_same true same =
        let (acts, leads) =
        grown_run (parameters_into net child) (stepped child) list_after
        (subst (λ xs. IsPrefix xs list_after) (sym (adds child).list) more)
        in
        (act ∷ acts, leads ∙ ap (λ (n : ℕ). record (stepped n) { list = list_after }) (eqb-true child place same))
    by_same false other = grown_run (parameters_into net child) (edge_into net t child) list_after more

    at_edge : IsEdgeRun (parameters_into net child) (edge_into net t child)
        (edge_into net (with_edge t place (stepped place)) child)
    at_edge = by_same (child == place) refl

-- each act of the tree is some acts of the edge into a child
one_act : (net : Network) (t : NodeTree) (act : NodeAct) (child : ℕ)
    → IsEdgeRun (parameters_into net child) (edge_into net t child) (edge_into net (node_step net t act) child)
one_act net t (publishes item) child =
    grown_run (parameters_into net child) (edge_into net t child) (list_above net (node_step net t (publishes item)) child)
    (above_adds (list_of net t) (list_of net (node_step net t (publishes item))) (publish_adds net t item)
    (parent_at net.tree.parents child))
one_act net t (polls place) child =
    at_edge net t place child_polled
    (λ n. poll_adds (parameters_into net n) (edge_into net t n) (slice_get (list_above net t n) (t.counts n))) child
one_act net t (at_line place act) child =
    at_edge net t place (on_line act)
    (λ n. act_adds (parameters_into net n) (edge_into net t n) act (is_offer act)) child

-- so is a run of the tree
all_acts : (net : Network) (t : NodeTree) (acts : List NodeAct) (child : ℕ)
    → IsEdgeRun (parameters_into net child) (edge_into net t child) (edge_into net (node_run net t acts) child)
all_acts net t [] child = ([], refl)
all_acts net t (act ∷ acts) child =
    let p = parameters_into net child in
    let (first, leads) = one_act net t act child in
    let (rest, leads_on) = all_acts net (node_step net t act) acts child in
    (first ++ rest, run_append p (edge_into net t child) first rest ∙ ap (λ e. edge_run p e rest) leads ∙ leads_on)

-- ---- the laws

-- What each history of the edge into a child obeys, from the start of its link on, holds of the link,
-- and what it was offered is a prefix of its parent's list.
edge_holds : (Holds : List ℕ → ℕ → List ℕ → Type 0) (net : Network) (t : NodeTree) (acts : List NodeAct) (child : ℕ) (b : BeginsInto net t child)
    → ((edge_acts : List EdgeAct)
    → let e = edge_run b.link.params (new_edge (list_above net t child) b.link.start.frames b.link.start.acks (t.lines child).sender (t.lines child).receiver) edge_acts in
    Holds e.line.offered e.line.acked e.line.delivered)
    → let after = node_run net t acts in
    (offered : List ℕ) × (acked : ℕ) × IsPrefix offered (list_above net after child) × Holds offered acked (after.lines child).delivered
edge_holds Holds net t acts child b holds =
    let link : LinkSetup = b.link in
    let after : NodeTree = node_run net t acts in
    let list : List ℕ = list_above net t child in
    let sender = (t.lines child).sender in
    let receiver = (t.lines child).receiver in
    let (edge_acts, leads) = all_acts net t acts child in
    let params : parameters_into net child ≡ link.params =
    ap (λ o. option_map_or (λ (l : LinkSetup). l.params) o (record { capacity = 0; labels = 0 })) b.leads
    in
    let led : edge_run link.params (new_edge list link.start.frames link.start.acks sender receiver) edge_acts
    ≡ edge_into net after child =
    subst (λ p. edge_run p (new_edge list link.start.frames link.start.acks sender receiver) edge_acts ≡ edge_into net after child) params
    (ap (λ e. edge_run (parameters_into net child) e edge_acts) (sym b.begins) ∙ leads)
    in (
      (after.lines child).offered,
      (after.lines child).acked,
      subst (λ (e : Edge). IsPrefix e.line.offered e.list) led
          (offers_prefix link.params list link.start.frames link.start.acks sender receiver edge_acts b.holds_first),
      subst (λ (e : Edge). Holds e.line.offered e.line.acked e.line.delivered) led (holds edge_acts),
    )

-- so does a law of all replays
edge_law : (Law : ℕ → List ℕ → List ℕ → ℕ → List ℕ → Type 0) → ReplaysObey Law → (net : Network) (t : NodeTree) (acts : List NodeAct) (child : ℕ) (b : BeginsInto net t child) → CanBegin b.link
    → let after = node_run net t acts in
    LawBetween Law b.link.params.capacity (start_items b.link.start) (list_above net after child) (after.lines child).delivered
edge_law Law obey net t acts child b can_begin =
    edge_holds (Law b.link.params.capacity (start_items b.link.start)) net t acts child b
    (λ edge_acts. edge_obeys Law obey b.link.params (list_above net t child) b.link.start.frames b.link.start.acks (t.lines child).sender
    (t.lines child).receiver edge_acts can_begin.0 can_begin.1.frames can_begin.1.acks b.holds_first)

-- and the link law with the bounds of what was under way when the count began
pub edge_start_law : (net : Network) (t : NodeTree) (acts : List NodeAct) (child : ℕ) (b : BeginsInto net t child)
    → CanBegin b.link → let after = node_run net t acts in
    (offered : List ℕ) × (acked : ℕ) × IsPrefix offered (list_above net after child)
    × LinkLawWithin (length b.link.start.frames) (length b.link.start.acks + 1 + length b.link.start.frames)
    (start_items b.link.start) offered acked (after.lines child).delivered
edge_start_law net t acts child b can_begin =
    let list : List ℕ = list_above net t child in
    let frames = b.link.start.frames in
    let acks = b.link.start.acks in
    let sender = (t.lines child).sender in
    let receiver = (t.lines child).receiver in
    let first : ℕ = length acks + 1 + length frames in
    edge_holds (LinkLawWithin (length frames) first (start_items b.link.start)) net t acts child b
    (λ edge_acts.
    let e : Edge = edge_run b.link.params (new_edge list frames acks sender receiver) edge_acts in
    within_start (start_of frames acks sender receiver) (length frames) first e.line.offered e.line.acked e.line.delivered (omega arith)
    (omega arith)
    (edge_obeys_start b.link.params list frames acks sender receiver edge_acts can_begin.0 can_begin.1.frames can_begin.1.acks b.holds_first))

-- the same between the lists of two nodes
link_law_into : (Law : ℕ → List ℕ → List ℕ → ℕ → List ℕ → Type 0) → ReplaysObey Law → (net : Network) (t : NodeTree) (acts : List NodeAct) → IsNetwork net → (child parent : ℕ) → BeginsInto net t child
    → parent_at net.tree.parents child ≡ Some parent
    → let after = node_run net t acts in LawInto Law net child (list_of net after parent) (list_of net after child)
link_law_into Law obey net t acts is_network child parent b is_child =
    let link : LinkSetup = b.link in
    let after : NodeTree = node_run net t acts in
    let delivered : List ℕ = (after.lines child).delivered in
    let above : list_above net after child ≡ list_of net after parent = ap (λ up. option_map_or (list_of net after) up []) is_child in
    let capacity : capacity_into net child ≡ link.params.capacity =
    ap (λ o. option_map_or (λ (l : LinkSetup). l.params.capacity) o 0) b.leads
    in
    let garbage : garbage_into net child ≡ start_items link.start =
    ap (λ o. option_map_or (λ (l : LinkSetup). start_items l.start) o []) b.leads
    in
    let can_begin : CanBegin link = holds_by_child CanBegin net.tree.parents net.links child link is_network.can_begin b.leads in (
      delivered,
      ap (λ up. option_map_or (λ _. opening_at net.openings.lists child ++ delivered) up after.published) is_child,
      subst (λ c. LawBetween Law c (garbage_into net child) (list_of net after parent) delivered) (sym capacity)
          (subst (λ items. LawBetween Law link.params.capacity items (list_of net after parent) delivered) (sym garbage)
          (subst (λ list. LawBetween Law link.params.capacity (start_items link.start) list delivered) above
          (edge_law Law obey net t acts child b can_begin))),
    )

-- the list of the root is what was published
root_list : (net : Network) (t : NodeTree) → IsNetwork net → t.published ≡ net.published → list_of net t (root_of net.tree.parents) ≡ net.published
root_list net t is_network all_published =
    let root : ℕ = root_of net.tree.parents in
    ap (λ up. option_map_or (λ _. opening_at net.openings.lists root ++ (t.lines root).delivered) up t.published)
    is_network.tree.root_has_none ∙ all_published

-- the tree law at each node
pub tree_obeys_law : (net : Network) (before : NodeTree) (acts : List NodeAct) → IsNetwork net → TreeBegins net before
    → let after = node_run net before acts in after.published ≡ net.published → TreeLawAtNodes net (list_of net after)
tree_obeys_law net before acts is_network begins all_published =
    let after : NodeTree = node_run net before acts in
    nodes_obey net is_network.tree (list_of net after) (root_list net after is_network all_published) is_network.openings_fit
    (λ child parent is_child. link_law_into LinkLaw replay_link_law net before acts is_network child parent (begins child parent is_child) is_child)

-- and at one node, where the count of its path begins
pub path_obeys_law : (net : Network) (before : NodeTree) (acts : List NodeAct) (node : ℕ) → IsNetwork net → PathBegins net before node
    → node < length net.tree.parents
    → let after = node_run net before acts in after.published ≡ net.published → TreeLawAtNode net (list_of net after) node
path_obeys_law net before acts node is_network begins is_node all_published =
    let after : NodeTree = node_run net before acts in
    node_obeys net is_network.tree (list_of net after) (root_list net after is_network all_published) is_network.openings_fit node is_node
    (λ steps child parent leads is_child.
    link_law_into LinkLaw replay_link_law net before acts is_network child parent (begins steps child parent leads is_child) is_child)

-- the sharper law at each node
pub tree_obeys_sharper : ReplaysObey SharperLinkLaw → (net : Network) (before : NodeTree) (acts : List NodeAct) → IsNetwork net → TreeBegins net before
    → let after = node_run net before acts in after.published ≡ net.published → SharperTreeLawAtNodes net (list_of net after)
tree_obeys_sharper obey net before acts is_network begins all_published =
    let after : NodeTree = node_run net before acts in
    sharper_nodes net is_network.tree (list_of net after) (root_list net after is_network all_published) is_network.openings_fit
    (λ child parent is_child. link_law_into SharperLinkLaw obey net before acts is_network child parent (begins child parent is_child) is_child)

-- and at one node, where the count of its path begins
pub path_obeys_sharper : ReplaysObey SharperLinkLaw → (net : Network) (before : NodeTree) (acts : List NodeAct) (node : ℕ) → IsNetwork net
    → PathBegins net before node → node < length net.tree.parents
    → let after = node_run net before acts in after.published ≡ net.published → SharperTreeLawAtNode net (list_of net after) node
path_obeys_sharper obey net before acts node is_network begins is_node all_published =
    let after : NodeTree = node_run net before acts in
    sharper_node net is_network.tree (list_of net after) (root_list net after is_network all_published) is_network.openings_fit node is_node
    (λ steps child parent leads is_child.
    link_law_into SharperLinkLaw obey net before acts is_network child parent (begins steps child parent leads is_child) is_child)
