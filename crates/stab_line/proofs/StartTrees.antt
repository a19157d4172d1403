-- The tree law by what each link really had under way when the count began: the step from a parent
-- to its child with the bounds of the link between them, and the sums along a path.
use Rattle.std.proofs.Common.{◌≡◌, ℕ, ◌+◌, List, [], ◌++◌, length, ap, sym, ◌∙◌, subst, arith, append_assoc}
use Rattle.std.specs.Option.{option_map_or}
use mathlib.Core.List.{IsPrefix}
use Rattle.stab_core.specs.LinkLaw.{LinkLawWithin}
use Rattle.stab_core.specs.LinkSetup.{CanBegin, LinkSetup}
use Rattle.stab_core.specs.Replay.{start_items}
use Rattle.stab_tree.specs.NodeOpenings.{hold_at, opening_at}
use Rattle.stab_tree.specs.Nodes.{root_of}
use Rattle.stab_tree.proofs.Fitting.{openings_fit}
use Rattle.stab_tree.proofs.ForCallers.{holds_by_child}
use Rattle.stab_treecore.specs.Network.{IsNetwork, Network}
use Rattle.stab_treecore.specs.NodeLaws.{garbage_into}
use Rattle.stab_treecore.specs.TreeLaw.{TreeLaw}
use Rattle.stab_treecore.proofs.ForCallers.{each_adds, larger_bounds, law_past_opening, within_below}
use Rattle.stab_line.specs.NodeTree.{BeginsInto, NodeAct, NodeTree, TreeBegins, list_above, list_of, node_run}
use Rattle.stab_line.specs.StartTree.{TreeLawOfStarts, frames_into, missing_into}
use Rattle.stab_line.proofs.NodeTrees.{edge_start_law}

-- each node obeys the tree law with what the links on its path had under way
pub tree_obeys_starts : (net : Network) (before : NodeTree) (acts : List NodeAct) → IsNetwork net → TreeBegins net before
    → let after = node_run net before acts in after.published ≡ net.published → TreeLawOfStarts net (list_of net after)
tree_obeys_starts net before acts is_network begins all_published node is_node =
    let after : NodeTree = node_run net before acts in
    let parents = net.tree.parents in
    let root : ℕ = root_of parents in
    let hold_of = hold_at parents net.openings.hold in
    let short = (openings_fit parents net.openings is_network.openings_fit).short in
    each_adds net.tree.parents is_network.tree net.published (list_of net after)
    (ap (λ up. option_map_or (λ _. opening_at net.openings.lists root ++ (after.lines root).delivered) up after.published)
    is_network.tree.root_has_none ∙ all_published)
    (λ _. Unit {0}) (λ child parent is_child on. tt)
    (λ child. frames_into net child + hold_of child) (missing_into net)
    (λ child. opening_at net.openings.lists child ++ garbage_into net child)
    (λ child parent most_strays most_missing garbage on is_child at_parent.
    let b : BeginsInto net before child = begins child parent is_child in
    let link : LinkSetup = b.link in
    let can_begin : CanBegin link = holds_by_child CanBegin parents net.links child link is_network.can_begin b.leads in
    let (offered, acked, prefix, law) = edge_start_law net before acts child b can_begin in
    let opening : List ℕ = opening_at net.openings.lists child in
    let delivered : List ℕ = (after.lines child).delivered in
    let few : ℕ = length link.start.frames in
    let first : ℕ = length link.start.acks + 1 + length link.start.frames in
    let frames : frames_into net child ≡ few = ap (λ o. option_map_or (λ (l : LinkSetup). length l.start.frames) o 0) b.leads in
    let missing : missing_into net child ≡ first =
    ap (λ o. option_map_or (λ (l : LinkSetup). length l.start.acks + 1 + length l.start.frames) o 1) b.leads in
    let items : garbage_into net child ≡ start_items link.start =
    ap (λ o. option_map_or (λ (l : LinkSetup). start_items l.start) o []) b.leads in
    let list : list_of net after child ≡ opening ++ delivered =
    ap (λ up. option_map_or (λ _. opening ++ delivered) up after.published) is_child in
    let above : list_above net after child ≡ list_of net after parent = ap (λ up. option_map_or (list_of net after) up []) is_child in
    let below : TreeLaw (most_strays + few) (most_missing + first) (garbage_into net child ++ garbage) net.published delivered =
    within_below few most_strays acked (garbage_into net child) garbage net.published (list_of net after parent) offered delivered
    (subst (λ xs. IsPrefix offered xs) above prefix) first most_missing at_parent
    (subst (λ xs. LinkLawWithin few first xs offered acked delivered) (sym items) law) in
    let past : TreeLaw (most_strays + few + length opening) (most_missing + first) (opening ++ (garbage_into net child ++ garbage)) net.published (opening ++ delivered) =
    law_past_opening (most_strays + few) opening (garbage_into net child ++ garbage) net.published delivered (most_missing + first) below in
    let short_here = short child in
    let larger : TreeLaw (frames_into net child + hold_of child + most_strays) (missing_into net child + most_missing)
    (opening ++ (garbage_into net child ++ garbage)) net.published (opening ++ delivered) =
    larger_bounds (most_strays + few + length opening) (frames_into net child + hold_of child + most_strays) (most_missing + first)
    (missing_into net child + most_missing) (opening ++ (garbage_into net child ++ garbage)) net.published (opening ++ delivered)
    (omega (arith, short_here, frames)) (omega (arith, missing)) past in
    subst (λ xs. TreeLaw (frames_into net child + hold_of child + most_strays) (missing_into net child + most_missing) xs net.published (list_of net after child))
    (sym (append_assoc opening (garbage_into net child) garbage))
    (subst (λ xs. TreeLaw (frames_into net child + hold_of child + most_strays) (missing_into net child + most_missing) (opening ++ (garbage_into net child ++ garbage)) net.published xs)
    (sym list) larger)) node is_node tt
