-- A fault at one link alone: what the child receives since, by the parent's older count.
use Rattle.std.proofs.Common.{◌≡◌, ℕ, ◌+◌, ◌-◌, ◌*◌, ◌<◌, ◌≤◌, List, ◌++◌, length, drop, Some, refl, ap, ap₂, sym, ◌∙◌, subst, arith}
use Rattle.std.specs.Option.{option_map_or}
use mathlib.Core.List.{IsPrefix}
use Rattle.stab_core.specs.Link.{LinkValue}
use Rattle.stab_core.specs.LinkLaw.{LinkLaw}
use Rattle.stab_core.proofs.ForCallers.{prefix_of_prefix}
use Rattle.stab_tree.specs.Nodes.{Nodes, parent_at}
use Rattle.stab_tree.proofs.ForCallers.{child_is_node}
use Rattle.stab_treecore.specs.TreeLaw.{TreeLaw}
use Rattle.stab_treecore.specs.WholeTree.{WholeTree, received}
use Rattle.stab_treecore.proofs.Obeying.{ObeysSince}
use Rattle.stab_treecore.proofs.ForChanges.{law_below}
use Rattle.stab_treecore.specs.Changes.{Change, changes_replay}
use Rattle.stab_treecore.specs.Hits.{Spare, SpareLink}
use Rattle.stab_treecore.specs.Moment.{LawSince, strays_since, missing_since, garbage_since, published_since}
use Rattle.stab_treecore.specs.Since.{IsState, IsFedAt, acked_at, backlog, capacity_at, gained, moment, queued_at}
use Rattle.stab_treecore.proofs.Grown.{drop-past}
use Rattle.stab_treecore.proofs.Contained.{changes-append, link_left, up, Linked, Listed}
use Rattle.stab_treecore.proofs.Grown.{front_and_rest}
use Rattle.stab_treecore.proofs.NodesSince.{feed_is, has_link, law_since, link_since, root_alone, since_spared}
use Rattle.stab_treecore.proofs.Rest.{law_of_rest}
use Rattle.stab_treecore.proofs.Kept.{Since, path_up}

pub struck_law : ObeysSince LinkLaw → (tree : Nodes) (s : WholeTree) (before after : List Change) (w parent : ℕ)
    → IsState tree s → parent_at s.parents w ≡ Some parent → Spare s.parents parent (before ++ after) → SpareLink s.parents w after
    → let m = changes_replay s before in
    let t = changes_replay m after in
    IsState tree m → IsFedAt m w → length (received s parent) ≤ acked_at m w → let n = acked_at m w - length (received s parent) in
    TreeLaw (strays_since (moment s) parent - n + capacity_at m w) (missing_since (moment s) parent + n + (2 * capacity_at m w + 1))
    (queued_at m w ++ garbage_since (moment s) parent) (published_since (moment s) (gained s t) parent) (gained m t w)
struck_law obey tree s before after w parent is is_child spared spare is_middle fed enough =
    let m = changes_replay s before in
    let t = changes_replay m after in
    let n = acked_at m w - length (received s parent) in
    let same_end : changes_replay s (before ++ after) ≡ t = changes-append s before after in
    let parent_is_node = is.is_tree.known_parents w parent (ap (λ ps. parent_at ps w) (sym is.parents) ∙ is_child) in
    let is_node : parent < length s.parents = subst (λ ps. parent < length ps) (sym is.parents) parent_is_node in
    let above : LawSince (moment s) (gained s t) parent =
    subst (λ u. LawSince (moment s) (gained s u) parent) same_end (law_since tree s (before ++ after) parent is is_node spared obey) in
    let rest = law_of_rest n (strays_since (moment s) parent) (missing_since (moment s) parent) (garbage_since (moment s) parent)
    (published_since (moment s) (gained s t) parent) (gained s t parent) above in
    let same_parents : m.parents ≡ s.parents = is_middle.parents ∙ sym is.parents in
    let child_there : parent_at m.parents w ≡ Some parent = ap (λ ps. parent_at ps w) same_parents ∙ is_child in
    let (link, there) = has_link tree m is_middle w parent child_there in
    let since : Since m t (Linked m w parent child_there) (Listed m w parent child_there) =
    link_left m w parent child_there link there (is_middle.within w parent link child_there there)
    (root_alone tree m is_middle w (child_is_node m.parents w parent child_there) parent (path_up m w w parent (0, refl) child_there))
    after (subst (λ ps. SpareLink ps w after) (sym same_parents) spare) in
    let (offered, acked, begins, law) =
    link_since tree m is_middle t (Linked m w parent child_there) (Listed m w parent child_there) (up m w parent child_there) since LinkLaw obey
    w parent refl child_there in
    let (lawful, bounded) = is_middle.bounded w link there in
    let list = received t parent in
    let acked_is : acked_at m w ≡ link.state.acked = ap (λ o. option_map_or (λ (l : LinkValue). l.state.acked) o 0) there in
    let front : IsPrefix link.state.offered list =
    prefix_of_prefix link.state.offered (received m parent) list (fed parent link child_there there) (since.lists_grow parent child_there) in
    let grown : IsPrefix (received s parent) list =
    subst (λ u. IsPrefix (received s parent) (received u parent)) same_end
    ((since_spared tree s (before ++ after) parent is is_node spared).lists_grow parent (0, refl)) in
    let feed : backlog m w ++ gained m t parent ≡ drop n (gained s t parent) =
    sym (feed_is tree m is_middle t (Linked m w parent child_there) (Listed m w parent child_there) (up m w parent child_there) since w parent link
    refl child_there there bounded.acked_were_offered)
    ∙ (ap (λ xs. drop link.state.acked xs) (sym (front_and_rest link.state.offered list front))
    ∙ (ap₂ (λ k xs. drop k xs) (let same : link.state.acked ≡ length (received s parent) + n = omega arith in same)
    (front_and_rest (received s parent) list grown)
    ∙ drop-past (received s parent) (gained s t parent) n)) in
    law_below (capacity_at m w) (strays_since (moment s) parent - n) acked (queued_at m w) (garbage_since (moment s) parent)
    (published_since (moment s) (gained s t) parent) (drop n (gained s t parent)) offered (gained m t w)
    (subst (λ xs. IsPrefix offered xs) feed begins) (missing_since (moment s) parent + n) rest law
