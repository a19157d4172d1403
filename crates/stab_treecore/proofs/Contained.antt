-- Below a fault: a link that no fault touches, and that had 2c + 2 items acknowledged before,
-- passes on exactly its parent's list.
use Rattle.std.proofs.Common.{◌≡◌, ℕ, zero, suc, ◌+◌, ◌*◌, ◌≤◌, List, [], ◌∷◌, ◌++◌, length, drop, Option, Some, None, refl, ap, sym, ◌∙◌, subst, arith}
use Rattle.std.specs.Option.{option_map_or}
use Rattle.std.proofs.lemmas.List.{length-append, length-drop}
use Rattle.std.proofs.lemmas.Option.{same_Some}
use mathlib.Core.List.{IsPrefix}
use Rattle.stab_core.specs.Link.{LinkValue, link_at}
use Rattle.stab_core.specs.Replay.{replay}
use Rattle.stab_core.proofs.ForCallers.{prefix_of_prefix}
use Rattle.stab_tree.specs.Nodes.{Nodes, parent_at, root_of}
use Rattle.stab_tree.proofs.ForCallers.{child_is_node}
use Rattle.stab_treecore.specs.WholeTree.{WholeTree, link_into, received}
use Rattle.stab_core.specs.Since.{delivered_since, PassesOn}
use Rattle.stab_treecore.specs.Changes.{Change, Act, Publish, Strike, Restart, change_step, changes_replay}
use Rattle.stab_treecore.specs.Hits.{SpareLink}
use Rattle.stab_treecore.specs.Since.{IsState, gained, capacity_at, acked_at, PassesList}
use Rattle.stab_treecore.proofs.Obeying.{PassesOnExactly}
use Rattle.stab_treecore.proofs.Grown.{prefix_dropped, prefix_no_longer}
use Rattle.stab_treecore.proofs.NodesSince.{has_link, root_alone}
use Rattle.stab_treecore.proofs.Kept.{Since, gained_is, path_up, since_at_first, untouched_since, Untouched}

-- from a place behind a front on, a list with another front of the same length is the same
pub dropped_behind : (xs ys : List ℕ) (n : ℕ) → length xs ≤ n → length xs ≤ length ys → drop n (xs ++ drop (length xs) ys) ≡ drop n ys
dropped_behind [] ys n late long = refl
dropped_behind (x ∷ xs) [] n late long = absurd (omega arith)
dropped_behind (x ∷ xs) (y ∷ ys) zero late long = absurd (omega arith)
dropped_behind (x ∷ xs) (y ∷ ys) (suc n) late long = dropped_behind xs ys n (omega arith) (omega arith)

pub changes-append : (t : WholeTree) (before after : List Change)
    → changes_replay t (before ++ after) ≡ changes_replay (changes_replay t before) after
changes-append t [] after = refl
changes-append t (change ∷ changes) after = changes-append (change_step t change) changes after

spare_both : (parents : List (Option ℕ)) (w : ℕ) (before after : List Change) → SpareLink parents w before → SpareLink parents w after
    → SpareLink parents w (before ++ after)
spare_both parents w [] after first second = second
spare_both parents w (change ∷ changes) after first second = (first.0, spare_both parents w changes after first.1 second)

-- the link into one node, and the list of its parent
module _ (s : WholeTree) (w parent : ℕ) (is_child : parent_at s.parents w ≡ Some parent) where
  abbrev pub Linked : ℕ → Type 0
  Linked v = v ≡ w

  abbrev pub Listed : ℕ → Type 0
  Listed v = parent_at s.parents w ≡ Some v

  pub up : (v above : ℕ) → Linked v → parent_at s.parents v ≡ Some above → Listed above
  up v above here child = ap (λ u. parent_at s.parents u) (sym here) ∙ child

  left : (within : (v above : ℕ) (link : LinkValue) → Linked v → parent_at s.parents v ≡ Some above → link_into s v ≡ Some link
      → length link.state.offered ≤ length (received s above)) (changes : List Change) → SpareLink s.parents w changes
      → Untouched s Linked Listed up within changes
  left within [] spare = tt
  left within (Act e ∷ changes) spare = (spare.0, left within changes spare.1)
  left within (Publish items ∷ changes) spare = (spare.0, left within changes spare.1)
  left within (Strike child start ∷ changes) spare = (spare.0, left within changes spare.1)
  left within (Restart other list ∷ changes) spare = (spare.0, left within changes spare.1)

  -- since, where this one link is within its parent's list
  pub link_left : (link : LinkValue) → link_into s w ≡ Some link → length link.state.offered ≤ length (received s parent)
      → (link_into s parent ≡ None → parent ≡ root_of s.parents) → (changes : List Change) → SpareLink s.parents w changes
      → Since s (changes_replay s changes) Linked Listed
  link_left link there within at_root changes spare =
      let own : (v above : ℕ) (l : LinkValue) → Linked v → parent_at s.parents v ≡ Some above → link_into s v ≡ Some l
      → length l.state.offered ≤ length (received s above) =
      λ v above l here child found.
      let same_link : link ≡ l = same_Some link l (sym there ∙ (ap (λ u. link_into s u) (sym here) ∙ found)) in
      let same_parent : parent ≡ above = same_Some parent above (sym is_child ∙ up v above here child) in
      subst (λ z. length z.state.offered ≤ length (received s above)) same_link
      (subst (λ q. length link.state.offered ≤ length (received s q)) same_parent within) in
      untouched_since s Linked Listed up own s changes
      (since_at_first s Linked Listed
      (λ v listed none.
      let same : parent ≡ v = same_Some parent v (sym is_child ∙ listed) in
      sym same ∙ at_root (ap (λ u. link_into s u) same ∙ none)))
      (left own changes spare)

-- Once 2c + 2 items were acknowledged since some state, and as long as no fault touches the link,
-- the child receives exactly what its parent has, whatever happens above.
pub contained : PassesOnExactly → (tree : Nodes) (s : WholeTree) (before after : List Change) (w parent : ℕ) → IsState tree s
    → parent_at s.parents w ≡ Some parent → SpareLink s.parents w before → SpareLink s.parents w after
    → let m = changes_replay s before in
    acked_at s w + 2 * capacity_at s w + 2 ≤ acked_at m w → PassesList m (changes_replay m after) w parent
contained exactly tree s before after w parent is is_child first second many =
    let m = changes_replay s before in
    let t = changes_replay m after in
    let (link, there) = has_link tree s is w parent is_child in
    let p = link.params in
    let (lawful, bounded) = is.bounded w link there in
    let within : length link.state.offered ≤ length (received s parent) = is.within w parent link is_child there in
    let at_root : link_into s parent ≡ None → parent ≡ root_of s.parents =
    root_alone tree s is w (child_is_node s.parents w parent is_child) parent (path_up s w w parent (0, refl) is_child) in
    let to_middle = link_left s w parent is_child link there within at_root before first in
    let ran = to_middle.links w link refl there in
    let state = replay p link.state ran.events in
    let middle : LinkValue = link_at p state in
    let middle_child : parent_at m.parents w ≡ Some parent = ap (λ ps. parent_at ps w) to_middle.parents_stay ∙ is_child in
    let grown : length (received s parent) ≤ length (received m parent) =
    prefix_no_longer (received s parent) (received m parent) (to_middle.lists_grow parent is_child) in
    let n : ℕ = length link.state.offered in
    let had : length state.offered ≤ length (link.state.offered ++ drop n (received m parent)) =
    prefix_no_longer state.offered (link.state.offered ++ drop n (received m parent)) (ran.offers parent is_child) in
    let middle_within : length state.offered ≤ length (received m parent) =
    omega (arith, length-append link.state.offered (drop n (received m parent)), length-drop n (received m parent)) in
    let middle_root : link_into m parent ≡ None → parent ≡ root_of m.parents =
    λ none. to_middle.root_alone parent is_child none ∙ ap root_of (sym to_middle.parents_stay) in
    let from_middle = link_left m w parent middle_child middle ran.now middle_within middle_root after
    (subst (λ ps. SpareLink ps w after) (sym to_middle.parents_stay) second) in
    let went = from_middle.links w middle refl ran.now in
    let end = replay p state went.events in
    let all = link_left s w parent is_child link there within at_root (before ++ after) (spare_both s.parents w before after first second) in
    let whole = all.links w link refl there in
    let list = received t parent in
    let same_tree : changes_replay s (before ++ after) ≡ t = changes-append s before after in
    let same_end : replay p link.state whole.events ≡ end =
    ap (λ l. l.state)
    (same_Some (link_at p (replay p link.state whole.events)) (link_at p end) (sym whole.now ∙ (ap (λ u. link_into u w) same_tree ∙ went.now))) in
    let offers : IsPrefix end.offered (link.state.offered ++ drop n list) =
    subst (λ z. IsPrefix z.offered (link.state.offered ++ drop n list)) same_end
    (subst (λ u. IsPrefix (replay p link.state whole.events).offered (link.state.offered ++ drop n (received u parent))) same_tree
    (whole.offers parent is_child)) in
    let all_grown : length (received s parent) ≤ length list =
    subst (λ u. length (received s parent) ≤ length (received u parent)) same_tree
    (prefix_no_longer (received s parent) (received (changes_replay s (before ++ after)) parent) (all.lists_grow parent is_child)) in
    let acked_first : acked_at s w ≡ link.state.acked = ap (λ o. option_map_or (λ (l : LinkValue). l.state.acked) o 0) there in
    let capacity : capacity_at s w ≡ p.capacity = ap (λ o. option_map_or (λ (l : LinkValue). l.params.capacity) o 0) there in
    let acked_middle : acked_at m w ≡ state.acked = ap (λ o. option_map_or (λ (l : LinkValue). l.state.acked) o 0) ran.now in
    let acked_last : acked_at t w ≡ end.acked = ap (λ o. option_map_or (λ (l : LinkValue). l.state.acked) o 0) went.now in
    let on : PassesOn state end = exactly p link.state ran.events went.events lawful bounded (omega arith) in
    let one_waits = bounded.one_waits_at_most in
    let no_earlier = on.no_earlier in
    let no_later = on.no_later in
    let was_offered = on.was_offered in
    let none_missing = on.none_missing in
    let gained_here : gained m t w ≡ delivered_since state end = gained_is m t (λ v. v ≡ w) _ from_middle w middle refl ran.now went in
    let dropped : drop on.from (link.state.offered ++ drop n list) ≡ drop on.from list =
    dropped_behind link.state.offered list on.from (omega arith) (omega arith) in
    record {
      from = on.from;
      no_earlier = omega arith;
      no_later = omega arith;
      in_list = omega arith;
      in_order =
          subst (λ xs. IsPrefix xs (drop on.from list)) (sym gained_here)
          (prefix_of_prefix (delivered_since state end) (drop on.from end.offered) (drop on.from list) on.in_order
          (subst (λ ys. IsPrefix (drop on.from end.offered) ys) dropped
          (prefix_dropped on.from end.offered (link.state.offered ++ drop n list) offers)));
      none_missing = omega (arith, ap (λ xs. length xs) gained_here);
    }
