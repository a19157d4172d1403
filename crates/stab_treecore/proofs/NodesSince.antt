-- The tree law of a node, counted from any state, where no fault hits the node.
use Rattle.std.proofs.Common.{◌≡◌, ℕ, ◌+◌, ◌-◌, ◌<◌, ◌≤◌, List, [], ◌++◌, length, drop, Some, None, is_some, true, false, refl, ap, ap₂, sym, ◌∙◌, subst, inl, inr, append_assoc, arith}
use Rattle.std.specs.Option.{option_map_or}
use Rattle.std.proofs.lemmas.List.{append-nil, length-append, length-drop}
use Rattle.std.proofs.lemmas.Option.{same_Some}
use mathlib.Core.List.{IsPrefix}
use Rattle.stab_core.specs.Link.{LinkValue}
use Rattle.stab_core.specs.LinkLaw.{LinkLaw, SharperLinkLaw}
use Rattle.stab_core.specs.Replay.{replay, start_items}
use Rattle.stab_tree.specs.Nodes.{Nodes, parent_at, root_of}
use Rattle.stab_tree.specs.Steps.{Reaches, ancestor}
use Rattle.stab_tree.proofs.ForCallers.{child_is_node}
use Rattle.stab_tree.proofs.Steps.{steps_once}
use Rattle.stab_treecore.specs.NodeLaws.{LawBetween}
use Rattle.stab_treecore.specs.TreeLaw.{CompleteLaw, HalfTreeLaw}
use Rattle.stab_treecore.specs.WholeTree.{WholeTree, link_into, received, source}
use Rattle.stab_treecore.proofs.ForChanges.{root_law, same_kind}
use Rattle.stab_treecore.proofs.Upwards.{half_below, half_law_past_opening}
use Rattle.stab_treecore.proofs.Obeying.{ObeysSince}
use Rattle.stab_core.specs.Since.{start_at, offered_since, acked_since, delivered_since}
use Rattle.stab_treecore.specs.Changes.{Change, changes_replay}
use Rattle.stab_treecore.specs.Hits.{Spare}
use Rattle.stab_treecore.specs.Moment.{FollowsSince, LawSince, SharperCompleteSince, SharperLawSince}
use Rattle.stab_treecore.specs.Moment.{strays_since, missing_since, garbage_since, published_since}
use Rattle.stab_treecore.specs.Since.{IsState, acked_at, backlog, gained, moment, capacity_at, queued_at}
use Rattle.stab_treecore.proofs.PathLaws.{LinksHandOn, complete_of_path, law_of_path, sharper_complete_of_path, sharper_law_of_path}
use Rattle.stab_treecore.proofs.Grown.{prefix_dropped, prefix_no_longer, dropped_front, front_and_rest}
use Rattle.stab_treecore.proofs.Kept.{none_or_some, Since, gained_is, since_at_first, untouched_since, spared, OnPath, path_up}

module _ (tree : Nodes) (s : WholeTree) (is : IsState tree s) where
  within : (w parent : ℕ) (link : LinkValue) → parent_at s.parents w ≡ Some parent → link_into s w ≡ Some link
      → length link.state.offered ≤ length (received s parent)
  within = is.within

  -- a node with a parent has a link
  pub has_link : (w parent : ℕ) → parent_at s.parents w ≡ Some parent → (link : LinkValue) × (link_into s w ≡ Some link)
  has_link w parent child =
      elim (none_or_some (link_into s w)) [
        | inl none ↦
            let never : false ≡ true = sym (ap is_some none) ∙ (same_kind s.links s.parents w is.linked ∙ ap is_some child) in
            cc
        | inr some ↦ some
      ]

  module _ (t : WholeTree) (OnPath Listed : ℕ → Type 0)
      (above : (w parent : ℕ) → OnPath w → parent_at s.parents w ≡ Some parent → Listed parent) (since : Since s t OnPath Listed) where
    -- what the parent of a link has for it, and what the parent received since
    pub feed_is : (w parent : ℕ) (link : LinkValue) → OnPath w → parent_at s.parents w ≡ Some parent → link_into s w ≡ Some link
        → (acked_within : link.state.acked ≤ length link.state.offered)
        → drop link.state.acked (link.state.offered ++ drop (length link.state.offered) (received t parent))
        ≡ backlog s w ++ gained s t parent
    feed_is w parent link on child there acked_within =
        let state = link.state in
        let n : ℕ = length state.offered in
        let parts : received t parent ≡ received s parent ++ gained s t parent =
        front_and_rest (received s parent) (received t parent) (since.lists_grow parent (above w parent on child)) in
        let source_is : source s w ≡ received s parent = ap (λ o. option_map_or (λ q. received s q) o []) child in
        let backlog_is : backlog s w ≡ drop state.acked state.offered ++ drop n (received s parent) =
        ap (λ o. option_map_or (λ l. drop l.state.acked l.state.offered ++ drop (length l.state.offered) (source s w)) o []) there
        ∙ ap (λ xs. drop state.acked state.offered ++ drop n xs) source_is in
        dropped_front state.acked state.offered (drop n (received t parent)) acked_within
        ∙ (ap (λ xs. drop state.acked state.offered ++ drop n xs) parts
        ∙ (ap (λ xs. drop state.acked state.offered ++ xs)
        (dropped_front n (received s parent) (gained s t parent) (within w parent link child there))
        ∙ (sym (append_assoc (drop state.acked state.offered) (drop n (received s parent)) (gained s t parent))
        ∙ ap (λ xs. xs ++ gained s t parent) (sym backlog_is))))

    -- between what a parent has for a child and what the child received since there is a link that
    -- obeys the law
    pub link_went : (Law : ℕ → List ℕ → List ℕ → ℕ → List ℕ → Type 0) → ObeysSince Law → (w parent : ℕ) → OnPath w
        → parent_at s.parents w ≡ Some parent
        → (offered : List ℕ) × (acked : ℕ) × IsPrefix offered (backlog s w ++ gained s t parent)
        × Law (capacity_at s w) (queued_at s w) offered acked (gained s t w) × (acked ≡ acked_at t w - acked_at s w)
    link_went Law obey w parent on child =
        let (link, there) = has_link w parent child in
        let ran = since.links w link on there in
        let (lawful, bounded) = is.bounded w link there in
        let p = link.params in
        let end = replay p link.state ran.events in
        let law : Law p.capacity (start_items (start_at link.state)) (offered_since link.state end) (acked_since link.state end)
        (delivered_since link.state end) = obey p link.state ran.events lawful bounded in
        let capacity : capacity_at s w ≡ p.capacity = ap (λ o. option_map_or (λ (l : LinkValue). l.params.capacity) o 0) there in
        let queued : queued_at s w ≡ start_items (start_at link.state) =
        ap (λ o. option_map_or (λ (l : LinkValue). start_items (start_at l.state)) o []) there in
        let offers : IsPrefix (offered_since link.state end) (backlog s w ++ gained s t parent) =
        subst (λ xs. IsPrefix (offered_since link.state end) xs) (feed_is w parent link on child there bounded.acked_were_offered)
        (prefix_dropped link.state.acked end.offered (link.state.offered ++ drop (length link.state.offered) (received t parent))
        (ran.offers parent child)) in (
          offered_since link.state end,
          acked_since link.state end,
          offers,
          subst (λ xs. Law (capacity_at s w) (queued_at s w) (offered_since link.state end) (acked_since link.state end) xs)
              (sym (gained_is s t OnPath Listed since w link on there ran))
              (subst (λ c. Law c (queued_at s w) (offered_since link.state end) (acked_since link.state end) (delivered_since link.state end))
              (sym capacity)
              (subst (λ items. Law p.capacity items (offered_since link.state end) (acked_since link.state end) (delivered_since link.state end))
              (sym queued) law)),
          ap₂ (λ later earlier. later - earlier) (sym (ap (λ o. option_map_or (λ (l : LinkValue). l.state.acked) o 0) ran.now))
              (sym (ap (λ o. option_map_or (λ (l : LinkValue). l.state.acked) o 0) there)),
        )

    pub link_since : (Law : ℕ → List ℕ → List ℕ → ℕ → List ℕ → Type 0) → ObeysSince Law → (w parent : ℕ) → OnPath w
        → parent_at s.parents w ≡ Some parent
        → LawBetween Law (capacity_at s w) (queued_at s w) (backlog s w ++ gained s t parent) (gained s t w)
    link_since Law obey w parent on child =
        let (offered, acked, begins, law, count) = link_went Law obey w parent on child in (offered, acked, begins, law)

    -- all that the parent had for the child, or received since, is so much
    pub feed_counts : (w parent : ℕ) → OnPath w → parent_at s.parents w ≡ Some parent
        → length (backlog s w ++ gained s t parent) ≡ length (received t parent) - acked_at s w
    feed_counts w parent on child =
        let (link, there) = has_link w parent child in
        let (lawful, bounded) = is.bounded w link there in
        let offered = bounded.acked_were_offered in
        let n : ℕ = length link.state.offered in
        let acked : acked_at s w ≡ link.state.acked = ap (λ o. option_map_or (λ (l : LinkValue). l.state.acked) o 0) there in
        let whole : List ℕ = link.state.offered ++ drop n (received t parent) in
        let long = within w parent link child there in
        let grown = prefix_no_longer (received s parent) (received t parent) (since.lists_grow parent (above w parent on child)) in
        omega (
          arith,
          ap (λ xs. length xs) (feed_is w parent link on child there offered),
          length-drop link.state.acked whole,
          length-append link.state.offered (drop n (received t parent)),
          length-drop n (received t parent),
        )

-- a node of a path that has no link is the root
pub root_alone : (tree : Nodes) (s : WholeTree) → IsState tree s → (node : ℕ) → node < length s.parents → (v : ℕ) → Reaches s.parents node v
    → link_into s v ≡ None → v ≡ root_of s.parents
root_alone tree s is node is_node v (j, leads) none =
    let same = is.parents in
    let reaches : Reaches s.parents node (root_of s.parents) =
    subst (λ ps. node < length ps → Reaches ps node (root_of ps)) (sym same) (is.is_tree.reaches_root node) is_node in
    let root_none : parent_at s.parents (root_of s.parents) ≡ None =
    subst (λ ps. parent_at ps (root_of ps) ≡ None) (sym same) is.is_tree.root_has_none in
    let own_none : parent_at s.parents v ≡ None =
    elim (none_or_some (parent_at s.parents v)) [
      | inl none_above ↦ none_above
      | inr some ↦
          let never : false ≡ true = sym (ap is_some none) ∙ (same_kind s.links s.parents v is.linked ∙ ap is_some some.1) in
          cc
    ] in
    let as_far : j ≡ reaches.0 = steps_once s.parents j reaches.0 node v (root_of s.parents) leads own_none reaches.1 root_none in
    same_Some v (root_of s.parents) (sym leads ∙ (ap (λ k. ancestor s.parents k node) as_far ∙ reaches.1))

-- what a link that obeys its law delivers, of items that its parent had before and this list
follows : (capacity acked : ℕ) (queued old list offered below : List ℕ) → IsPrefix offered (old ++ list)
    → LinkLaw capacity queued offered acked below → HalfTreeLaw (capacity + length old) (queued ++ old) list below
follows capacity acked queued old list offered below begins (places, law, none) =
    let (all, itself, closed) = root_law list in
    let above : HalfTreeLaw (0 + length old) (old ++ []) list (old ++ list) = half_law_past_opening 0 old [] list list (all, itself) in
    let turned : 0 + length old + capacity ≡ capacity + length old = omega arith in
    subst (λ (n : ℕ). HalfTreeLaw n (queued ++ old) list below) turned
    (subst (λ (xs : List ℕ). HalfTreeLaw (0 + length old + capacity) (queued ++ xs) list below) (append-nil old)
    (half_below capacity (0 + length old) acked queued (old ++ []) list (old ++ list) offered below begins above (places, law)))

-- From any state of a whole tree, after changes that spare a node, it follows its parent, counted
-- from there.
module _ (tree : Nodes) (s : WholeTree) (changes : List Change) (node : ℕ) (is : IsState tree s) (spare : Spare s.parents node changes) where
  pub follows_since : ObeysSince LinkLaw → (parent : ℕ) → parent_at s.parents node ≡ Some parent
      → FollowsSince (moment s) (gained s (changes_replay s changes)) node parent
  follows_since obey parent is_child =
      let end = changes_replay s changes in
      let is_node : node < length s.parents =
      subst (λ ps. parent_at ps node ≡ Some parent → node < length ps) (sym is.parents) (child_is_node tree.parents node parent) is_child in
      let since : Since s end (OnPath s node) (OnPath s node) =
      untouched_since s (OnPath s node) (OnPath s node) (path_up s node) (λ w parent link _. is.within w parent link) s changes
      (since_at_first s (OnPath s node) (OnPath s node) (root_alone tree s is node is_node))
      (spared s node (λ w parent link _. is.within w parent link) changes spare) in
      let (offered, acked, begins, law) =
      link_since tree s is end (OnPath s node) (OnPath s node) (path_up s node) since LinkLaw obey node parent (0, refl) is_child in
      follows (capacity_at s node) acked (queued_at s node) (backlog s node) (gained s end parent) offered (gained s end node) begins law

-- From any state of a whole tree, after changes that spare a node, the node obeys both laws,
-- counted from there.
module _ (tree : Nodes) (s : WholeTree) (changes : List Change) (node : ℕ) (is : IsState tree s) (is_node : node < length s.parents)
    (spare : Spare s.parents node changes) where
  abbrev end : WholeTree
  end = changes_replay s changes

  pub since_spared : Since s end (OnPath s node) (OnPath s node)
  since_spared =
      untouched_since s (OnPath s node) (OnPath s node) (path_up s node) (λ w parent link _. is.within w parent link) s changes
      (since_at_first s (OnPath s node) (OnPath s node) (root_alone tree s is node is_node))
      (spared s node (λ w parent link _. is.within w parent link) changes spare)

  pub law_since : ObeysSince LinkLaw → LawSince (moment s) (gained s end) node
  law_since obey =
      law_of_path tree is.is_tree (moment s) is.parents (gained s end) (OnPath s node) (path_up s node)
      (link_since tree s is end (OnPath s node) (OnPath s node) (path_up s node) since_spared LinkLaw obey) node is_node (0, refl)

  pub sharper_law_since : ObeysSince SharperLinkLaw → SharperLawSince (moment s) (gained s end) node
  sharper_law_since obey =
      sharper_law_of_path tree is.is_tree (moment s) is.parents (gained s end) (OnPath s node) (path_up s node)
      (link_since tree s is end (OnPath s node) (OnPath s node) (path_up s node) since_spared SharperLinkLaw obey) node is_node (0, refl)

  -- ---- and the complete laws, where all that the nodes above it have is acknowledged

  abbrev AllAcked : Type 0
  AllAcked = (w parent : ℕ) → OnPath s node w → parent_at s.parents w ≡ Some parent → acked_at end w ≡ length (received end parent)

  links_hand_on : (Law : ℕ → List ℕ → List ℕ → ℕ → List ℕ → Type 0) → ObeysSince Law → AllAcked
      → LinksHandOn tree is.is_tree (moment s) is.parents (gained s end) (OnPath s node) (path_up s node) Law
  links_hand_on Law obey all w parent on child =
      let (offered, acked, begins, law, count) = link_went tree s is end (OnPath s node) (OnPath s node) (path_up s node) since_spared Law obey w parent on child in
      let fed = feed_counts tree s is end (OnPath s node) (OnPath s node) (path_up s node) since_spared w parent on child in
      let same = all w parent on child in
      (offered, acked, begins, law, omega (arith, count))

  pub complete_since : ObeysSince LinkLaw → AllAcked
      → CompleteLaw (strays_since (moment s) node) (missing_since (moment s) node) (garbage_since (moment s) node)
      (published_since (moment s) (gained s end) node) (gained s end node)
  complete_since obey all =
      complete_of_path tree is.is_tree (moment s) is.parents (gained s end) (OnPath s node) (path_up s node)
      (links_hand_on LinkLaw obey all) node is_node (0, refl)

  pub sharper_complete_since : ObeysSince SharperLinkLaw → AllAcked → SharperCompleteSince (moment s) (gained s end) node
  sharper_complete_since obey all =
      sharper_complete_of_path tree is.is_tree (moment s) is.parents (gained s end) (OnPath s node) (path_up s node)
      (links_hand_on SharperLinkLaw obey all) node is_node (0, refl)
