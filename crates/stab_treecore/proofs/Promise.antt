-- A node that no fault hits keeps the promise of the start, whatever faults hit others.
use Rattle.std.proofs.Common.{◌≡◌, ℕ, zero, suc, ◌+◌, ◌*◌, ◌<◌, List, [], ◌∷◌, ◌++◌, length, map, drop, get_or, Option, Some, None, is_some, option_map, true, false, inl, inr, refl, ap, sym, ◌∙◌, subst, append_assoc, arith}
use Rattle.std.specs.Option.{option_map_or}
use Rattle.std.proofs.lemmas.List.{append-nil}
use Rattle.std.proofs.lemmas.Option.{none-some}
use Rattle.stab_core.specs.Link.{LinkValue}
use Rattle.stab_core.specs.LinkLaw.{LinkLaw}
use Rattle.stab_core.specs.LinkSetup.{LinkSetup}
use Rattle.stab_core.specs.Replay.{start_items}
use Rattle.stab_tree.specs.ByChild.{by_child}
use Rattle.stab_tree.specs.NodeOpenings.{hold_at, opening_at}
use Rattle.stab_tree.specs.Nodes.{parent_at, root_of}
use Rattle.stab_tree.specs.Steps.{depth_of}
use Rattle.stab_tree.proofs.ForCallers.{openings_fit}
use Rattle.stab_tree.proofs.ForCallers.{holds_at_every_depth, map-by_child}
use Rattle.stab_treecore.specs.Network.{IsNetwork, Network, setup_into}
use Rattle.stab_treecore.specs.NodeLaws.{LawBetween, capacity_into, garbage_into, most_strays, most_missing, path_garbage}
use Rattle.stab_treecore.specs.Paths.{sum_above, lists_above}
use Rattle.stab_treecore.specs.TreeLaw.{TreeLaw}
use Rattle.stab_treecore.specs.TreeReplay.{initial_tree, opened}
use Rattle.stab_treecore.specs.TreeStep.{event_on, link_after, tree_step}
use Rattle.stab_treecore.specs.WholeTree.{WholeTree, link_into, received, source}
use Rattle.stab_treecore.proofs.ForChanges.{sum_above-add}
use Rattle.stab_treecore.proofs.ForChanges.{kind-set, same_kind, same_kinds}
use Rattle.stab_treecore.proofs.Obeying.{ObeysSince}
use Rattle.stab_treecore.proofs.ForChanges.{larger_bounds, law_below, law_past_opening, root_law}
use Rattle.stab_treecore.specs.Changes.{Change, Act, Publish, Strike, Restart, change_step, changes_replay}
use Rattle.stab_treecore.specs.Hits.{Spare}
use Rattle.stab_treecore.specs.Faults.{struck_at, restarted_at}
use Rattle.stab_treecore.specs.Since.{IsState, backlog, capacity_at, gained, queued_at}
use Rattle.stab_treecore.proofs.Grown.{front_and_rest}
use Rattle.stab_treecore.proofs.NodesSince.{link_since, since_spared}
use Rattle.stab_treecore.proofs.Kept.{none_or_some, OnPath, Since, path_up, received_unlinked}
use Rattle.stab_treecore.proofs.States.{opening_fed, same_kind_mapped}

-- changes leave which nodes have a link
kinds_stay : (t : WholeTree) (changes : List Change) → map is_some (changes_replay t changes).links ≡ map is_some t.links
kinds_stay t [] = refl
kinds_stay t (Act e ∷ changes) =
    kinds_stay (tree_step t e) changes
    ∙ kind-set t.links e.child (option_map (link_after (event_on t e)) (link_into t e.child)) (same_kind_mapped (link_after (event_on t e)) (link_into t e.child))
kinds_stay t (Publish items ∷ changes) = kinds_stay (change_step t (Publish items)) changes
kinds_stay t (Strike child start ∷ changes) =
    kinds_stay (change_step t (Strike child start)) changes ∙ same_kinds (struck_at child start) 0 t.links
kinds_stay t (Restart node list ∷ changes) =
    kinds_stay (change_step t (Restart node list)) changes ∙ same_kinds (restarted_at t.parents node) 0 t.links

module _ (net : Network) where
  abbrev s : WholeTree
  s = initial_tree net

  link_is : (w : ℕ) → link_into s w ≡ option_map opened (setup_into net w)
  link_is w =
      ap (λ links. get_or links w None) (sym (map-by_child opened net.tree.parents net.links))
      ∙ mapped (by_child net.tree.parents net.links) w
    where
      mapped : (xs : List (Option LinkSetup)) (i : ℕ) → get_or (map (option_map opened) xs) i None ≡ option_map opened (get_or xs i None)
      mapped [] i = refl
      mapped (x ∷ xs) zero = refl
      mapped (x ∷ xs) (suc i) = mapped xs i

  capacity_is : (w : ℕ) → capacity_at s w ≡ capacity_into net w
  capacity_is w = ap (λ o. option_map_or (λ (l : LinkValue). l.params.capacity) o 0) (link_is w) ∙ by (setup_into net w)
    where
      by : (o : Option LinkSetup) → option_map_or (λ (l : LinkValue). l.params.capacity) (option_map opened o) 0 ≡ option_map_or (λ (l : LinkSetup). l.params.capacity) o 0
      by None = refl
      by (Some setup) = refl

  garbage_is : (w : ℕ) → queued_at s w ≡ garbage_into net w
  garbage_is w = ap (λ o. option_map_or (λ (l : LinkValue). map (λ f. f.item) l.state.frames) o []) (link_is w) ∙ by (setup_into net w)
    where
      by : (o : Option LinkSetup) → option_map_or (λ (l : LinkValue). map (λ f. f.item) l.state.frames) (option_map opened o) [] ≡ option_map_or (λ (l : LinkSetup). start_items l.start) o []
      by None = refl
      by (Some setup) = refl

  -- at first nothing was offered, and each node has its opening
  backlog_is : (w parent : ℕ) (link : LinkValue) → parent_at s.parents w ≡ Some parent → link_into s w ≡ Some link → backlog s w ≡ received s parent
  backlog_is w parent link child there =
      ap (λ o. option_map_or (λ l. drop l.state.acked l.state.offered ++ drop (length l.state.offered) (source s w)) o []) (link_is w)
      ∙ by (setup_into net w) (sym (link_is w) ∙ there)
    where
      by : (o : Option LinkSetup) → option_map opened o ≡ Some link
          → option_map_or (λ l. drop l.state.acked l.state.offered ++ drop (length l.state.offered) (source s w)) (option_map opened o) [] ≡ received s parent
      by None is = absurd (none-some link is)
      by (Some setup) is = ap (λ o. option_map_or (λ q. received s q) o []) child

  opening_is : (w : ℕ) (link : LinkValue) → link_into s w ≡ Some link → received s w ≡ opening_at net.openings.lists w
  opening_is w link there =
      ap (λ o. option_map_or (λ l. opening_at net.openings.lists w ++ l.state.delivered) o net.published) (link_is w)
      ∙ by (setup_into net w) (sym (link_is w) ∙ there)
    where
      by : (o : Option LinkSetup) → option_map opened o ≡ Some link
          → option_map_or (λ l. opening_at net.openings.lists w ++ l.state.delivered) (option_map opened o) net.published ≡ opening_at net.openings.lists w
      by None is = absurd (none-some link is)
      by (Some setup) is = append-nil (opening_at net.openings.lists w)

module _ (obey : ObeysSince LinkLaw) (net : Network) (changes : List Change) (node : ℕ) (is : IsNetwork net)
    (is_node : node < length net.tree.parents) (spare : Spare net.tree.parents node changes) where
  abbrev start : WholeTree
  start = initial_tree net

  abbrev end : WholeTree
  end = changes_replay (initial_tree net) changes

  is_state : IsState net.tree start
  is_state = (opening_fed net is).is_state

  since : Since start end (OnPath start node) (OnPath start node)
  since = since_spared net.tree start changes node is_state is_node spare

  abbrev hold_of : ℕ → ℕ
  hold_of = hold_at net.tree.parents net.openings.hold

  abbrev more_strays : ℕ → ℕ
  more_strays w = capacity_into net w + hold_of w

  abbrev more_missing : ℕ → ℕ
  more_missing w = 2 * capacity_into net w + 1

  abbrev more_garbage : ℕ → List ℕ
  more_garbage w = opening_at net.openings.lists w ++ garbage_into net w

  abbrev KeepsAt : ℕ → ℕ → Type 0
  KeepsAt depth w =
      OnPath start node w
      → TreeLaw (sum_above net.tree.parents more_strays depth w) (sum_above net.tree.parents more_missing depth w)
      (lists_above net.tree.parents more_garbage depth w) end.published (received end w)

  has_link : (w parent : ℕ) → parent_at net.tree.parents w ≡ Some parent → (link : LinkValue) × (link_into start w ≡ Some link)
  has_link w parent child =
      elim (none_or_some (link_into start w)) [
        | inl none ↦
            let never : false ≡ true = sym (ap is_some none) ∙ (same_kind start.links start.parents w is_state.linked ∙ ap is_some child) in
            cc
        | inr some ↦ some
      ]

  -- between the lists of a parent and its child there is a link that obeys the law
  link_here : (w parent : ℕ) → OnPath start node w → parent_at net.tree.parents w ≡ Some parent
      → LawBetween LinkLaw (capacity_into net w) (garbage_into net w) (received end parent) (gained start end w)
  link_here w parent on child =
      let (link, there) = has_link w parent child in
      let law = link_since net.tree start is_state end (OnPath start node) (OnPath start node) (path_up start node) since LinkLaw obey w parent on child in
      let fed : backlog start w ++ gained start end parent ≡ received end parent =
      ap (λ xs. xs ++ gained start end parent) (backlog_is net w parent link child there)
      ∙ sym (front_and_rest (received start parent) (received end parent) (since.lists_grow parent (path_up start node w parent on child))) in
      subst (λ c. LawBetween LinkLaw c (garbage_into net w) (received end parent) (gained start end w)) (capacity_is net w)
      (subst (λ xs. LawBetween LinkLaw (capacity_at start w) xs (received end parent) (gained start end w)) (garbage_is net w)
      (subst (λ xs. LawBetween LinkLaw (capacity_at start w) (queued_at start w) xs (gained start end w)) fed law))

  below : (depth child parent : ℕ) → parent_at net.tree.parents child ≡ Some parent → KeepsAt depth parent → KeepsAt (suc depth) child
  below depth child parent is_child at_parent on =
      let (link, there) = has_link child parent is_child in
      let above = at_parent (path_up start node child parent on is_child) in
      let (offered, acked, begins, law) = link_here child parent on is_child in
      let opening : List ℕ = opening_at net.openings.lists child in
      let capacity : ℕ = capacity_into net child in
      let queued : List ℕ = garbage_into net child in
      let strays : ℕ = sum_above net.tree.parents more_strays depth parent in
      let missing : ℕ = sum_above net.tree.parents more_missing depth parent in
      let garbage : List ℕ = lists_above net.tree.parents more_garbage depth parent in
      let delivered : List ℕ = gained start end child in
      let short = (openings_fit net.tree.parents net.openings is.openings_fit).short child in
      let list : received end child ≡ opening ++ delivered =
      front_and_rest (received start child) (received end child) (since.lists_grow child on)
      ∙ ap (λ xs. xs ++ delivered) (opening_is net child link there) in
      let strays_are : sum_above net.tree.parents more_strays (suc depth) child ≡ capacity + hold_of child + strays =
      ap (λ o. more_strays child + option_map_or (sum_above net.tree.parents more_strays depth) o 0) is_child in
      let missing_are : sum_above net.tree.parents more_missing (suc depth) child ≡ 2 * capacity + 1 + missing =
      ap (λ o. more_missing child + option_map_or (sum_above net.tree.parents more_missing depth) o 0) is_child in
      let garbage_are : opening ++ (queued ++ garbage) ≡ lists_above net.tree.parents more_garbage (suc depth) child =
      sym (append_assoc opening queued garbage)
      ∙ ap (λ o. more_garbage child ++ option_map_or (lists_above net.tree.parents more_garbage depth) o []) (sym is_child) in
      subst (λ xs. TreeLaw (sum_above net.tree.parents more_strays (suc depth) child) (sum_above net.tree.parents more_missing (suc depth) child)
      (lists_above net.tree.parents more_garbage (suc depth) child) end.published xs) (sym list)
      (subst (λ xs. TreeLaw (sum_above net.tree.parents more_strays (suc depth) child) (sum_above net.tree.parents more_missing (suc depth) child)
      xs end.published (opening ++ delivered)) garbage_are
      (larger_bounds (strays + capacity + length opening) (sum_above net.tree.parents more_strays (suc depth) child) (missing + (2 * capacity + 1))
      (sum_above net.tree.parents more_missing (suc depth) child) (opening ++ (queued ++ garbage)) end.published (opening ++ delivered)
      (omega arith) (omega arith)
      (law_past_opening (strays + capacity) opening (queued ++ garbage) end.published delivered (missing + (2 * capacity + 1))
      (law_below capacity strays acked queued garbage end.published (received end parent) offered delivered begins missing above law))))

  at_root : received end (root_of net.tree.parents) ≡ end.published
  at_root =
      received_unlinked end (root_of net.tree.parents)
      (none_there (link_into end (root_of net.tree.parents)) refl)
    where
      none_there : (o : Option LinkValue) → link_into end (root_of net.tree.parents) ≡ o → link_into end (root_of net.tree.parents) ≡ None
      none_there None none = none
      none_there (Some link) there =
          let kinds : map is_some end.links ≡ map is_some net.tree.parents = kinds_stay start changes ∙ is_state.linked in
          let never : true ≡ false =
          sym (ap is_some there)
          ∙ (same_kind end.links net.tree.parents (root_of net.tree.parents) kinds ∙ ap is_some is.tree.root_has_none) in
          cc

  pub keeps_its_promise : TreeLaw (most_strays net node) (most_missing net node) (path_garbage net node) end.published (received end node)
  keeps_its_promise =
      rw (← sum_above-add net.tree.parents (capacity_into net) hold_of (depth_of net.tree.parents node) node)
      (holds_at_every_depth net.tree.parents is.tree KeepsAt
      (λ _. subst (λ xs. TreeLaw 0 0 [] end.published xs) (sym at_root) (root_law end.published)) below node is_node (0, refl))
