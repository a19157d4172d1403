-- After `rounds_since` rounds of a node's path, counted at a moment, the node has all that was
-- published before, whatever is published meanwhile: it has what it would have after the acts
-- alone, and more behind.
use Rattle.std.proofs.Common.{◌≡◌, ℕ, zero, suc, ◌+◌, ◌<◌, ◌≤◌, inl, inr, List, [], ◌++◌, length, drop, Option, Some, None, refl, ap, sym, ◌∙◌, subst, arith}
use mathlib.Core.List.{IsPrefix}
use Rattle.std.specs.Option.{option_map_or}
use Rattle.std.proofs.lemmas.List.{length-append, length-drop, nil_from_length}
use Rattle.std.proofs.lemmas.Option.{same_Some}
use Rattle.stab_core.specs.Link.{LinkValue, link_at}
use Rattle.stab_core.specs.LinkLaw.{LinkLaw, SharperLinkLaw}
use Rattle.stab_core.proofs.Shifted.{after_all}
use Rattle.stab_tree.specs.Nodes.{Nodes, parent_at, root_of}
use Rattle.stab_tree.specs.Steps.{Reaches, depth_of}
use Rattle.stab_tree.proofs.ForCallers.{child_is_deeper}
use Rattle.stab_treecore.specs.TreeReplay.{tree_replay}
use Rattle.stab_treecore.specs.WholeTree.{WholeTree, received}
use Rattle.stab_treecore.specs.declared.change.Change.{Change}
use Rattle.stab_treecore.specs.Changes.{changes_replay}
use Rattle.stab_treecore.specs.Hits.{Spare}
use Rattle.stab_treecore.specs.Moment.{Moment, SharperCompleteSince, fewest_since, garbage_since, missing_since, published_above, published_since, strays_since}
use Rattle.stab_treecore.specs.Since.{IsState, acked_at, capacity_at, gained, moment}
use Rattle.stab_treecore.proofs.Contained.{changes-append}
use Rattle.stab_treecore.proofs.Grown.{dropped_front, prefix_no_longer}
use Rattle.stab_treecore.proofs.Kept.{none_or_some, OnPath, path_up}
use Rattle.stab_treecore.proofs.NodesSince.{sharper_complete_since, since_spared}
use Rattle.stab_treecore.proofs.Obeying.{ObeysSince, PassesOnExactly}
use Rattle.stab_treecore.specs.Paths.{path_sum}
use Rattle.stab_treecore.specs.SharperLaw.{SharperCompleteLaw}
use Rattle.stab_treecore.specs.TreeLaw.{CompleteLaw}
use Rattle.stab_rounds.specs.Kinds.{Kind}
use Rattle.stab_rounds.proofs.TreeSteps.{replay_append, root_has}
use Rattle.stab_convergence.specs.Converged.{HasConverged, IsPathHandedOn}
use Rattle.stab_convergence.specs.Exact.{IsPathClean}
use Rattle.stab_convergence.specs.Meanwhile.{HasAllBefore, IsEnough}
use Rattle.stab_convergence.specs.PathRounds.{acts_among, IsPathOpen, PathRounds, TakesAtMost, rounds_since}
use Rattle.stab_convergence.proofs.Ahead.{Ahead, acked_no_less, ahead_of_acts, front, links_stay, lists_stay, past, root_list, same}
use Rattle.stab_convergence.proofs.Converges.{converges}
use Rattle.stab_convergence.proofs.Clean.{clean_by_then}
use Rattle.stab_convergence.proofs.Settled.{whole_front}
use Rattle.stab_convergence.proofs.Onwards.{all_beyond, beyond_down}
use Rattle.stab_convergence.proofs.Lags.{fixed_at, state_is_sound}
use Rattle.stab_convergence.proofs.Acts.{acts-append, acts_replayed, acts_spare, as_changes, spare_both, spare_first, spare_later}

same_above : (f g : ℕ → List ℕ) → ((w : ℕ) → f w ≡ g w) → (o : Option ℕ) → option_map_or f o [] ≡ option_map_or g o []
same_above f g equal None = refl
same_above f g equal (Some w) = equal w

-- what is published for a node is told by what its root gained
published_alike : (m : Moment) (g h : ℕ → List ℕ) → g (root_of m.parents) ≡ h (root_of m.parents) → (count w : ℕ)
    → (count ≡ 0 → w ≡ root_of m.parents) → published_above m g count w ≡ published_above m h count w
published_alike m g h equal zero w at_root = ap g (at_root refl) ∙ (equal ∙ ap h (sym (at_root refl)))
published_alike m g h equal (suc zero) w at_root = ap (λ xs. m.backlog w ++ xs) equal
published_alike m g h equal (suc (suc count)) w at_root =
    same_above (published_above m g (suc count)) (published_above m h (suc count))
    (λ parent. published_alike m g h equal (suc count) parent (λ never. absurd (omega (arith, never)))) (parent_at m.parents w)

module _ (obey : ObeysSince LinkLaw) (sharper : ObeysSince SharperLinkLaw) (exactly : PassesOnExactly) (tree : Nodes) (s : WholeTree) (before after later : List Change) (node : ℕ)
    (is : IsState tree s) (is_node : node < length s.parents) (spare : Spare s.parents node (before ++ (after ++ later)))
    (is_middle : IsState tree (changes_replay s before)) where
  abbrev m : WholeTree
  m = changes_replay s before

  abbrev t : WholeTree
  t = changes_replay m (after ++ later)

  -- the tree after the acts alone
  abbrev acted : WholeTree
  acted = tree_replay m (acts_among (after ++ later))

  abbrev acts : List Change
  acts = as_changes (acts_among (after ++ later))

  same_parents : m.parents ≡ s.parents
  same_parents = (since_spared tree s before node is is_node (spare_first s.parents node before (after ++ later) spare)).parents_stay

  middle_node : node < length m.parents
  middle_node = subst (λ ps. node < length ps) (sym same_parents) is_node

  middle_spare : Spare m.parents node (after ++ later)
  middle_spare = subst (λ ps. Spare ps node (after ++ later)) (sym same_parents) (spare_later s.parents node before (after ++ later) spare)

  ahead : Ahead tree m is_middle node middle_node t acted
  ahead = ahead_of_acts tree m is_middle node middle_node (after ++ later) middle_spare

  whole : changes_replay s (before ++ acts) ≡ acted
  whole = changes-append s before acts ∙ acts_replayed m (acts_among (after ++ later))

  acts_spared : Spare s.parents node (before ++ acts)
  acts_spared =
      spare_both s.parents node before acts (spare_first s.parents node before (after ++ later) spare)
      (acts_spare s.parents node (acts_among (after ++ later)))

  module _ (kind : Kind) (each rounds : ℕ) (is_open : IsPathOpen (changes_replay m after) node) (few : TakesAtMost kind each m node)
      (are_rounds : PathRounds kind m node rounds after) (enough : rounds_since each (moment m) node ≤ rounds) where
    -- at the end of the rounds
    acted_open : IsPathOpen (tree_replay m (acts_among after)) node
    acted_open w link on there =
        let first = ahead_of_acts tree m is_middle node middle_node after (spare_first m.parents node after later middle_spare) in
        let first_on : OnPath m node w = subst (λ ps. Reaches ps node w) first.sound.parents_stay on in
        let last_on : Reaches (changes_replay m after).parents node w = subst (λ ps. Reaches ps node w) (sym first.first_parents) first_on in
        elim (first.links w first_on) [
          | same equal ↦ is_open w link last_on (equal ∙ there)
          | past u p x y child at_a at_t is_past drained all more parted ↦
              let its : link ≡ link_at p x = same_Some link (link_at p x) (sym there ∙ at_a) in
              ap (λ (l : LinkValue). l.state.closed) its ∙ (sym is_past.closed ∙ is_open w (link_at p y) last_on at_t)
        ]

    converged : HasConverged s acted node
    converged =
        subst (λ u. HasConverged s u node)
        (sym (ap (tree_replay m) (acts-append after later) ∙ replay_append m (acts_among after) (acts_among later)))
        (converges obey kind each tree s before after (acts_among later) rounds node is is_node (spare_first s.parents node before (after ++ later) spare) is_middle
        acted_open few are_rounds enough)

    -- nothing is published for it
    root_stays : gained s acted (root_of s.parents) ≡ gained s m (root_of s.parents)
    root_stays =
        let root : ℕ = root_of s.parents in
        let none : parent_at m.parents (root_of s.parents) ≡ None =
        subst (λ ps. parent_at ps (root_of s.parents) ≡ None) (sym same_parents)
        (subst (λ ps. parent_at ps (root_of ps) ≡ None) (sym is.parents) is.is_tree.root_has_none) in
        ap (λ xs. drop (length (received s (root_of s.parents))) xs)
        (root_has (fixed_at tree m is_middle) acted ahead.sound (root_of s.parents) none
        ∙ sym (root_has (fixed_at tree m is_middle) m (state_is_sound tree m is_middle) (root_of s.parents) none))

    flat_is_root : depth_of s.parents node ≡ 0 → node ≡ root_of s.parents
    flat_is_root flat =
        elim (none_or_some (parent_at s.parents node)) [
          | inl none ↦
              subst (λ ps. node < length ps → parent_at ps node ≡ None → node ≡ root_of ps) (sym is.parents) (is.is_tree.one_root node) is_node none
          | inr (parent, is_child) ↦
              let deeper : depth_of s.parents node ≡ suc (depth_of s.parents parent) =
              subst (λ ps. parent_at ps node ≡ Some parent → depth_of ps node ≡ suc (depth_of ps parent)) (sym is.parents)
              (child_is_deeper tree.parents is.is_tree node parent) is_child in
              absurd (omega (arith, flat, deeper))
        ]

    published_same : published_since (moment s) (gained s acted) node ≡ published_since (moment s) (gained s m) node
    published_same = published_alike (moment s) (gained s acted) (gained s m) root_stays (depth_of s.parents node) node flat_is_root

    reaches : Reaches m.parents node (root_of m.parents)
    reaches =
        subst (λ ps. node < length ps → Reaches ps node (root_of ps)) (sym is_middle.parents) (is_middle.is_tree.reaches_root node) middle_node

    root_has_none : parent_at m.parents (root_of m.parents) ≡ None
    root_has_none = subst (λ ps. parent_at ps (root_of ps) ≡ None) (sym is_middle.parents) is_middle.is_tree.root_has_none

    root_same : received acted (root_of m.parents) ≡ received m (root_of m.parents)
    root_same =
        root_has (fixed_at tree m is_middle) acted ahead.sound (root_of m.parents) root_has_none
        ∙ sym (root_has (fixed_at tree m is_middle) m (state_is_sound tree m is_middle) (root_of m.parents) root_has_none)

    -- what the node and the root have beyond what they have after the acts alone
    abbrev beyond_acts : List ℕ
    beyond_acts = drop (length (received acted node)) (received t node)

    root_beyond : drop (length (received acted (root_of m.parents))) (received t (root_of m.parents)) ≡ gained m t (root_of t.parents)
    root_beyond =
        ap (λ xs. drop (length xs) (received t (root_of m.parents))) root_same
        ∙ ap (λ ps. gained m t (root_of ps)) (sym ahead.first_parents)

    -- the acts alone leave no more missing than the sharper law allows
    acted_sharper : SharperCompleteSince (moment s) (gained s acted) node
    acted_sharper =
        subst (λ u. ((w parent : ℕ) → OnPath s node w → parent_at s.parents w ≡ Some parent → acked_at u w ≡ length (received u parent))
        → SharperCompleteSince (moment s) (gained s u) node) whole
        (sharper_complete_since tree s (before ++ acts) node is is_node acts_spared sharper)
        (λ w parent on is_child.
        let parents_stay : acted.parents ≡ s.parents = ahead.sound.parents_stay ∙ same_parents in
        let (link, there, all, empty) =
        converged.handed_on w parent (subst (λ ps. Reaches ps node w) (sym parents_stay) on) (ap (λ ps. parent_at ps w) parents_stay ∙ is_child) in
        ap (λ o. option_map_or (λ (l : LinkValue). l.state.acked) o 0) there ∙ all)

    -- if enough was published, the path was clean by then
    module _ (many : IsEnough s m node) where
      acted_clean : IsPathClean s acted node
      acted_clean =
          subst (λ u. HasConverged s u node → IsEnough s u node → IsPathClean s u node) whole
          (clean_by_then sharper tree s (before ++ acts) node is is_node acts_spared) converged
          (λ w parent on is_child. omega (arith, many w parent on is_child, ap (λ xs. length xs) published_same))

      is_clean : IsPathClean s t node
      is_clean w parent on is_child =
          let first_on : OnPath m node w = subst (λ ps. Reaches ps node w) (sym same_parents) on in
          omega (arith, acted_clean w parent on is_child, acked_no_less tree m is_middle node middle_node t acted ahead w first_on)

      -- so the node receives exactly what its root has beyond
      from_root : IsPrefix beyond_acts (gained m t (root_of t.parents))
      from_root =
          subst (λ xs. IsPrefix beyond_acts xs) root_beyond
          (beyond_down exactly tree s m is is_middle node middle_node
          (since_spared tree s before node is is_node (spare_first s.parents node before (after ++ later) spare)) t (acts_among (after ++ later)) ahead
          (since_spared tree m (after ++ later) node is_middle middle_node middle_spare) acted_clean reaches.0 node (0, refl) reaches.1)

      all_from_root : IsPathHandedOn t node → beyond_acts ≡ gained m t (root_of t.parents)
      all_from_root full =
          all_beyond exactly tree s m is is_middle node middle_node
          (since_spared tree s before node is is_node (spare_first s.parents node before (after ++ later) spare)) t (acts_among (after ++ later)) ahead
          (since_spared tree m (after ++ later) node is_middle middle_node middle_spare) acted_clean
          (λ w u on is_child.
          let (link, there, acked, empty) =
          full w u (subst (λ ps. Reaches ps node w) (sym ahead.first_parents) on) (ap (λ ps. parent_at ps w) ahead.first_parents ∙ is_child) in
          ap (λ o. option_map_or (λ (l : LinkValue). l.state.acked) o 0) there ∙ acked)
          reaches.0 node (0, refl) reaches.1 ∙ root_beyond

    -- where nothing was published, the path is as after the acts alone
    path_handed_on : gained m t (root_of t.parents) ≡ [] → (received acted node ≡ received t node) × IsPathHandedOn t node
    path_handed_on nothing =
        let root_m : received m (root_of m.parents) ≡ m.published =
        root_has (fixed_at tree m is_middle) m (state_is_sound tree m is_middle) (root_of m.parents) root_has_none in
        let root_t : received t (root_of m.parents) ≡ t.published = root_list tree m is_middle node middle_node t acted ahead (root_of m.parents) reaches root_has_none in
        let rest : gained m t (root_of m.parents) ≡ [] = subst (λ ps. gained m t (root_of ps) ≡ []) ahead.first_parents nothing in
        let few : length (received t (root_of m.parents)) ≤ length (received m (root_of m.parents)) =
        omega (arith, ap length rest, length-drop (length (received m (root_of m.parents))) (received t (root_of m.parents))) in
        let same_published : acted.published ≡ t.published =
        whole_front acted.published t.published ahead.published
        (omega (arith, few, ap length root_m, ap length root_t, ap length ahead.sound.published_stay)) in (
          lists_stay tree m is_middle node middle_node t acted ahead same_published node (0, refl),
          λ w parent on is_child.
              let first_on : OnPath m node w = subst (λ ps. Reaches ps node w) ahead.first_parents on in
              let acted_parents : acted.parents ≡ t.parents = ahead.sound.parents_stay ∙ sym ahead.first_parents in
              let (link, there, all, empty) =
              converged.handed_on w parent (subst (λ ps. Reaches ps node w) (sym acted_parents) on) (ap (λ ps. parent_at ps w) acted_parents ∙ is_child) in
              let up_on : OnPath m node parent = path_up m node w parent first_on (ap (λ ps. parent_at ps w) (sym ahead.first_parents) ∙ is_child) in (
                link,
                links_stay tree m is_middle node middle_node t acted ahead same_published w first_on ∙ there,
                all ∙ ap length (lists_stay tree m is_middle node middle_node t acted ahead same_published parent up_on),
                empty,
              ),
        )

    pub has_all_before : HasAllBefore s m t node
    has_all_before =
        let (rest, is_front) : IsPrefix (received acted node) (received t node) = front tree m is_middle node middle_node t acted ahead node (0, refl) in
        let grown : IsPrefix (received s node) (received acted node) =
        subst (λ u. IsPrefix (received s node) (received u node)) whole
        ((since_spared tree s (before ++ acts) node is is_node acts_spared).lists_grow node (0, refl)) in
        let rest_is : beyond_acts ≡ rest =
        ap (λ xs. drop (length (received acted node)) xs) (sym is_front) ∙ after_all (received acted node) rest in
        record {
          front = gained s acted node;
          later = rest;
          parts =
              ap (λ xs. drop (length (received s node)) xs) (sym is_front)
              ∙ dropped_front (length (received s node)) (received acted node) rest (prefix_no_longer (received s node) (received acted node) grown);
          complete =
              subst (λ xs. CompleteLaw (strays_since (moment s) node) (missing_since (moment s) node) (garbage_since (moment s) node) xs (gained s acted node))
              published_same converged.complete;
          sharper =
              subst (λ xs. SharperCompleteLaw (strays_since (moment s) node) (path_sum s.parents (λ w. capacity_at s w + 1) node)
              (fewest_since (moment s) node) (garbage_since (moment s) node) xs (gained s acted node)) published_same acted_sharper;
          exact = λ many. subst (λ xs. IsPrefix xs (gained m t (root_of t.parents))) rest_is (from_root many);
          all = λ many full. sym rest_is ∙ all_from_root many full;
          clean = is_clean;
          handed_on =
              λ nothing.
              let (equal, handed) = path_handed_on nothing in
              (nil_from_length rest (omega (arith, ap length equal, ap length is_front, length-append (received acted node) rest)), handed);
        }
