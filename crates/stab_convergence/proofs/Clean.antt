-- Once enough items are published in a node's count, and all is handed on, each link of its path has
-- acknowledged 2c + 2 of them.
use Rattle.std.proofs.Common.{◌≡◌, ℕ, zero, suc, ◌+◌, ◌-◌, ◌*◌, ◌<◌, ◌≤◌, List, [], ◌++◌, length, slice_index, Some, None, refl, ap, sym, ◌∙◌, subst, inl, inr, arith}
use Rattle.std.specs.Option.{option_map_or}
use Rattle.std.proofs.lemmas.Bool.{cases_lt}
use Rattle.std.proofs.lemmas.List.{length-append, length-map}
use Rattle.std.proofs.lemmas.Option.{none-some, same_Some}
use Rattle.stab_core.specs.Link.{LinkValue}
use Rattle.stab_core.specs.LinkLaw.{NoneMissingFrom, SharperLinkLaw}
use Rattle.stab_core.specs.Picks.{RisesFrom}
use Rattle.stab_core.proofs.ForCallers.{member_is_at}
use Rattle.stab_tree.specs.Nodes.{Nodes, parent_at, root_of}
use Rattle.stab_tree.specs.Steps.{Reaches, ancestor, depth_of}
use Rattle.stab_tree.proofs.Steps.{ancestor-none, ancestor-suc}
use Rattle.stab_tree.proofs.ForCallers.{child_is_deeper}
use Rattle.stab_tree.proofs.Trees.{tree_depths}
use Rattle.stab_treecore.specs.TreeLaw.{CompleteLaw}
use Rattle.stab_treecore.specs.WholeTree.{WholeTree, received}
use Rattle.stab_treecore.proofs.Members.{enough_up_to}
use Rattle.stab_treecore.proofs.SharperNodes.{peak_no_more}
use Rattle.stab_treecore.specs.declared.change.Change.{Change}
use Rattle.stab_treecore.specs.Changes.{changes_replay}
use Rattle.stab_treecore.specs.Hits.{Spare}
use Rattle.stab_treecore.specs.Moment.{fewest_since, missing_since, published_above, published_since}
use Rattle.stab_treecore.specs.Since.{IsState, acked_at, backlog, capacity_at, gained, moment}
use Rattle.stab_treecore.proofs.Kept.{none_or_some, OnPath, path_up}
use Rattle.stab_treecore.proofs.NodesSince.{feed_counts, sharper_complete_since, since_spared}
use Rattle.stab_treecore.proofs.Obeying.{ObeysSince}
use Rattle.stab_treecore.proofs.Beneath.{spare_up}
use Rattle.stab_convergence.specs.Converged.{HasConverged}
use Rattle.stab_convergence.specs.Exact.{IsPathClean}
use Rattle.stab_convergence.specs.Meanwhile.{IsEnough}
use Rattle.stab_convergence.proofs.Lags.{path_below}

-- where none below `bound` is missing but among the first `first` ones, there are at least
-- `bound - first` places
many_places : (first bound : ℕ) (places : List ℕ) → RisesFrom 0 places → NoneMissingFrom first bound places → bound ≤ first + length places
many_places first bound places rises all =
    elim (cases_lt first bound) [
      | inr none ↦ omega arith
      | inl some ↦
          let (k, there) = member_is_at places (bound - 1) (all (bound - 1) (omega arith) (omega arith)) in
          let counted : bound - 1 - first ≤ k =
          enough_up_to first (bound - 1 - first) bound (bound - 1) k places all rises (omega arith) (omega arith) there in
          omega (arith, counted, there.within)
    ]

-- a node of the complete law has as many items as are published, but for the first ones
pub has_most : (strays missing : ℕ) (garbage published list : List ℕ) → CompleteLaw strays missing garbage published list
    → length published ≤ missing + length list
has_most strays missing garbage published list (places, half, all) =
    omega (
      arith,
      many_places missing (length published) places half.taken_picked.rising all,
      ap (λ xs. length xs) half.parts,
      length-append half.strays half.taken,
      ap (λ xs. length xs) half.taken_picked.the_items,
      length-map places (λ place. slice_index published place),
    )

module _ (obey : ObeysSince SharperLinkLaw) (tree : Nodes) (s : WholeTree) (changes : List Change) (is : IsState tree s) where
  abbrev t : WholeTree
  t = changes_replay s changes

  abbrev fewest_of : ℕ → ℕ
  fewest_of w = fewest_since (moment s) w

  abbrev published_of : ℕ → List ℕ
  published_of w = published_since (moment s) (gained s t) w

  -- what is asked of a node
  record Asked (node : ℕ) : Type 0 where
    is_node : node < length s.parents
    spare : Spare s.parents node changes
    all : (w parent : ℕ) → OnPath s node w → parent_at s.parents w ≡ Some parent → acked_at t w ≡ length (received t parent)
    many : IsEnough s t node

  depth_below : (child parent : ℕ) → parent_at s.parents child ≡ Some parent → depth_of s.parents child ≡ suc (depth_of s.parents parent)
  depth_below child parent is_child =
      subst (λ ps. parent_at ps child ≡ Some parent → depth_of ps child ≡ suc (depth_of ps parent)) (sym is.parents)
      (child_is_deeper tree.parents is.is_tree child parent) is_child

  -- the node above has the same published, unless it is the root
  same_published : (child parent above : ℕ) → parent_at s.parents child ≡ Some parent → parent_at s.parents parent ≡ Some above
      → published_of child ≡ published_of parent
  same_published child parent above is_child has_parent =
      let deep : depth_of s.parents parent ≡ suc (depth_of s.parents above) = depth_below parent above has_parent in
      let deeper : depth_of s.parents child ≡ suc (suc (depth_of s.parents above)) = depth_below child parent is_child ∙ ap suc deep in
      ap (λ d. published_above (moment s) (gained s t) d child) deeper
      ∙ (ap (λ o. option_map_or (published_above (moment s) (gained s t) (suc (depth_of s.parents above))) o []) is_child
      ∙ ap (λ d. published_above (moment s) (gained s t) d parent) (sym deep))

  is_known : (child parent : ℕ) → parent_at s.parents child ≡ Some parent → parent < length s.parents
  is_known child parent is_child =
      subst (λ ps. parent_at ps child ≡ Some parent → parent < length ps) (sym is.parents) (is.is_tree.known_parents child parent) is_child

  on_path_above : (child parent w : ℕ) → parent_at s.parents child ≡ Some parent → OnPath s parent w → OnPath s child w
  on_path_above child parent w is_child (k, leads) = (suc k, ancestor-suc s.parents k child parent is_child ∙ leads)

  asked_above : (child parent above : ℕ) → parent_at s.parents child ≡ Some parent → parent_at s.parents parent ≡ Some above → Asked child → Asked parent
  asked_above child parent above is_child has_parent asked = record {
    is_node = is_known child parent is_child;
    spare = spare_up s.parents child parent is_child changes asked.spare;
    all = λ w up on. asked.all w up (on_path_above child parent w is_child on);
    many =
        λ w up on at.
        omega (
          arith,
          asked.many w up (on_path_above child parent w is_child on) at,
          ap (λ xs. length xs) (same_published child parent above is_child has_parent),
        );
  }

  -- so much is offered to a child as is published, but for the first items
  feed_is_long : (child parent : ℕ) → parent_at s.parents child ≡ Some parent → Asked child
      → length (published_of child) ≤ fewest_of parent + length (backlog s child ++ gained s t parent)
  feed_is_long child parent is_child asked =
      elim (none_or_some (parent_at s.parents parent)) [
        | inl none ↦
            let root : parent ≡ root_of s.parents =
            subst (λ ps. parent < length ps → parent_at ps parent ≡ None → parent ≡ root_of ps) (sym is.parents) (is.is_tree.one_root parent)
            (is_known child parent is_child) none in
            let flat : depth_of s.parents parent ≡ 0 = depth_of_root parent root in
            let one : depth_of s.parents child ≡ 1 = depth_below child parent is_child ∙ ap suc flat in
            let feed : published_of child ≡ backlog s child ++ gained s t parent =
            ap (λ d. published_above (moment s) (gained s t) d child) one ∙ ap (λ v. backlog s child ++ gained s t v) (sym root) in
            omega (arith, ap (λ xs. length xs) feed)
        | inr (above, has_parent) ↦
            let up = asked_above child parent above is_child has_parent asked in
            let (places, half, few, at_most) = sharper_complete_since tree s changes parent is up.is_node up.spare obey up.all in
            omega (
              arith,
              has_most _ (fewest_of parent) _ (published_of parent) (gained s t parent) (places, half, at_most),
              ap (λ xs. length xs) (same_published child parent above is_child has_parent),
              length-append (backlog s child) (gained s t parent),
            )
      ]
    where
      depth_of_root : (v : ℕ) → v ≡ root_of s.parents → depth_of s.parents v ≡ 0
      depth_of_root v at_root =
          subst (λ ps. v ≡ root_of ps → depth_of ps v ≡ 0) (sym is.parents)
          (λ here. subst (λ u. depth_of tree.parents u ≡ 0) (sym here) (tree_depths tree.parents is.is_tree).root_depth) at_root

  clean_link : (child parent : ℕ) → parent_at s.parents child ≡ Some parent → Asked child
      → acked_at s child + 2 * capacity_at s child + 2 ≤ acked_at t child
  clean_link child parent is_child asked =
      let since = since_spared tree s changes child is asked.is_node asked.spare in
      omega (
        arith,
        asked.many child parent (0, refl) is_child,
        feed_is_long child parent is_child asked,
        feed_counts tree s is t (OnPath s child) (OnPath s child) (path_up s child) since child parent (0, refl) is_child,
        asked.all child parent (0, refl) is_child,
      )

  clean_up : (k v w parent : ℕ) → Asked v → ancestor s.parents k v ≡ Some w → parent_at s.parents w ≡ Some parent
      → acked_at s w + 2 * capacity_at s w + 2 ≤ acked_at t w
  clean_up zero v w parent asked leads is_child =
      let here : v ≡ w = same_Some v w leads in
      subst (λ u. acked_at s u + 2 * capacity_at s u + 2 ≤ acked_at t u) here
      (clean_link v parent (ap (λ u. parent_at s.parents u) here ∙ is_child) asked)
  clean_up (suc k) v w parent asked leads is_child =
      elim (none_or_some (parent_at s.parents v)) [
        | inl none ↦
            let never : None ≡ Some w = sym (ancestor-none s.parents k v none) ∙ leads in
            absurd (none-some w never)
        | inr (u, has_parent) ↦
            let rest : ancestor s.parents k u ≡ Some w = sym (ancestor-suc s.parents k v u has_parent) ∙ leads in
            let (above, next) = has_above k u w parent rest is_child in
            clean_up k u w parent (asked_above v u above has_parent next asked) rest is_child
      ]
    where
      -- a node beneath one that has a parent has a parent
      has_above : (steps u w parent : ℕ) → ancestor s.parents steps u ≡ Some w → parent_at s.parents w ≡ Some parent
          → (above : ℕ) × (parent_at s.parents u ≡ Some above)
      has_above zero u w parent leads is_child = (parent, ap (λ v. parent_at s.parents v) (same_Some u w leads) ∙ is_child)
      has_above (suc steps) u w parent leads is_child =
          elim (none_or_some (parent_at s.parents u)) [
            | inl none ↦
                let never : None ≡ Some w = sym (ancestor-none s.parents steps u none) ∙ leads in
                absurd (none-some w never)
            | inr some ↦ some
          ]

  -- each link of the path of such a node
  pub path_is_clean : (node : ℕ) → node < length s.parents → Spare s.parents node changes
      → ((w parent : ℕ) → OnPath s node w → parent_at s.parents w ≡ Some parent → acked_at t w ≡ length (received t parent))
      → IsEnough s t node → (w parent : ℕ) → Reaches s.parents node w → parent_at s.parents w ≡ Some parent
      → acked_at s w + 2 * capacity_at s w + 2 ≤ acked_at t w
  path_is_clean node is_node spare all many w parent on is_child =
      clean_up on.0 node w parent (record { is_node = is_node; spare = spare; all = all; many = many }) on.1 is_child

-- so each link of the path of a node that has come back
pub clean_by_then : ObeysSince SharperLinkLaw → (tree : Nodes) (s : WholeTree) (changes : List Change) (node : ℕ) → IsState tree s
    → node < length s.parents → Spare s.parents node changes → let t = changes_replay s changes in
    HasConverged s t node → IsEnough s t node → IsPathClean s t node
clean_by_then obey tree s changes node is is_node spare converged many =
    let t = changes_replay s changes in
    let same : t.parents ≡ s.parents = (since_spared tree s changes node is is_node spare).parents_stay in
    path_is_clean obey tree s changes is node is_node spare
    (λ w parent on is_child.
    let (link, there, all, empty) =
    converged.handed_on w parent (subst (λ ps. Reaches ps node w) (sym same) on) (ap (λ ps. parent_at ps w) same ∙ is_child) in
    ap (λ o. option_map_or (λ (l : LinkValue). l.state.acked) o 0) there ∙ all)
    many

-- more items than may be missing at the node are enough
pub more_than_missing : (tree : Nodes) (s m : WholeTree) (node : ℕ) → IsState tree s
    → missing_since (moment s) node < length (published_since (moment s) (gained s m) node) → IsEnough s m node
more_than_missing tree s m node is many w parent (steps, leads) is_child =
    omega (arith, many, no_fewer steps node leads, more_missing w parent is_child, no_more_above)
  where
    more_missing : (child above : ℕ) → parent_at s.parents child ≡ Some above
        → missing_since (moment s) child ≡ 2 * capacity_at s child + 1 + missing_since (moment s) above
    more_missing child above is_child = path_below tree s is (λ v. 2 * capacity_at s v + 1) child above is_child

    no_more_above : fewest_since (moment s) parent ≤ missing_since (moment s) parent
    no_more_above = peak_no_more s.parents (capacity_at s) (depth_of s.parents parent) parent

    -- no more may be missing above
    no_fewer : (k v : ℕ) → ancestor s.parents k v ≡ Some w → missing_since (moment s) w ≤ missing_since (moment s) v
    no_fewer zero v here = subst (λ u. missing_since (moment s) w ≤ missing_since (moment s) u) (sym (same_Some v w here)) (omega arith)
    no_fewer (suc k) v up =
        elim (none_or_some (parent_at s.parents v)) [
          | inl none ↦ absurd (none-some w (sym (ancestor-none s.parents k v none) ∙ up))
          | inr (u, has_parent) ↦
              omega (arith, no_fewer k u (sym (ancestor-suc s.parents k v u has_parent) ∙ up), more_missing v u has_parent)
        ]
