-- What one fault costs in a tree at rest.
use Rattle.std.proofs.Common.{◌≡◌, ◌≢◌, ◌==◌, ℕ, zero, suc, ◌+◌, ◌*◌, ◌<◌, ◌≤◌, List, [], ◌∷◌, ◌++◌, length, drop, get_or, set, Option, Some, None, option_and_then, Bool, true, false, if◌then◌else◌, inl, inr, refl, ap, ap₂, sym, ◌∙◌, subst, arith, append_assoc, eq-eqb}
use Rattle.std.specs.Option.{option_map_or}
use Rattle.std.proofs.lemmas.List.{append-nil, length-drop, nil_from_length, get_or-set_other}
use Rattle.std.proofs.lemmas.Option.{none-some, same_Some}
use mathlib.Core.List.{IsPrefix}
use Rattle.stab_core.specs.declared.start.Start.{Start}
use Rattle.stab_core.specs.Faults.{struck}
use Rattle.stab_core.specs.Link.{LinkValue}
use Rattle.stab_core.specs.LinkLaw.{LinkLaw}
use Rattle.stab_core.specs.LinkState.{LinkState}
use Rattle.stab_core.proofs.ForCallers.{prefix_of_itself, prefix_of_prefix}
use Rattle.stab_tree.specs.IsTree.{IsRooted}
use Rattle.stab_tree.specs.NodeOpenings.{opening_at}
use Rattle.stab_tree.specs.Nodes.{Nodes, parent_at, root_of}
use Rattle.stab_tree.specs.Steps.{Reaches, ancestor}
use Rattle.stab_tree.proofs.Steps.{child_is_node, steps_once}
use Rattle.stab_treecore.specs.declared.change.Change.{Change}
use Rattle.stab_treecore.specs.declared.change.Change.TheVariants.{Act, Publish, Restart, Strike}
use Rattle.stab_treecore.specs.Changes.{changes_replay}
use Rattle.stab_treecore.specs.Faults.{begun_anew, is_parent, restarted_at, restarted_tree, struck_at, struck_tree}
use Rattle.stab_treecore.specs.Hits.{Hits, Spare, SpareLink, TouchesLink}
use Rattle.stab_treecore.specs.Paths.{lists_above, sum_above}
use Rattle.stab_treecore.specs.Since.{IsState, acked_at, backlog, capacity_at, gained, queued_at}
use Rattle.stab_treecore.specs.TreeLaw.{TreeLaw}
use Rattle.stab_treecore.specs.WholeTree.{WholeTree, link_into, received, source}
use Rattle.stab_treecore.proofs.Contained.{changes-append}
use Rattle.stab_treecore.proofs.ForChanges.{differ, happened_at, larger_bounds, law_below, root_law, unchosen}
use Rattle.stab_treecore.proofs.Happened.{then_is}
use Rattle.stab_treecore.proofs.Kept.{none_or_some, OnPath, Since, path_up}
use Rattle.stab_treecore.proofs.NodesSince.{has_link, link_since, since_spared}
use Rattle.stab_treecore.proofs.Obeying.{ObeysSince}
use Rattle.stab_convergence.specs.AtRest.{HasNoFault, IsAtRest}
use Rattle.stab_convergence.specs.Exact.{IsExact, IsPathClean, IsWaiting, PassesAll}
use Rattle.stab_convergence.proofs.Beneath.{beneath_exact, exactly_above}
use Rattle.stab_convergence.proofs.Exactly.{all_acked}
use Rattle.stab_convergence.proofs.Fronts.{front_law}
use Rattle.stab_convergence.proofs.Settled.{passes_all}

-- ---- what hits nothing

spare_steps : (parents : List (Option ℕ)) (node : ℕ) (changes : List Change) → HasNoFault changes → Spare parents node changes
spare_steps parents node [] none = tt
spare_steps parents node (Act e ∷ changes) none = ((λ hit. hit), spare_steps parents node changes none)
spare_steps parents node (Publish items ∷ changes) none = ((λ hit. hit), spare_steps parents node changes none)
spare_steps parents node (Strike child start ∷ changes) none = absurd none
spare_steps parents node (Restart other list ∷ changes) none = absurd none

spare_link_steps : (parents : List (Option ℕ)) (w : ℕ) (changes : List Change) → HasNoFault changes → SpareLink parents w changes
spare_link_steps parents w [] none = tt
spare_link_steps parents w (Act e ∷ changes) none = ((λ hit. hit), spare_link_steps parents w changes none)
spare_link_steps parents w (Publish items ∷ changes) none = ((λ hit. hit), spare_link_steps parents w changes none)
spare_link_steps parents w (Strike child start ∷ changes) none = absurd none
spare_link_steps parents w (Restart other list ∷ changes) none = absurd none

spare_joined : (parents : List (Option ℕ)) (node : ℕ) (first second : List Change) → Spare parents node first → Spare parents node second
    → Spare parents node (first ++ second)
spare_joined parents node [] second one other = other
spare_joined parents node (change ∷ changes) second one other = (one.0, spare_joined parents node changes second one.1 other)

spare_link_joined : (parents : List (Option ℕ)) (w : ℕ) (first second : List Change) → SpareLink parents w first → SpareLink parents w second
    → SpareLink parents w (first ++ second)
spare_link_joined parents w [] second one other = other
spare_link_joined parents w (change ∷ changes) second one other = (one.0, spare_link_joined parents w changes second one.1 other)

-- ---- no node is above itself

-- steps, and then more of them
further : (ps : List (Option ℕ)) (k n w v r : ℕ) → ancestor ps k w ≡ Some v → ancestor ps n v ≡ Some r
    → (j : ℕ) × (j ≡ k + n) × (ancestor ps j w ≡ Some r)
further ps zero n w v r here top = (n, omega arith, ap (ancestor ps n) (same_Some w v here) ∙ top)
further ps (suc k) n w v r leads top =
    elim (none_or_some (parent_at ps w)) [
      | inl none ↦ absurd (none-some v (sym (ap (λ o. option_and_then (ancestor ps k) o) none) ∙ leads))
      | inr (p, is_child) ↦
          let (j, many, reached) = further ps k n p v r (sym (ap (λ o. option_and_then (ancestor ps k) o) is_child) ∙ leads) top in
          (suc j, omega (arith, many), ap (λ o. option_and_then (ancestor ps j) o) is_child ∙ reached)
    ]

no_circle : (ps : List (Option ℕ)) → IsRooted ps → (w : ℕ) → w < length ps → (k : ℕ) → ancestor ps (suc k) w ≡ Some w → ⊥
no_circle ps is w within k around =
    let (n, top) = is.reaches_root w within in
    let (j, many, longer) = further ps (suc k) n w w (root_of ps) around top in
    let same : j ≡ n = steps_once ps j n w (root_of ps) (root_of ps) longer is.root_has_none top is.root_has_none in
    omega (arith, same, many)

-- a parent is not beneath its child
not_beneath : (ps : List (Option ℕ)) → IsRooted ps → (w parent : ℕ) → parent_at ps w ≡ Some parent → (k : ℕ) → ancestor ps k parent ≡ Some w → ⊥
not_beneath ps is w parent is_child k leads =
    no_circle ps is w (child_is_node ps w parent is_child) k (ap (λ o. option_and_then (ancestor ps k) o) is_child ∙ leads)

-- ---- lists

-- where all is acknowledged, nothing waits
no_backlog : (tree : Nodes) (t : WholeTree) → IsState tree t → (w parent : ℕ) → parent_at t.parents w ≡ Some parent
    → acked_at t w ≡ length (received t parent) → backlog t w ≡ []
no_backlog tree t is w parent is_child all =
    let (link, there) = has_link tree t is w parent is_child in
    let (lawful, bounded) = is.bounded w link there in
    let within = is.within w parent link is_child there in
    let offered_all = bounded.acked_were_offered in
    let acked : acked_at t w ≡ link.state.acked = ap (λ o. option_map_or (λ (l : LinkValue). l.state.acked) o 0) there in
    let held : drop link.state.acked link.state.offered ≡ [] =
    nil_from_length (drop link.state.acked link.state.offered)
    (omega (arith, length-drop link.state.acked link.state.offered, within, all, acked)) in
    let next : drop (length link.state.offered) (received t parent) ≡ [] =
    nil_from_length (drop (length link.state.offered) (received t parent))
    (omega (arith, length-drop (length link.state.offered) (received t parent), offered_all, all, acked)) in
    ap (λ o. option_map_or (λ (l : LinkValue). drop l.state.acked l.state.offered ++ drop (length l.state.offered) (source t w)) o []) there
    ∙ (ap (λ o. drop link.state.acked link.state.offered ++ drop (length link.state.offered) (option_map_or (λ p. received t p) o [])) is_child
    ∙ ap₂ (λ xs ys. xs ++ ys) held next)

-- nor on a path
nothing_waits : (t : WholeTree) (steps node : ℕ) (items : List ℕ)
    → ((x p : ℕ) → Reaches t.parents node x → parent_at t.parents x ≡ Some p → acked_at t x ≡ length (received t p))
    → IsWaiting t steps node items → items ≡ []
nothing_waits t zero node items all (none, is) = is
nothing_waits t (suc steps) node items all (parent, from, above, is_child, no_earlier, no_later, is, rest) =
    let here = all node parent (0, refl) is_child in
    let held : drop from (received t parent) ≡ [] =
    nil_from_length (drop from (received t parent)) (omega (arith, length-drop from (received t parent), here, no_earlier)) in
    let up : above ≡ [] =
    nothing_waits t steps parent above
    (λ x p (k, leads) has. all x p (suc k, ap (λ o. option_and_then (ancestor t.parents k) o) is_child ∙ leads) has) rest in
    is ∙ ap₂ (λ xs ys. xs ++ ys) held up

-- ---- beneath a node whose links down from there pass on exactly

module _ (tree : Nodes) (s : WholeTree) (before after : List Change) (is : IsState tree s) where
  abbrev f : WholeTree
  f = changes_replay s before

  abbrev t : WholeTree
  t = changes_replay f after

  -- what makes a link pass on exactly
  abbrev IsSettled : ℕ → ℕ → Type 0
  IsSettled x p =
      SpareLink s.parents x before × (acked_at s x + 2 * capacity_at s x + 2 ≤ acked_at f x) × (acked_at f x ≡ length (received f p))

  fronts : (top : ℕ) → HasNoFault after
      → ((x p k : ℕ) → parent_at s.parents x ≡ Some p → ancestor s.parents k p ≡ Some top → IsSettled x p)
      → (steps node : ℕ) → ancestor s.parents steps node ≡ Some top → IsPrefix (gained f t node) (gained f t top)
  fronts top none settled zero node here =
      subst (λ v. IsPrefix (gained f t node) (gained f t v)) (same_Some node top here) (prefix_of_itself (gained f t node))
  fronts top none settled (suc steps) node leads =
      elim (none_or_some (parent_at s.parents node)) [
        | inl no_parent ↦ absurd (none-some top (sym (ap (λ o. option_and_then (ancestor s.parents steps) o) no_parent) ∙ leads))
        | inr (p, is_child) ↦
            let from_there : ancestor s.parents steps p ≡ Some top =
            sym (ap (λ o. option_and_then (ancestor s.parents steps) o) is_child) ∙ leads in
            let (spare, clean, all) = settled node p steps is_child from_there in
            let passes : PassesAll f t node p =
            passes_all tree s before after node p is is_child spare (spare_link_steps s.parents node after none) clean all in
            prefix_of_prefix (gained f t node) (gained f t p) (gained f t top) passes.in_order
            (fronts top none settled steps p from_there)
      ]

-- ---- a strike

struck_acked : (start : Start) (b : Bool) (l : LinkState) → (if b then struck start l else l).acked ≡ l.acked
struck_acked start true l = refl
struck_acked start false l = refl

struck_delivered : (start : Start) (b : Bool) (l : LinkState) → (if b then struck start l else l).delivered ≡ l.delivered
struck_delivered start true l = refl
struck_delivered start false l = refl

acked_struck : (m : WholeTree) (w : ℕ) (start : Start) (x : ℕ) → acked_at (struck_tree m w start) x ≡ acked_at m x
acked_struck m w start x =
    ap (λ o. option_map_or (λ (l : LinkValue). l.state.acked) o 0) (happened_at (struck_at w start) m.links x) ∙ by (get_or m.links x None)
  where
    by : (o : Option LinkValue) → option_map_or (λ (l : LinkValue). l.state.acked) (then_is (struck_at w start x) o) 0
        ≡ option_map_or (λ (l : LinkValue). l.state.acked) o 0
    by None = refl
    by (Some l) = struck_acked start (x == w) l.state

received_struck : (m : WholeTree) (w : ℕ) (start : Start) (x : ℕ) → received (struck_tree m w start) x ≡ received m x
received_struck m w start x =
    ap (λ o. option_map_or (λ (l : LinkValue). opening_at m.openings x ++ l.state.delivered) o m.published) (happened_at (struck_at w start) m.links x)
    ∙ by (get_or m.links x None)
  where
    by : (o : Option LinkValue)
        → option_map_or (λ (l : LinkValue). opening_at m.openings x ++ l.state.delivered) (then_is (struck_at w start x) o) m.published
        ≡ option_map_or (λ (l : LinkValue). opening_at m.openings x ++ l.state.delivered) o m.published
    by None = refl
    by (Some l) = ap (λ xs. opening_at m.openings x ++ xs) (struck_delivered start (x == w) l.state)

-- ---- a restart

anew_acked : (receiver : Bool) (l : LinkState) → (begun_anew receiver false l).acked ≡ l.acked
anew_acked true l = refl
anew_acked false l = refl

anew_delivered : (sender : Bool) (l : LinkState) → (begun_anew false sender l).delivered ≡ l.delivered
anew_delivered true l = refl
anew_delivered false l = refl

-- it keeps what was acknowledged on each link but those to the children
acked_restarted : (m : WholeTree) (w : ℕ) (list : List ℕ) (x : ℕ) → is_parent m.parents w x ≡ false
    → acked_at (restarted_tree m w list) x ≡ acked_at m x
acked_restarted m w list x other =
    ap (λ o. option_map_or (λ (l : LinkValue). l.state.acked) o 0) (happened_at (restarted_at m.parents w) m.links x) ∙ by (get_or m.links x None)
  where
    by : (o : Option LinkValue) → option_map_or (λ (l : LinkValue). l.state.acked) (then_is (restarted_at m.parents w x) o) 0
        ≡ option_map_or (λ (l : LinkValue). l.state.acked) o 0
    by None = refl
    by (Some l) = ap (λ b. (begun_anew (x == w) b l.state).acked) other ∙ anew_acked (x == w) l.state

-- and each list but that of the node
received_restarted : (m : WholeTree) (w : ℕ) (list : List ℕ) (x : ℕ) → x ≢ w
    → (link_into m x ≡ None → (w == root_of m.parents) ≡ false)
    → received (restarted_tree m w list) x ≡ received m x
received_restarted m w list x other no_root =
    let published = if w == root_of m.parents then list else m.published in
    let openings = set m.openings w list in
    ap (λ o. option_map_or (λ (l : LinkValue). opening_at openings x ++ l.state.delivered) o published)
    (happened_at (restarted_at m.parents w) m.links x)
    ∙ (ap (λ xs. option_map_or (λ (l : LinkValue). xs ++ l.state.delivered) (then_is (restarted_at m.parents w x) (get_or m.links x None)) published)
    (get_or-set_other m.openings w x list [] other)
    ∙ by (get_or m.links x None) refl)
  where
    by : (o : Option LinkValue) → get_or m.links x None ≡ o
        → option_map_or (λ (l : LinkValue). opening_at m.openings x ++ l.state.delivered) (then_is (restarted_at m.parents w x) o)
        (if w == root_of m.parents then list else m.published)
        ≡ option_map_or (λ (l : LinkValue). opening_at m.openings x ++ l.state.delivered) o m.published
    by None none = unchosen (w == root_of m.parents) list m.published (no_root none)
    by (Some l) there =
        ap (λ b. opening_at m.openings x ++ (begun_anew b (is_parent m.parents w x) l.state).delivered) (differ x w other)
        ∙ ap (λ xs. opening_at m.openings x ++ xs) (anew_delivered (is_parent m.parents w x) l.state)

is_child_of : (ps : List (Option ℕ)) (w child : ℕ) → parent_at ps child ≡ Some w → is_parent ps w child ≡ true
is_child_of ps w child is_child = ap (λ o. option_map_or (λ parent. parent == w) o false) is_child ∙ eq-eqb w w refl

no_child_of : (ps : List (Option ℕ)) (w x p : ℕ) → parent_at ps x ≡ Some p → p ≢ w → is_parent ps w x ≡ false
no_child_of ps w x p has other = ap (λ o. option_map_or (λ parent. parent == w) o false) has ∙ differ p w other

-- its list is what waits for each child
backlog_restarted : (m : WholeTree) (w : ℕ) (list : List ℕ) (child : ℕ) (link : LinkValue) → link_into m child ≡ Some link
    → parent_at m.parents child ≡ Some w → child ≢ w
    → backlog (restarted_tree m w list) child ≡ received (restarted_tree m w list) w
backlog_restarted m w list child link there is_child other =
    let r = restarted_tree m w list in
    ap (λ o. option_map_or (λ (l : LinkValue). drop l.state.acked l.state.offered ++ drop (length l.state.offered) (source r child)) o [])
    (happened_at (restarted_at m.parents w) m.links child ∙ ap (then_is (restarted_at m.parents w child)) there)
    ∙ (ap₂
    (λ receiver sender.
    drop (begun_anew receiver sender link.state).acked (begun_anew receiver sender link.state).offered
    ++ drop (length (begun_anew receiver sender link.state).offered) (source r child))
    (differ child w other) (is_child_of m.parents w child is_child)
    ∙ ap (λ o. option_map_or (λ p. received r p) o []) is_child)

-- ---- the laws

module _ (obey : ObeysSince LinkLaw) (tree : Nodes) (s : WholeTree) (before after : List Change) (is : IsState tree s)
    (first_none : HasNoFault before) (none : HasNoFault after) (at_rest : IsAtRest s (changes_replay s before)) where
  abbrev rested : WholeTree
  rested = changes_replay s before

  rooted : IsRooted s.parents
  rooted = subst (λ ps. IsRooted ps) (sym is.parents) is.is_tree

  is_handed_on : (x p : ℕ) → parent_at s.parents x ≡ Some p → acked_at rested x ≡ length (received rested p)
  is_handed_on x p is_child = all_acked rested x p (at_rest.handed_on x p is_child)

  -- after one more change
  module _ (fault : Change) (rest_is : IsState tree (changes_replay s before)) (is_faulty : IsState tree (changes_replay s (before ++ fault ∷ []))) where
    abbrev with_fault : List Change
    with_fault = before ++ fault ∷ []

    abbrev begun : WholeTree
    begun = changes_replay s with_fault

    abbrev end : WholeTree
    end = changes_replay begun after

    same_parents : begun.parents ≡ s.parents
    same_parents = is_faulty.parents ∙ sym is.parents

    spares : (node : ℕ) → (Hits s.parents node fault → ⊥) → Spare s.parents node (with_fault ++ after)
    spares node no_hit =
        spare_joined s.parents node with_fault after
        (spare_joined s.parents node before (fault ∷ []) (spare_steps s.parents node before first_none) (no_hit, tt))
        (spare_steps s.parents node after none)

    spares_link : (x : ℕ) → (TouchesLink s.parents x fault → ⊥) → SpareLink s.parents x with_fault
    spares_link x no_touch =
        spare_link_joined s.parents x before (fault ∷ []) (spare_link_steps s.parents x before first_none) (no_touch, tt)

    later_parent : (x p : ℕ) → parent_at begun.parents x ≡ Some p → parent_at s.parents x ≡ Some p
    later_parent x p is_child = ap (λ ps. parent_at ps x) (sym same_parents) ∙ is_child

    -- the node into which the link is that the fault hits, and each node beneath it by so many links
    module _ (w above : ℕ) (is_child : parent_at s.parents w ≡ Some above) (no_hit : Hits s.parents above fault → ⊥)
        (keeps : (x : ℕ) → Reaches s.parents above x → acked_at begun x ≡ acked_at rested x)
        (keeps_list : (x p : ℕ) → Reaches s.parents above x → parent_at s.parents x ≡ Some p → received begun p ≡ received rested p)
        (no_backlog_left : backlog begun w ≡ []) where
      is_clean : IsPathClean s begun above
      is_clean x p reaches has = omega (arith, keeps x reaches, at_rest.clean x p has)

      abbrev published : List ℕ
      published = gained begun end (root_of begun.parents)

      abbrev exact : IsExact begun end above
      exact = exactly_above obey tree s with_fault after w above is is_child (spares above no_hit) is_faulty is_clean

      none_waiting : exact.waiting ≡ []
      none_waiting =
          nothing_waits begun exact.steps above exact.waiting
          (λ x p reaches has.
          let old : Reaches s.parents above x = subst (λ ps. Reaches ps above x) same_parents reaches in
          let old_has = later_parent x p has in
          keeps x old ∙ (is_handed_on x p old_has ∙ ap length (sym (keeps_list x p old old_has))))
          exact.on_path

      nothing_else : backlog begun w ++ (exact.waiting ++ published) ≡ published
      nothing_else = ap₂ (λ xs ys. xs ++ (ys ++ published)) no_backlog_left none_waiting

      beneath : (steps node : ℕ) → node < length begun.parents → ancestor begun.parents steps node ≡ Some w
          → TreeLaw (sum_above begun.parents (λ u. capacity_at begun u + length (backlog begun u)) steps node + capacity_at begun w)
          (sum_above begun.parents (λ u. 2 * capacity_at begun u + 1) steps node + (2 * capacity_at begun w + 1))
          (lists_above begun.parents (λ u. queued_at begun u ++ backlog begun u) steps node ++ queued_at begun w) published (gained begun end node)
      beneath steps node is_node leads =
          subst
          (λ xs. TreeLaw (sum_above begun.parents (λ u. capacity_at begun u + length (backlog begun u)) steps node + capacity_at begun w)
          (sum_above begun.parents (λ u. 2 * capacity_at begun u + 1) steps node + (2 * capacity_at begun w + 1))
          (lists_above begun.parents (λ u. queued_at begun u ++ backlog begun u) steps node ++ queued_at begun w) xs (gained begun end node))
          nothing_else
          (beneath_exact obey tree s with_fault after w above is is_child (spares above no_hit) is_faulty is_clean steps node is_node leads
          (spare_steps begun.parents node after none))

      there : parent_at begun.parents w ≡ Some above
      there = ap (λ ps. parent_at ps w) same_parents ∙ is_child

      -- what the fault costs the node itself
      own : TreeLaw (capacity_at begun w) (2 * capacity_at begun w + 1) (queued_at begun w) published (gained begun end w)
      own =
          larger_bounds (0 + capacity_at begun w) (capacity_at begun w) (0 + (2 * capacity_at begun w + 1)) (2 * capacity_at begun w + 1)
          (queued_at begun w) published (gained begun end w) (omega arith) (omega arith)
          (beneath 0 w (child_is_node begun.parents w above there) refl)

  -- ---- a strike

  module _ (w above : ℕ) (start : Start) (is_child : parent_at s.parents w ≡ Some above) (rest_is : IsState tree (changes_replay s before))
      (is_faulty : IsState tree (changes_replay s (before ++ Strike w start ∷ []))) where
    abbrev struck_now : WholeTree
    struck_now = changes_replay s (before ++ Strike w start ∷ [])

    is_struck : struck_now ≡ struck_tree rested w start
    is_struck = changes-append s before (Strike w start ∷ [])

    keeps_acked : (x : ℕ) → acked_at struck_now x ≡ acked_at rested x
    keeps_acked x = ap (λ u. acked_at u x) is_struck ∙ acked_struck rested w start x

    keeps_lists : (x : ℕ) → received struck_now x ≡ received rested x
    keeps_lists x = ap (λ u. received u x) is_struck ∙ received_struck rested w start x

    still_handed_on : (x p : ℕ) → parent_at s.parents x ≡ Some p → acked_at struck_now x ≡ length (received struck_now p)
    still_handed_on x p has = keeps_acked x ∙ (is_handed_on x p has ∙ ap length (sym (keeps_lists p)))

    own_struck : TreeLaw (capacity_at struck_now w) (2 * capacity_at struck_now w + 1) (queued_at struck_now w)
        (gained struck_now (changes_replay struck_now after) (root_of struck_now.parents)) (gained struck_now (changes_replay struck_now after) w)
    own_struck =
        own (Strike w start) rest_is is_faulty w above is_child (λ hit. not_beneath s.parents rooted w above is_child hit.0 hit.1)
        (λ x reaches. keeps_acked x) (λ x p reaches has. keeps_lists p)
        (no_backlog tree struck_now is_faulty w above (ap (λ ps. parent_at ps w) (is_faulty.parents ∙ sym is.parents) ∙ is_child)
        (still_handed_on w above is_child))

    settled_after : (x p k : ℕ) → parent_at s.parents x ≡ Some p → ancestor s.parents k p ≡ Some w
        → IsSettled tree s (before ++ Strike w start ∷ []) after is x p
    settled_after x p k has leads = (
      spares_link (Strike w start) rest_is is_faulty x
          (λ at. not_beneath s.parents rooted w p (ap (parent_at s.parents) at ∙ has) k leads),
      omega (arith, keeps_acked x, at_rest.clean x p has),
      still_handed_on x p has,
    )

    pub costs_of_a_strike : (node : ℕ) → Reaches s.parents node w
        → TreeLaw (capacity_at struck_now w) (2 * capacity_at struck_now w + 1) (queued_at struck_now w)
        (gained struck_now (changes_replay struck_now after) (root_of struck_now.parents)) (gained struck_now (changes_replay struck_now after) node)
    costs_of_a_strike node (steps, leads) =
        front_law (capacity_at struck_now w) (2 * capacity_at struck_now w + 1) (queued_at struck_now w)
        (gained struck_now (changes_replay struck_now after) (root_of struck_now.parents)) (gained struck_now (changes_replay struck_now after) w)
        (gained struck_now (changes_replay struck_now after) node) own_struck
        (fronts tree s (before ++ Strike w start ∷ []) after is w none settled_after steps node leads)

  -- ---- a restart

  module _ (w : ℕ) (list : List ℕ) (rest_is : IsState tree (changes_replay s before))
      (is_faulty : IsState tree (changes_replay s (before ++ Restart w list ∷ []))) where
    abbrev anew : WholeTree
    anew = changes_replay s (before ++ Restart w list ∷ [])

    abbrev last : WholeTree
    last = changes_replay anew after

    is_anew : anew ≡ restarted_tree rested w list
    is_anew = changes-append s before (Restart w list ∷ [])

    rested_parents : rested.parents ≡ s.parents
    rested_parents = rest_is.parents ∙ sym is.parents

    anew_parents : anew.parents ≡ s.parents
    anew_parents = is_faulty.parents ∙ sym is.parents

    acked_beside : (x p : ℕ) → parent_at s.parents x ≡ Some p → p ≢ w → acked_at anew x ≡ acked_at rested x
    acked_beside x p has other =
        ap (λ u. acked_at u x) is_anew
        ∙ acked_restarted rested w list x (no_child_of rested.parents w x p (ap (λ ps. parent_at ps x) rested_parents ∙ has) other)

    list_beside : (x : ℕ) → x ≢ w → (link_into rested x ≡ None → (w == root_of rested.parents) ≡ false) → received anew x ≡ received rested x
    list_beside x other no_root = ap (λ u. received u x) is_anew ∙ received_restarted rested w list x other no_root

    -- a node that has a parent has a link
    has_some : (x p : ℕ) → parent_at s.parents x ≡ Some p → link_into rested x ≡ None → ⊥
    has_some x p has no_link =
        let (link, some) = has_link tree rested rest_is x p (ap (λ ps. parent_at ps x) rested_parents ∙ has) in
        none-some link (sym no_link ∙ some)

    -- ---- beneath it

    module _ (child : ℕ) (is_child : parent_at s.parents child ≡ Some w) where
      child_there : parent_at anew.parents child ≡ Some w
      child_there = ap (λ ps. parent_at ps child) anew_parents ∙ is_child

      no_own_child : child ≢ w
      no_own_child same = not_beneath s.parents rooted child w is_child 0 (ap Some (sym same))

      never_up : (k : ℕ) → ancestor s.parents k w ≡ Some child → ⊥
      never_up k leads = not_beneath s.parents rooted child w is_child k leads

      list_waits : backlog anew child ≡ received anew w
      list_waits =
          let (link, some) = has_link tree rested rest_is child w (ap (λ ps. parent_at ps child) rested_parents ∙ is_child) in
          ap (λ u. backlog u child) is_anew
          ∙ (backlog_restarted rested w list child link some (ap (λ ps. parent_at ps child) rested_parents ∙ is_child) no_own_child
          ∙ sym (ap (λ u. received u w) is_anew))

      -- a node from which the child is reached has a parent
      has_parent : (p k : ℕ) → ancestor s.parents k p ≡ Some child → (q : ℕ) × (parent_at s.parents p ≡ Some q)
      has_parent p zero here = (w, ap (parent_at s.parents) (same_Some p child here) ∙ is_child)
      has_parent p (suc k) leads =
          elim (none_or_some (parent_at s.parents p)) [
            | inl no_parent ↦ absurd (none-some child (sym (ap (λ o. option_and_then (ancestor s.parents k) o) no_parent) ∙ leads))
            | inr some ↦ some
          ]

      settled_beneath : (x p k : ℕ) → parent_at s.parents x ≡ Some p → ancestor s.parents k p ≡ Some child
          → IsSettled tree s (before ++ Restart w list ∷ []) after is x p
      settled_beneath x p k has leads =
          let other : p ≢ w = λ same. never_up k (ap (ancestor s.parents k) (sym same) ∙ leads) in
          let (q, above) = has_parent p k leads in
          let acked = acked_beside x p has other in
          let lists = list_beside p other (λ no_link. absurd (has_some p q above no_link)) in (
            spares_link (Restart w list) rest_is is_faulty x
                (λ touched.
                elim touched [
                  | inl at ↦ never_up (suc k) (ap (λ o. option_and_then (ancestor s.parents k) o) (ap (parent_at s.parents) at ∙ has) ∙ leads)
                  | inr at_parent ↦ other (same_Some p w (sym has ∙ at_parent))
                ]),
            omega (arith, acked, at_rest.clean x p has),
            acked ∙ (is_handed_on x p has ∙ ap length (sym lists)),
          )

      child_fronts : (node : ℕ) → Reaches s.parents node child → IsPrefix (gained anew last node) (gained anew last child)
      child_fronts node (steps, leads) = fronts tree s (before ++ Restart w list ∷ []) after is child none settled_beneath steps node leads

      is_node : child < length anew.parents
      is_node = child_is_node anew.parents child w child_there

      -- by what the node itself has and receives
      pub costs_by_its_list : (node : ℕ) → Reaches s.parents node child
          → TreeLaw (capacity_at anew child) (2 * capacity_at anew child + 1) (queued_at anew child) (received anew w ++ gained anew last w)
          (gained anew last node)
      costs_by_its_list node reaches =
          let capacity : ℕ = capacity_at anew child in
          let since : Since anew last (OnPath anew child) (OnPath anew child) =
          since_spared tree anew after child is_faulty is_node (spare_steps anew.parents child after none) in
          let (offered, acked, begins, law) =
          link_since tree anew is_faulty last (OnPath anew child) (OnPath anew child) (path_up anew child) since LinkLaw obey child w (0, refl) child_there in
          let sent : List ℕ = received anew w ++ gained anew last w in
          let from_sent : IsPrefix offered sent = subst (λ xs. IsPrefix offered (xs ++ gained anew last w)) list_waits begins in
          let at_child : TreeLaw capacity (2 * capacity + 1) (queued_at anew child) sent (gained anew last child) =
          subst (λ xs. TreeLaw capacity (2 * capacity + 1) xs sent (gained anew last child)) (append-nil (queued_at anew child))
          (larger_bounds (0 + capacity) capacity (0 + (2 * capacity + 1)) (2 * capacity + 1) (queued_at anew child ++ []) sent (gained anew last child)
          (omega arith) (omega arith)
          (law_below capacity 0 acked (queued_at anew child) [] sent sent offered (gained anew last child) from_sent 0 (root_law sent) law)) in
          front_law capacity (2 * capacity + 1) (queued_at anew child) sent (gained anew last child) (gained anew last node) at_child
          (child_fronts node reaches)

    -- ---- where it is not the root

    module _ (above : ℕ) (has_above : parent_at s.parents w ≡ Some above) where
      no_hit : Hits s.parents above (Restart w list) → ⊥
      no_hit hit = not_beneath s.parents rooted w above has_above hit.0 hit.1

      other_than : (x : ℕ) → Reaches s.parents above x → x ≢ w
      other_than x (k, leads) same = not_beneath s.parents rooted w above has_above k (leads ∙ ap Some same)

      one_up : (x p : ℕ) → Reaches s.parents above x → parent_at s.parents x ≡ Some p → Reaches s.parents above p
      one_up x p reaches has = path_up s above x p reaches has

      no_root : (w == root_of rested.parents) ≡ false
      no_root =
          differ w (root_of rested.parents)
          (λ root.
          none-some above
          (sym (subst (λ ps. parent_at ps (root_of ps) ≡ None) (sym rest_is.parents) rest_is.is_tree.root_has_none)
          ∙ (ap (parent_at rested.parents) (sym root) ∙ (ap (λ ps. parent_at ps w) rested_parents ∙ has_above))))

      keeps_on_path : (x : ℕ) → Reaches s.parents above x → acked_at anew x ≡ acked_at rested x
      keeps_on_path x reaches =
          elim (none_or_some (parent_at s.parents x)) [
            | inl no_parent ↦
                ap (λ u. acked_at u x) is_anew
                ∙ acked_restarted rested w list x
                (ap (λ o. option_map_or (λ parent. parent == w) o false) (ap (λ ps. parent_at ps x) rested_parents ∙ no_parent))
            | inr (p, has) ↦ acked_beside x p has (other_than p (one_up x p reaches has))
          ]

      keeps_lists_on_path : (x p : ℕ) → Reaches s.parents above x → parent_at s.parents x ≡ Some p → received anew p ≡ received rested p
      keeps_lists_on_path x p reaches has = list_beside p (other_than p (one_up x p reaches has)) (λ no_link. no_root)

      not_itself : above ≢ w
      not_itself = other_than above (0, refl)

      no_backlog_here : backlog anew w ≡ []
      no_backlog_here =
          no_backlog tree anew is_faulty w above (ap (λ ps. parent_at ps w) anew_parents ∙ has_above)
          (acked_beside w above has_above not_itself
          ∙ (is_handed_on w above has_above ∙ ap length (sym (list_beside above not_itself (λ no_link. no_root)))))

      pub costs_of_a_restart : TreeLaw (capacity_at anew w) (2 * capacity_at anew w + 1) (queued_at anew w)
          (gained anew last (root_of anew.parents)) (gained anew last w)
      costs_of_a_restart =
          own (Restart w list) rest_is is_faulty w above has_above no_hit keeps_on_path keeps_lists_on_path no_backlog_here

      pub costs_beneath : (child : ℕ) → parent_at s.parents child ≡ Some w → (node : ℕ) → Reaches s.parents node child
          → TreeLaw (capacity_at anew child + length (received anew w) + capacity_at anew w)
          (2 * capacity_at anew child + 1 + (2 * capacity_at anew w + 1))
          (queued_at anew child ++ (received anew w ++ queued_at anew w))
          (gained anew last (root_of anew.parents)) (gained anew last node)
      costs_beneath child is_child node reaches =
          let old = received anew w in
          let waits = list_waits child is_child in
          let has = child_there child is_child in
          let strays : ℕ = capacity_at anew child + length old + capacity_at anew w in
          let missing : ℕ = 2 * capacity_at anew child + 1 + (2 * capacity_at anew w + 1) in
          let garbage : List ℕ = queued_at anew child ++ (old ++ queued_at anew w) in
          let published : List ℕ = gained anew last (root_of anew.parents) in
          let law =
          beneath (Restart w list) rest_is is_faulty w above has_above no_hit keeps_on_path keeps_lists_on_path no_backlog_here 1 child
          (is_node child is_child) (ap (λ o. option_and_then (ancestor anew.parents 0) o) has) in
          let first : ℕ = sum_above anew.parents (λ u. capacity_at anew u + length (backlog anew u)) 1 child in
          let second : ℕ = sum_above anew.parents (λ u. 2 * capacity_at anew u + 1) 1 child in
          let first_is : first ≡ capacity_at anew child + length (backlog anew child) + 0 =
          ap (λ o. capacity_at anew child + length (backlog anew child) + option_map_or (sum_above anew.parents (λ u. capacity_at anew u + length (backlog anew u)) 0) o 0) has in
          let second_is : second ≡ 2 * capacity_at anew child + 1 + 0 =
          ap (λ o. 2 * capacity_at anew child + 1 + option_map_or (sum_above anew.parents (λ u. 2 * capacity_at anew u + 1) 0) o 0) has in
          let lists : List ℕ = lists_above anew.parents (λ u. queued_at anew u ++ backlog anew u) 1 child in
          let garbage_is : lists ++ queued_at anew w ≡ garbage =
          ap (λ o. ((queued_at anew child ++ backlog anew child) ++ option_map_or (lists_above anew.parents (λ u. queued_at anew u ++ backlog anew u) 0) o []) ++ queued_at anew w) has
          ∙ (ap (λ xs. xs ++ queued_at anew w) (append-nil (queued_at anew child ++ backlog anew child))
          ∙ (append_assoc (queued_at anew child) (backlog anew child) (queued_at anew w)
          ∙ ap (λ xs. queued_at anew child ++ (xs ++ queued_at anew w)) waits)) in
          let at_child : TreeLaw strays missing garbage published (gained anew last child) =
          subst (λ xs. TreeLaw strays missing xs published (gained anew last child)) garbage_is
          (larger_bounds (first + capacity_at anew w) strays (second + (2 * capacity_at anew w + 1)) missing (lists ++ queued_at anew w) published
          (gained anew last child) (omega (arith, first_is, ap length waits)) (omega (arith, second_is)) law) in
          front_law strays missing garbage published (gained anew last child) (gained anew last node) at_child (child_fronts child is_child node reaches)
