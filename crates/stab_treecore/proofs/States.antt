-- Changes keep a whole tree a state, and its senders in their places; and so does a start.
use Rattle.std.proofs.Common.{◌≡◌, ◌≢◌, ◌⊎◌, ◌==◌, ℕ, zero, suc, ◌<◌, ◌≤◌, List, [], ◌∷◌, length, map, get_or, Option, Some, None, is_some, option_map, Bool, true, false, if◌then◌else◌, refl, ap, sym, ◌∙◌, subst, inl, inr, arith}
use Rattle.std.specs.Option.{option_map_or}
use Rattle.std.proofs.lemmas.Bool.{cond_both, eq-eqb, eqb-true}
use Rattle.std.proofs.lemmas.List.{get_or-set_other}
use Rattle.std.proofs.lemmas.Option.{none-some, same_Some}
use mathlib.Core.List.{IsPrefix}
use Rattle.stab_frames.specs.Parameters.{AreLawful, Parameters}
use Rattle.stab_core.specs.declared.start.Start.{Start}
use Rattle.stab_core.specs.Link.{LinkValue, link_at}
use Rattle.stab_core.specs.LinkSetup.{CanBegin}
use Rattle.stab_core.specs.LinkState.{LinkState}
use Rattle.stab_core.specs.Replay.{replay}
use Rattle.stab_core.proofs.ForCallers.{prefix_of_prefix}
use Rattle.stab_tree.specs.ByChild.{by_child}
use Rattle.stab_tree.specs.Nodes.{Nodes, parent_at, root_of}
use Rattle.stab_tree.proofs.ForCallers.{holds_by_child, map-by_child}
use Rattle.stab_treecore.specs.declared.event.TreeEvent.{TreeEvent}
use Rattle.stab_treecore.specs.Network.{IsNetwork, Network}
use Rattle.stab_treecore.specs.TreeReplay.{initial_tree, opened}
use Rattle.stab_treecore.specs.TreeStep.{event_on, link_after, tree_step}
use Rattle.stab_treecore.specs.WholeTree.{WholeTree, link_into, received}
use Rattle.stab_treecore.proofs.ForChanges.{came_of, differ, kind-set, same_kind, same_kinds}
use Rattle.stab_treecore.proofs.ForChanges.{IsRun, opening_is_run, IsOpenedAt}
use Rattle.stab_core.specs.Since.{IsBounded}
use Rattle.stab_treecore.specs.Changes.{Change, Act, Publish, Strike, Restart, change_step, changes_replay, FitsTree, Fit}
use Rattle.stab_treecore.specs.Faults.{struck_at, restarted_at, is_parent}
use Rattle.stab_core.specs.Faults.{struck}
use Rattle.stab_treecore.specs.Since.{IsFedAt, IsState}
use Rattle.stab_core.proofs.Bounded.{replay_bounded}
use Rattle.stab_treecore.proofs.Grown.{front_and_rest, prefix_no_longer}
use Rattle.stab_treecore.proofs.Kept.{none_or_some, Since, since_act, since_at_first, since_left, publish_leaves, list_left, struck_delivers, restarted_delivers}

-- a state whose senders are in their places
pub record IsFed (tree : Nodes) (t : WholeTree) : Type 0 where
  pub is_state : IsState tree t
  pub fed : (w : ℕ) → IsFedAt t w

-- a node without a link is the root
pub unlinked_is_root : (tree : Nodes) (t : WholeTree) → IsState tree t → (v : ℕ) → v < length t.parents → link_into t v ≡ None → v ≡ root_of t.parents
unlinked_is_root tree t is v is_node none =
    let same = is.parents in
    let own_none : parent_at t.parents v ≡ None =
    elim (none_or_some (parent_at t.parents v)) [
      | inl none_above ↦ none_above
      | inr some ↦
          let never : false ≡ true = sym (ap is_some none) ∙ (same_kind t.links t.parents v is.linked ∙ ap is_some some.1) in
          cc
    ] in
    subst (λ ps. v < length ps → parent_at ps v ≡ None → v ≡ root_of ps) (sym same) (is.is_tree.one_root v) is_node own_none

-- a parent is a node
parent_is_node : (tree : Nodes) (t : WholeTree) → IsState tree t → (w parent : ℕ) → parent_at t.parents w ≡ Some parent → parent < length t.parents
parent_is_node tree t is w parent child =
    subst (λ ps. parent_at ps w ≡ Some parent → parent < length ps) (sym is.parents) (is.is_tree.known_parents w parent) child

-- a link that is there was there
was_linked : (t u : WholeTree) (w : ℕ) (link : LinkValue) → map is_some t.links ≡ map is_some t.parents → map is_some u.links ≡ map is_some u.parents
    → u.parents ≡ t.parents → link_into u w ≡ Some link → (old : LinkValue) × (link_into t w ≡ Some old)
was_linked t u w link before after parents there =
    elim (none_or_some (link_into t w)) [
      | inl none ↦
          let never : false ≡ true =
          sym (ap is_some none)
          ∙ (same_kind t.links t.parents w before
          ∙ (ap (λ ps. is_some (parent_at ps w)) (sym parents)
          ∙ (sym (same_kind u.links u.parents w after) ∙ ap is_some there))) in
          cc
      | inr some ↦ some
    ]

pub same_kind_mapped : {A B : Type 0} (f : A → B) (o : Option A) → is_some (option_map f o) ≡ is_some o
same_kind_mapped f None = refl
same_kind_mapped f (Some x) = refl

-- ---- acts, and what is published

module _ (tree : Nodes) (t : WholeTree) (is : IsFed tree t) where
  abbrev AnyNode : ℕ → Type 0
  AnyNode v = v < length t.parents

  abbrev AnyLink : ℕ → Type 0
  AnyLink w = Unit {0}

  any_up : (w parent : ℕ) → AnyLink w → parent_at t.parents w ≡ Some parent → AnyNode parent
  any_up w parent on child = parent_is_node tree t is.is_state w parent child

  any_within : (w parent : ℕ) (link : LinkValue) → AnyLink w → parent_at t.parents w ≡ Some parent → link_into t w ≡ Some link
      → length link.state.offered ≤ length (received t parent)
  any_within w parent link on child there = is.is_state.within w parent link child there

  begins : Since t t AnyLink AnyNode
  begins = since_at_first t AnyLink AnyNode (unlinked_is_root tree t is.is_state)

  -- what is like this since is a state
  since_fed : (u : WholeTree) → Since t u AnyLink AnyNode → map is_some u.links ≡ map is_some u.parents → IsFed tree u
  since_fed u since linked =
      let old = is.is_state in
      let was : (w : ℕ) (link : LinkValue) → link_into u w ≡ Some link → (before : LinkValue) × (link_into t w ≡ Some before) =
      λ w link there. was_linked t u w link old.linked linked since.parents_stay there in
      let fed_now : (w : ℕ) → IsFedAt u w =
      λ w parent link child there.
      let (before, there_before) = was w link there in
      let ran = since.links w before tt there_before in
      let child_before : parent_at t.parents w ≡ Some parent = ap (λ ps. parent_at ps w) (sym since.parents_stay) ∙ child in
      let now : link ≡ link_at before.params (replay before.params before.state ran.events) =
      same_Some link (link_at before.params (replay before.params before.state ran.events)) (sym there ∙ ran.now) in
      let front : IsPrefix before.state.offered (received u parent) =
      prefix_of_prefix before.state.offered (received t parent) (received u parent) (is.fed w parent before child_before there_before)
      (since.lists_grow parent (any_up w parent tt child_before)) in
      subst (λ l. IsPrefix l.state.offered (received u parent)) (sym now)
      (subst (λ xs. IsPrefix (replay before.params before.state ran.events).offered xs)
      (sym (front_and_rest before.state.offered (received u parent) front)) (ran.offers parent child_before)) in
      record {
        is_state = record {
          is_tree = old.is_tree;
          parents = since.parents_stay ∙ old.parents;
          linked = linked;
          bounded =
              λ w link there.
              let (before, there_before) = was w link there in
              let ran = since.links w before tt there_before in
              let (lawful, bounded) = old.bounded w before there_before in
              let now : link ≡ link_at before.params (replay before.params before.state ran.events) =
              same_Some link (link_at before.params (replay before.params before.state ran.events)) (sym there ∙ ran.now) in
              subst (λ l. AreLawful l.params × IsBounded l.params l.state) (sym now)
              (lawful, replay_bounded before.params before.state ran.events bounded);
          within = λ w parent link child there. prefix_no_longer link.state.offered (received u parent) (fed_now w parent link child there);
        };
        fed = fed_now;
      }

  act_fed : (e : TreeEvent) → IsFed tree (tree_step t e)
  act_fed e =
      since_fed (tree_step t e) (since_act t AnyLink AnyNode any_up any_within t e begins)
      (kind-set t.links e.child (option_map (link_after (event_on t e)) (link_into t e.child))
      (same_kind_mapped (link_after (event_on t e)) (link_into t e.child)) ∙ is.is_state.linked)

  publish_fed : (items : List ℕ) → IsFed tree (change_step t (Publish items))
  publish_fed items =
      since_fed (change_step t (Publish items))
      (since_left t AnyLink AnyNode any_up any_within t (change_step t (Publish items)) (publish_leaves t AnyLink AnyNode any_up any_within t items) begins)
      is.is_state.linked

-- ---- faults

-- a strike leaves what was offered
struck_offers : (child : ℕ) (start : Start) (v : ℕ) (state : LinkState) → (struck_at child start v state).offered ≡ state.offered
struck_offers child start v state = by (v == child)
  where
    by : (b : Bool) → (if b then record state { frames = start.frames; acks = start.acks; send_label = start.send_label; recv_label = start.recv_label } else state).offered ≡ state.offered
    by true = refl
    by false = refl

strike_fed : (tree : Nodes) (t : WholeTree) → IsFed tree t → (child : ℕ) (start : Start) → FitsTree t (Strike child start)
    → IsFed tree (change_step t (Strike child start))
strike_fed tree t is child start fits =
    let u = change_step t (Strike child start) in
    let old = is.is_state in
    let same_list : (v : ℕ) → received u v ≡ received t v =
    λ v. list_left t u (struck_at child start) v refl refl (struck_delivers child start v) (λ none. refl) in
    let fed_now : (w : ℕ) → IsFedAt u w =
    λ w parent link is_child there.
    let came = came_of t.links (struck_at child start) w link there in
    subst (λ l. IsPrefix l.state.offered (received u parent)) (sym came.now)
    (subst (λ xs. IsPrefix xs (received u parent)) (sym (struck_offers child start w came.old.state))
    (subst (λ xs. IsPrefix came.old.state.offered xs) (sym (same_list parent)) (is.fed w parent came.old is_child came.there))) in
    record {
      is_state = record {
        is_tree = old.is_tree;
        parents = old.parents;
        linked = same_kinds (struck_at child start) 0 t.links ∙ old.linked;
        bounded =
            λ w link there.
            let came = came_of t.links (struck_at child start) w link there in
            let (lawful, bounded) = old.bounded w came.old came.there in
            subst (λ l. AreLawful l.params × IsBounded l.params l.state) (sym came.now) (
              lawful,
              cond_both (w == child) (struck start came.old.state) came.old.state (IsBounded came.old.params)
                  (λ here. record {
                    lawful =
                        (let fit = fits came.old (ap (λ v. link_into t v) (sym (eqb-true w child here)) ∙ came.there) in
                        record { frames = fit.frames; acks = fit.acks });
                    acked_were_offered = bounded.acked_were_offered;
                    one_waits_at_most = bounded.one_waits_at_most;
                  })
                  (λ _. bounded),
            );
        within = λ w parent link is_child there. prefix_no_longer link.state.offered (received u parent) (fed_now w parent link is_child there);
      };
      fed = fed_now;
    }

-- a restart keeps the queues within their bounds
restarted_bounded : (p : Parameters) (parents : List (Option ℕ)) (node w : ℕ) (state : LinkState) → IsBounded p state
    → IsBounded p (restarted_at parents node w state)
restarted_bounded p parents node w state bounded = by (w == node) (is_parent parents node w)
  where
    by : (b c : Bool)
        → IsBounded p (let anew = if b then record state { delivered = [] } else state in if c then record anew { offered = []; acked = 0 } else anew)
    by true true = record { lawful = record { frames = bounded.lawful.frames; acks = bounded.lawful.acks }; acked_were_offered = omega arith; one_waits_at_most = omega arith }
    by true false = record {
      lawful = record { frames = bounded.lawful.frames; acks = bounded.lawful.acks };
      acked_were_offered = bounded.acked_were_offered;
      one_waits_at_most = bounded.one_waits_at_most;
    }
    by false true = record { lawful = record { frames = bounded.lawful.frames; acks = bounded.lawful.acks }; acked_were_offered = omega arith; one_waits_at_most = omega arith }
    by false false = bounded

-- what a restart leaves of what was offered
restarted_offers : (parents : List (Option ℕ)) (node w : ℕ) (state : LinkState)
    → ((is_parent parents node w ≡ false) × ((restarted_at parents node w state).offered ≡ state.offered))
    ⊎ ((restarted_at parents node w state).offered ≡ [])
restarted_offers parents node w state = by (w == node) (is_parent parents node w)
  where
    by : (b c : Bool)
        → let after = (let anew = if b then record state { delivered = [] } else state in if c then record anew { offered = []; acked = 0 } else anew) in
        ((c ≡ false) × (after.offered ≡ state.offered)) ⊎ (after.offered ≡ [])
    by true true = inr refl
    by true false = inl (refl, refl)
    by false true = inr refl
    by false false = inl (refl, refl)

restart_fed : (tree : Nodes) (t : WholeTree) → IsFed tree t → (node : ℕ) (list : List ℕ) → IsFed tree (change_step t (Restart node list))
restart_fed tree t is node list =
    let u = change_step t (Restart node list) in
    let old = is.is_state in
    let same_list : (v : ℕ) → v < length t.parents → v ≢ node → received u v ≡ received t v =
    λ v is_node other.
    list_left t u (restarted_at t.parents node) v refl (get_or-set_other t.openings node v list [] other)
    (λ state. restarted_delivers t.parents node v state (differ v node other))
    (λ none. unchosen_list (node == root_of t.parents)
    (differ node (root_of t.parents) (λ same. other (unlinked_is_root tree t old v is_node none ∙ sym same)))) in
    let fed_now : (w : ℕ) → IsFedAt u w =
    λ w parent link is_child there.
    let came = came_of t.links (restarted_at t.parents node) w link there in
    subst (λ l. IsPrefix l.state.offered (received u parent)) (sym came.now)
    (elim (restarted_offers t.parents node w came.old.state) [
      | inl stays ↦
          let not_node : parent ≢ node =
          λ same. true_false (sym (ap (λ o. option_map_or (λ q. q == node) o false) is_child ∙ eq-eqb parent node same) ∙ stays.0) in
          subst (λ xs. IsPrefix xs (received u parent)) (sym stays.1)
          (subst (λ xs. IsPrefix came.old.state.offered xs) (sym (same_list parent (parent_is_node tree t old w parent is_child) not_node))
          (is.fed w parent came.old is_child came.there))
      | inr anew ↦
          subst (λ xs. IsPrefix xs (received u parent)) (sym anew) (received u parent, refl)
    ]) in
    record {
      is_state = record {
        is_tree = old.is_tree;
        parents = old.parents;
        linked = same_kinds (restarted_at t.parents node) 0 t.links ∙ old.linked;
        bounded =
            λ w link there.
            let came = came_of t.links (restarted_at t.parents node) w link there in
            let (lawful, bounded) = old.bounded w came.old came.there in
            subst (λ l. AreLawful l.params × IsBounded l.params l.state) (sym came.now)
            (lawful, restarted_bounded came.old.params t.parents node w came.old.state bounded);
        within = λ w parent link is_child there. prefix_no_longer link.state.offered (received u parent) (fed_now w parent link is_child there);
      };
      fed = fed_now;
    }
  where
    true_false : true ≡ false → ⊥
    true_false same = cc

    unchosen_list : (b : Bool) → b ≡ false → (if b then list else t.published) ≡ t.published
    unchosen_list true unlike = absurd (true_false unlike)
    unchosen_list false unlike = refl

-- ---- all changes

pub changes_fed : (tree : Nodes) (t : WholeTree) (changes : List Change) → IsFed tree t → Fit t changes → IsFed tree (changes_replay t changes)
changes_fed tree t [] is fit = is
changes_fed tree t (Act e ∷ changes) is fit = changes_fed tree (tree_step t e) changes (act_fed tree t is e) fit.1
changes_fed tree t (Publish items ∷ changes) is fit =
    changes_fed tree (change_step t (Publish items)) changes (publish_fed tree t is items) fit.1
changes_fed tree t (Strike child start ∷ changes) is fit =
    changes_fed tree (change_step t (Strike child start)) changes (strike_fed tree t is child start fit.0) fit.1
changes_fed tree t (Restart node list ∷ changes) is fit =
    changes_fed tree (change_step t (Restart node list)) changes (restart_fed tree t is node list) fit.1

-- ---- a start

of_mapped : {A B : Type 0} (f : A → B) (xs : List (Option A)) (i : ℕ) (y : B) → get_or (map (option_map f) xs) i None ≡ Some y
    → (x : A) × (get_or xs i None ≡ Some x) × (y ≡ f x)
of_mapped f [] i y is = absurd (none-some y is)
of_mapped f (None ∷ xs) zero y is = absurd (none-some y is)
of_mapped f (Some x ∷ xs) zero y is = (x, refl, sym (same_Some (f x) y is))
of_mapped f (x ∷ xs) (suc i) y is = of_mapped f xs i y is

opened_into : (net : Network) (node : ℕ) (link : LinkValue)
    → get_or (by_child net.tree.parents (map opened net.links)) node None ≡ Some link → IsOpenedAt net node link
opened_into net node link is =
    let (setup, leads, begins) =
    of_mapped opened (by_child net.tree.parents net.links) node link
    (ap (λ links. get_or links node None) (map-by_child opened net.tree.parents net.links) ∙ is) in
    record { setup = setup; leads = leads; at_start = begins }

pub opening_fed : (net : Network) → IsNetwork net → IsFed net.tree (initial_tree net)
opening_fed net is =
    let run : IsRun net (initial_tree net) = opening_is_run net is.one_per_link in
    let fed_now : (w : ℕ) → IsFedAt (initial_tree net) w = λ w parent link child there. run.prefixes w parent link child there in
    record {
      is_state = record {
        is_tree = is.tree;
        parents = refl;
        linked = run.linked;
        bounded =
            λ w link there.
            let found = opened_into net w link there in
            let begins : CanBegin found.setup = holds_by_child CanBegin net.tree.parents net.links w found.setup is.can_begin found.leads in
            subst (λ l. AreLawful l.params × IsBounded l.params l.state) (sym found.at_start) (
              begins.0,
              record {
                lawful = record { frames = begins.1.frames; acks = begins.1.acks };
                acked_were_offered = omega arith;
                one_waits_at_most = omega arith;
              },
            );
        within =
            λ w parent link child there.
            prefix_no_longer link.state.offered (received (initial_tree net) parent) (fed_now w parent link child there);
      };
      fed = fed_now;
    }
