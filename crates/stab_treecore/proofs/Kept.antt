-- What changes leave on a path that no fault hits: its links are replays from what they were, and
-- were offered what the parent had then or received since.
use Rattle.std.proofs.Common.{◌≡◌, ◌≢◌, ◌⊎◌, ◌==◌, ℕ, zero, suc, ◌≤◌, List, [], ◌∷◌, ◌++◌, length, drop, get_or, set, slice_get, option_and_then, Option, Some, None, option_map, Bool, true, false, if◌then◌else◌, refl, ap, ap₂, sym, ◌∙◌, subst, inl, inr, arith}
use Rattle.std.specs.Option.{option_map_or}
use Rattle.std.proofs.lemmas.Bool.{cases_eq}
use Rattle.std.proofs.lemmas.List.{get_or-set_other, length-append, set-get_or}
use Rattle.std.proofs.lemmas.Option.{none-some, same_Some}
use mathlib.Core.List.{IsPrefix}
use Rattle.stab_frames.specs.Parameters.{Parameters}
use Rattle.stab_core.specs.declared.event.Event.{Event}
use Rattle.stab_core.specs.declared.start.Start.{Start}
use Rattle.stab_core.specs.Link.{LinkValue, link_at}
use Rattle.stab_core.specs.LinkState.{LinkState}
use Rattle.stab_core.specs.Replay.{replay}
use Rattle.stab_core.specs.Step.{step}
use Rattle.stab_core.proofs.ForCallers.{prefix_of_itself, prefix_of_prefix}
use Rattle.stab_core.proofs.Replays.{replay-append}
use Rattle.stab_tree.specs.Nodes.{parent_at, root_of}
use Rattle.stab_tree.specs.NodeOpenings.{opening_at}
use Rattle.stab_tree.specs.Steps.{Reaches, ancestor}
use Rattle.stab_treecore.specs.declared.event.TreeEvent.{TreeEvent}
use Rattle.stab_treecore.specs.TreeStep.{next_item, event_on, link_after, tree_step}
use Rattle.stab_treecore.specs.WholeTree.{WholeTree, link_into, received, source}
use Rattle.stab_treecore.proofs.ForChanges.{after_delivers, act_offers, differ, happened_at, unchosen}
use Rattle.stab_treecore.specs.Changes.{Change, Act, Publish, Strike, Restart, change_step, changes_replay}
use Rattle.stab_treecore.specs.Hits.{Spare}
use Rattle.stab_treecore.specs.Faults.{each_link, struck_at, restarted_at, is_parent}
use Rattle.stab_core.specs.Since.{delivered_since}
use Rattle.stab_treecore.specs.Since.{gained}
use Rattle.stab_treecore.proofs.Grown.{drop-past}
use Rattle.stab_treecore.proofs.Grown.{prefix_dropped, prefix_behind, behind_front, prefix_no_longer, step_offered}

-- nothing, or something
pub none_or_some : {A : Type 0} (o : Option A) → (o ≡ None) ⊎ ((x : A) × (o ≡ Some x))
none_or_some None = inl refl
none_or_some (Some x) = inr (x, refl)

-- an element that is written in a list is there
written_same : {A : Type 0} (xs : List (Option A)) (i : ℕ) (old new : A) → get_or xs i None ≡ Some old → get_or (set xs i (Some new)) i None ≡ Some new
written_same [] i old new there = absurd (none-some old there)
written_same (x ∷ xs) zero old new there = refl
written_same (x ∷ xs) (suc i) old new there = written_same xs i old new there

-- a link since: a replay from what it was, which was offered what the parent has beyond what it had
-- been offered
pub record LinkSince (s t : WholeTree) (w : ℕ) (link : LinkValue) : Type 0 where
  pub events : List Event
  pub now : link_into t w ≡ Some (link_at link.params (replay link.params link.state events))
  pub longer : length link.state.offered ≤ length (replay link.params link.state events).offered
  pub offers : (parent : ℕ) → parent_at s.parents w ≡ Some parent
      → IsPrefix (replay link.params link.state events).offered
      (link.state.offered ++ drop (length link.state.offered) (received t parent))

-- A whole tree since: some links are replays, and the lists of some nodes only grew.
pub record Since (s t : WholeTree) (Linked Listed : ℕ → Type 0) : Type 0 where
  pub parents_stay : t.parents ≡ s.parents
  pub openings_stay : (w : ℕ) → Linked w → opening_at t.openings w ≡ opening_at s.openings w
  pub links : (w : ℕ) (link : LinkValue) → Linked w → link_into s w ≡ Some link → LinkSince s t w link
  pub lists_grow : (v : ℕ) → Listed v → IsPrefix (received s v) (received t v)
  pub root_alone : (v : ℕ) → Listed v → link_into t v ≡ None → v ≡ root_of s.parents

-- what a node received, where it has a link, and where it has none
pub received_linked : (t : WholeTree) (w : ℕ) (link : LinkValue) → link_into t w ≡ Some link
    → received t w ≡ opening_at t.openings w ++ link.state.delivered
received_linked t w link is = ap (λ o. option_map_or (λ l. opening_at t.openings w ++ l.state.delivered) o t.published) is

pub received_unlinked : (t : WholeTree) (w : ℕ) → link_into t w ≡ None → received t w ≡ t.published
received_unlinked t w is = ap (λ o. option_map_or (λ l. opening_at t.openings w ++ l.state.delivered) o t.published) is

-- what a node received since is what its link delivered since
pub gained_is : (s t : WholeTree) (Linked Listed : ℕ → Type 0) (since : Since s t Linked Listed) (w : ℕ) (link : LinkValue) → Linked w
    → link_into s w ≡ Some link → (ran : LinkSince s t w link)
    → gained s t w ≡ delivered_since link.state (replay link.params link.state ran.events)
gained_is s t Linked Listed since w link on there ran =
    let opening = opening_at s.openings w in
    let end = replay link.params link.state ran.events in
    let first : received s w ≡ opening ++ link.state.delivered = received_linked s w link there in
    let last : received t w ≡ opening ++ end.delivered =
    received_linked t w (link_at link.params end) ran.now ∙ ap (λ xs. xs ++ end.delivered) (since.openings_stay w on) in
    ap₂ (λ xs ys. drop (length xs) ys) first last
    ∙ (ap (λ n. drop n (opening ++ end.delivered)) (length-append opening link.state.delivered)
    ∙ drop-past opening end.delivered (length link.state.delivered))

-- the list of a node that has a link
as_linked : (xs ys : List ℕ) (t u : WholeTree) (w : ℕ) → received t w ≡ xs → received u w ≡ ys → IsPrefix xs ys
    → IsPrefix (received t w) (received u w)
as_linked xs ys t u w first second begins =
    subst (λ zs. IsPrefix zs (received u w)) (sym first) (subst (λ zs. IsPrefix xs zs) (sym second) begins)

-- at first nothing has changed
pub since_at_first : (s : WholeTree) (Linked Listed : ℕ → Type 0)
    → ((v : ℕ) → Listed v → link_into s v ≡ None → v ≡ root_of s.parents) → Since s s Linked Listed
since_at_first s Linked Listed root_alone = record {
  parents_stay = refl;
  openings_stay = λ w on. refl;
  links =
      λ w link on is. record {
        events = [];
        now = is;
        longer = omega arith;
        offers = λ parent child. (drop (length link.state.offered) (received s parent), refl);
      };
  lists_grow = λ v listed. prefix_of_itself (received s v);
  root_alone = root_alone;
}

module _ (s : WholeTree) (Linked Listed : ℕ → Type 0)
    (up : (w parent : ℕ) → Linked w → parent_at s.parents w ≡ Some parent → Listed parent)
    (within : (w parent : ℕ) (link : LinkValue) → Linked w → parent_at s.parents w ≡ Some parent → link_into s w ≡ Some link
    → length link.state.offered ≤ length (received s parent)) where
  -- a link that stays, under a parent whose list only grows
  still_since : (t u : WholeTree) (w : ℕ) (link : LinkValue) → Linked w → link_into u w ≡ link_into t w
      → ((v : ℕ) → Listed v → IsPrefix (received t v) (received u v)) → LinkSince s t w link → LinkSince s u w link
  still_since t u w link on same grows ran = record {
    events = ran.events;
    now = same ∙ ran.now;
    longer = ran.longer;
    offers =
        λ parent child.
        let n = length link.state.offered in
        prefix_of_prefix (replay link.params link.state ran.events).offered (link.state.offered ++ drop n (received t parent))
        (link.state.offered ++ drop n (received u parent)) (ran.offers parent child)
        (prefix_behind link.state.offered (drop n (received t parent)) (drop n (received u parent))
        (prefix_dropped n (received t parent) (received u parent) (grows parent (up w parent on child))));
  }

  -- a change that leaves these links, and only adds to these lists
  pub record Leaves (t u : WholeTree) : Type 0 where
    pub same_parents : u.parents ≡ t.parents
    pub openings : (w : ℕ) → Linked w → opening_at u.openings w ≡ opening_at t.openings w
    pub links : (w : ℕ) → Linked w → link_into u w ≡ link_into t w
    pub lists : (v : ℕ) → Listed v → IsPrefix (received t v) (received u v)
    pub none_before : (v : ℕ) → link_into u v ≡ None → link_into t v ≡ None

  pub since_left : (t u : WholeTree) → Leaves t u → Since s t Linked Listed → Since s u Linked Listed
  since_left t u leaves since = record {
    parents_stay = leaves.same_parents ∙ since.parents_stay;
    openings_stay = λ w on. leaves.openings w on ∙ since.openings_stay w on;
    links = λ w link on is. still_since t u w link on (leaves.links w on) leaves.lists (since.links w link on is);
    lists_grow =
        λ v listed.
        prefix_of_prefix (received s v) (received t v) (received u v) (since.lists_grow v listed) (leaves.lists v listed);
    root_alone = λ v listed none. since.root_alone v listed (leaves.none_before v none);
  }

  -- a step on a link
  module _ (t : WholeTree) (e : TreeEvent) (since : Since s t Linked Listed) (old : LinkValue) (there : link_into t e.child ≡ Some old) where
    abbrev after : WholeTree
    after = record t { links = set t.links e.child (Some (link_after (event_on t e) old)) }

    stepped_link : link_into after e.child ≡ Some (link_after (event_on t e) old)
    stepped_link = written_same t.links e.child old (link_after (event_on t e) old) there

    other_link : (w : ℕ) → w ≢ e.child → link_into after w ≡ link_into t w
    other_link w other = get_or-set_other t.links e.child w (Some (link_after (event_on t e) old)) None other

    -- what a node received only grows
    received_grows : (w : ℕ) → IsPrefix (received t w) (received after w)
    received_grows w =
        elim (cases_eq w e.child) [
          | inl same ↦
              let opening = opening_at t.openings e.child in
              let grown : IsPrefix (received t e.child) (received after e.child) =
              as_linked (opening ++ old.state.delivered) (opening ++ (link_after (event_on t e) old).state.delivered) t after e.child
              (received_linked t e.child old there) (received_linked after e.child (link_after (event_on t e) old) stepped_link)
              (prefix_behind opening old.state.delivered (link_after (event_on t e) old).state.delivered (after_delivers (event_on t e) old)) in
              subst (λ v. IsPrefix (received t v) (received after v)) (sym same) grown
          | inr other ↦
              let same : received t w ≡ received after w =
              ap (λ o. option_map_or (λ l. opening_at t.openings w ++ l.state.delivered) o t.published) (sym (other_link w other)) in
              subst (λ xs. IsPrefix (received t w) xs) same (prefix_of_itself (received t w))
        ]

    -- the events of the link that was stepped
    with_event : Option Event → List Event → List Event
    with_event None es = es
    with_event (Some event) es = es ++ event ∷ []

    went_on : (p : Parameters) (state : LinkState) (es : List Event) (event : Option Event)
        → link_after event (link_at p (replay p state es)) ≡ link_at p (replay p state (with_event event es))
    unfolding with_event
    went_on p state es None = refl
    went_on p state es (Some event) = ap (λ z. link_at p z) (sym (replay-append p state es (event ∷ [])))

    after_longer : (link : LinkValue) (event : Option Event) → length link.state.offered ≤ length (link_after event link).state.offered
    after_longer link None = omega arith
    after_longer link (Some event) = prefix_no_longer link.state.offered (step link.params link.state event).offered (step_offered link.params link.state event)

    stepped_since : (link : LinkValue) → Linked e.child → link_into s e.child ≡ Some link → LinkSince s t e.child link
        → LinkSince s after e.child link
    stepped_since link on is ran =
        let p = link.params in
        let n = length link.state.offered in
        let before : LinkValue = link_at p (replay p link.state ran.events) in
        let event = event_on t e in
        let old_is : before ≡ old = same_Some before old (sym ran.now ∙ there) in
        let new_is : link_after event old ≡ link_at p (replay p link.state (with_event event ran.events)) =
        ap (λ l. link_after event l) (sym old_is) ∙ went_on p link.state ran.events event in
        let longer : length old.state.offered ≤ length (link_after event old).state.offered = after_longer old event in
        let was_longer : n ≤ length old.state.offered = subst (λ l. n ≤ length l.state.offered) old_is ran.longer in
        record {
          events = with_event event ran.events;
          now = stepped_link ∙ ap Some new_is;
          longer = subst (λ l. n ≤ length l.state.offered) new_is (omega arith);
          offers =
              λ parent child.
              let list : List ℕ = link.state.offered ++ drop n (received t parent) in
              let begins : IsPrefix old.state.offered list =
              subst (λ l. IsPrefix l.state.offered list) old_is (ran.offers parent child) in
              let child_of : parent_at t.parents e.child ≡ Some parent = ap (λ ps. parent_at ps e.child) since.parents_stay ∙ child in
              let from_parent : source t e.child ≡ received t parent = ap (λ o. option_map_or (λ q. received t q) o []) child_of in
              let long : n ≤ length (received t parent) =
              omega (
                arith,
                within e.child parent link on child is,
                prefix_no_longer (received s parent) (received t parent) (since.lists_grow parent (up e.child parent on child)),
              ) in
              let next : slice_get list (length old.state.offered) ≡ next_item t e.child =
              behind_front link.state.offered (received t parent) (length old.state.offered) was_longer long
              ∙ (ap (λ xs. slice_get xs (length old.state.offered)) (sym from_parent)
              ∙ sym (ap (λ o. option_and_then (λ l. slice_get (source t e.child) (length l.state.offered)) o) there)) in
              let offers : IsPrefix (link_after event old).state.offered list =
              act_offers list old e.act (next_item t e.child) next begins in
              subst (λ l. IsPrefix l.state.offered (link.state.offered ++ drop n (received after parent))) new_is
              (prefix_of_prefix (link_after event old).state.offered list (link.state.offered ++ drop n (received after parent)) offers
              (prefix_behind link.state.offered (drop n (received t parent)) (drop n (received after parent))
              (prefix_dropped n (received t parent) (received after parent) (received_grows parent))));
        }

    since_stepped : Since s after Linked Listed
    since_stepped = record {
      parents_stay = since.parents_stay;
      openings_stay = since.openings_stay;
      lists_grow =
          λ v listed.
          prefix_of_prefix (received s v) (received t v) (received after v) (since.lists_grow v listed) (received_grows v);
      root_alone =
          λ v listed none.
          elim (cases_eq v e.child) [
            | inl same ↦
                let never : None ≡ Some (link_after (event_on t e) old) = sym none ∙ (ap (λ w. link_into after w) same ∙ stepped_link) in
                absurd (none-some (link_after (event_on t e) old) never)
            | inr other ↦ since.root_alone v listed (sym (other_link v other) ∙ none)
          ];
      links =
          λ w link on is.
          elim (cases_eq w e.child) [
            | inl same ↦
                let stepped : LinkSince s after e.child link =
                stepped_since link (subst Linked same on) (ap (λ v. link_into s v) (sym same) ∙ is)
                (subst (λ v. LinkSince s t v link) same (since.links w link on is)) in
                subst (λ v. LinkSince s after v link) (sym same) stepped
            | inr other ↦ still_since t after w link on (other_link w other) (λ v _. received_grows v) (since.links w link on is)
          ];
    }

  -- an act keeps it
  pub since_act : (t : WholeTree) (e : TreeEvent) → Since s t Linked Listed → Since s (tree_step t e) Linked Listed
  since_act t e since =
      elim (none_or_some (link_into t e.child)) [
        | inl none ↦
            let same : set t.links e.child (option_map (link_after (event_on t e)) (link_into t e.child)) ≡ t.links =
            ap (λ o. set t.links e.child (option_map (link_after (event_on t e)) o)) none
            ∙ (ap (λ o. set t.links e.child o) (sym none) ∙ set-get_or t.links e.child None) in
            subst (λ links. Since s (record t { links = links }) Linked Listed) (sym same) since
        | inr some ↦
            subst (λ o. Since s (record t { links = set t.links e.child (option_map (link_after (event_on t e)) o) }) Linked Listed)
            (sym some.1) (since_stepped t e since some.0 some.1)
      ]

-- ---- changes

-- a link to which nothing happens
pub link_left : (happens : ℕ → LinkState → LinkState) (links : List (Option LinkValue)) (w : ℕ) → ((state : LinkState) → happens w state ≡ state)
    → get_or (each_link happens 0 links) w None ≡ get_or links w None
link_left happens links w nothing =
    happened_at happens links w ∙ same (get_or links w None)
  where
    same : (o : Option LinkValue) → option_map (λ l. link_at l.params (happens w l.state)) o ≡ o
    same None = refl
    same (Some l) = ap (λ z. Some (link_at l.params z)) (nothing l.state)

-- where nothing happens to what it delivered, and its node keeps its opening, the node's list
-- stays; and that of the root
pub list_left : (t u : WholeTree) (happens : ℕ → LinkState → LinkState) (v : ℕ) → u.links ≡ each_link happens 0 t.links
    → opening_at u.openings v ≡ opening_at t.openings v → ((state : LinkState) → (happens v state).delivered ≡ state.delivered)
    → (link_into t v ≡ None → u.published ≡ t.published) → received u v ≡ received t v
list_left t u happens v links opening nothing published =
    elim (none_or_some (link_into t v)) [
      | inl none ↦
          let none_after : link_into u v ≡ None =
          ap (λ ls. get_or ls v None) links ∙ (happened_at happens t.links v ∙ ap (λ o. option_map (λ l. link_at l.params (happens v l.state)) o) none) in
          received_unlinked u v none_after ∙ (published none ∙ sym (received_unlinked t v none))
      | inr (link, is) ↦
          let after : link_into u v ≡ Some (link_at link.params (happens v link.state)) =
          ap (λ ls. get_or ls v None) links ∙ (happened_at happens t.links v ∙ ap (λ o. option_map (λ l. link_at l.params (happens v l.state)) o) is) in
          received_linked u v (link_at link.params (happens v link.state)) after
          ∙ (ap (λ xs. xs ++ (happens v link.state).delivered) opening
          ∙ (ap (λ xs. opening_at t.openings v ++ xs) (nothing link.state) ∙ sym (received_linked t v link is)))
    ]

-- no link goes
pub none_left : (happens : ℕ → LinkState → LinkState) (links : List (Option LinkValue)) (v : ℕ)
    → get_or (each_link happens 0 links) v None ≡ None → get_or links v None ≡ None
none_left happens links v none = was (get_or links v None) (sym (happened_at happens links v) ∙ none)
  where
    was : (o : Option LinkValue) → option_map (λ l. link_at l.params (happens v l.state)) o ≡ None → o ≡ None
    was None is = refl
    was (Some l) is = absurd (none-some (link_at l.params (happens v l.state)) (sym is))

-- a list that stays begins with itself
stays : (xs ys : List ℕ) → ys ≡ xs → IsPrefix xs ys
stays xs ys same = subst (λ zs. IsPrefix xs zs) (sym same) (prefix_of_itself xs)

-- what a strike leaves of the lists
pub struck_delivers : (child : ℕ) (start : Start) (v : ℕ) (state : LinkState) → (struck_at child start v state).delivered ≡ state.delivered
struck_delivers child start v state = by (v == child)
  where
    by : (b : Bool) → (if b then record state { frames = start.frames; acks = start.acks; send_label = start.send_label; recv_label = start.recv_label } else state).delivered ≡ state.delivered
    by true = refl
    by false = refl

-- what a restart leaves of the lists of other nodes
pub restarted_delivers : (parents : List (Option ℕ)) (other v : ℕ) (state : LinkState) → (v == other) ≡ false
    → (restarted_at parents other v state).delivered ≡ state.delivered
restarted_delivers parents other v state differs = by (v == other) (is_parent parents other v) differs
  where
    by : (b c : Bool) → b ≡ false
        → (let anew = if b then record state { delivered = [] } else state in if c then record anew { offered = []; acked = 0 } else anew).delivered ≡ state.delivered
    by true c unlike = absurd (let never : true ≡ false = unlike in cc)
    by false true unlike = refl
    by false false unlike = refl

module _ (s : WholeTree) (Linked Listed : ℕ → Type 0)
    (up : (w parent : ℕ) → Linked w → parent_at s.parents w ≡ Some parent → Listed parent)
    (within : (w parent : ℕ) (link : LinkValue) → Linked w → parent_at s.parents w ≡ Some parent → link_into s w ≡ Some link
    → length link.state.offered ≤ length (received s parent)) where
  -- a strike elsewhere
  pub strike_leaves : (t : WholeTree) (child : ℕ) (start : Start) → (Linked child → ⊥)
      → Leaves s Linked Listed up within t (change_step t (Strike child start))
  strike_leaves t child start off = record {
    same_parents = refl;
    openings = λ w on. refl;
    links = λ w on.
        link_left (struck_at child start) t.links w
        (λ state. unchosen (w == child) _ state (differ w child (λ same. off (subst Linked same on))));
    lists = λ v listed.
        stays (received t v) (received (change_step t (Strike child start)) v)
        (list_left t (change_step t (Strike child start)) (struck_at child start) v refl refl (struck_delivers child start v) (λ none. refl));
    none_before = none_left (struck_at child start) t.links;
  }

  -- a restart elsewhere
  pub restart_leaves : (t : WholeTree) (other : ℕ) (list : List ℕ) → Since s t Linked Listed → (Linked other → ⊥) → (Listed other → ⊥)
      → Leaves s Linked Listed up within t (change_step t (Restart other list))
  restart_leaves t other list since off unlisted = record {
    same_parents = refl;
    openings = λ w on. get_or-set_other t.openings other w list [] (λ same. off (subst Linked same on));
    links = λ w on.
        link_left (restarted_at t.parents other) t.links w
        (λ state.
        unchosen (is_parent t.parents other w) _ _ (no_parent w on (parent_at t.parents w) refl)
        ∙ unchosen (w == other) _ state (differ w other (λ same. off (subst Linked same on))));
    lists = λ v listed.
        let others : v ≢ other = λ same. unlisted (subst Listed same listed) in
        stays (received t v) (received (change_step t (Restart other list)) v)
        (list_left t (change_step t (Restart other list)) (restarted_at t.parents other) v refl
        (get_or-set_other t.openings other v list [] others)
        (λ state. restarted_delivers t.parents other v state (differ v other others))
        (λ none.
        unchosen (other == root_of t.parents) list t.published
        (differ other (root_of t.parents)
        (λ same. others (since.root_alone v listed none ∙ (ap root_of (sym since.parents_stay) ∙ sym same))))));
    none_before = none_left (restarted_at t.parents other) t.links;
  }
    where
      no_parent : (w : ℕ) → Linked w → (o : Option ℕ) → parent_at t.parents w ≡ o → is_parent t.parents other w ≡ false
      no_parent w on None is = ap (λ o. option_map_or (λ parent. parent == other) o false) is
      no_parent w on (Some parent) is =
          ap (λ o. option_map_or (λ q. q == other) o false) is
          ∙ differ parent other
          (λ same. unlisted (subst Listed same (up w parent on (ap (λ ps. parent_at ps w) (sym since.parents_stay) ∙ is))))

  -- what is published later
  pub publish_leaves : (t : WholeTree) (items : List ℕ) → Leaves s Linked Listed up within t (change_step t (Publish items))
  publish_leaves t items = record {
    same_parents = refl;
    openings = λ w on. refl;
    links = λ w on. refl;
    lists = λ v listed. by v (link_into t v);
    none_before = λ v none. none;
  }
    where
      by : (v : ℕ) (o : Option LinkValue)
          → IsPrefix (option_map_or (λ l. opening_at t.openings v ++ l.state.delivered) o t.published)
          (option_map_or (λ l. opening_at t.openings v ++ l.state.delivered) o (t.published ++ items))
      by v None = (items, refl)
      by v (Some l) = prefix_of_itself (opening_at t.openings v ++ l.state.delivered)

  -- a fault that strikes one of these links, or restarts a node of one of them or one with one of
  -- these lists
  abbrev pub Touches : Change → Type 0
  Touches (Act e) = ⊥
  Touches (Publish items) = ⊥
  Touches (Strike child start) = Linked child
  Touches (Restart other list) = Linked other ⊎ Listed other

  abbrev pub Untouched : List Change → Type 0
  Untouched [] = Unit {0}
  Untouched (change ∷ changes) = (Touches change → ⊥) × Untouched changes

  -- changes that leave them alone keep what there is since
  pub untouched_since : (t : WholeTree) (changes : List Change) → Since s t Linked Listed → Untouched changes
      → Since s (changes_replay t changes) Linked Listed
  untouched_since t [] since spare = since
  untouched_since t (Act e ∷ changes) since spare =
      untouched_since (tree_step t e) changes (since_act s Linked Listed up within t e since) spare.1
  untouched_since t (Publish items ∷ changes) since spare =
      untouched_since (change_step t (Publish items)) changes
      (since_left s Linked Listed up within t (change_step t (Publish items)) (publish_leaves t items) since) spare.1
  untouched_since t (Strike child start ∷ changes) since spare =
      untouched_since (change_step t (Strike child start)) changes
      (since_left s Linked Listed up within t (change_step t (Strike child start)) (strike_leaves t child start spare.0) since) spare.1
  untouched_since t (Restart other list ∷ changes) since spare =
      untouched_since (change_step t (Restart other list)) changes
      (since_left s Linked Listed up within t (change_step t (Restart other list))
      (restart_leaves t other list since (λ on. spare.0 (inl on)) (λ listed. spare.0 (inr listed))) since)
      spare.1

-- ---- the path of a node

module _ (s : WholeTree) (node : ℕ) where
  abbrev pub OnPath : ℕ → Type 0
  OnPath w = Reaches s.parents node w

  -- the path goes on to the parent
  goes_up : (k from w parent : ℕ) → ancestor s.parents k from ≡ Some w → parent_at s.parents w ≡ Some parent
      → ancestor s.parents (suc k) from ≡ Some parent
  goes_up zero from w parent leads child =
      let here : from ≡ w = same_Some from w leads in
      ap (λ v. option_and_then (ancestor s.parents zero) (parent_at s.parents v)) here ∙ ap (λ o. option_and_then (ancestor s.parents zero) o) child
  goes_up (suc k) from w parent leads child =
      elim (none_or_some (parent_at s.parents from)) [
        | inl none ↦
            let never : None ≡ Some w = sym (ap (λ o. option_and_then (ancestor s.parents k) o) none) ∙ leads in
            absurd (none-some w never)
        | inr (first, is) ↦
            ap (λ o. option_and_then (ancestor s.parents (suc k)) o) is
            ∙ goes_up k first w parent (sym (ap (λ o. option_and_then (ancestor s.parents k) o) is) ∙ leads) child
      ]

  pub path_up : (w parent : ℕ) → OnPath w → parent_at s.parents w ≡ Some parent → OnPath parent
  path_up w parent (k, leads) child = (suc k, goes_up k node w parent leads child)

  -- changes that spare the node leave its path alone
  pub spared : (within : (w parent : ℕ) (link : LinkValue) → OnPath w → parent_at s.parents w ≡ Some parent → link_into s w ≡ Some link
      → length link.state.offered ≤ length (received s parent)) (changes : List Change) → Spare s.parents node changes
      → Untouched s OnPath OnPath path_up within changes
  spared within [] spare = tt
  spared within (Act e ∷ changes) spare = (spare.0, spared within changes spare.1)
  spared within (Publish items ∷ changes) spare = (spare.0, spared within changes spare.1)
  spared within (Strike child start ∷ changes) spare = (spare.0, spared within changes spare.1)
  spared within (Restart other list ∷ changes) spare =
      (λ hit. elim hit [ inl on ↦ spare.0 on | inr listed ↦ spare.0 listed ], spared within changes spare.1)
