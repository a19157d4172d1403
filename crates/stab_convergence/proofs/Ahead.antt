-- What is published later disturbs nothing earlier: beside the tree after the acts alone, in which
-- nothing is published, each node of a path has the same list, and what was published later behind.
use Rattle.std.proofs.Common.{◌≡◌, ℕ, zero, suc, ◌<◌, ◌≤◌, ◌==◌, ◌++◌, false, List, [], ◌∷◌, length, slice_get, option_and_then, is_some, true, Option, Some, None, refl, ap, ap₂, sym, ◌∙◌, subst, inl, inr, arith}
use mathlib.Core.List.{IsPrefix}
use Rattle.std.specs.Option.{option_map_or}
use Rattle.std.proofs.lemmas.Bool.{cases_eq, cases_lt}
use Rattle.std.proofs.lemmas.Option.{none-some, same_Some, slice_get_past}
use Rattle.stab_frames.specs.Parameters.{Parameters}
use Rattle.stab_core.specs.declared.event.Event.{Event}
use Rattle.stab_core.specs.Link.{LinkValue, link_at}
use Rattle.stab_core.specs.LinkActs.{event_of}
use Rattle.stab_core.specs.LinkState.{LinkState}
use Rattle.stab_core.specs.Replay.{replay}
use Rattle.stab_core.specs.Step.{step}
use Rattle.stab_core.proofs.Replays.{replay-append}
use Rattle.stab_core.proofs.ForCallers.{prefix_of_itself, prefix_of_prefix}
use Rattle.stab_tree.specs.Nodes.{Nodes, parent_at, root_of}
use Rattle.stab_tree.specs.NodeOpenings.{opening_at}
use Rattle.stab_tree.specs.Steps.{Reaches}
use Rattle.stab_treecore.specs.declared.event.TreeEvent.{TreeEvent}
use Rattle.stab_treecore.specs.TreeReplay.{tree_replay}
use Rattle.stab_treecore.specs.TreeStep.{link_after, next_item, tree_step}
use Rattle.stab_treecore.specs.WholeTree.{WholeTree, link_into, received, source}
use Rattle.stab_treecore.proofs.ForChanges.{differ, unchosen}
use Rattle.stab_treecore.proofs.Linked.{same_kind}
use Rattle.stab_treecore.specs.declared.change.Change.{Change}
use Rattle.stab_treecore.specs.declared.change.Change.TheVariants.{Act, Publish, Restart, Strike}
use Rattle.stab_treecore.specs.Changes.{change_step, changes_replay}
use Rattle.stab_treecore.specs.Hits.{Spare}
use Rattle.stab_treecore.specs.Since.{IsState, acked_at}
use Rattle.stab_treecore.proofs.Grown.{prefix_behind, prefix_no_longer}
use Rattle.stab_treecore.proofs.Kept.{none_or_some, Leaves, OnPath, path_up, Since, since_act, since_at_first, since_left, strike_leaves, restart_leaves, publish_leaves}
use Rattle.stab_treecore.proofs.NodesSince.{root_alone}
use Rattle.stab_rounds.specs.Rounds.{IsWithin}
use Rattle.stab_rounds.proofs.Drains.{Drained, top, under, drained_step}
use Rattle.stab_rounds.proofs.Links.{after_event, quiet_after}
use Rattle.stab_rounds.proofs.Steps.{replay_grows}
use Rattle.stab_rounds.proofs.TreeSteps.{At, IsSound, child_of, keeps, known, linked, none_after, of_link, offered_few, received_step, replay_within, step_at, step_other, stepped_own}
use Rattle.stab_convergence.specs.PathRounds.{acts_among}
use Rattle.stab_convergence.proofs.Follows.{still, gone, Past, act_splits, delivers_first, past_step}
use Rattle.stab_convergence.proofs.Lags.{fixed_at, state_is_sound}

-- a place within a front has its entry
slice_in_front : (xs rest : List ℕ) (i : ℕ) → i < length xs → slice_get (xs ++ rest) i ≡ slice_get xs i
slice_in_front [] rest i within = absurd (omega arith)
slice_in_front (x ∷ xs) rest zero within = refl
slice_in_front (x ∷ xs) rest (suc i) within = slice_in_front xs rest i (omega arith)

-- a replay and one more event, where there is one
more_events : (p : Parameters) (z x : LinkState) (es : List Event) (o : Option Event) → x ≡ replay p z es
    → (fs : List Event) × (after_event p x o ≡ replay p z fs)
more_events p z x es None is = (es, is)
more_events p z x es (Some e) is = (es ++ e ∷ [], ap (λ (u : LinkState). step p u e) is ∙ sym (replay-append p z es (e ∷ [])))

-- two links that were one, in which no item waited, and of which one has acknowledged no more
pub record Parted (s : WholeTree) (w : ℕ) (p : Parameters) (x y : LinkState) : Type 0 where
  pub first : LinkState
  pub there : At s w p first
  pub together : List Event
  pub alone : List Event
  pub onwards : List Event
  pub idle : length (replay p first together).offered ≡ (replay p first together).acked
  pub same_count : (replay p first together).acked ≡ x.acked
  pub x_is : x ≡ replay p (replay p first together) alone
  pub y_is : y ≡ replay p (replay p first together) onwards

parted_on : (s : WholeTree) (w : ℕ) (p : Parameters) (x y : LinkState) (o o' : Option Event) → (after_event p x o).acked ≡ x.acked
    → Parted s w p x y → Parted s w p (after_event p x o) (after_event p y o')
parted_on s w p x y o o' equal parted =
    let z : LinkState = replay p parted.first parted.together in
    let (alone, x_is) = more_events p z x parted.alone o parted.x_is in
    let (onwards, y_is) = more_events p z y parted.onwards o' parted.y_is in
    record {
      first = parted.first;
      there = parted.there;
      together = parted.together;
      alone = alone;
      onwards = onwards;
      idle = parted.idle;
      same_count = parted.same_count ∙ sym equal;
      x_is = x_is;
      y_is = y_is;
    }

module _ (tree : Nodes) (s : WholeTree) (is : IsState tree s) (node : ℕ) (is_node : node < length s.parents) where
  abbrev On : ℕ → Type 0
  On = OnPath s node

  root_on : Reaches s.parents node (root_of s.parents)
  root_on = subst (λ ps. node < length ps → Reaches ps node (root_of ps)) (sym is.parents) (is.is_tree.reaches_root node) is_node

  within : (w parent : ℕ) (link : LinkValue) → On w → parent_at s.parents w ≡ Some parent → link_into s w ≡ Some link
      → length link.state.offered ≤ length (received s parent)
  within w parent link on child there = is.within w parent link child there

  -- the link into a node: the same in both, or past what there is without
  pub data LinkAhead (t a : WholeTree) (w : ℕ) : Type 0 where
    same : link_into t w ≡ link_into a w → LinkAhead t a w
    past : (u : ℕ) (p : Parameters) (x y : LinkState) → parent_at s.parents w ≡ Some u → At a w p x → At t w p y → Past x y
        → Drained a s.parents u → x.acked ≡ length (received a u) → length (received a u) < length (received t u) → Parted s w p x y → LinkAhead t a w

  pub record Ahead (t a : WholeTree) : Type 0 where
    pub first_parents : t.parents ≡ s.parents
    pub sound : IsSound (fixed_at tree s is) a
    pub published : IsPrefix a.published t.published
    pub openings : (w : ℕ) → On w → opening_at t.openings w ≡ opening_at a.openings w
    pub links : (w : ℕ) → On w → LinkAhead t a w

  module _ (t a : WholeTree) (ahead : Ahead t a) where
    same_links : (w : ℕ) → On w → link_into t w ≡ link_into a w → IsPrefix (received a w) (received t w)
    same_links w on link =
        elim (none_or_some (link_into a w)) [
          | inl none ↦
              let front : received a w ≡ a.published = ap (λ o. option_map_or (λ (l : LinkValue). opening_at a.openings w ++ l.state.delivered) o a.published) none in
              let whole : received t w ≡ t.published =
              ap (λ o. option_map_or (λ (l : LinkValue). opening_at t.openings w ++ l.state.delivered) o t.published) (link ∙ none) in
              subst (λ xs. IsPrefix xs (received t w)) (sym front) (subst (λ ys. IsPrefix a.published ys) (sym whole) ahead.published)
          | inr (l, there) ↦
              let equal : received a w ≡ received t w =
              of_link a w l there ∙ (ap (λ xs. xs ++ l.state.delivered) (sym (ahead.openings w on)) ∙ sym (of_link t w l (link ∙ there))) in
              subst (λ ys. IsPrefix (received a w) ys) equal (prefix_of_itself (received a w))
        ]

    pub front : (w : ℕ) → On w → IsPrefix (received a w) (received t w)
    front w on =
        elim (ahead.links w on) [
          | same link ↦ same_links w on link
          | past u p x y child at_a at_t is_past drained all more parted ↦
              let first : received a w ≡ opening_at a.openings w ++ x.delivered = of_link a w (link_at p x) at_a in
              let whole : received t w ≡ opening_at a.openings w ++ y.delivered =
              of_link t w (link_at p y) at_t ∙ ap (λ xs. xs ++ y.delivered) (ahead.openings w on) in
              subst (λ xs. IsPrefix xs (received t w)) (sym first)
              (subst (λ ys. IsPrefix (opening_at a.openings w ++ x.delivered) ys) (sym whole)
              (prefix_behind (opening_at a.openings w) x.delivered y.delivered (delivers_first x y is_past.behind)))
        ]

    -- where the lists differ, the shorter one is all that there is without
    pub drained_front : (w : ℕ) → On w → length (received a w) < length (received t w) → Drained a s.parents w
    drained_front w on shorter =
        elim (none_or_some (parent_at s.parents w)) [
          | inl none ↦ top none
          | inr (parent, is_child) ↦
              elim (ahead.links w on) [
                | same link ↦
                    let (p, x, there) = linked (fixed_at tree s is) a ahead.sound w parent is_child in
                    let equal : received a w ≡ received t w =
                    of_link a w (link_at p x) there
                    ∙ (ap (λ xs. xs ++ x.delivered) (sym (ahead.openings w on)) ∙ sym (of_link t w (link_at p x) (link ∙ there))) in
                    absurd (omega (arith, shorter, ap length equal))
                | past u p x y child at_a at_t is_past drained all more parted ↦
                    elim is_past.behind [
                      | still label list frames ↦
                          let equal : received a w ≡ received t w =
                          of_link a w (link_at p x) at_a
                          ∙ (ap₂ (λ xs ys. xs ++ ys) (sym (ahead.openings w on)) (sym list) ∙ sym (of_link t w (link_at p y) at_t)) in
                          absurd (omega (arith, shorter, ap length equal))
                      | gone none list ↦ under u p x child at_a all none drained
                    ]
              ]
        ]

    -- ---- an act on both

    own_root : (w : ℕ) → On w → parent_at s.parents w ≡ None → next_item t w ≡ next_item a w
    own_root w on none =
        let first : source t w ≡ [] = ap (λ o. option_map_or (λ v. received t v) o []) (ap (λ ps. parent_at ps w) ahead.first_parents ∙ none) in
        let second : source a w ≡ [] =
        ap (λ o. option_map_or (λ v. received a v) o []) (ap (λ ps. parent_at ps w) ahead.sound.parents_stay ∙ none) in
        nothing t first ∙ sym (nothing a second)
      where
        nothing : (b : WholeTree) → source b w ≡ [] → next_item b w ≡ None
        nothing b empty =
            by (link_into b w) (ap (λ xs. option_and_then (λ (l : LinkValue). slice_get xs (length l.state.offered)) (link_into b w)) empty)
          where
            by : (o : Option LinkValue) → next_item b w ≡ option_and_then (λ (l : LinkValue). slice_get [] (length l.state.offered)) o → next_item b w ≡ None
            by None is_none = is_none
            by (Some l) is_none = is_none

    -- the link into a node that has no parent
    stepped_alike : (e : TreeEvent) → next_item t e.child ≡ next_item a e.child → link_into t e.child ≡ link_into a e.child
        → link_into (tree_step t e) e.child ≡ link_into (tree_step a e) e.child
    stepped_alike e item link =
        elim (none_or_some (link_into t e.child)) [
          | inl none ↦ none_after t e none ∙ sym (none_after a e (sym link ∙ none))
          | inr (l, there) ↦
              stepped_own t e l there
              ∙ (ap (λ o. Some (link_after (event_of e.act o) l)) item ∙ sym (stepped_own a e l (sym link ∙ there)))
        ]

    module _ (e : TreeEvent) (since : Since s t On On) where
      -- what a link that is past leaves is past
      still_past : (w u : ℕ) (p : Parameters) (x y : LinkState) → parent_at s.parents w ≡ Some u → At (tree_step a e) w p x → At (tree_step t e) w p y
          → Past x y → Drained a s.parents u → x.acked ≡ length (received a u) → length (received a u) < length (received t u)
          → Parted s w p x y → LinkAhead (tree_step t e) (tree_step a e) w
      still_past w u p x y child at_a at_t is_past drained all more parted =
          let (drained_now, list) = drained_step (fixed_at tree s is) a e ahead.sound u drained in
          past u p x y child at_a at_t is_past drained_now (all ∙ ap length (sym list)) (omega (arith, more, ap length list, received_step t e u)) parted

      -- a link that is a replay since the first state
      parted_here : (w u : ℕ) (p : Parameters) (x : LinkState) → On w → parent_at s.parents w ≡ Some u → At t w p x → length x.offered ≡ x.acked
          → Parted s w p x x
      parted_here w u p x on child at_t idle =
          let (q, first, there) = linked (fixed_at tree s is) s (state_is_sound tree s is) w u child in
          let ran = since.links w (link_at q first) on there in
          let its : link_at q (replay q first ran.events) ≡ link_at p x =
          same_Some (link_at q (replay q first ran.events)) (link_at p x) (sym ran.now ∙ at_t) in
          let params : q ≡ p = ap (λ (l : LinkValue). l.params) its in
          let here : x ≡ replay p first ran.events =
          sym (ap (λ (l : LinkValue). l.state) its) ∙ ap (λ r. replay r first ran.events) params in
          record {
            first = first;
            there = subst (λ r. At s w r first) params there;
            together = ran.events;
            alone = [];
            onwards = [];
            idle = subst (λ (u : LinkState). length u.offered ≡ u.acked) here idle;
            same_count = ap (λ (u : LinkState). u.acked) (sym here);
            x_is = here;
            y_is = here;
          }

      own : (w : ℕ) → On w → e.child ≡ w → LinkAhead (tree_step t e) (tree_step a e) w
      own w on here =
          elim (ahead.links w on) [
            | past u p x y child at_a at_t is_past drained all more parted ↦
                let idle : length x.offered ≡ length (received a u) = is_past.idle ∙ all in
                let none : slice_get (received a u) (length x.offered) ≡ None = slice_get_past (received a u) (length x.offered) (omega (arith, idle)) in
                let item : Option ℕ = slice_get (received t u) (length y.offered) in
                let now_a : At (tree_step a e) w p (after_event p x (event_of e.act None)) =
                subst (λ o. At (tree_step a e) w p (after_event p x (event_of e.act o))) none
                (step_at a e w u p x (child_of (fixed_at tree s is) a ahead.sound w u child) at_a here) in
                let now_t : At (tree_step t e) w p (after_event p y (event_of e.act item)) =
                step_at t e w u p y (ap (λ ps. parent_at ps w) ahead.first_parents ∙ child) at_t here in
                still_past w u p (after_event p x (event_of e.act None)) (after_event p y (event_of e.act item)) child now_a now_t
                (past_step p x y e.act item is_past) drained ((quiet_after p x e.act is_past.idle).acked ∙ all) more
                (parted_on s w p x y (event_of e.act None) (event_of e.act item) (quiet_after p x e.act is_past.idle).acked parted)
            | same link ↦
                elim (none_or_some (parent_at s.parents w)) [
                  | inl root ↦
                      same
                      (subst (λ v. On v → parent_at s.parents v ≡ None → link_into t v ≡ link_into a v → link_into (tree_step t e) v ≡ link_into (tree_step a e) v) here
                      (λ on_v root_v link_v. stepped_alike e (own_root e.child on_v root_v) link_v) on root link)
                  | inr (u, child) ↦
                      let (p, x, at_a) = linked (fixed_at tree s is) a ahead.sound w u child in
                      let at_t : At t w p x = link ∙ at_a in
                      let now_a : At (tree_step a e) w p (after_event p x (event_of e.act (slice_get (received a u) (length x.offered)))) =
                      step_at a e w u p x (child_of (fixed_at tree s is) a ahead.sound w u child) at_a here in
                      let now_t : At (tree_step t e) w p (after_event p x (event_of e.act (slice_get (received t u) (length x.offered)))) =
                      step_at t e w u p x (ap (λ ps. parent_at ps w) ahead.first_parents ∙ child) at_t here in
                      let fed : length x.offered ≤ length (received a u) = offered_few (fixed_at tree s is) a ahead.sound w u p x child at_a in
                      let (rest, is_front) = front u (path_up s node w u on child) in
                      elim (cases_lt (length x.offered) (length (received a u))) [
                        | inl there ↦
                            let items : slice_get (received t u) (length x.offered) ≡ slice_get (received a u) (length x.offered) =
                            ap (λ xs. slice_get xs (length x.offered)) (sym is_front) ∙ slice_in_front (received a u) rest (length x.offered) there in
                            same (now_t ∙ (ap (λ o. Some (link_at p (after_event p x (event_of e.act o)))) items ∙ sym now_a))
                        | inr past_a ↦
                            let none : slice_get (received a u) (length x.offered) ≡ None = slice_get_past (received a u) (length x.offered) past_a in
                            let none_a : At (tree_step a e) w p (after_event p x (event_of e.act None)) =
                            subst (λ o. At (tree_step a e) w p (after_event p x (event_of e.act o))) none now_a in
                            elim (cases_lt (length x.offered) (length (received t u))) [
                              | inr past_t ↦
                                  let none_t : At (tree_step t e) w p (after_event p x (event_of e.act None)) =
                                  subst (λ o. At (tree_step t e) w p (after_event p x (event_of e.act o)))
                                  (slice_get_past (received t u) (length x.offered) past_t) now_t in
                                  same (none_t ∙ sym none_a)
                              | inl there ↦
                                  let shorter : length (received a u) < length (received t u) = omega arith in
                                  elim (act_splits p x e.act (slice_get (received t u) (length x.offered))) [
                                    | inl alike ↦ same (now_t ∙ (ap (λ z. Some (link_at p z)) alike ∙ sym none_a))
                                    | inr (is_past, acked, idle) ↦
                                        still_past w u p (after_event p x (event_of e.act None))
                                        (after_event p x (event_of e.act (slice_get (received t u) (length x.offered)))) child none_a now_t is_past
                                        (drained_front u (path_up s node w u on child) shorter)
                                        (let counts : length x.offered ≡ length (received a u) = omega arith in acked ∙ counts) shorter
                                        (parted_on s w p x x (event_of e.act None) (event_of e.act (slice_get (received t u) (length x.offered))) (acked ∙ idle)
                                        (parted_here w u p x on child at_t idle))
                                  ]
                            ]
                      ]
                ]
          ]

      pub act_ahead : Ahead (tree_step t e) (tree_step a e)
      act_ahead = record {
        first_parents = ahead.first_parents;
        sound = keeps (fixed_at tree s is) a e ahead.sound;
        published = ahead.published;
        openings = ahead.openings;
        links =
            λ w on.
            elim (cases_eq e.child w) [
              | inl here ↦ own w on here
              | inr other ↦
                  elim (ahead.links w on) [
                    | same link ↦ same (step_other t e w other ∙ (link ∙ sym (step_other a e w other)))
                    | past u p x y child at_a at_t is_past drained all more parted ↦
                        still_past w u p x y child (step_other a e w other ∙ at_a) (step_other t e w other ∙ at_t) is_past drained all more parted
                  ]
            ];
      }

    -- what leaves the path alone, and only adds to its lists
    left_ahead : (v : WholeTree) → Leaves s On On (path_up s node) within t v → IsPrefix t.published v.published → Ahead v a
    left_ahead v leaves grows = record {
      first_parents = leaves.same_parents ∙ ahead.first_parents;
      sound = ahead.sound;
      published = prefix_of_prefix a.published t.published v.published ahead.published grows;
      openings = λ w on. leaves.openings w on ∙ ahead.openings w on;
      links =
          λ w on.
          elim (ahead.links w on) [
            | same link ↦ same (leaves.links w on ∙ link)
            | past u p x y child at_a at_t is_past drained all more parted ↦
                past u p x y child at_a (leaves.links w on ∙ at_t) is_past drained all
                (omega (arith, more, prefix_no_longer (received t u) (received v u) (leaves.lists u (path_up s node w u on child)))) parted
          ];
    }

  -- where nothing was published, no link is past
  same_or_above : (t a : WholeTree) → Ahead t a → a.published ≡ t.published → (w : ℕ) → On w → length (received a w) < length (received t w)
      → (u : ℕ) × (parent_at s.parents w ≡ Some u) × (length (received a u) < length (received t u))
  same_or_above t a ahead nothing w on shorter =
      elim (ahead.links w on) [
        | past u p x y child at_a at_t is_past drained all more parted ↦ (u, child, more)
        | same link ↦
            elim (none_or_some (link_into a w)) [
              | inl none ↦
                  let first : received a w ≡ a.published =
                  ap (λ q. option_map_or (λ (l : LinkValue). opening_at a.openings w ++ l.state.delivered) q a.published) none in
                  let second : received t w ≡ t.published =
                  ap (λ q. option_map_or (λ (l : LinkValue). opening_at t.openings w ++ l.state.delivered) q t.published) (link ∙ none) in
                  absurd (omega (arith, shorter, ap length first, ap length second, ap length nothing))
              | inr (l, there) ↦
                  let equal : received a w ≡ received t w =
                  of_link a w l there ∙ (ap (λ xs. xs ++ l.state.delivered) (sym (ahead.openings w on)) ∙ sym (of_link t w l (link ∙ there))) in
                  absurd (omega (arith, shorter, ap length equal))
            ]
      ]

  none_shorter : (t a : WholeTree) → Ahead t a → a.published ≡ t.published → (w : ℕ) → On w → Drained a s.parents w
      → length (received a w) < length (received t w) → ⊥
  none_shorter t a ahead nothing w on (top none) shorter =
      let (u, child, more) = same_or_above t a ahead nothing w on shorter in
      none-some u (sym none ∙ child)
  none_shorter t a ahead nothing w on (under v p x is_child there all empty above) shorter =
      let (u, child, more) = same_or_above t a ahead nothing w on shorter in
      none_shorter t a ahead nothing v (path_up s node w v on is_child) above
      (subst (λ q. length (received a q) < length (received t q)) (same_Some u v (sym child ∙ is_child)) more)

  pub links_stay : (t a : WholeTree) → Ahead t a → a.published ≡ t.published → (w : ℕ) → On w → link_into t w ≡ link_into a w
  links_stay t a ahead nothing w on =
      elim (ahead.links w on) [
        | same link ↦ link
        | past u p x y child at_a at_t is_past drained all more parted ↦
            absurd (none_shorter t a ahead nothing u (path_up s node w u on child) drained more)
      ]

  pub lists_stay : (t a : WholeTree) → Ahead t a → a.published ≡ t.published → (w : ℕ) → On w → received a w ≡ received t w
  lists_stay t a ahead nothing w on =
      ap₂ (λ (o : Option LinkValue) opening. option_map_or (λ (l : LinkValue). opening ++ l.state.delivered) o a.published)
      (sym (links_stay t a ahead nothing w on)) (sym (ahead.openings w on))
      ∙ ap (λ xs. option_map_or (λ (l : LinkValue). opening_at t.openings w ++ l.state.delivered) (link_into t w) xs) nothing

  -- the root has what is published
  pub root_list : (t a : WholeTree) → Ahead t a → (w : ℕ) → On w → parent_at s.parents w ≡ None → received t w ≡ t.published
  root_list t a ahead w on none =
      elim (ahead.links w on) [
        | past u p x y child at_a at_t is_past drained all more parted ↦ absurd (none-some u (sym none ∙ child))
        | same link ↦
            elim (none_or_some (link_into a w)) [
              | inl no_link ↦
                  ap (λ q. option_map_or (λ (l : LinkValue). opening_at t.openings w ++ l.state.delivered) q t.published) (link ∙ no_link)
              | inr (l, there) ↦
                  (let kind : is_some (link_into a w) ≡ is_some (parent_at a.parents w) = same_kind a.links a.parents w ahead.sound.linked in
                  let never : true ≡ false =
                  sym (ap is_some there) ∙ kind ∙ ap is_some (ap (λ ps. parent_at ps w) ahead.sound.parents_stay ∙ none) in cc)
            ]
      ]

  -- no link of the path has acknowledged less
  pub acked_no_less : (t a : WholeTree) → Ahead t a → (w : ℕ) → On w → acked_at a w ≤ acked_at t w
  acked_no_less t a ahead w on =
      elim (ahead.links w on) [
        | same link ↦
            let equal : acked_at t w ≡ acked_at a w = ap (λ o. option_map_or (λ (l : LinkValue). l.state.acked) o 0) link in
            omega arith
        | past u p x y child at_a at_t is_past drained all more parted ↦
            let z : LinkState = replay p parted.first parted.together in
            let within : IsWithin p z =
            replay_within p parted.first parted.together
            (known (fixed_at tree s is) s (state_is_sound tree s is) w p parted.first parted.there).within in
            let same_count = parted.same_count in
            let first : acked_at a w ≡ x.acked = ap (λ o. option_map_or (λ (l : LinkValue). l.state.acked) o 0) at_a in
            let last : acked_at t w ≡ y.acked = ap (λ o. option_map_or (λ (l : LinkValue). l.state.acked) o 0) at_t in
            omega (arith, replay_grows p z parted.onwards within, ap (λ (v : LinkState). v.acked) parted.y_is)
      ]

  itself : Ahead s s
  itself = record {
    first_parents = refl;
    sound = state_is_sound tree s is;
    published = prefix_of_itself s.published;
    openings = λ w on. refl;
    links = λ w on. same refl;
  }

  ahead_over : (changes : List Change) (t a : WholeTree) → Spare s.parents node changes → Since s t On On → Ahead t a
      → Ahead (changes_replay t changes) (tree_replay a (acts_among changes))
  ahead_over [] t a spare since ahead = ahead
  ahead_over (Act e ∷ changes) t a spare since ahead =
      ahead_over changes (tree_step t e) (tree_step a e) spare.1 (since_act s On On (path_up s node) within t e since) (act_ahead t a ahead e since)
  ahead_over (Publish items ∷ changes) t a spare since ahead =
      let u = change_step t (Publish items) in
      let leaves = publish_leaves s On On (path_up s node) within t items in
      ahead_over changes u a spare.1 (since_left s On On (path_up s node) within t u leaves since) (left_ahead t a ahead u leaves (items, refl))
  ahead_over (Strike child start ∷ changes) t a spare since ahead =
      let u = change_step t (Strike child start) in
      let leaves = strike_leaves s On On (path_up s node) within t child start spare.0 in
      ahead_over changes u a spare.1 (since_left s On On (path_up s node) within t u leaves since)
      (left_ahead t a ahead u leaves (prefix_of_itself t.published))
  ahead_over (Restart other list ∷ changes) t a spare since ahead =
      let u = change_step t (Restart other list) in
      let leaves = restart_leaves s On On (path_up s node) within t other list since spare.0 spare.0 in
      let elsewhere : (other == root_of t.parents) ≡ false =
      differ other (root_of t.parents) (λ same. spare.0 (subst On (sym (same ∙ ap root_of since.parents_stay)) root_on)) in
      ahead_over changes u a spare.1 (since_left s On On (path_up s node) within t u leaves since)
      (left_ahead t a ahead u leaves
      (subst (λ xs. IsPrefix t.published xs) (sym (unchosen (other == root_of t.parents) list t.published elsewhere)) (prefix_of_itself t.published)))

  -- from a state on, whatever is published and whatever faults there are elsewhere
  pub ahead_of_acts : (changes : List Change) → Spare s.parents node changes → Ahead (changes_replay s changes) (tree_replay s (acts_among changes))
  ahead_of_acts changes spare = ahead_over changes s s spare (since_at_first s On On (root_alone tree s is node is_node)) itself
