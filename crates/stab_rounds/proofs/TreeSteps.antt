-- What a step of a whole tree leaves of the link into one node, and so what a part of a schedule
-- leaves.
use Rattle.std.proofs.Common.{◌≡◌, ◌≢◌, ◌⊎◌, inl, inr, ℕ, zero, suc, ◌+◌, ◌<◌, ◌≤◌, ◌==◌, true, false, List, [], ◌∷◌, ◌++◌, length, slice_get, get_or, set, map, drop, option_map, is_some, Option, Some, None, All, refl, sym, ◌∙◌, ap, subst, arith, eq-eqb, ne_eqb, length-append}
use Rattle.std.specs.Option.{option_map_or}
use Rattle.std.specs.Prelude.{option_and_then}
use Rattle.std.proofs.lemmas.Bool.{cond-false, cond-true, cases_Bool, cases_eq}
use Rattle.std.proofs.lemmas.List.{get_or-set_other, length-drop}
use Rattle.std.proofs.lemmas.Option.{none-some, same_Some}
use Rattle.stab_frames.specs.Parameters.{Parameters}
use mathlib.Core.List.{IsPrefix}
use Rattle.stab_core.specs.declared.act.LinkAct.{LinkAct}
use Rattle.stab_core.specs.declared.event.Event.{Event}
use Rattle.stab_core.specs.Link.{LinkValue, link_at}
use Rattle.stab_core.specs.LinkActs.{event_of}
use Rattle.stab_core.specs.LinkSetup.{CanBegin, LinkSetup}
use Rattle.stab_core.specs.LinkState.{LinkState}
use Rattle.stab_core.specs.Replay.{initial, replay}
use Rattle.stab_core.specs.Step.{step}
use Rattle.stab_tree.specs.Nodes.{parent_at}
use Rattle.stab_tree.specs.NodeOpenings.{opening_at}
use Rattle.stab_tree.proofs.ForCallers.{holds_by_child}
use Rattle.stab_treecore.specs.declared.event.TreeEvent.{TreeEvent}
use Rattle.stab_treecore.specs.Network.{Network}
use Rattle.stab_treecore.specs.NodeLaws.{capacity_into}
use Rattle.stab_treecore.specs.TreeReplay.{tree_replay}
use Rattle.stab_treecore.specs.TreeStep.{next_item, event_on, link_after, tree_step}
use Rattle.stab_treecore.specs.WholeTree.{WholeTree, link_into, received, source}
use Rattle.stab_treecore.proofs.Linked.{kind-set, same_kind}
use Rattle.stab_treecore.proofs.Replayed.{IsRun}
use Rattle.stab_treecore.proofs.Stepped.{act_offers, after_delivers}
use Rattle.stab_rounds.specs.declared.round.Awaited.{Awaited}
use Rattle.stab_rounds.specs.Rounds.{IsWithin, awaited_after, completed_by, rounds_from}
use Rattle.stab_rounds.specs.TreeRounds.{acts_on}
use Rattle.stab_rounds.proofs.Levels.{Holding, Level}
use Rattle.stab_rounds.proofs.Steps.{accepts, stays, within_step, step_grows}
use Rattle.stab_rounds.proofs.Midway.{Due}
use Rattle.stab_rounds.proofs.Counted.{still, done, due_next}
use Rattle.stab_rounds.proofs.Links.{after_event, after_at, within_after, level_after, closed_after, act_due}

pub none_or_some : {A : Type 0} (o : Option A) → (o ≡ None) ⊎ ((x : A) × (o ≡ Some x))
none_or_some None = inl refl
none_or_some (Some x) = inr (x, refl)

written_same : {A : Type 0} (xs : List (Option A)) (i : ℕ) (old new : A) → get_or xs i None ≡ Some old → get_or (set xs i (Some new)) i None ≡ Some new
written_same [] i old new there = absurd (none-some old there)
written_same (x ∷ xs) zero old new there = refl
written_same (x ∷ xs) (suc i) old new there = written_same xs i old new there

written_none : {A : Type 0} (xs : List (Option A)) (i : ℕ) → get_or (set xs i None) i None ≡ None
written_none [] i = refl
written_none (x ∷ xs) zero = refl
written_none (x ∷ xs) (suc i) = written_none xs i

-- the link into a node has these parameters and this state
abbrev pub At : WholeTree → ℕ → Parameters → LinkState → Type 0
At t w p s = link_into t w ≡ Some (link_at p s)

-- the link into a node is not closed
abbrev pub OpenAt : WholeTree → ℕ → Type 0
OpenAt t w = (link : LinkValue) → link_into t w ≡ Some link → link.state.closed ≡ false

-- ---- one step

pub stepped_own : (t : WholeTree) (e : TreeEvent) (link : LinkValue) → link_into t e.child ≡ Some link
    → link_into (tree_step t e) e.child ≡ Some (link_after (event_on t e) link)
stepped_own t e link there =
    ap (λ o. get_or (set t.links e.child (option_map (link_after (event_on t e)) o)) e.child None) there
    ∙ written_same t.links e.child link (link_after (event_on t e) link) there

-- where there was no link, there is none
pub none_after : (t : WholeTree) (e : TreeEvent) → link_into t e.child ≡ None → link_into (tree_step t e) e.child ≡ None
none_after t e none =
    ap (λ o. get_or (set t.links e.child (option_map (link_after (event_on t e)) o)) e.child None) none
    ∙ written_none t.links e.child

pub step_other : (t : WholeTree) (e : TreeEvent) (w : ℕ) → e.child ≢ w → link_into (tree_step t e) w ≡ link_into t w
step_other t e w other =
    get_or-set_other t.links e.child w (option_map (link_after (event_on t e)) (link_into t e.child)) None (λ same. other (sym same))

-- the item that the link into a node is offered next
its_item : (t : WholeTree) (w u : ℕ) (p : Parameters) (s : LinkState) → parent_at t.parents w ≡ Some u → At t w p s
    → next_item t w ≡ slice_get (received t u) (length s.offered)
its_item t w u p s is_child there =
    ap (λ o. option_and_then (λ (l : LinkValue). slice_get (source t w) (length l.state.offered)) o) there
    ∙ ap (λ o. slice_get (option_map_or (λ parent. received t parent) o []) (length s.offered)) is_child

pub step_at : (t : WholeTree) (e : TreeEvent) (w u : ℕ) (p : Parameters) (s : LinkState) → parent_at t.parents w ≡ Some u → At t w p s
    → e.child ≡ w → At (tree_step t e) w p (after_event p s (event_of e.act (slice_get (received t u) (length s.offered))))
step_at t e w u p s is_child there same =
    subst (λ v. link_into t v ≡ Some (link_at p s) → link_into (tree_step t e) v ≡ Some (link_after (event_on t e) (link_at p s))) same
    (stepped_own t e (link_at p s)) there
    ∙ ap (λ v. Some (link_after (event_of e.act (next_item t v)) (link_at p s))) same
    ∙ ap (λ item. Some (link_after (event_of e.act item) (link_at p s))) (its_item t w u p s is_child there)
    ∙ ap Some (after_at p s (event_of e.act (slice_get (received t u) (length s.offered))))

pub acts_own : (w : ℕ) (e : TreeEvent) (es : List TreeEvent) → e.child ≡ w → acts_on w (e ∷ es) ≡ e.act ∷ acts_on w es
acts_own w e es same = cond-true (e.child == w) (e.act ∷ acts_on w es) (acts_on w es) (eq-eqb _ _ same)

pub acts_other : (w : ℕ) (e : TreeEvent) (es : List TreeEvent) → e.child ≢ w → acts_on w (e ∷ es) ≡ acts_on w es
acts_other w e es other = cond-false (e.child == w) (e.act ∷ acts_on w es) (acts_on w es) (ne_eqb _ _ other)

-- what a node received only grows
grown_behind : (opening before after : List ℕ) (rest : List ℕ) → before ++ rest ≡ after → length (opening ++ before) ≤ length (opening ++ after)
grown_behind opening before after rest is =
    omega (arith, length-append opening before, length-append opening after, length-append before rest, ap length is)

pub of_link : (t : WholeTree) (u : ℕ) (link : LinkValue) → link_into t u ≡ Some link → received t u ≡ opening_at t.openings u ++ link.state.delivered
of_link t u link there = ap (λ o. option_map_or (λ (l : LinkValue). opening_at t.openings u ++ l.state.delivered) o t.published) there

of_root : (t : WholeTree) (u : ℕ) → link_into t u ≡ None → received t u ≡ t.published
of_root t u none = ap (λ o. option_map_or (λ (l : LinkValue). opening_at t.openings u ++ l.state.delivered) o t.published) none

pub received_step : (t : WholeTree) (e : TreeEvent) (u : ℕ) → length (received t u) ≤ length (received (tree_step t e) u)
received_step t e u =
    elim (cases_eq e.child u) [
      | inr other ↦
          let same = ap (λ o. option_map_or (λ (l : LinkValue). opening_at t.openings u ++ l.state.delivered) o t.published) (step_other t e u other) in
          omega (arith, ap length same)
      | inl same ↦
          elim (none_or_some (link_into t u)) [
            | inl none ↦
                let none_there : link_into t e.child ≡ None = ap (link_into t) same ∙ none in
                let after : link_into (tree_step t e) u ≡ None =
                ap (λ v. link_into (tree_step t e) v) (sym same)
                ∙ ap (λ o. get_or (set t.links e.child (option_map (link_after (event_on t e)) o)) e.child None) none_there
                ∙ written_none t.links e.child in
                omega (arith, ap length (of_root t u none), ap length (of_root (tree_step t e) u after))
            | inr some ↦
                let link = some.0 in
                let there : link_into t e.child ≡ Some link = ap (link_into t) same ∙ some.1 in
                let after : link_into (tree_step t e) u ≡ Some (link_after (event_on t e) link) =
                ap (λ v. link_into (tree_step t e) v) (sym same) ∙ stepped_own t e link there in
                let grows = after_delivers (event_on t e) link in
                omega (
                  arith,
                  ap length (of_link t u link some.1),
                  ap length (of_link (tree_step t e) u (link_after (event_on t e) link) after),
                  grown_behind (opening_at t.openings u) link.state.delivered (link_after (event_on t e) link).state.delivered grows.0 grows.1,
                )
          ]
    ]

pub received_grows : (t : WholeTree) (es : List TreeEvent) (u : ℕ) → length (received t u) ≤ length (received (tree_replay t es) u)
received_grows t [] u = omega arith
received_grows t (e ∷ es) u = omega (arith, received_step t e u, received_grows (tree_step t e) es u)

pub replay_append : (t : WholeTree) (xs ys : List TreeEvent) → tree_replay t (xs ++ ys) ≡ tree_replay (tree_replay t xs) ys
replay_append t [] ys = refl
replay_append t (x ∷ xs) ys = replay_append (tree_step t x) xs ys

-- ---- what is known of each link of a run

pub replay_within : (p : Parameters) (s : LinkState) (es : List Event) → IsWithin p s → IsWithin p (replay p s es)
replay_within p s [] within = within
replay_within p s (e ∷ es) within = replay_within p (step p s e) es (within_step p s e within)

-- what is in a list behind a front of the same length is the same behind it
behind_front : (xs ys : List ℕ) (n : ℕ) → length xs ≤ n → length xs ≤ length ys → slice_get (xs ++ drop (length xs) ys) n ≡ slice_get ys n
behind_front [] ys n late long = refl
behind_front (x ∷ xs) [] n late long = absurd (omega arith)
behind_front (x ∷ xs) (y ∷ ys) zero late long = absurd (omega arith)
behind_front (x ∷ xs) (y ∷ ys) (suc n) late long = behind_front xs ys n (omega arith) (omega arith)

same_kind_mapped : {A B : Type 0} (f : A → B) (o : Option A) → is_some (option_map f o) ≡ is_some o
same_kind_mapped f None = refl
same_kind_mapped f (Some x) = refl

-- a place within a list has an entry
some_next : (xs : List ℕ) (i : ℕ) → i < length xs → slice_get xs i ≡ None → ⊥
some_next [] i within none = omega arith
some_next (x ∷ xs) zero within none = none-some x (sym none)
some_next (x ∷ xs) (suc i) within none = some_next xs i (omega arith) none

-- what stays the same of a whole tree while acts happen: the parents, what is published, and the
-- capacity of the link into each node
pub record Fixed : Type 0 where
  pub parents : List (Option ℕ)
  pub published : List ℕ
  pub capacity : ℕ → ℕ

-- the link into a node is within its bounds
pub record Known (fixed : Fixed) (w : ℕ) (p : Parameters) (s : LinkState) : Type 0 where
  pub within : IsWithin p s
  pub some : 1 ≤ p.capacity
  pub capacity : p.capacity ≡ fixed.capacity w

-- A whole tree of which no more is known, whatever it came from: each link is within its bounds,
-- and was offered no more than its parent has.
pub record IsSound (fixed : Fixed) (t : WholeTree) : Type 0 where
  pub parents_stay : t.parents ≡ fixed.parents
  pub published_stay : t.published ≡ fixed.published
  pub linked : map is_some t.links ≡ map is_some t.parents
  pub knows : (w : ℕ) (link : LinkValue) → link_into t w ≡ Some link → Known fixed w link.params link.state
  pub fed : (w u : ℕ) (link : LinkValue) → parent_at t.parents w ≡ Some u → link_into t w ≡ Some link
      → length link.state.offered ≤ length (received t u)

-- what a network fixes
abbrev pub fixed_of : Network → Fixed
fixed_of net = record { parents = net.tree.parents; published = net.published; capacity = capacity_into net }

-- each state of a schedule is such a tree
pub run_is_sound : (net : Network) → All CanBegin net.links → (t : WholeTree) → IsRun net t → IsSound (fixed_of net) t
run_is_sound net can_begin t run = record {
  parents_stay = run.parents_stay;
  published_stay = run.published_stay;
  linked = run.linked;
  knows =
      λ w link there.
      let was = run.replays w link there in
      let begins : CanBegin was.setup = holds_by_child CanBegin net.tree.parents net.links w was.setup can_begin was.leads in
      let (events, reached) = was.run.reached in
      let opened : IsWithin was.setup.params (initial was.setup.start) =
      record { frames = begins.1.frames; acks = begins.1.acks; waits = inl refl } in
      let kept_within : IsWithin was.setup.params link.state =
      subst (IsWithin was.setup.params) (sym reached) (replay_within was.setup.params (initial was.setup.start) events opened) in
      record {
        within = subst (λ q. IsWithin q link.state) (sym was.run.params) kept_within;
        some = subst (λ (q : Parameters). 1 ≤ q.capacity) (sym was.run.params) begins.0.some_capacity;
        capacity =
            ap (λ (q : Parameters). q.capacity) was.run.params
            ∙ sym (ap (λ o. option_map_or (λ (l : LinkSetup). l.params.capacity) o 0) was.leads);
      };
  fed =
      λ w u link is_child there.
      let (rest, is) = run.prefixes w u link is_child there in
      omega (arith, length-append link.state.offered rest, ap length is);
}

-- an act offers no more than the parent has
offers_few : (p : Parameters) (s : LinkState) (a : LinkAct) (list : List ℕ) → length s.offered ≤ length list
    → length (after_event p s (event_of a (slice_get list (length s.offered)))).offered ≤ length list
offers_few p s a list few =
    let event : Option Event = event_of a (slice_get list (length s.offered)) in
    let whole : List ℕ = s.offered ++ drop (length s.offered) list in
    let next : slice_get whole (length s.offered) ≡ slice_get list (length s.offered) =
    behind_front s.offered list (length s.offered) (omega arith) few in
    let (rest, is) : IsPrefix (link_after event (link_at p s)).state.offered whole =
    act_offers whole (link_at p s) a (slice_get list (length s.offered)) next (drop (length s.offered) list, refl) in
    omega (
      arith,
      ap (λ (l : LinkValue). length l.state.offered) (after_at p s event),
      length-append (link_after event (link_at p s)).state.offered rest,
      ap length is,
      length-append s.offered (drop (length s.offered) list),
      length-drop (length s.offered) list,
    )

module _ (fixed : Fixed) where
  pub known : (t : WholeTree) → IsSound fixed t → (w : ℕ) (p : Parameters) (s : LinkState) → At t w p s → Known fixed w p s
  known t sound w p s there = sound.knows w (link_at p s) there

  -- a node with a parent has a link
  pub linked : (t : WholeTree) → IsSound fixed t → (w u : ℕ) → parent_at fixed.parents w ≡ Some u
      → (p : Parameters) × (s : LinkState) × At t w p s
  linked t sound w u is_child =
      let kind : is_some (link_into t w) ≡ true =
      same_kind t.links t.parents w sound.linked ∙ ap is_some (ap (λ ps. parent_at ps w) sound.parents_stay ∙ is_child) in
      elim (none_or_some (link_into t w)) [
        | inl none ↦ (let never : false ≡ true = sym (ap is_some none) ∙ kind in cc)
        | inr some ↦ (some.0.params, some.0.state, some.1)
      ]

  pub child_of : (t : WholeTree) → IsSound fixed t → (w u : ℕ) → parent_at fixed.parents w ≡ Some u → parent_at t.parents w ≡ Some u
  child_of t sound w u is_child = ap (λ ps. parent_at ps w) sound.parents_stay ∙ is_child

  -- a root has what is published
  pub root_has : (t : WholeTree) → IsSound fixed t → (w : ℕ) → parent_at fixed.parents w ≡ None → received t w ≡ fixed.published
  root_has t sound w is_root =
      let kind : is_some (link_into t w) ≡ false =
      same_kind t.links t.parents w sound.linked ∙ ap is_some (ap (λ ps. parent_at ps w) sound.parents_stay ∙ is_root) in
      elim (none_or_some (link_into t w)) [
        | inl none ↦ of_root t w none ∙ sound.published_stay
        | inr some ↦ (let never : true ≡ false = sym (ap is_some some.1) ∙ kind in cc)
      ]

  -- it was offered no more than the parent received
  pub offered_few : (t : WholeTree) → IsSound fixed t → (w u : ℕ) (p : Parameters) (s : LinkState) → parent_at fixed.parents w ≡ Some u → At t w p s
      → length s.offered ≤ length (received t u)
  offered_few t sound w u p s is_child there = sound.fed w u (link_at p s) (child_of t sound w u is_child) there

  pub acked_few : (p : Parameters) (s : LinkState) → IsWithin p s → s.acked ≤ length s.offered
  acked_few p s within = elim within.waits [ inl idle ↦ omega arith | inr holds ↦ omega arith ]

  -- the link into the node that was stepped, before
  before_step : (t : WholeTree) (e : TreeEvent) (w : ℕ) (link : LinkValue) → link_into (tree_step t e) w ≡ Some link → e.child ≡ w
      → (old : LinkValue) × (link_into t w ≡ Some old) × (link ≡ link_after (event_on t e) old)
  before_step t e w link there same =
      elim (none_or_some (link_into t w)) [
        | inl none ↦
            let gone : link_into (tree_step t e) w ≡ None =
            subst (λ v. link_into t v ≡ None → link_into (tree_step t e) v ≡ None) same (none_after t e) none in
            absurd (none-some link (sym gone ∙ there))
        | inr (old, was) ↦
            let now : link_into (tree_step t e) w ≡ Some (link_after (event_on t e) old) =
            subst (λ v. link_into t v ≡ Some old → link_into (tree_step t e) v ≡ Some (link_after (event_on t e) old)) same
            (stepped_own t e old) was in
            (old, was, same_Some link (link_after (event_on t e) old) (sym there ∙ now))
      ]

  -- a step keeps it
  pub keeps : (t : WholeTree) (e : TreeEvent) → IsSound fixed t → IsSound fixed (tree_step t e)
  keeps t e sound = record {
    parents_stay = sound.parents_stay;
    published_stay = sound.published_stay;
    linked =
        kind-set t.links e.child (option_map (link_after (event_on t e)) (link_into t e.child))
        (same_kind_mapped (link_after (event_on t e)) (link_into t e.child))
        ∙ sound.linked;
    knows =
        λ w link there.
        elim (cases_eq e.child w) [
          | inl same ↦
              let (old, there_before, now) = before_step t e w link there same in
              let was = sound.knows w old there_before in
              subst (λ (l : LinkValue). Known fixed w l.params l.state) (sym (now ∙ after_at old.params old.state (event_on t e)))
              (record { within = within_after old.params old.state (event_on t e) was.within; some = was.some; capacity = was.capacity })
          | inr other ↦ sound.knows w link (sym (step_other t e w other) ∙ there)
        ];
    fed =
        λ w u link is_child there.
        let grown = received_step t e u in
        elim (cases_eq e.child w) [
          | inl same ↦
              let (old, there_before, now) = before_step t e w link there same in
              let after : LinkState = after_event old.params old.state (event_of e.act (slice_get (received t u) (length old.state.offered))) in
              let found : At (tree_step t e) w old.params after = step_at t e w u old.params old.state is_child there_before same in
              let own : link ≡ link_at old.params after = same_Some link (link_at old.params after) (sym there ∙ found) in
              let few = sound.fed w u old is_child there_before in
              omega (arith, offers_few old.params old.state e.act (received t u) few, ap (λ (l : LinkValue). length l.state.offered) own)
          | inr other ↦
              let few = sound.fed w u link is_child (sym (step_other t e w other) ∙ there) in omega arith
        ];
  }

  -- and so do more
  pub keeps_all : (t : WholeTree) (es : List TreeEvent) → IsSound fixed t → IsSound fixed (tree_replay t es)
  keeps_all t [] sound = sound
  keeps_all t (e ∷ es) sound = keeps_all (tree_step t e) es (keeps t e sound)

  -- ---- a link that is open in the end was open before

  closed_over : (es : List TreeEvent) (t : WholeTree) (w : ℕ) (link : LinkValue) → link_into t w ≡ Some link → link.state.closed ≡ true
      → (after : LinkValue) × (link_into (tree_replay t es) w ≡ Some after) × (after.state.closed ≡ true)
  closed_over [] t w link there closed = (link, there, closed)
  closed_over (e ∷ es) t w link there closed =
      elim (cases_eq e.child w) [
        | inl same ↦
            let own : link_into (tree_step t e) w ≡ Some (link_after (event_on t e) link) =
            subst (λ v. link_into t v ≡ Some link → link_into (tree_step t e) v ≡ Some (link_after (event_on t e) link)) same
            (stepped_own t e link) there in
            closed_over es (tree_step t e) w (link_after (event_on t e) link) own
            (ap (λ (l : LinkValue). l.state.closed) (after_at link.params link.state (event_on t e))
            ∙ closed_after link.params link.state (event_on t e) closed)
        | inr other ↦ closed_over es (tree_step t e) w link (step_other t e w other ∙ there) closed
      ]

  pub open_before : (es : List TreeEvent) (t : WholeTree) (w : ℕ) → OpenAt (tree_replay t es) w → OpenAt t w
  open_before es t w is_open link there =
      elim (cases_Bool link.state.closed) [
        | inl closed ↦
            (let (after, found, still_closed) = closed_over es t w link there closed in
            let never : true ≡ false = sym still_closed ∙ is_open after found in cc)
        | inr opened ↦ opened
      ]

  -- ---- what a part of a schedule leaves of the link into one node

  module _ (w u : ℕ) (p : Parameters) (is_child : parent_at fixed.parents w ≡ Some u) where
    -- more than `count` items are acknowledged, or just `count` are and `k` rounds are enough
    abbrev pub Ends : WholeTree → ℕ → ℕ → Type 0
    Ends t count k = (s : LinkState) × At t w p s × ((count + 1 ≤ s.acked) ⊎ ((s.acked ≡ count) × Level p k s))

    abbrev its_next : WholeTree → LinkState → Option ℕ
    its_next t s = slice_get (received t u) (length s.offered)

    pub own_at : (t : WholeTree) (e : TreeEvent) (s : LinkState) → IsSound fixed t → At t w p s → e.child ≡ w
        → At (tree_step t e) w p (after_event p s (event_of e.act (its_next t s)))
    own_at t e s run there same = step_at t e w u p s (child_of t run w u is_child) there same

    ends_later : (t : WholeTree) (a b k : ℕ) → a ≡ b → Ends t a k → Ends t b k
    ends_later t a b k same ends = subst (λ n. Ends t n k) same ends

    acked_after : (s : LinkState) (o : Option Event) → IsWithin p s → s.acked ≤ (after_event p s o).acked
    acked_after s None within = omega arith
    acked_after s (Some e) within = step_grows p s e within

    -- the count of acknowledged items never falls
    pub grows_over : (es : List TreeEvent) (t : WholeTree) (s : LinkState) → IsSound fixed t → At t w p s
        → (after : LinkState) × At (tree_replay t es) w p after × (s.acked ≤ after.acked)
    grows_over [] t s run there = (s, there, omega arith)
    grows_over (e ∷ es) t s run there =
        elim (cases_eq e.child w) [
          | inl same ↦
              let o = event_of e.act (its_next t s) in
              let (after, found, more) = grows_over es (tree_step t e) (after_event p s o) (keeps t e run) (own_at t e s run there same) in
              (after, found, omega (arith, acked_after s o (known t run w p s there).within))
          | inr other ↦ grows_over es (tree_step t e) s (keeps t e run) (step_other t e w other ∙ there)
        ]

    -- once an item is acknowledged it stays so
    acked_over : (es : List TreeEvent) (t : WholeTree) (s : LinkState) (count k : ℕ) → IsSound fixed t → At t w p s
        → count + 1 ≤ s.acked → Ends (tree_replay t es) count k
    acked_over es t s count k run there acked =
        let (after, found, more) = grows_over es t s run there in (after, found, inl (omega arith))

    -- the rounds that are needed grow no more
    pub level_over : (es : List TreeEvent) (t : WholeTree) (s : LinkState) (k : ℕ) → IsSound fixed t → At t w p s → Level p k s
        → Ends (tree_replay t es) s.acked k
    level_over [] t s k run there level = (s, there, inr (refl, level))
    level_over (e ∷ es) t s k run there level =
        elim (cases_eq e.child w) [
          | inl same ↦
              let o = event_of e.act (its_next t s) in
              let now : LinkState = after_event p s o in
              let found = own_at t e s run there same in
              elim (level_after p k s o (known t run w p s there).within level) [
                | accepts acked ↦ acked_over es (tree_step t e) now s.acked k (keeps t e run) found (omega arith)
                | stays unchanged has ↦
                    ends_later (tree_replay (tree_step t e) es) now.acked s.acked k unchanged
                    (level_over es (tree_step t e) now k (keeps t e run) found has)
              ]
          | inr other ↦ level_over es (tree_step t e) s k (keeps t e run) (step_other t e w other ∙ there) level
        ]

    -- where there is nothing left to offer, an item waits
    pub waits_or_next : (t : WholeTree) (s : LinkState) → IsWithin p s → s.acked < length (received t u) → its_next t s ≡ None → Holding s
    waits_or_next t s within available none =
        elim within.waits [
          | inl idle ↦ absurd (some_next (received t u) (length s.offered) (omega arith) none)
          | inr holds ↦ holds
        ]

    -- A round of the link: an item more is acknowledged, or one round fewer is needed.
    pub progress : (es : List TreeEvent) (t : WholeTree) (v : Awaited) (s : LinkState) (m : ℕ) → IsSound fixed t → OpenAt (tree_replay t es) w
        → At t w p s → Due p m v s → s.acked < length (received t u) → 1 ≤ rounds_from v (acts_on w es)
        → Ends (tree_replay t es) s.acked m
    progress [] t v s m run is_open there due available one = absurd (omega arith)
    progress (e ∷ es) t v s m run is_open there due available one =
        elim (cases_eq e.child w) [
          | inl same ↦
              let item = its_next t s in
              let now : LinkState = after_event p s (event_of e.act item) in
              let found = own_at t e s run there same in
              let facts = known t run w p s there in
              let opened : s.closed ≡ false = open_before (e ∷ es) t w is_open (link_at p s) there in
              let counted : 1 ≤ completed_by v e.act + rounds_from (awaited_after v e.act) (acts_on w es) =
              subst (λ acts. 1 ≤ rounds_from v acts) (acts_own w e es same) one in
              let later = received_step t e u in
              elim (act_due p m facts.some v s e.act item opened facts.within (waits_or_next t s facts.within available) due) [
                | accepts acked ↦ acked_over es (tree_step t e) now s.acked m (keeps t e run) found (omega arith)
                | stays unchanged has ↦
                    elim (due_next p m v e.act now has) [
                      | still none due_now ↦
                          ends_later (tree_replay (tree_step t e) es) now.acked s.acked m unchanged
                          (progress es (tree_step t e) (awaited_after v e.act) now m (keeps t e run) is_open found due_now
                          (omega arith) (omega arith))
                      | done _ at_offer level ↦
                          ends_later (tree_replay (tree_step t e) es) now.acked s.acked m unchanged
                          (level_over es (tree_step t e) now m (keeps t e run) found level)
                    ]
              ]
          | inr other ↦
              let later = received_step t e u in
              progress es (tree_step t e) v s m (keeps t e run) is_open (step_other t e w other ∙ there) due (omega arith)
              (subst (λ acts. 1 ≤ rounds_from v acts) (acts_other w e es other) one)
        ]
