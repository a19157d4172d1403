-- A link that has nothing to hand on has a reading round of its own, which changes nothing.
use Rattle.std.proofs.Common.{◌≡◌, ℕ, zero, suc, ◌+◌, ◌<◌, ◌≤◌, ◌==◌, ◌&&◌, Bool, true, false, List, [], ◌∷◌, ◌++◌, length, slice_get, option_map, Some, None, Option, is_none, refl, sym, ◌∙◌, ap, subst, arith, eq-eqb, eqb-true, inl, inr, true≢false, if◌then◌else◌}
use Rattle.std.specs.Option.{option_map_or}
use Rattle.std.proofs.lemmas.Bool.{cases_eq}
use Rattle.std.proofs.lemmas.Option.{none-some, slice_get_past}
use Rattle.stab_frames.specs.declared.frame.Frame.{Frame}
use Rattle.stab_frames.specs.Parameters.{Parameters}
use Rattle.stab_core.specs.declared.act.LinkAct.TheVariants as act
use Rattle.stab_core.specs.Link.{link_at}
use Rattle.stab_core.specs.LinkActs.{event_of}
use Rattle.stab_core.specs.LinkState.{LinkState}
use Rattle.stab_core.specs.Replay.{replay}
use Rattle.stab_tree.specs.Nodes.{parent_at}
use Rattle.stab_treecore.specs.declared.change.Change.{Change}
use Rattle.stab_treecore.specs.declared.change.Change.TheVariants.{Act, Publish, Strike, Restart}
use Rattle.stab_treecore.specs.declared.event.TreeEvent.{TreeEvent}
use Rattle.stab_treecore.specs.Changes.{changes_replay}
use Rattle.stab_treecore.specs.Network.{Network}
use Rattle.stab_treecore.specs.TreeStep.{tree_step as link_tree_step}
use Rattle.stab_treecore.specs.WholeTree.{WholeTree, received}
use Rattle.stab_treecore.proofs.Contained.{changes-append}
use Rattle.stab_rounds.specs.Played.{reading_round_with}
use Rattle.stab_rounds.specs.ReadingRounds.{Reads, offer, reading_from}
use Rattle.stab_rounds.specs.TreePlayed.{act_on}
use Rattle.stab_rounds.specs.TreeRounds.{acts_on}
use Rattle.stab_rounds.proofs.Links.{after_event}
use Rattle.stab_rounds.proofs.TreeSteps.{At, step_at, step_other}
use Rattle.stab_convergence.specs.AtRest.{HasNoFault}
use Rattle.stab_convergence.specs.PathRounds.{acts_among}
use Rattle.stab_convergence.proofs.Acts.{acts-append}
use Rattle.stab_line.specs.Line.{link_of}
use Rattle.stab_line.specs.NodeTree.{parameters_into, list_of, list_above}
use Rattle.stab_line.specs.SessionLink.{SessionLink, line_of}
use Rattle.stab_line.specs.SessionTree.{SessionTree, nodes_of}
use Rattle.stab_line.proofs.SessionTrees.{HaveRoom, put_own}
use Rattle.stab_exchanges.specs.TreeExchanges.{is_at_rest, link_shown}
use Rattle.stab_exchanges.proofs.RoundsOf.{plain_harmless, plain_round, round_of_nothing, unoffered_round}
use Rattle.stab_exchanges.proofs.TreesShown.{Lifted, Ready, Shows, acts_here, idle_line, lifted, link_acts, no_fault_among, received_is, shows_one}
use Rattle.stab_exchanges.proofs.Underway.{none_left}
use Rattle.stab_exchanges.proofs.WholeRounds.{IsLeft, left_over, reading_append, reads_over, whole_counts}

-- ---- changes, one after the other

acts_on_append : (w : ℕ) (first second : List TreeEvent) → acts_on w (first ++ second) ≡ acts_on w first ++ acts_on w second
acts_on_append w [] second = refl
acts_on_append w (e ∷ first) second = by_same (e.child == w) (acts_on_append w first second)
  where
    by_same : (same : Bool) → acts_on w (first ++ second) ≡ acts_on w first ++ acts_on w second
        → (if same then e.act ∷ acts_on w (first ++ second) else acts_on w (first ++ second))
        ≡ (if same then e.act ∷ acts_on w first else acts_on w first) ++ acts_on w second
    by_same true rest = ap (λ acts. e.act ∷ acts) rest
    by_same false rest = rest

pub no_fault_append : (first second : List Change) → HasNoFault first → HasNoFault second → HasNoFault (first ++ second)
no_fault_append [] second before after = after
no_fault_append (Act e ∷ first) second before after = no_fault_append first second before after
no_fault_append (Publish items ∷ first) second before after = no_fault_append first second before after
no_fault_append (Strike child start ∷ first) second before after = absurd before
no_fault_append (Restart node list ∷ first) second before after = absurd before

-- the reading rounds among changes, one after the other
pub rounds_append : (c w : ℕ) (r : Reads) (first second : List Change)
    → reading_from c r (acts_on w (acts_among (first ++ second)))
    ≡ reading_from c r (acts_on w (acts_among first)) + reading_from c (reads_over c r (acts_on w (acts_among first))) (acts_on w (acts_among second))
rounds_append c w r first second =
    ap (λ events. reading_from c r (acts_on w events)) (acts-append first second)
    ∙ ap (reading_from c r) (acts_on_append w (acts_among first) (acts_among second))
    ∙ reading_append c r (acts_on w (acts_among first)) (acts_on w (acts_among second))

-- one before, and another
fewer : (w count : ℕ) → w < suc count → (w == count) ≡ false → w < count
fewer w count within other = elim (cases_eq w count) [
  | inl same ↦ absurd (true≢false (sym (eq-eqb w count same) ∙ other))
  | inr differs ↦ omega (arith, within, differs)
]

-- ---- one link at rest

both : (a b : Bool) → (a && b) ≡ true → (a ≡ true) × (b ≡ true)
both true b is = (refl, is)
both false b is = absurd (true≢false (sym is))

empty : {A : Type 0} (xs : List A) → (length xs == 0) ≡ true → xs ≡ []
empty xs is = none_left xs (omega (arith, eqb-true (length xs) 0 is))

module _ (net : Network) (t : SessionTree) (s : WholeTree) (w parent : ℕ) (is_child : parent_at net.tree.parents w ≡ Some parent)
    (room : HaveRoom net) (ready : Ready net t s) (rests : is_at_rest net t w ≡ true) where
  abbrev its : Parameters
  its = parameters_into net w

  abbrev link : SessionLink
  link = t.links w

  abbrev state : LinkState
  state = link_of (line_of link)

  abbrev its_round : List Change
  its_round = link_acts w (reading_round_with its.capacity 0)

  is_quiet : (is_none link.sender.state.item ≡ true) × (length (list_above net (nodes_of t) w) ≡ t.counts w)
      × ((line_of link).frames ≡ []) × ((line_of link).acks ≡ [])
  is_quiet =
      let (ends, messages) =
      both (is_none link.sender.state.item && (length (list_above net (nodes_of t) w) == t.counts w))
      ((length (line_of link).frames == 0) && (length (line_of link).acks == 0)) rests
      in
      let (none, all) = both (is_none link.sender.state.item) (length (list_above net (nodes_of t) w) == t.counts w) ends in
      let (frames, acks) = both (length (line_of link).frames == 0) (length (line_of link).acks == 0) messages in
      (none, eqb-true (length (list_above net (nodes_of t) w)) (t.counts w) all, empty (line_of link).frames frames, empty (line_of link).acks acks)

  -- nothing is left to be offered
  none_next : slice_get (received s parent) (length link.offered) ≡ None
  none_next =
      let (_, all, _, _) = is_quiet in
      slice_get_past (received s parent) (length link.offered)
      (omega (
        arith,
        all,
        ready.counts w parent is_child,
        ap length (received_is net t s parent ready.shows),
        ap (λ o. length (option_map_or (list_of net (nodes_of t)) o [])) is_child,
      ))

  child_there : parent_at s.parents w ≡ Some parent
  child_there = ap (λ ps. parent_at ps w) ready.shows.parents ∙ is_child

  offered_nothing : At (link_tree_step s (act_on w act.Offer)) w its state
  offered_nothing =
      step_at s (act_on w act.Offer) w parent its state child_there
      (ready.shows.links w ∙ ap (option_map (link_shown net t w)) is_child) refl
      ∙ ap (λ o. Some (link_at its (after_event its state (event_of act.Offer o)))) none_next

  stays : replay its state (unoffered_round its.capacity) ≡ state
  stays =
      let (none, _, frames, acks) = is_quiet in
      let quiet : LinkState = record state { frames = []; acks = [] } in
      let same : state ≡ quiet =
      ap (λ (fs : List Frame). record state { frames = fs }) frames ∙ ap (λ (labels : List ℕ). record state { frames = []; acks = labels }) acks
      in
      ap (λ (u : LinkState). replay its u (unoffered_round its.capacity)) same
      ∙ round_of_nothing its state (room w parent is_child) (idle_line state (line_of link) (ready.next w parent is_child) none)
      ∙ sym same

  round_leads : Lifted s w its state (changes_replay s its_round)
  round_leads =
      let (leads, others, parents, openings, published) =
      lifted (link_tree_step s (act_on w act.Offer)) w parent its state (unoffered_round its.capacity) child_there offered_nothing
      (plain_harmless its state (unoffered_round its.capacity) (plain_round its.capacity))
      in (
        leads ∙ ap (λ u. Some (link_at its u)) stays,
        λ v other. others v other ∙ step_other s (act_on w act.Offer) v other,
        parents,
        openings,
        published,
      )

  round_shows : Shows net t (changes_replay s its_round)
  round_shows =
      subst (λ (links : ℕ → SessionLink). Shows net (record t { links = links }) (changes_replay s its_round)) (put_own t.links w)
      (shows_one net t s (changes_replay s its_round) w parent link t.counts is_child ready round_leads)

  round_counts : (r : Reads) → IsLeft its.capacity r → 1 ≤ reading_from its.capacity r (acts_on w (acts_among its_round))
  round_counts r left =
      subst (λ acts. 1 ≤ reading_from its.capacity r acts) (sym (acts_here w (reading_round_with its.capacity 0)))
      (whole_counts its.capacity 0 r left)

-- ---- all links at rest

shown_ready : (net : Network) (t : SessionTree) (s u : WholeTree) → Ready net t s → Shows net t u → Ready net t u
shown_ready net t s u ready shows =
    record { shows = shows; in_turn = ready.in_turn; next = ready.next; counts = ready.counts }

-- changes that change nothing, with a reading round for each link at rest into one of these nodes
pub record Rested (net : Network) (t : SessionTree) (s : WholeTree) (count : ℕ) : Type 0 where
  pub changes : List Change
  pub no_fault : HasNoFault changes
  pub ready : Ready net t (changes_replay s changes)
  pub some : (w parent : ℕ) → parent_at net.tree.parents w ≡ Some parent → w < count → is_at_rest net t w ≡ true
      → 1 ≤ reading_from (parameters_into net w).capacity offer (acts_on w (acts_among changes))

module _ (net : Network) (t : SessionTree) (s : WholeTree) (room : HaveRoom net) where
  -- no more of them
  beside : (count : ℕ) (before : Rested net t s count) → ((parent : ℕ) → parent_at net.tree.parents count ≡ Some parent → is_at_rest net t count ≡ true → ⊥)
      → Rested net t s (suc count)
  beside count before never =
      record {
        changes = before.changes;
        no_fault = before.no_fault;
        ready = before.ready;
        some = λ w parent is_child within rests. by_same w parent is_child within rests (w == count) refl;
      }
    where
      by_same : (w parent : ℕ) → parent_at net.tree.parents w ≡ Some parent → w < suc count → is_at_rest net t w ≡ true
          → (same : Bool) → (w == count) ≡ same
          → 1 ≤ reading_from (parameters_into net w).capacity offer (acts_on w (acts_among before.changes))
      by_same w parent is_child within rests true same =
          let is : w ≡ count = eqb-true w count same in
          absurd (never parent (ap (parent_at net.tree.parents) (sym is) ∙ is_child) (ap (is_at_rest net t) (sym is) ∙ rests))
      by_same w parent is_child within rests false other =
          before.some w parent is_child (fewer w count within other) rests

  with_round : (count parent : ℕ) (before : Rested net t s count) → parent_at net.tree.parents count ≡ Some parent
      → is_at_rest net t count ≡ true → Rested net t s (suc count)
  with_round count parent before is_child rests =
      let u : WholeTree = changes_replay s before.changes in
      let more : List Change = link_acts count (reading_round_with (parameters_into net count).capacity 0) in
      record {
        changes = before.changes ++ more;
        no_fault =
            no_fault_append before.changes more before.no_fault
            (no_fault_among count (reading_round_with (parameters_into net count).capacity 0));
        ready =
            subst (λ (v : WholeTree). Ready net t v) (sym (changes-append s before.changes more))
            (shown_ready net t u (changes_replay u more) before.ready (round_shows net t u count parent is_child room before.ready rests));
        some = λ w up is_up within w_rests. by_same w up is_up within w_rests (w == count) refl;
      }
    where
      by_same : (w up : ℕ) → parent_at net.tree.parents w ≡ Some up → w < suc count → is_at_rest net t w ≡ true
          → (same : Bool) → (w == count) ≡ same
          → 1 ≤ reading_from (parameters_into net w).capacity offer
          (acts_on w (acts_among (before.changes ++ link_acts count (reading_round_with (parameters_into net count).capacity 0))))
      by_same w up is_up within w_rests true same =
          subst (λ v. 1 ≤ reading_from (parameters_into net v).capacity offer
          (acts_on v (acts_among (before.changes ++ link_acts count (reading_round_with (parameters_into net count).capacity 0)))))
          (sym (eqb-true w count same))
          (let c : ℕ = (parameters_into net count).capacity in
          let r : Reads = reads_over c offer (acts_on count (acts_among before.changes)) in
          let one =
          round_counts net t (changes_replay s before.changes) count parent is_child room before.ready rests r
          (left_over c offer (acts_on count (acts_among before.changes)) tt)
          in
          omega (arith, one, rounds_append c count offer before.changes (link_acts count (reading_round_with c 0))))
      by_same w up is_up within w_rests false other =
          let c : ℕ = (parameters_into net w).capacity in
          let one = before.some w up is_up (fewer w count within other) w_rests in
          omega (
            arith,
            one,
            rounds_append c w offer before.changes (link_acts count (reading_round_with (parameters_into net count).capacity 0)),
          )

  pub rested : (count : ℕ) → Ready net t s → Rested net t s count
  rested zero ready =
      record { changes = []; no_fault = tt; ready = ready; some = λ w parent is_child within rests. absurd (omega (arith, within)) }
  rested (suc count) ready = by_parent (rested count ready) (parent_at net.tree.parents count) refl (is_at_rest net t count) refl
    where
      by_parent : Rested net t s count → (up : Option ℕ) → parent_at net.tree.parents count ≡ up
          → (rests : Bool) → is_at_rest net t count ≡ rests → Rested net t s (suc count)
      by_parent before None is_root rests is =
          beside count before (λ parent is_child rests. none-some parent (sym is_root ∙ is_child))
      by_parent before (Some parent) is_child false is =
          beside count before (λ up is_up rests. true≢false (sym rests ∙ is))
      by_parent before (Some parent) is_child true is = with_round count parent before is_child is
