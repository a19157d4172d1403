-- A schedule that is made of rounds has them, and closes no link.
use Rattle.std.proofs.Common.{◌≡◌, ◌≢◌, inl, inr, ℕ, zero, suc, ◌+◌, ◌-◌, ◌<◌, ◌≤◌, ◌==◌, ◌&&◌, Bool, false, List, [], ◌∷◌, ◌++◌, slice_get, Option, Some, None, get_or, map, option_map, refl, sym, ◌∙◌, ap, subst, arith, eq-eqb, ne_eqb}
use Rattle.std.specs.List.{AllByRecursion as Each}
use Rattle.std.proofs.lemmas.Bool.{cases_eq, cond_both}
use Rattle.std.proofs.lemmas.Option.{none-some, same_Some}
use Rattle.stab_frames.specs.declared.frame.Frame.{Frame}
use Rattle.stab_frames.specs.Parameters.{Parameters}
use Rattle.stab_core.specs.declared.act.LinkAct.{LinkAct}
use Rattle.stab_core.specs.declared.act.LinkAct.TheVariants as act
use Rattle.stab_core.specs.declared.event.Event.{Event}
use Rattle.stab_core.specs.declared.event.Event.TheVariants as event
use Rattle.stab_core.specs.Link.{LinkValue}
use Rattle.stab_core.specs.LinkActs.{event_of}
use Rattle.stab_core.specs.LinkState.{LinkState, is_idle, is_holding, current_frame, has_room}
use Rattle.stab_core.specs.Step.{open_step, step, receives_frame, receives_ack}
use Rattle.stab_core.proofs.Growing.{of_both}
use Rattle.stab_tree.specs.ByChild.{by_child}
use Rattle.stab_tree.proofs.ForCallers.{map-by_child}
use Rattle.stab_treecore.specs.declared.event.TreeEvent.{TreeEvent}
use Rattle.stab_treecore.specs.Network.{Network}
use Rattle.stab_treecore.specs.TreeReplay.{initial_tree, opened, tree_replay}
use Rattle.stab_treecore.specs.TreeStep.{event_on, next_item, link_after, tree_step}
use Rattle.stab_treecore.specs.WholeTree.{WholeTree, link_into}
use Rattle.stab_rounds.specs.declared.round.Awaited.TheVariants as next
use Rattle.stab_rounds.specs.Rounds.{rounds_from}
use Rattle.stab_rounds.specs.TreeRounds.{acts_on, IsTreeRound, TreeRounds, IsOpen}
use Rattle.stab_rounds.specs.TreePlayed.{round_on, round_from, play}
use Rattle.stab_rounds.proofs.Links.{after_event, after_at}
use Rattle.stab_rounds.proofs.TreeSteps.{step_other, stepped_own, none_after, none_or_some, replay_append}

-- a round of the link into a node
own_round : (w : ℕ) (rest : List TreeEvent)
    → acts_on w (round_on w rest) ≡ act.Offer ∷ act.SendFrame ∷ act.RecvFrame false ∷ act.SendAck ∷ act.RecvAck false ∷ acts_on w rest
own_round w rest = rw (eq-eqb w w refl) refl

other_round : (w node : ℕ) (rest : List TreeEvent) → node ≢ w → acts_on w (round_on node rest) ≡ acts_on w rest
other_round w node rest other = rw (ne_eqb node w other) refl

-- the rounds of some nodes have one of each of them that has a parent
has_round : (node : ℕ) (parents : List (Option ℕ)) (i parent : ℕ) → get_or parents i None ≡ Some parent
    → 1 ≤ rounds_from next.Offer (acts_on (node + i) (round_from node parents))
has_round node [] i parent is_child = absurd (none-some parent is_child)
has_round node (None ∷ parents) zero parent is_child = absurd (none-some parent is_child)
has_round node (None ∷ parents) (suc i) parent is_child =
    subst (λ w. 1 ≤ rounds_from next.Offer (acts_on w (round_from (node + 1) parents))) (let e : node + 1 + i ≡ node + suc i = omega arith in e)
    (has_round (node + 1) parents i parent is_child)
has_round node (Some q ∷ parents) zero parent is_child =
    subst (λ w. 1 ≤ rounds_from next.Offer (acts_on w (round_on node (round_from (node + 1) parents)))) (let e : node ≡ node + 0 = omega arith in e)
    (subst (λ acts. 1 ≤ rounds_from next.Offer acts) (sym (own_round node (round_from (node + 1) parents))) (omega arith))
has_round node (Some q ∷ parents) (suc i) parent is_child =
    subst (λ acts. 1 ≤ rounds_from next.Offer acts)
    (sym (other_round (node + suc i) node (round_from (node + 1) parents) (λ same. omega arith)))
    (subst (λ w. 1 ≤ rounds_from next.Offer (acts_on w (round_from (node + 1) parents))) (let e : node + 1 + i ≡ node + suc i = omega arith in e)
    (has_round (node + 1) parents i parent is_child))

pub round_is_round : (parents : List (Option ℕ)) → IsTreeRound parents (round_from 0 parents)
round_is_round parents child parent is_child =
    subst (λ w. 1 ≤ rounds_from next.Offer (acts_on w (round_from 0 parents))) (let e : 0 + child ≡ child = omega arith in e)
    (has_round 0 parents child parent is_child)

pub play_has_rounds : (parents : List (Option ℕ)) (rounds : ℕ) → TreeRounds parents rounds (play parents rounds)
play_has_rounds parents zero = tt
play_has_rounds parents (suc rounds) = (round_from 0 parents, play parents rounds, refl, round_is_round parents, play_has_rounds parents rounds)

-- ---- no link is closed

abbrev pub IsNoClose : LinkAct → Type 0
IsNoClose act.Close = ⊥
IsNoClose a = Unit {0}

pub open_frame : (keep : Bool) (s : LinkState) (front : Option Frame) → s.closed ≡ false → (receives_frame keep s front).closed ≡ false
open_frame keep s None is_open = is_open
open_frame keep s (Some f) is_open = of_both (λ (t : LinkState). t.closed ≡ false) (f.label == s.recv_label) _ _ is_open is_open

pub open_ack : (p : Parameters) (keep : Bool) (s : LinkState) (front : Option ℕ) → s.closed ≡ false → (receives_ack p keep s front).closed ≡ false
open_ack p keep s None is_open = is_open
open_ack p keep s (Some a) is_open =
    of_both (λ (t : LinkState). t.closed ≡ false) (is_holding s && (a == s.send_label)) _ _ is_open is_open

abbrev IsOpenState : LinkState → Type 0
IsOpenState s = s.closed ≡ false

-- an event on a link that is open
open_event : (p : Parameters) (s : LinkState) (e : Event) → IsOpenState (open_step p s e) → IsOpenState s → IsOpenState (step p s e)
open_event p s e after is_open = cond_both s.closed s (open_step p s e) IsOpenState (λ _. is_open) (λ _. after)

stays_open : (p : Parameters) (s : LinkState) (a : LinkAct) (item : Option ℕ) → IsNoClose a → IsOpenState s
    → IsOpenState (after_event p s (event_of a item))
stays_open p s act.Offer None goes is_open = is_open
stays_open p s act.Offer (Some x) goes is_open =
    open_event p s (event.Offer x)
    (of_both IsOpenState (is_idle s) (record s { offered = s.offered ++ x ∷ [] }) s is_open is_open) is_open
stays_open p s act.SendFrame item goes is_open =
    open_event p s event.SendFrame
    (of_both IsOpenState (is_holding s && has_room p s.frames) (record s { frames = s.frames ++ current_frame s ∷ [] }) s is_open is_open) is_open
stays_open p s (act.RecvFrame keep) item goes is_open =
    open_event p s (event.RecvFrame keep) (open_frame keep s (slice_get s.frames 0) is_open) is_open
stays_open p s act.SendAck item goes is_open =
    open_event p s event.SendAck
    (of_both IsOpenState (has_room p s.acks) (record s { acks = s.acks ++ s.recv_label ∷ [] }) s is_open is_open) is_open
stays_open p s (act.RecvAck keep) item goes is_open =
    open_event p s (event.RecvAck keep) (open_ack p keep s (slice_get s.acks 0) is_open) is_open
stays_open p s (act.LoseFrame place) item goes is_open = open_event p s (event.LoseFrame place) is_open is_open
stays_open p s (act.LoseAck place) item goes is_open = open_event p s (event.LoseAck place) is_open is_open
stays_open p s act.Close item goes is_open = absurd goes

-- where no act is a close, all links stay open
pub no_close_keeps : (t : WholeTree) (es : List TreeEvent) → Each (λ (e : TreeEvent). IsNoClose e.act) es → IsOpen t → IsOpen (tree_replay t es)
no_close_keeps t [] none is_open = is_open
no_close_keeps t (e ∷ es) none is_open =
    no_close_keeps (tree_step t e) es none.1
    (λ w link there.
    elim (cases_eq e.child w) [
      | inr other ↦ is_open w link (sym (step_other t e w other) ∙ there)
      | inl same ↦
          elim (none_or_some (link_into t e.child)) [
            | inl nothing ↦
                absurd (none-some link (sym (none_after t e nothing) ∙ ap (λ v. link_into (tree_step t e) v) same ∙ there))
            | inr some ↦
                let old = some.0 in
                let is : Some link ≡ Some (link_after (event_on t e) old) =
                sym there ∙ ap (λ v. link_into (tree_step t e) v) (sym same) ∙ stepped_own t e old some.1 in
                let now : link_after (event_on t e) old ≡ link = same_Some (link_after (event_on t e) old) link (sym is) in
                sym (ap (λ (l : LinkValue). l.state.closed) now)
                ∙ ap (λ (l : LinkValue). l.state.closed) (after_at old.params old.state (event_on t e))
                ∙ stays_open old.params old.state e.act (next_item t e.child) none.0 (is_open e.child old some.1)
          ]
    ])

-- no round has one
no_close_from : (node : ℕ) (parents : List (Option ℕ)) → Each (λ (e : TreeEvent). IsNoClose e.act) (round_from node parents)
no_close_from node [] = tt
no_close_from node (None ∷ parents) = no_close_from (node + 1) parents
no_close_from node (Some parent ∷ parents) = (tt, (tt, (tt, (tt, (tt, no_close_from (node + 1) parents)))))

pub play_has_no_close : (parents : List (Option ℕ)) (rounds : ℕ) → Each (λ (e : TreeEvent). IsNoClose e.act) (play parents rounds)
play_has_no_close parents zero = tt
play_has_no_close parents (suc rounds) =
    Each-append (round_from 0 parents) (play parents rounds) (no_close_from 0 parents) (play_has_no_close parents rounds)
  where
    Each-append : (xs ys : List TreeEvent) → Each (λ (e : TreeEvent). IsNoClose e.act) xs → Each (λ (e : TreeEvent). IsNoClose e.act) ys
        → Each (λ (e : TreeEvent). IsNoClose e.act) (xs ++ ys)
    Each-append [] ys first second = second
    Each-append (x ∷ xs) ys first second = (first.0, Each-append xs ys first.1 second)

-- what a map makes of something comes of something
of_mapped : {A B : Type 0} (f : A → B) (xs : List (Option A)) (i : ℕ) (y : B) → get_or (map (option_map f) xs) i None ≡ Some y
    → (x : A) × (get_or xs i None ≡ Some x) × (y ≡ f x)
of_mapped f [] i y is = absurd (none-some y is)
of_mapped f (None ∷ xs) zero y is = absurd (none-some y is)
of_mapped f (Some x ∷ xs) zero y is = (x, refl, sym (same_Some (f x) y is))
of_mapped f (x ∷ xs) (suc i) y is = of_mapped f xs i y is

-- at its start each link is open
pub starts_open : (net : Network) → IsOpen (initial_tree net)
starts_open net w link there =
    let (setup, leads, at_start) =
    of_mapped opened (by_child net.tree.parents net.links) w link
    (ap (λ links. get_or links w None) (map-by_child opened net.tree.parents net.links) ∙ there) in
    ap (λ (l : LinkValue). l.state.closed) at_start

-- so after these rounds all links are open
pub play_is_open : (net : Network) (rounds : ℕ) → IsOpen (tree_replay (initial_tree net) (play net.tree.parents rounds))
play_is_open net rounds =
    no_close_keeps (initial_tree net) (play net.tree.parents rounds) (play_has_no_close net.tree.parents rounds) (starts_open net)

-- one more of the rounds to come
pub played_one : (t : WholeTree) (parents : List (Option ℕ)) (rounds done : ℕ) → done < rounds
    → tree_replay t (play parents (rounds - done)) ≡ tree_replay (tree_replay t (round_from 0 parents)) (play parents (rounds - (done + 1)))
played_one t parents rounds done left =
    ap (λ n. tree_replay t (play parents n)) (let e : rounds - done ≡ suc (rounds - (done + 1)) = omega arith in e)
    ∙ replay_append t (round_from 0 parents) (play parents (rounds - (done + 1)))
