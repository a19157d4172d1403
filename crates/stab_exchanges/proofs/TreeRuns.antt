-- A tree over connections goes through changes of the tree of links that it is, with as many
-- reading rounds of a path as parts in which each of its links completes an exchange.
use Rattle.std.proofs.Common.{◌≡◌, ℕ, zero, suc, ◌+◌, ◌≤◌, ◌==◌, ◌&&◌, not, Bool, true, false, if◌then◌else◌, List, [], ◌∷◌, ◌++◌, append-nil, length-append, length-set, ext_get_or, get_or, is_some, map, length, slice_get, option_map, Some, None, Option, is_none, refl, sym, ◌∙◌, ap, subst, arith, eq-eqb, eqb-true, true≢false, inl, inr}
use Rattle.std.specs.Option.{option_map_or}
use Rattle.std.proofs.lemmas.List.{length_push}
use Rattle.std.proofs.lemmas.Option.{none-some}
use Rattle.stab_frames.specs.Parameters.{AreLawful, Parameters}
use Rattle.stab_core.specs.declared.act.LinkAct.TheVariants as act
use Rattle.stab_core.specs.Link.{LinkValue, link_at}
use Rattle.stab_core.specs.LinkActs.{event_of}
use Rattle.stab_core.specs.LinkSetup.{CanBegin, LinkSetup}
use Rattle.stab_core.specs.LinkState.{LinkState}
use Rattle.stab_core.specs.Since.{IsBounded}
use Rattle.stab_tree.specs.Nodes.{parent_at}
use Rattle.stab_tree.specs.Steps.{Reaches}
use Rattle.stab_tree.proofs.ForCallers.{child_is_node, holds_by_child, one_by_child}
use Rattle.stab_treecore.specs.declared.change.Change.{Change}
use Rattle.stab_treecore.specs.declared.change.Change.TheVariants.{Act, Publish, Strike, Restart}
use Rattle.stab_treecore.specs.Changes.{changes_replay}
use Rattle.stab_treecore.specs.Hits.{Spare}
use Rattle.stab_treecore.specs.Network.{IsNetwork, Network}
use Rattle.stab_treecore.specs.Since.{IsState, capacity_at}
use Rattle.stab_treecore.specs.TreeStep.{event_on, link_after, tree_step as link_tree_step}
use Rattle.stab_treecore.specs.WholeTree.{WholeTree, link_into, received}
use Rattle.stab_treecore.proofs.Contained.{changes-append}
use Rattle.stab_rounds.specs.Kinds.{reading}
use Rattle.stab_rounds.specs.ReadingRounds.{Reads, offer, reading_from}
use Rattle.stab_rounds.specs.TreePlayed.{act_on}
use Rattle.stab_rounds.specs.TreeRounds.{acts_on}
use Rattle.stab_rounds.proofs.Links.{after_event}
use Rattle.stab_rounds.proofs.TreeSteps.{step_at, step_other}
use Rattle.stab_convergence.specs.AtRest.{HasNoFault}
use Rattle.stab_convergence.specs.PathRounds.{IsPathOpen, PathRounds, TakesAtMost, acts_among}
use Rattle.stab_line.specs.Ends.{accepts}
use Rattle.stab_line.specs.Line.{Line, held, link_of, offer_item, with_taken}
use Rattle.stab_line.specs.NodeTree.{put, parameters_into, list_of, list_above}
use Rattle.stab_line.specs.SessionLink.{SessionLink, ConnectionAct, connection_step, link_step, item_offered, happens, line_of}
use Rattle.stab_line.specs.SessionTree.{SessionTree, TreeAct, publishes, polls, at_link, tree_step, tree_run, nodes_of, offers, acts_at, AllInTurn}
use Rattle.stab_line.proofs.Exchanges.{put_here}
use Rattle.stab_line.proofs.Lines.{Fields, Next, Work, done, waiting, fields, line_at}
use Rattle.stab_line.proofs.SessionLines.{few_acks, few_frames}
use Rattle.stab_line.proofs.SessionTrees.{HaveRoom, tree_in_turn}
use Rattle.stab_exchanges.specs.Exchanges.{Exchange, sending, arrival, answer, exchange_after}
use Rattle.stab_exchanges.specs.TreeExchanges.{AllCounted, IsCounted, IsPathOfOpenSenders, PathExchanges, awaited_at, exchanges_at, link_shown, links_from, tree_of_links}
use Rattle.stab_exchanges.proofs.Counted.{open_before}
use Rattle.stab_exchanges.proofs.CountsStay.{next_counted, run_within}
use Rattle.stab_exchanges.proofs.RoundsOf.{act_goes}
use Rattle.stab_exchanges.proofs.TreeRests.{no_fault_append, rested, rounds_append}
use Rattle.stab_exchanges.proofs.TreesShown.{Lifted, Ready, Shows, Went, at_link_went, idle_line, own_next, publish_went, put_there, ready_one, received_is}
use Rattle.stab_exchanges.proofs.Underway.{Underway, underway_step}
use Rattle.stab_exchanges.proofs.WholeRounds.{IsLeft, left_over, reads_over}

-- ---- a child that is polled

holds_none : (closed : Bool) (item : Option ℕ) → (not closed && is_none item) ≡ true → is_none item ≡ true
holds_none true item takes = absurd (true≢false (sym takes))
holds_none false item takes = takes

module _ (net : Network) (t : SessionTree) (s : WholeTree) (child parent item : ℕ) (is_child : parent_at net.tree.parents child ≡ Some parent)
    (ready : Ready net t s) (is_next : slice_get (list_above net (nodes_of t) child) (t.counts child) ≡ Some item) where
  abbrev its : Parameters
  its = parameters_into net child

  abbrev old : SessionLink
  old = t.links child

  abbrev state : LinkState
  state = link_of (line_of old)

  -- the link after an offer that is taken, or not
  abbrev offered_as : Bool → SessionLink
  offered_as takes =
      record old {
        sender =
            if takes
            then record { state = record { label = old.sender.state.label; item = Some item }; closed = false }
            else old.sender;
        offered = with_taken takes old.offered item;
      }

  abbrev counts_as : Bool → ℕ
  counts_as takes = if takes then t.counts child + 1 else t.counts child

  abbrev new : SessionLink
  new = link_step its old (item_offered item)

  there : link_into s child ≡ Some (link_at its state)
  there = ready.shows.links child ∙ ap (option_map (link_shown net t child)) is_child

  its_item : slice_get (received s parent) (length old.offered) ≡ Some item
  its_item =
      ap (λ xs. slice_get xs (length old.offered)) (received_is net t s parent ready.shows)
      ∙ ap (λ k. slice_get (list_of net (nodes_of t) parent) k) (sym (ready.counts child parent is_child))
      ∙ ap (λ o. slice_get (option_map_or (list_of net (nodes_of t)) o []) (t.counts child)) (sym is_child)
      ∙ is_next

  -- the tree of links offers the same item
  taken : accepts old.sender ≡ true → Lifted s child its (link_of (line_of new)) (link_tree_step s (act_on child act.Offer))
  taken takes = (
    step_at s (act_on child act.Offer) child parent its state (ap (λ ps. parent_at ps child) ready.shows.parents ∙ is_child) there refl
        ∙ ap (λ o. Some (link_at its (after_event its state (event_of act.Offer o)))) its_item
        ∙ ap (λ (idle : Bool). Some (link_at its (if idle then record state { offered = old.offered ++ item ∷ [] } else state)))
        (eq-eqb (length old.offered) old.acked
        (idle_line state (line_of old) (ready.next child parent is_child) (holds_none old.sender.closed old.sender.state.item takes)))
        ∙ ap (λ (is : Bool). Some (link_at its (link_of (line_of (offered_as is))))) (sym takes),
    λ v other. step_other s (act_on child act.Offer) v other,
    refl,
    refl,
    refl,
  )

  refused : accepts old.sender ≡ false → Lifted s child its (link_of (line_of new)) s
  refused refuses = (
    there ∙ ap (λ (is : Bool). Some (link_at its (link_of (line_of (offered_as is))))) (sym refuses),
    λ v other. refl,
    refl,
    refl,
    refl,
  )

  counted : (takes : Bool) → counts_as takes ≡ length (offered_as takes).offered
  counted true = omega (arith, ready.counts child parent is_child, length_push old.offered item)
  counted false = ready.counts child parent is_child

  abbrev counts : ℕ → ℕ
  counts = put t.counts child (counts_as (accepts old.sender))

  polled_ready : (s_after : WholeTree) → AllInTurn (record t { counts = counts; links = put t.links child new })
      → Lifted s child its (link_of (line_of new)) s_after → Ready net (record t { counts = counts; links = put t.links child new }) s_after
  polled_ready s_after in_turn leads =
      ready_one net t s s_after child parent new counts is_child ready leads in_turn
      (own_next _ (line_of new) (act_goes its (offer_item item) state (line_of old) (ready.next child parent is_child)))
      (put_here t.counts child (counts_as (accepts old.sender)) ∙ counted (accepts old.sender))
      (λ w other. put_there t.counts child w (counts_as (accepts old.sender)) other)

  polled_one : AllInTurn (record t { counts = counts; links = put t.links child new }) → (takes : Bool) → accepts old.sender ≡ takes
      → (changes : List Change) × HasNoFault changes
      × Ready net (record t { counts = counts; links = put t.links child new }) (changes_replay s changes)
  polled_one in_turn true takes =
      (Act (act_on child act.Offer) ∷ [], tt, polled_ready (link_tree_step s (act_on child act.Offer)) in_turn (taken takes))
  polled_one in_turn false refuses = ([], tt, polled_ready s in_turn (refused refuses))

poll_went : (net : Network) (t : SessionTree) (s : WholeTree) (child : ℕ) → Ready net t s → (next : Option ℕ)
    → slice_get (list_above net (nodes_of t) child) (t.counts child) ≡ next → AllInTurn (offers (parameters_into net child) t child next)
    → (changes : List Change) × HasNoFault changes
    × Ready net (offers (parameters_into net child) t child next) (changes_replay s changes)
poll_went net t s child ready None is_next in_turn = ([], tt, ready)
poll_went net t s child ready (Some item) is_next in_turn = by_parent (parent_at net.tree.parents child) refl
  where
    by_parent : (up : Option ℕ) → parent_at net.tree.parents child ≡ up
        → (changes : List Change) × HasNoFault changes
        × Ready net (offers (parameters_into net child) t child (Some item)) (changes_replay s changes)
    by_parent None is_root =
        absurd (none-some item (sym (ap (λ o. slice_get (option_map_or (list_of net (nodes_of t)) o []) (t.counts child)) is_root) ∙ is_next))
    by_parent (Some parent) is_child =
        polled_one net t s child parent item is_child ready is_next in_turn (accepts (t.links child).sender) refl

-- ---- any act of the tree

-- what is known of each link with a parent
abbrev Known : Network → SessionTree → (ℕ → Exchange) → (ℕ → Reads) → Type 0
Known net t e r =
    (w up : ℕ) → parent_at net.tree.parents w ≡ Some up → Underway (e w) (t.links w) × IsLeft (parameters_into net w).capacity (r w)

went : (net : Network) (t : SessionTree) (s : WholeTree) (a : TreeAct) (e : ℕ → Exchange) (r : ℕ → Reads) → HaveRoom net → Ready net t s
    → Known net t e r → Went net t s a e r
went net t s (publishes item) e r room ready known = publish_went net t s item e r ready
went net t s (polls child) e r room ready known =
    let (changes, no_fault, after) =
    poll_went net t s child ready (slice_get (list_above net (nodes_of t) child) (t.counts child)) refl
    (tree_in_turn net t (polls child) ready.in_turn)
    in
    record { changes = changes; no_fault = no_fault; ready = after; some = λ w parent is_child is_open. omega arith }
went net t s (at_link child a) e r room ready known =
    let in_turn = tree_in_turn net t (at_link child a) ready.in_turn in
    let (changes, no_fault, after, some) =
    at_link_went net t s child a e r room ready known in_turn (parent_at net.tree.parents child) refl in_turn
    in
    record { changes = changes; no_fault = no_fault; ready = after; some = some }

-- an offer leaves what an exchange waits for
offered_waits : (t : SessionLink) (e : Exchange) (item : ℕ) → exchange_after t e (item_offered item) ≡ e
offered_waits t sending item = refl
offered_waits t (arrival n) item = refl
offered_waits t (answer n) item = refl

module _ (net : Network) (t : SessionTree) (w up : ℕ) (e : Exchange) (is_child : parent_at net.tree.parents w ≡ Some up) (in_turn : AllInTurn t)
    (underway : Underway e (t.links w)) where
  polled_underway : (child : ℕ) (next : Option ℕ) → Underway e ((offers (parameters_into net child) t child next).links w)
  polled_underway child None = underway
  polled_underway child (Some item) = by_same (w == child) refl
    where
      by_same : (same : Bool) → (w == child) ≡ same
          → Underway e (if same then link_step (parameters_into net child) (t.links child) (item_offered item) else t.links w)
      by_same true same =
          subst (λ f. Underway f (link_step (parameters_into net child) (t.links child) (item_offered item))) (offered_waits (t.links child) e item)
          (underway_step (parameters_into net child) (t.links child) e (item_offered item) (in_turn child)
          (subst (λ v. Underway e (t.links v)) (eqb-true w child same) underway))
      by_same false other = underway

  acted_underway : (child : ℕ) (a : ConnectionAct) (above : Option ℕ) → parent_at net.tree.parents child ≡ above
      → Underway (awaited_at t w e (at_link child a)) ((acts_at (parameters_into net child) t child a above).links w)
  acted_underway child a None is_root = by_same (w == child) refl
    where
      by_same : (same : Bool) → (w == child) ≡ same
          → Underway (if same then exchange_after (t.links w) e (happens a) else e) (t.links w)
      by_same true same = absurd (none-some up (sym is_root ∙ ap (parent_at net.tree.parents) (sym (eqb-true w child same)) ∙ is_child))
      by_same false other = underway
  acted_underway child a (Some parent) is_there = by_same (w == child) refl
    where
      by_same : (same : Bool) → (w == child) ≡ same
          → Underway (if same then exchange_after (t.links w) e (happens a) else e)
          (if same then connection_step (parameters_into net child) (t.links child) a else t.links w)
      by_same true same =
          subst (λ v. Underway (exchange_after (t.links v) e (happens a)) (connection_step (parameters_into net child) (t.links child) a))
          (sym (eqb-true w child same))
          (underway_step (parameters_into net child) (t.links child) e (happens a) (in_turn child)
          (subst (λ v. Underway e (t.links v)) (eqb-true w child same) underway))
      by_same false other = underway

  tree_underway : (a : TreeAct) → Underway (awaited_at t w e a) ((tree_step net t a).links w)
  tree_underway (publishes item) = underway
  tree_underway (polls child) = polled_underway child (slice_get (list_above net (nodes_of t) child) (t.counts child))
  tree_underway (at_link child a) = acted_underway child a (parent_at net.tree.parents child) refl

-- ---- a closed sender stays closed

put_open : (links : ℕ → SessionLink) (child w : ℕ) (link : SessionLink)
    → (link.sender.closed ≡ false → (links child).sender.closed ≡ false) → (put links child link w).sender.closed ≡ false
    → (links w).sender.closed ≡ false
put_open links child w link before is_open = by_same (w == child) refl is_open
  where
    by_same : (same : Bool) → (w == child) ≡ same → (if same then link else links w).sender.closed ≡ false
        → (links w).sender.closed ≡ false
    by_same true same is_open = subst (λ v. (links v).sender.closed ≡ false) (sym (eqb-true w child same)) (before is_open)
    by_same false other is_open = is_open

polled_open : (p : Parameters) (t : SessionTree) (child w : ℕ) (next : Option ℕ) → ((offers p t child next).links w).sender.closed ≡ false
    → (t.links w).sender.closed ≡ false
polled_open p t child w None is_open = is_open
polled_open p t child w (Some item) is_open =
    put_open t.links child w (link_step p (t.links child) (item_offered item)) (open_before p (t.links child) (item_offered item)) is_open

acted_open : (p : Parameters) (t : SessionTree) (child w : ℕ) (a : ConnectionAct) (up : Option ℕ)
    → ((acts_at p t child a up).links w).sender.closed ≡ false → (t.links w).sender.closed ≡ false
acted_open p t child w a None is_open = is_open
acted_open p t child w a (Some parent) is_open =
    put_open t.links child w (connection_step p (t.links child) a) (open_before p (t.links child) (happens a)) is_open

tree_open : (net : Network) (t : SessionTree) (a : TreeAct) (w : ℕ) → ((tree_step net t a).links w).sender.closed ≡ false
    → (t.links w).sender.closed ≡ false
tree_open net t (publishes item) w is_open = is_open
tree_open net t (polls child) w is_open =
    polled_open (parameters_into net child) t child w (slice_get (list_above net (nodes_of t) child) (t.counts child)) is_open
tree_open net t (at_link child a) w is_open =
    acted_open (parameters_into net child) t child w a (parent_at net.tree.parents child) is_open

run_open : (net : Network) (t : SessionTree) (acts : List TreeAct) (w : ℕ) → ((tree_run net t acts).links w).sender.closed ≡ false
    → (t.links w).sender.closed ≡ false
run_open net t [] w is_open = is_open
run_open net t (a ∷ acts) w is_open = tree_open net t a w (run_open net (tree_step net t a) acts w is_open)

-- ---- acts, one after the other

record Ran (net : Network) (t : SessionTree) (s : WholeTree) (acts : List TreeAct) (e : ℕ → Exchange) (r : ℕ → Reads) : Type 0 where
  changes : List Change
  no_fault : HasNoFault changes
  ready : Ready net (tree_run net t acts) (changes_replay s changes)
  some : (w up : ℕ) → parent_at net.tree.parents w ≡ Some up → ((tree_run net t acts).links w).sender.closed ≡ false
      → exchanges_at net t w (e w) acts ≤ reading_from (parameters_into net w).capacity (r w) (acts_on w (acts_among changes))

ran : (net : Network) (t : SessionTree) (s : WholeTree) (acts : List TreeAct) (e : ℕ → Exchange) (r : ℕ → Reads) → HaveRoom net → Ready net t s
    → Known net t e r → Ran net t s acts e r
ran net t s [] e r room ready known =
    record { changes = []; no_fault = tt; ready = ready; some = λ w up is_child is_open. omega arith }
ran net t s (a ∷ acts) e r room ready known =
    let one = went net t s a e r room ready known in
    let first : List Change = one.changes in
    let rest =
    ran net (tree_step net t a) (changes_replay s first) acts (λ w. awaited_at t w (e w) a)
    (λ w. reads_over (parameters_into net w).capacity (r w) (acts_on w (acts_among first))) room one.ready
    (λ w up is_child.
    let (underway, left) = known w up is_child in (
      tree_underway net t w up (e w) is_child ready.in_turn underway a,
      left_over (parameters_into net w).capacity (r w) (acts_on w (acts_among first)) left,
    ))
    in
    record {
      changes = first ++ rest.changes;
      no_fault = no_fault_append first rest.changes one.no_fault rest.no_fault;
      ready = subst (λ (u : WholeTree). Ready net (tree_run net (tree_step net t a) acts) u) (sym (changes-append s first rest.changes)) rest.ready;
      some =
          λ w up is_child is_open.
          let before = one.some w up is_child (run_open net (tree_step net t a) acts w is_open) in
          let after = rest.some w up is_child is_open in
          omega (arith, before, after, rounds_append (parameters_into net w).capacity w (r w) first rest.changes);
    }

-- ---- a path

tree_run_append : (net : Network) (t : SessionTree) (first second : List TreeAct)
    → tree_run net t (first ++ second) ≡ tree_run net (tree_run net t first) second
tree_run_append net t [] second = refl
tree_run_append net t (a ∷ first) second = tree_run_append net (tree_step net t a) first second

-- the rounds of the path are counted in the tree of links as it was at first
module _ (net : Network) (s0 : WholeTree) (node : ℕ) (same_parents : s0.parents ≡ net.tree.parents)
    (same_capacity : (w up : ℕ) → parent_at net.tree.parents w ≡ Some up → capacity_at s0 w ≡ (parameters_into net w).capacity)
    (room : HaveRoom net) where
  path_rounds : (t : SessionTree) (s : WholeTree) (rounds : ℕ) (acts : List TreeAct) → Ready net t s → PathExchanges net t node rounds acts
      → IsPathOfOpenSenders net (tree_run net t acts) node
      → (changes : List Change) × HasNoFault changes × Ready net (tree_run net t acts) (changes_replay s changes)
      × PathRounds reading s0 node rounds changes
  path_rounds t s zero acts ready are_exchanges are_open =
      let all = ran net t s acts (λ w. sending) (λ w. offer) room ready (λ w up is_child. (tt, tt)) in
      (all.changes, all.no_fault, all.ready, tt)
  path_rounds t s (suc rounds) acts ready (part, rest, parts, each, more) are_open =
      let end : tree_run net t acts ≡ tree_run net (tree_run net t part) rest =
      ap (tree_run net t) parts ∙ tree_run_append net t part rest
      in
      let at_rest = rested net t s room (length net.tree.parents) ready in
      let quiet : List Change = at_rest.changes in
      let awaited : ℕ → Reads = λ w. reads_over (parameters_into net w).capacity offer (acts_on w (acts_among quiet)) in
      let one =
      ran net t (changes_replay s quiet) part (λ w. sending) awaited room at_rest.ready
      (λ w up is_child. (tt, left_over (parameters_into net w).capacity offer (acts_on w (acts_among quiet)) tt))
      in
      let still_open : IsPathOfOpenSenders net (tree_run net (tree_run net t part) rest) node =
      subst (λ (u : SessionTree). IsPathOfOpenSenders net u node) end are_open
      in
      let first : List Change = quiet ++ one.changes in
      let (changes, no_fault, after, are_rounds) =
      path_rounds (tree_run net t part) (changes_replay (changes_replay s quiet) one.changes) rounds rest one.ready more still_open
      in (
        first ++ changes,
        no_fault_append first changes (no_fault_append quiet one.changes at_rest.no_fault one.no_fault) no_fault,
        subst (λ (u : WholeTree). Ready net (tree_run net t acts) u)
            (sym (changes-append s first changes ∙ ap (λ u. changes_replay u changes) (changes-append s quiet one.changes)))
            (subst (λ (u : SessionTree). Ready net u (changes_replay (changes_replay (changes_replay s quiet) one.changes) changes)) (sym end) after),
        (
          first,
          changes,
          refl,
          λ w up reaches is_child.
              let there : parent_at net.tree.parents w ≡ Some up = ap (λ ps. parent_at ps w) (sym same_parents) ∙ is_child in
              let reached : Reaches net.tree.parents node w = subst (λ ps. Reaches ps node w) same_parents reaches in
              let few = one.some w up there (run_open net (tree_run net t part) rest w (still_open w up reached there)) in
              let c : ℕ = (parameters_into net w).capacity in
              let both = rounds_append c w offer quiet one.changes in
              subst (λ k. 1 ≤ reading_from k offer (acts_on w (acts_among first))) (sym (same_capacity w up there))
              (elim (each w up reached there) [
                | inl rests ↦
                    (let some = at_rest.some w up there (child_is_node net.tree.parents w up there) rests in omega (arith, some, both))
                | inr exchanged ↦ omega (arith, exchanged, few, both)
              ]),
          are_rounds,
        ),
      )

-- ---- from the state of a tree

counted_next : (t : SessionLink) → IsCounted t → (item : Option ℕ) → t.sender.state.item ≡ item → Next (link_of (line_of t)) (line_of t)
counted_next t (front, offered, acked) item is = by_item item is
  where
    shape : Option ℕ → List ℕ → ℕ → Line
    shape i items n =
        record (line_of t) { sender = record t.sender { state = record t.sender.state { item = i } }; offered = items; acked = n }

    whole : Work → Fields
    whole work =
        fields (line_of t).frames (line_of t).acks t.sender.state.label work t.sender.closed t.receiver.label t.receiver.closed t.delivered

    of_line : (work : Work) → line_of t ≡ line_at (whole work) → Next (link_of (line_of t)) (line_of t)
    of_line work line = record { after = whole work; line = line; link = ap link_of line }

    by_item : (item : Option ℕ) → t.sender.state.item ≡ item → Next (link_of (line_of t)) (line_of t)
    by_item None is =
        of_line (done front)
        (ap (λ (i : Option ℕ). shape i t.offered t.acked) is
        ∙ ap (λ (items : List ℕ). shape None items t.acked) (offered ∙ ap (λ i. front ++ held i) is ∙ append-nil front)
        ∙ ap (λ (n : ℕ). shape None front n) acked)
    by_item (Some x) is =
        of_line (waiting front x)
        (ap (λ (i : Option ℕ). shape i t.offered t.acked) is
        ∙ ap (λ (items : List ℕ). shape (Some x) items t.acked) (offered ∙ ap (λ i. front ++ held i) is)
        ∙ ap (λ (n : ℕ). shape (Some x) (front ++ x ∷ []) n) acked)

all_ready : (net : Network) (t : SessionTree) (s : WholeTree) → Shows net t s → AllInTurn t → AllCounted net t → Ready net t s
all_ready net t s shows in_turn counted =
    record {
      shows = shows;
      in_turn = in_turn;
      next = λ w up is_child. counted_next (t.links w) (counted w up is_child).0 (t.links w).sender.state.item refl;
      counts = λ w up is_child. (counted w up is_child).1;
    }

-- ---- the tree of links of a tree over connections

module _ (net : Network) (t : SessionTree) where
  links_at : (parents : List (Option ℕ)) (k w : ℕ)
      → get_or (links_from net t k parents) w None ≡ option_map (link_shown net t (k + w)) (get_or parents w None)
  links_at [] k w = refl
  links_at (parent ∷ parents) k zero =
      ap (λ n. option_map (link_shown net t n) parent) (let e : k ≡ k + 0 = omega arith in e)
  links_at (parent ∷ parents) k (suc w) =
      links_at parents (k + 1) w
      ∙ ap (λ n. option_map (link_shown net t n) (get_or parents w None)) (let e : k + 1 + w ≡ k + suc w = omega arith in e)

  pub shows_itself : Shows net t (tree_of_links net t)
  shows_itself = record {
    parents = refl;
    openings = refl;
    published = refl;
    links =
        λ w. links_at net.tree.parents 0 w
        ∙ ap (λ n. option_map (link_shown net t n) (parent_at net.tree.parents w)) (let e : 0 + w ≡ w = omega arith in e);
  }

  as_many : (parents : List (Option ℕ)) (k : ℕ) → length (links_from net t k parents) ≡ length parents
  as_many [] k = refl
  as_many (parent ∷ parents) k = ap suc (as_many parents (k + 1))

  -- no other tree of links is
  shown_alone : (s : WholeTree) → Shows net t s → length s.links ≡ length net.tree.parents → s ≡ tree_of_links net t
  shown_alone s shows many =
      let links : s.links ≡ links_from net t 0 net.tree.parents =
      ext_get_or None s.links (links_from net t 0 net.tree.parents) (many ∙ sym (as_many net.tree.parents 0))
      (λ i within. shows.links i ∙ sym (shows_itself.links i))
      in
      ap (λ published. record s { published = published }) shows.published
      ∙ ap (λ openings. record s { published = t.published; openings = openings }) shows.openings
      ∙ ap (λ parents. record s { published = t.published; openings = net.openings.lists; parents = parents }) shows.parents
      ∙ ap (λ ls. record (tree_of_links net t) { links = ls }) links

  link_there : (w up : ℕ) → parent_at net.tree.parents w ≡ Some up → link_into (tree_of_links net t) w ≡ Some (link_shown net t w up)
  link_there w up is_child = shows_itself.links w ∙ ap (option_map (link_shown net t w)) is_child

  -- a link that is there has a parent above it
  of_link : (up : Option ℕ) (w : ℕ) (link : LinkValue) → option_map (link_shown net t w) up ≡ Some link
      → (parent : ℕ) × (up ≡ Some parent) × (link_shown net t w parent ≡ link)
  of_link None w link is = absurd (none-some link is)
  of_link (Some parent) w link is = (parent, refl, ap (λ o. option_map_or (λ l. l) o (link_shown net t w parent)) is)

  kinds : (parents : List (Option ℕ)) (k : ℕ) → map is_some (links_from net t k parents) ≡ map is_some parents
  kinds [] k = refl
  kinds (None ∷ parents) k = ap (λ rest. false ∷ rest) (kinds parents (k + 1))
  kinds (Some parent ∷ parents) k = ap (λ rest. true ∷ rest) (kinds parents (k + 1))

  module _ (is_network : IsNetwork net) (in_turn : AllInTurn t) (counted : AllCounted net t) where
    lawful : (w up : ℕ) → parent_at net.tree.parents w ≡ Some up → AreLawful (parameters_into net w)
    lawful w up is_child =
        let (setup, leads) = one_by_child net.tree.parents net.links 0 w up is_network.one_per_link is_child in
        subst AreLawful (ap (λ o. option_map_or (λ (l : LinkSetup). l.params) o (record { capacity = 0; labels = 0 })) (sym leads))
        (holds_by_child CanBegin net.tree.parents net.links w setup is_network.can_begin leads).0

    -- what is offered is what was acknowledged, and maybe one item more
    waits : (item : Option ℕ) (front items : List ℕ) (acked : ℕ) → items ≡ front ++ held item → acked ≡ length front
        → (acked ≤ length items) × (length items ≤ acked + 1)
    waits None front items acked offered is =
        let size : length items ≡ length front + 0 = ap length offered ∙ length-append front [] in
        (omega (arith, size, is), omega (arith, size, is))
    waits (Some item) front items acked offered is =
        let size : length items ≡ length front + 1 = ap length offered ∙ length-append front (item ∷ []) in
        (omega (arith, size, is), omega (arith, size, is))

    pub shown_is_state : IsState net.tree (tree_of_links net t)
    shown_is_state = record {
      is_tree = is_network.tree;
      parents = refl;
      linked = kinds net.tree.parents 0;
      bounded =
          λ w link there.
          let (up, is_child, is) = of_link (parent_at net.tree.parents w) w link (sym (shows_itself.links w) ∙ there) in
          subst (λ (l : LinkValue). AreLawful l.params × IsBounded l.params l.state) is (bounded_at w up is_child);
      within =
          λ w parent link is_child there.
          let (up, _, is) = of_link (parent_at net.tree.parents w) w link (sym (shows_itself.links w) ∙ there) in
          subst (λ (l : LinkValue). length l.state.offered ≤ length (received (tree_of_links net t) parent)) is (within_at w parent is_child);
    }
      where
        bounded_at : (w up : ℕ) → parent_at net.tree.parents w ≡ Some up
            → AreLawful (parameters_into net w) × IsBounded (parameters_into net w) (link_of (line_of (t.links w)))
        bounded_at w up is_child =
            let ((front, offered, acked), _, _) = counted w up is_child in
            let (fewer, no_more) = waits (t.links w).sender.state.item front (t.links w).offered (t.links w).acked offered acked in
            let some = (lawful w up is_child).some_capacity in (
              lawful w up is_child,
              record {
                lawful = record {
                  frames = omega (arith, some, few_frames (t.links w) (in_turn w) (t.links w).at_receiver.connection);
                  acks = omega (arith, some, few_acks (t.links w) (in_turn w) (t.links w).at_sender.connection);
                };
                acked_were_offered = fewer;
                one_waits_at_most = no_more;
              },
            )

        within_at : (w parent : ℕ) → parent_at net.tree.parents w ≡ Some parent
            → length (t.links w).offered ≤ length (received (tree_of_links net t) parent)
        within_at w parent is_child =
            let (_, as_far, within) = counted w parent is_child in
            omega (
              arith,
              as_far,
              within,
              ap (λ o. length (option_map_or (list_of net (nodes_of t)) o [])) is_child,
              ap length (received_is net t (tree_of_links net t) parent shows_itself),
            )

-- changes without faults keep the number of links
links_kept : (s : WholeTree) (changes : List Change) → HasNoFault changes → length (changes_replay s changes).links ≡ length s.links
links_kept s [] no_fault = refl
links_kept s (Act e ∷ changes) no_fault =
    links_kept (link_tree_step s e) changes no_fault
    ∙ length-set s.links e.child (option_map (link_after (event_on s e)) (link_into s e.child))
links_kept s (Publish items ∷ changes) no_fault = links_kept (record s { published = s.published ++ items }) changes no_fault
links_kept s (Strike child start ∷ changes) no_fault = absurd no_fault
links_kept s (Restart node list ∷ changes) no_fault = absurd no_fault

pub exchanges_are_rounds : (net : Network) (t : SessionTree) (acts : List TreeAct) (node rounds : ℕ)
    → IsNetwork net → AllInTurn t → AllCounted net t → PathExchanges net t node rounds acts
    → let s = tree_of_links net t in
    let after = tree_run net t acts in
    IsPathOfOpenSenders net after node
    → (changes : List Change) × HasNoFault changes × (changes_replay s changes ≡ tree_of_links net after)
    × PathRounds reading s node rounds changes
exchanges_are_rounds net t acts node rounds is_network in_turn counted are_exchanges are_open =
    let s : WholeTree = tree_of_links net t in
    let (changes, no_fault, after, are_rounds) =
    path_rounds net s node refl
    (λ w up is_child. ap {B = ℕ} (λ o. option_map_or (λ (link : LinkValue). link.params.capacity) o 0) (link_there net t w up is_child))
    (λ w up is_child. (lawful net t is_network in_turn counted w up is_child).some_capacity)
    t s rounds acts (all_ready net t s (shows_itself net t) in_turn counted) are_exchanges are_open
    in (
      changes,
      no_fault,
      shown_alone net (tree_run net t acts) (changes_replay s changes) after.shows
          (links_kept s changes no_fault ∙ as_many net t net.tree.parents 0),
      are_rounds,
    )

-- at any moment the links are in turn and counted
pub stays_counted : (net : Network) (t : SessionTree) (acts : List TreeAct) → IsNetwork net → AllInTurn t → AllCounted net t
    → AllInTurn (tree_run net t acts) × AllCounted net (tree_run net t acts)
stays_counted net t acts is_network in_turn counted =
    let s : WholeTree = tree_of_links net t in
    let all =
    ran net t s acts (λ w. sending) (λ w. offer) (λ w up is_child. (lawful net t is_network in_turn counted w up is_child).some_capacity)
    (all_ready net t s (shows_itself net t) in_turn counted) (λ w up is_child. (tt, tt))
    in
    let after : SessionTree = tree_run net t acts in
    let within = run_within net t acts (λ w up is_child. (counted w up is_child).2) in (
      all.ready.in_turn,
      λ w up is_child. (
        next_counted (link_of (line_of (after.links w))) (after.links w) (all.ready.next w up is_child),
        all.ready.counts w up is_child,
        within w up is_child,
      ),
    )

pub path_open_at_first : (net : Network) (t : SessionTree) (acts : List TreeAct) (node : ℕ) → IsPathOfOpenSenders net (tree_run net t acts) node
    → IsPathOfOpenSenders net t node
path_open_at_first net t acts node are_open = λ w up reaches is_child. run_open net t acts w (are_open w up reaches is_child)

-- what convergence asks for besides
pub spares_all : (parents : List (Option ℕ)) (node : ℕ) (changes : List Change) → HasNoFault changes → Spare parents node changes
spares_all parents node [] no_fault = tt
spares_all parents node (Act e ∷ changes) no_fault = ((λ hit. hit), spares_all parents node changes no_fault)
spares_all parents node (Publish items ∷ changes) no_fault = ((λ hit. hit), spares_all parents node changes no_fault)
spares_all parents node (Strike child start ∷ changes) no_fault = absurd no_fault
spares_all parents node (Restart other list ∷ changes) no_fault = absurd no_fault

pub shown_is_open : (net : Network) (t : SessionTree) (node : ℕ) → IsPathOpen (tree_of_links net t) node
shown_is_open net t node w link reaches there =
    let (up, _, is) = of_link net t (parent_at net.tree.parents w) w link (sym ((shows_itself net t).links w) ∙ there) in
    ap (λ (l : LinkValue). l.state.closed) (sym is)

pub one_is_enough : (s : WholeTree) (node : ℕ) → TakesAtMost reading 1 s node
one_is_enough s node w up reaches is_child = omega arith

pub spares_both : (parents : List (Option ℕ)) (node : ℕ) (before after : List Change) → HasNoFault before → HasNoFault after
    → Spare parents node (before ++ (after ++ []))
spares_both parents node before after first second =
    spares_all parents node (before ++ (after ++ []))
    (no_fault_append before (after ++ []) first (no_fault_append after [] second tt))
