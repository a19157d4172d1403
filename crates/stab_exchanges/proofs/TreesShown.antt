-- What an act of a tree over connections makes of the tree of links that it is.
use Rattle.std.proofs.Common.{◌≡◌, ◌≢◌, ℕ, ◌≤◌, ◌==◌, Bool, true, false, if◌then◌else◌, List, [], ◌∷◌, ◌++◌, length, map, slice_get, option_map, Some, None, Option, is_none, refl, sym, ◌∙◌, ap, subst, arith, eq-eqb, eqb-true, true≢false}
use Rattle.std.specs.Option.{option_map_or}
use Rattle.std.proofs.lemmas.Option.{none-some}
use Rattle.stab_frames.specs.declared.frame.Frame.{Frame}
use Rattle.stab_frames.specs.Parameters.{Parameters}
use Rattle.stab_core.specs.declared.act.LinkAct.TheVariants as act
use Rattle.stab_core.specs.declared.event.Event.{Event}
use Rattle.stab_core.specs.declared.event.Event.TheVariants as event
use Rattle.stab_core.specs.Link.{LinkValue, link_at}
use Rattle.stab_core.specs.LinkActs.{event_of}
use Rattle.stab_core.specs.LinkState.{LinkState}
use Rattle.stab_core.specs.Replay.{replay}
use Rattle.stab_core.specs.Step.{step}
use Rattle.stab_tree.specs.NodeOpenings.{opening_at}
use Rattle.stab_tree.specs.Nodes.{parent_at}
use Rattle.stab_treecore.specs.declared.change.Change.{Change}
use Rattle.stab_treecore.specs.declared.change.Change.TheVariants.{Act, Publish}
use Rattle.stab_treecore.specs.Changes.{changes_replay}
use Rattle.stab_treecore.specs.Network.{Network}
use Rattle.stab_treecore.specs.TreeStep.{tree_step as link_tree_step}
use Rattle.stab_treecore.specs.WholeTree.{WholeTree, link_into, received}
use Rattle.stab_rounds.specs.Rounds.{act_of}
use Rattle.stab_rounds.specs.ReadingRounds.{Reads, reading_from}
use Rattle.stab_rounds.specs.TreePlayed.{act_on}
use Rattle.stab_rounds.specs.TreeRounds.{acts_on}
use Rattle.stab_rounds.proofs.Links.{after_event}
use Rattle.stab_rounds.proofs.TreeSteps.{At, acts_own, step_at, step_other}
use Rattle.stab_convergence.specs.AtRest.{HasNoFault}
use Rattle.stab_convergence.specs.PathRounds.{acts_among}
use Rattle.stab_line.specs.Line.{Line, link_of}
use Rattle.stab_line.specs.NodeTree.{put, parameters_into, list_of}
use Rattle.stab_line.specs.SessionLink.{SessionLink, ConnectionAct, connection_step, happens, line_of, is_unused, is_made, receives_frame, receives_ack}
use Rattle.stab_line.specs.SessionLink.{sender_makes, receiver_makes, stranger_makes, sender_accepts, receiver_accepts, sender_leaves, receiver_leaves, frame_sent, ack_sent, frame_comes, ack_comes, frame_lost, ack_lost, sender_closes, receiver_closes}
use Rattle.stab_line.specs.SessionTree.{SessionTree, TreeAct, publishes, at_link, tree_step, nodes_of, acts_at, AllInTurn}
use Rattle.stab_line.proofs.Exchanges.{put_here}
use Rattle.stab_line.proofs.Lines.{Next, Work, done, waiting, item_of, offered_of, acked_of}
use Rattle.stab_line.proofs.SessionTrees.{HaveRoom}
use Rattle.stab_exchanges.specs.Exchanges.{Exchange, exchanged_by}
use Rattle.stab_exchanges.specs.TreeExchanges.{exchanged_at, link_shown}
use Rattle.stab_exchanges.proofs.Counted.{open_before}
use Rattle.stab_exchanges.proofs.RoundsOf.{Harmless, Led, connection_led, exchange_led}
use Rattle.stab_exchanges.proofs.Underway.{Underway}
use Rattle.stab_exchanges.proofs.WholeRounds.{IsLeft}

-- ---- events of one link, as changes of the tree

abbrev pub link_acts : ℕ → List Event → List Change
link_acts w [] = []
link_acts w (e ∷ events) = Act (act_on w (act_of e)) ∷ link_acts w events

pub no_fault_among : (w : ℕ) (events : List Event) → HasNoFault (link_acts w events)
no_fault_among w [] = tt
no_fault_among w (e ∷ events) = no_fault_among w events

pub acts_here : (w : ℕ) (events : List Event) → acts_on w (acts_among (link_acts w events)) ≡ map act_of events
acts_here w [] = refl
acts_here w (e ∷ events) =
    acts_own w (act_on w (act_of e)) (acts_among (link_acts w events)) refl ∙ ap (λ acts. act_of e ∷ acts) (acts_here w events)

-- an offer of any item, or of none, is harmless there
offer_after : (p : Parameters) (s : LinkState) (item : Option ℕ) → ((other : ℕ) → step p s (event.Offer other) ≡ s)
    → after_event p s (event_of act.Offer item) ≡ s
offer_after p s None harmless = refl
offer_after p s (Some other) harmless = harmless other

-- so the tree takes an act for the event
event_after : (p : Parameters) (s : LinkState) (e : Event) (events : List Event) (item : Option ℕ) → Harmless p s (e ∷ events)
    → after_event p s (event_of (act_of e) item) ≡ step p s e
event_after p s (event.Offer x) events item harmless = offer_after p s item harmless.0 ∙ sym (harmless.0 x)
event_after p s event.SendFrame events item harmless = refl
event_after p s (event.RecvFrame keep) events item harmless = refl
event_after p s event.SendAck events item harmless = refl
event_after p s (event.RecvAck keep) events item harmless = refl
event_after p s (event.LoseFrame place) events item harmless = refl
event_after p s (event.LoseAck place) events item harmless = refl
event_after p s event.Close events item harmless = refl

harmless_after : (p : Parameters) (s : LinkState) (e : Event) (events : List Event) → Harmless p s (e ∷ events)
    → Harmless p (step p s e) events
harmless_after p s (event.Offer x) events harmless = subst (λ u. Harmless p u events) (sym (harmless.0 x)) harmless.1
harmless_after p s event.SendFrame events harmless = harmless
harmless_after p s (event.RecvFrame keep) events harmless = harmless
harmless_after p s event.SendAck events harmless = harmless
harmless_after p s (event.RecvAck keep) events harmless = harmless
harmless_after p s (event.LoseFrame place) events harmless = harmless
harmless_after p s (event.LoseAck place) events harmless = harmless
harmless_after p s event.Close events harmless = harmless

-- where the events lead the link, and that they change nothing else
abbrev pub Lifted : WholeTree → ℕ → Parameters → LinkState → WholeTree → Type 0
Lifted s w p after t =
    At t w p after × ((v : ℕ) → w ≢ v → link_into t v ≡ link_into s v) × (t.parents ≡ s.parents)
    × (t.openings ≡ s.openings) × (t.published ≡ s.published)

pub lifted : (s : WholeTree) (w parent : ℕ) (p : Parameters) (q : LinkState) (events : List Event) → parent_at s.parents w ≡ Some parent
    → At s w p q → Harmless p q events → Lifted s w p (replay p q events) (changes_replay s (link_acts w events))
lifted s w parent p q [] is_child there harmless = (there, λ v other. refl, refl, refl, refl)
lifted s w parent p q (e ∷ events) is_child there harmless =
    let e_here = act_on w (act_of e) in
    let after : WholeTree = link_tree_step s e_here in
    let here : At after w p (step p q e) =
    step_at s e_here w parent p q is_child there refl
    ∙ ap (λ u. Some (link_at p u)) (event_after p q e events (slice_get (received s parent) (length q.offered)) harmless)
    in
    let (leads, others, parents, openings, published) =
    lifted after w parent p (step p q e) events is_child here (harmless_after p q e events harmless)
    in
    (leads, λ v other. others v other ∙ step_other s e_here v other, parents, openings, published)

-- ---- what the two trees have in common

-- the tree of links is that of the tree over connections
pub record Shows (net : Network) (t : SessionTree) (s : WholeTree) : Type 0 where
  pub parents : s.parents ≡ net.tree.parents
  pub openings : s.openings ≡ net.openings.lists
  pub published : s.published ≡ t.published
  pub links : (w : ℕ) → link_into s w ≡ option_map (link_shown net t w) (parent_at net.tree.parents w)

pub record Ready (net : Network) (t : SessionTree) (s : WholeTree) : Type 0 where
  pub shows : Shows net t s
  pub in_turn : AllInTurn t
  pub next : (w parent : ℕ) → parent_at net.tree.parents w ≡ Some parent → Next (link_of (line_of (t.links w))) (line_of (t.links w))
  pub counts : (w parent : ℕ) → parent_at net.tree.parents w ≡ Some parent → t.counts w ≡ length (t.links w).offered

pub own_next : (s : LinkState) (l : Line) → Next s l → Next (link_of l) l
own_next s l there = record { after = there.after; line = there.line; link = ap link_of there.line }

of_parent : {A B : Type 0} (f : A → B) (o : Option ℕ) (g : ℕ → A) (d : B) → option_map_or f (option_map g o) d ≡ option_map_or (λ x. f (g x)) o d
of_parent f None g d = refl
of_parent f (Some x) g d = refl

idle_work : (work : Work) → is_none (item_of work) ≡ true → length (offered_of work) ≡ acked_of work
idle_work (done items) none = refl
idle_work (waiting items item) none = absurd (true≢false (sym none))

-- a sender that holds nothing was acknowledged all
pub idle_line : (s : LinkState) (l : Line) → Next s l → is_none l.sender.state.item ≡ true → length l.offered ≡ l.acked
idle_line s l there none =
    ap (λ (k : Line). length k.offered) there.line
    ∙ idle_work there.after.work (sym (ap (λ (k : Line). is_none k.sender.state.item) there.line) ∙ none)
    ∙ sym (ap (λ (k : Line). k.acked) there.line)

-- each node has the same list in both
pub received_is : (net : Network) (t : SessionTree) (s : WholeTree) (u : ℕ) → Shows net t s → received s u ≡ list_of net (nodes_of t) u
received_is net t s u shows =
    ap (λ o. option_map_or (λ (link : LinkValue). opening_at s.openings u ++ link.state.delivered) o s.published) (shows.links u)
    ∙ of_parent (λ (link : LinkValue). opening_at s.openings u ++ link.state.delivered) (parent_at net.tree.parents u) (link_shown net t u) s.published
    ∙ ap (λ openings. option_map_or (λ parent. opening_at openings u ++ (t.links u).delivered) (parent_at net.tree.parents u) s.published) shows.openings
    ∙ ap (λ published. option_map_or (λ parent. opening_at net.openings.lists u ++ (t.links u).delivered) (parent_at net.tree.parents u) published) shows.published

-- ---- no act but an offer changes what was offered

either_offered : (either : Bool) (t u v : SessionLink) → u.offered ≡ t.offered → v.offered ≡ t.offered
    → (if either then u else v).offered ≡ t.offered
either_offered true t u v first second = first
either_offered false t u v first second = second

frame_offers_none : (t : SessionLink) (m : ℕ) (front : Option Frame) → (receives_frame t m front).offered ≡ t.offered
frame_offers_none t m None = refl
frame_offers_none t m (Some f) = refl

ack_offers_none : (p : Parameters) (t : SessionLink) (m : ℕ) (front : Option ℕ) → (receives_ack p t m front).offered ≡ t.offered
ack_offers_none p t m None = refl
ack_offers_none p t m (Some a) = refl

offers_none : (p : Parameters) (t : SessionLink) (act : ConnectionAct) → (connection_step p t act).offered ≡ t.offered
offers_none p t (sender_makes m) = either_offered (is_unused (t.stage m)) t _ t refl refl
offers_none p t (receiver_makes m) = either_offered (is_unused (t.stage m)) t _ t refl refl
offers_none p t (stranger_makes by_sender m) = either_offered (is_unused (t.stage m)) t _ t refl refl
offers_none p t (sender_accepts m) = either_offered (is_made false (t.stage m)) t _ t refl refl
offers_none p t (receiver_accepts m) = either_offered (is_made true (t.stage m)) t _ t refl refl
offers_none p t (sender_leaves m) = refl
offers_none p t (receiver_leaves m) = refl
offers_none p t frame_sent = refl
offers_none p t ack_sent = refl
offers_none p t (frame_comes m) = frame_offers_none t m (slice_get (t.down m) 0)
offers_none p t (ack_comes m) = ack_offers_none p t m (slice_get (t.up m) 0)
offers_none p t (frame_lost m place) = refl
offers_none p t (ack_lost m place) = refl
offers_none p t sender_closes = refl
offers_none p t receiver_closes = refl

-- ---- one link is another, and its state the one that it shows

pub put_there : {A : Type 0} (entries : ℕ → A) (n m : ℕ) (entry : A) → (m == n) ≡ false → put entries n entry m ≡ entries m
put_there entries n m entry other = ap (λ same. if same then entry else entries m) other

differ : (m n : ℕ) → (m == n) ≡ false → n ≢ m
differ m n other same = true≢false (sym (eq-eqb m n (sym same)) ∙ other)

module _ (net : Network) (t : SessionTree) (s s_after : WholeTree) (child parent : ℕ) (link : SessionLink) (counts : ℕ → ℕ)
    (is_child : parent_at net.tree.parents child ≡ Some parent) (ready : Ready net t s)
    (leads : Lifted s child (parameters_into net child) (link_of (line_of link)) s_after) where
  abbrev with_link : SessionTree
  with_link = record t { links = put t.links child link; counts = counts }

  pub shows_one : Shows net with_link s_after
  shows_one =
      let shows = ready.shows in
      record {
        parents = leads.2 ∙ shows.parents;
        openings = leads.3 ∙ shows.openings;
        published = leads.4 ∙ shows.published;
        links = λ w. by_same w (w == child) refl;
      }
    where
      own : link_into s_after child ≡ option_map (link_shown net with_link child) (parent_at net.tree.parents child)
      own =
          leads.0
          ∙ ap (λ (l : SessionLink). Some (link_at (parameters_into net child) (link_of (line_of l)))) (sym (put_here t.links child link))
          ∙ ap (option_map (link_shown net with_link child)) (sym is_child)

      by_same : (w : ℕ) (same : Bool) → (w == child) ≡ same
          → link_into s_after w ≡ option_map (link_shown net with_link w) (parent_at net.tree.parents w)
      by_same w true same =
          subst (λ v. link_into s_after v ≡ option_map (link_shown net with_link v) (parent_at net.tree.parents v)) (sym (eqb-true w child same)) own
      by_same w false other =
          leads.1 w (differ w child other) ∙ ready.shows.links w
          ∙ ap (λ (l : SessionLink). option_map (λ (_ : ℕ). link_at (parameters_into net w) (link_of (line_of l))) (parent_at net.tree.parents w))
          (sym (put_there t.links child w link other))

  pub ready_one : AllInTurn with_link → Next (link_of (line_of link)) (line_of link) → counts child ≡ length link.offered
      → ((w : ℕ) → (w == child) ≡ false → counts w ≡ t.counts w) → Ready net with_link s_after
  ready_one in_turn next counted others =
      record {
        shows = shows_one;
        in_turn = in_turn;
        next = λ w up is. next_at w up is (w == child) refl;
        counts = λ w up is. counts_at w up is (w == child) refl;
      }
    where
      next_at : (w up : ℕ) → parent_at net.tree.parents w ≡ Some up → (same : Bool) → (w == child) ≡ same
          → Next (link_of (line_of (if same then link else t.links w))) (line_of (if same then link else t.links w))
      next_at w up is true same = next
      next_at w up is false other = ready.next w up is

      counts_at : (w up : ℕ) → parent_at net.tree.parents w ≡ Some up → (same : Bool) → (w == child) ≡ same
          → counts w ≡ length (if same then link else t.links w).offered
      counts_at w up is true same = ap counts (eqb-true w child same) ∙ counted
      counts_at w up is false other = others w other ∙ ready.counts w up is

-- ---- an act of the tree

-- Some changes that are no faults, where they lead, and that there are as many reading rounds among
-- them on each link as exchanges that the act completes there.
pub record Went (net : Network) (t : SessionTree) (s : WholeTree) (a : TreeAct) (e : ℕ → Exchange) (r : ℕ → Reads) : Type 0 where
  pub changes : List Change
  pub no_fault : HasNoFault changes
  pub ready : Ready net (tree_step net t a) (changes_replay s changes)
  pub some : (w parent : ℕ) → parent_at net.tree.parents w ≡ Some parent → ((tree_step net t a).links w).sender.closed ≡ false
      → exchanged_at t w (e w) a ≤ reading_from (parameters_into net w).capacity (r w) (acts_on w (acts_among changes))

pub publish_went : (net : Network) (t : SessionTree) (s : WholeTree) (item : ℕ) (e : ℕ → Exchange) (r : ℕ → Reads) → Ready net t s
    → Went net t s (publishes item) e r
publish_went net t s item e r ready =
    let shows = ready.shows in
    record {
      changes = Publish (item ∷ []) ∷ [];
      no_fault = tt;
      ready = record {
        shows = record {
          parents = shows.parents;
          openings = shows.openings;
          published = ap (λ items. items ++ item ∷ []) shows.published;
          links = shows.links;
        };
        in_turn = ready.in_turn;
        next = ready.next;
        counts = ready.counts;
      };
      some = λ w parent is_child is_open. omega arith;
    }

-- ---- an act of a connection

module _ (net : Network) (t : SessionTree) (s : WholeTree) (child parent : ℕ) (a : ConnectionAct) (e : ℕ → Exchange) (r : ℕ → Reads)
    (is_child : parent_at net.tree.parents child ≡ Some parent) (ready : Ready net t s) where
  abbrev its : Parameters
  its = parameters_into net child

  abbrev old : SessionLink
  old = t.links child

  abbrev new : SessionLink
  new = connection_step its old a

  at_it : At s child its (link_of (line_of old))
  at_it = ready.shows.links child ∙ ap (option_map (link_shown net t child)) is_child

  link_leads : (rounds : ℕ) (led : Led its (r child) (link_of (line_of old)) (line_of new) rounds)
      → Lifted s child its (link_of (line_of new)) (changes_replay s (link_acts child led.events))
  link_leads rounds led =
      let (leads, others, parents, openings, published) =
      lifted s child parent its (link_of (line_of old)) led.events (ap (λ ps. parent_at ps child) ready.shows.parents ∙ is_child) at_it led.harmless
      in (
        leads ∙ ap (λ u. Some (link_at its u)) (led.there.link ∙ ap link_of (sym led.there.line)),
        others,
        parents,
        openings,
        published,
      )

  connection_went : AllInTurn (record t { links = put t.links child new }) → (rounds : ℕ)
      → (led : Led its (r child) (link_of (line_of old)) (line_of new) rounds)
      → (new.sender.closed ≡ false → exchanged_by old (e child) (happens a) ≤ rounds)
      → let changes = link_acts child led.events in
      Ready net (record t { links = put t.links child new }) (changes_replay s changes)
      × ((w up : ℕ) → parent_at net.tree.parents w ≡ Some up → (put t.links child new w).sender.closed ≡ false
      → exchanged_at t w (e w) (at_link child a) ≤ reading_from (parameters_into net w).capacity (r w) (acts_on w (acts_among changes)))
  connection_went in_turn rounds led enough = (
    ready_one net t s (changes_replay s (link_acts child led.events)) child parent new t.counts is_child ready (link_leads rounds led)
        in_turn (own_next (replay its (link_of (line_of old)) led.events) (line_of new) led.there)
        (ready.counts child parent is_child ∙ ap length (sym (offers_none its old a)))
        (λ w other. refl),
    λ w up is is_open. by_same w (w == child) refl is_open,
  )
    where
      own : new.sender.closed ≡ false
          → exchanged_by old (e child) (happens a) ≤ reading_from its.capacity (r child) (acts_on child (acts_among (link_acts child led.events)))
      own is_open =
          subst (λ acts. exchanged_by old (e child) (happens a) ≤ reading_from its.capacity (r child) acts) (sym (acts_here child led.events))
          (let some = led.some in let few = enough is_open in omega (arith, some, few))

      by_same : (w : ℕ) (same : Bool) → (w == child) ≡ same → (if same then new else t.links w).sender.closed ≡ false
          → (if same then exchanged_by (t.links w) (e w) (happens a) else 0)
          ≤ reading_from (parameters_into net w).capacity (r w) (acts_on w (acts_among (link_acts child led.events)))
      by_same w true same is_open =
          subst (λ v. exchanged_by (t.links v) (e v) (happens a)
          ≤ reading_from (parameters_into net v).capacity (r v) (acts_on v (acts_among (link_acts child led.events))))
          (sym (eqb-true w child same)) (own is_open)
      by_same w false other is_open = omega arith

pub at_link_went : (net : Network) (t : SessionTree) (s : WholeTree) (child : ℕ) (a : ConnectionAct) (e : ℕ → Exchange) (r : ℕ → Reads)
    → HaveRoom net → Ready net t s
    → ((w up : ℕ) → parent_at net.tree.parents w ≡ Some up → Underway (e w) (t.links w) × IsLeft (parameters_into net w).capacity (r w))
    → AllInTurn (tree_step net t (at_link child a)) → (up : Option ℕ) → parent_at net.tree.parents child ≡ up
    → AllInTurn (acts_at (parameters_into net child) t child a up)
    → (changes : List Change) × HasNoFault changes
    × Ready net (acts_at (parameters_into net child) t child a up) (changes_replay s changes)
    × ((w parent : ℕ) → parent_at net.tree.parents w ≡ Some parent
    → ((acts_at (parameters_into net child) t child a up).links w).sender.closed ≡ false
    → exchanged_at t w (e w) (at_link child a) ≤ reading_from (parameters_into net w).capacity (r w) (acts_on w (acts_among changes)))
at_link_went net t s child a e r room ready known in_turn None is_root in_turn_there = (
  [],
  tt,
  ready,
  λ w parent is_child is_open. by_same w parent is_child (w == child) refl,
)
  where
    by_same : (w parent : ℕ) → parent_at net.tree.parents w ≡ Some parent → (same : Bool) → (w == child) ≡ same
        → (if same then exchanged_by (t.links w) (e w) (happens a) else 0) ≤ 0
    by_same w parent is_child true same =
        absurd (none-some parent (sym is_root ∙ ap (parent_at net.tree.parents) (sym (eqb-true w child same)) ∙ is_child))
    by_same w parent is_child false other = omega arith
at_link_went net t s child a e r room ready known in_turn (Some parent) is_child in_turn_there =
    by_open (t.links child).sender.closed refl
  where
    its_capacity : 1 ≤ (parameters_into net child).capacity
    its_capacity = room child parent is_child

    by_open : (closed : Bool) → (t.links child).sender.closed ≡ closed
        → (changes : List Change) × HasNoFault changes
        × Ready net (acts_at (parameters_into net child) t child a (Some parent)) (changes_replay s changes)
        × ((w up : ℕ) → parent_at net.tree.parents w ≡ Some up
        → ((acts_at (parameters_into net child) t child a (Some parent)).links w).sender.closed ≡ false
        → exchanged_at t w (e w) (at_link child a) ≤ reading_from (parameters_into net w).capacity (r w) (acts_on w (acts_among changes)))
    by_open false is_open =
        let link : SessionLink = t.links child in
        let p : Parameters = parameters_into net child in
        let (underway, left) = known child parent is_child in
        let led =
        exchange_led p (r child) link (e child) a (link_of (line_of link)) its_capacity (ready.in_turn child) underway is_open left
        (ready.next child parent is_child)
        in
        let (after, some) =
        connection_went net t s child parent a e r is_child ready in_turn_there (exchanged_by link (e child) (happens a)) led
        (λ still_open. omega arith)
        in
        (link_acts child led.events, no_fault_among child led.events, after, some)
    by_open true is_closed =
        let link : SessionLink = t.links child in
        let p : Parameters = parameters_into net child in
        let led =
        connection_led p (r child) link a (link_of (line_of link)) its_capacity (ready.in_turn child) (ready.next child parent is_child)
        in
        let (after, some) =
        connection_went net t s child parent a e r is_child ready in_turn_there 0 led
        (λ still_open. absurd (true≢false (sym is_closed ∙ open_before p link (happens a) still_open)))
        in
        (link_acts child led.events, no_fault_among child led.events, after, some)
