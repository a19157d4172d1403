-- What each schedule leaves of a whole tree: links that are replays from their starts, and offered
-- a prefix of the parent's list.
use Rattle.std.proofs.Common.{◌≡◌, ◌≢◌, ◌⊎◌, ℕ, zero, suc, List, [], ◌∷◌, ◌++◌, length, map, get_or, set, slice_get, option_and_then, Option, Some, None, is_some, option_map, All, refl, ap, sym, ◌∙◌, subst, inl, inr, true, false, append_assoc}
use Rattle.std.specs.Option.{option_map_or}
use Rattle.std.proofs.lemmas.Bool.{cases_eq}
use Rattle.std.proofs.lemmas.List.{append-nil, get_or-set_other, length-map, set-get_or}
use Rattle.std.proofs.lemmas.Option.{none-some, same_Some}
use Rattle.stab_frames.specs.Parameters.{Parameters, AreLawful}
use Rattle.stab_core.specs.declared.event.Event.{Event}
use Rattle.stab_core.specs.declared.start.Start.{Start}
use Rattle.stab_core.specs.Link.{LinkValue}
use Rattle.stab_core.specs.LinkLaw.{LinkLaw, SharperLinkLaw}
use Rattle.stab_core.specs.LinkSetup.{CanBegin, LinkSetup}
use Rattle.stab_core.specs.LinkState.{LinkState}
use Rattle.stab_core.specs.Reachable.{IsReachable}
use Rattle.stab_core.specs.Replay.{IsLawful, initial, replay, start_items}
use Rattle.stab_core.specs.Step.{step}
use Rattle.stab_tree.specs.Links.{links_of}
use Rattle.stab_tree.specs.Nodes.{parent_at, root_of}
use Rattle.stab_treecore.specs.declared.event.TreeEvent.{TreeEvent}
use Rattle.stab_tree.specs.ByChild.{by_child}
use Rattle.stab_treecore.specs.Network.{IsNetwork, Network, setup_into}
use Rattle.stab_treecore.specs.NodeLaws.{capacity_into, garbage_into, LawInto, TreeLawAtNodes}
use Rattle.stab_treecore.specs.SharperLaw.{SharperTreeLawAtNodes}
use Rattle.stab_tree.specs.NodeOpenings.{opening_at}
use mathlib.Core.List.{IsPrefix}
use Rattle.stab_treecore.specs.TreeReplay.{opened, initial_tree, tree_replay}
use Rattle.stab_treecore.specs.TreeStep.{next_item, event_on, link_after, tree_step}
use Rattle.stab_treecore.specs.WholeTree.{WholeTree, link_into, received, source}
use Rattle.stab_treecore.proofs.AtNodes.{nodes_obey}
use Rattle.stab_treecore.proofs.SharperNodes.{sharper_nodes}
use Rattle.stab_tree.proofs.ForCallers.{holds_by_child, map-by_child}
use Rattle.stab_treecore.proofs.Linked.{kind-set, same_kind}
use Rattle.stab_tree.proofs.ForCallers.{linked_nodes}
use Rattle.stab_core.proofs.ForCallers.{prefix_of_itself, prefix_of_prefix}
use Rattle.stab_treecore.proofs.Stepped.{after_delivers, act_offers}

-- the link is a replay from this start
pub record IsReplayOf (p : Parameters) (start : Start) (link : LinkValue) : Type 0 where
  pub params : link.params ≡ p
  pub reached : IsReachable p start link.state

-- the link into a node is a replay under its parameters from its start
pub record IsReplayAt (net : Network) (node : ℕ) (link : LinkValue) : Type 0 where
  pub setup : LinkSetup
  pub leads : setup_into net node ≡ Some setup
  pub run : IsReplayOf setup.params setup.start link

-- A whole tree with these published items and parents: nodes with a parent have a link, which is a
-- replay from its start and offered a prefix of the parent's list.
pub record IsRun (net : Network) (t : WholeTree) : Type 0 where
  pub published_stay : t.published ≡ net.published
  pub openings_stay : t.openings ≡ net.openings.lists
  pub parents_stay : t.parents ≡ net.tree.parents
  pub linked : map is_some t.links ≡ map is_some t.parents
  pub replays : (node : ℕ) (link : LinkValue) → link_into t node ≡ Some link → IsReplayAt net node link
  pub prefixes : (node parent : ℕ) (link : LinkValue) → parent_at t.parents node ≡ Some parent → link_into t node ≡ Some link
      → IsPrefix link.state.offered (received t parent)

-- nothing, or something
none_or_some : {A : Type 0} (o : Option A) → (o ≡ None) ⊎ ((x : A) × (o ≡ Some x))
none_or_some None = inl refl
none_or_some (Some x) = inr (x, refl)

-- a prefix behind an opening
prefix_behind : (first xs ys : List ℕ) → IsPrefix xs ys → IsPrefix (first ++ xs) (first ++ ys)
prefix_behind first xs ys (rest, is) = (rest, append_assoc first xs rest ∙ ap (λ zs. first ++ zs) is)

-- the law of one link that each step needs: the step of a reachable state is reachable
abbrev pub StepsReach : Type 0
StepsReach = (p : Parameters) (start : Start) (s : LinkState) (e : Event) → IsReachable p start s → IsReachable p start (step p s e)

-- a replay from a start goes on as one
after_reaches : StepsReach → (p : Parameters) (start : Start) (e : Option Event) (link : LinkValue) → IsReplayOf p start link
    → IsReplayOf p start (link_after e link)
after_reaches steps p start None link run = run
after_reaches steps p start (Some e) link run =
    record {
      params = run.params;
      reached = subst (λ q. IsReachable p start (step q link.state e)) (sym run.params) (steps p start link.state e run.reached);
    }

-- an element that is written in a list is there, and the others are where they were
written_same : {A : Type 0} (xs : List (Option A)) (i : ℕ) (old new : A) → get_or xs i None ≡ Some old → get_or (set xs i (Some new)) i None ≡ Some new
written_same [] i old new there = absurd (none-some old there)
written_same (x ∷ xs) zero old new there = refl
written_same (x ∷ xs) (suc i) old new there = written_same xs i old new there

module _ (steps : StepsReach) (net : Network) (t : WholeTree) (e : TreeEvent) (run : IsRun net t) where
  -- a step on the link into a node
  module _ (link : LinkValue) (there : link_into t e.child ≡ Some link) where
    -- the whole tree after it
    abbrev after : WholeTree
    after = record t { links = set t.links e.child (Some (link_after (event_on t e) link)) }

    -- the link that was stepped
    stepped_link : link_into after e.child ≡ Some (link_after (event_on t e) link)
    stepped_link = written_same t.links e.child link (link_after (event_on t e) link) there

    -- the other links
    other_link : (node : ℕ) → node ≢ e.child → link_into after node ≡ link_into t node
    other_link node other = get_or-set_other t.links e.child node (Some (link_after (event_on t e) link)) None other

    -- what a node received only grows
    received_grows : (node : ℕ) → IsPrefix (received t node) (received after node)
    received_grows node =
        elim (cases_eq node e.child) [
          | inl same ↦
              rw (same, stepped_link)
              (subst (λ o. IsPrefix (option_map_or (λ l. opening_at t.openings e.child ++ l.state.delivered) o t.published)
              (opening_at t.openings e.child ++ (link_after (event_on t e) link).state.delivered)) (sym there)
              (prefix_behind (opening_at t.openings e.child) link.state.delivered (link_after (event_on t e) link).state.delivered
              (after_delivers (event_on t e) link)))
          | inr other ↦
              rw (other_link node other) (prefix_of_itself (received t node))
        ]

    -- the links are still replays from their starts
    still_replays : (node : ℕ) (found : LinkValue) → link_into after node ≡ Some found → IsReplayAt net node found
    still_replays node found is =
        elim (cases_eq node e.child) [
          | inl same ↦
              let was = run.replays e.child link there in
              let now : link_after (event_on t e) link ≡ found =
              same_Some (link_after (event_on t e) link) found (sym stepped_link ∙ (ap (λ w. link_into after w) (sym same) ∙ is)) in
              record {
                setup = was.setup;
                leads = ap (λ w. setup_into net w) same ∙ was.leads;
                run =
                    subst (IsReplayOf was.setup.params was.setup.start) now
                    (after_reaches steps was.setup.params was.setup.start (event_on t e) link was.run);
              }
          | inr other ↦ run.replays node found (sym (other_link node other) ∙ is)
        ]

    -- and they still offered a prefix of the parent's list
    still_prefixes : (node parent : ℕ) (found : LinkValue) → parent_at t.parents node ≡ Some parent → link_into after node ≡ Some found
        → IsPrefix found.state.offered (received after parent)
    still_prefixes node parent found child is =
        elim (cases_eq node e.child) [
          | inl same ↦
              let now : link_after (event_on t e) link ≡ found =
              same_Some (link_after (event_on t e) link) found (sym stepped_link ∙ (ap (λ w. link_into after w) (sym same) ∙ is)) in
              let child_of : parent_at t.parents e.child ≡ Some parent = ap (λ w. parent_at t.parents w) (sym same) ∙ child in
              let from_parent : source t e.child ≡ received t parent =
              ap (λ o. option_map_or (λ q. received t q) o []) child_of in
              let before : IsPrefix link.state.offered (received t parent) = run.prefixes e.child parent link child_of there in
              let offers : IsPrefix (link_after (event_on t e) link).state.offered (received t parent) =
              act_offers (received t parent) link e.act (next_item t e.child)
              (sym (ap (λ o. option_and_then (λ l. slice_get (source t e.child) (length l.state.offered)) o) there
              ∙ ap (λ list. slice_get list (length link.state.offered)) from_parent)) before in
              subst (λ l. IsPrefix l.state.offered (received after parent)) now
              (prefix_of_prefix (link_after (event_on t e) link).state.offered (received t parent) (received after parent) offers (received_grows parent))
          | inr other ↦
              prefix_of_prefix found.state.offered (received t parent) (received after parent)
              (run.prefixes node parent found child (sym (other_link node other) ∙ is)) (received_grows parent)
        ]

    -- so it is a whole tree of the same kind
    still_run : IsRun net after
    still_run =
        let kind : is_some (Some (link_after (event_on t e) link)) ≡ is_some (link_into t e.child) = ap is_some (sym there) in
        record {
          published_stay = run.published_stay;
          openings_stay = run.openings_stay;
          parents_stay = run.parents_stay;
          linked = kind-set t.links e.child (Some (link_after (event_on t e) link)) kind ∙ run.linked;
          replays = still_replays;
          prefixes = still_prefixes;
        }

  -- each step keeps it
  pub step_keeps : IsRun net (tree_step t e)
  step_keeps =
      elim (none_or_some (link_into t e.child)) [
        | inl none ↦
            let same : set t.links e.child (option_map (link_after (event_on t e)) (link_into t e.child)) ≡ t.links =
            ap (λ o. set t.links e.child (option_map (link_after (event_on t e)) o)) none
            ∙ (ap (λ o. set t.links e.child o) (sym none) ∙ set-get_or t.links e.child None) in
            subst (λ links. IsRun net (record t { links = links })) (sym same) run
        | inr some ↦
            subst (λ o. IsRun net (record t { links = set t.links e.child (option_map (link_after (event_on t e)) o) }))
            (sym some.1) (still_run some.0 some.1)
      ]

-- each schedule keeps it
pub replay_keeps : StepsReach → (net : Network) (t : WholeTree) (es : List TreeEvent) → IsRun net t → IsRun net (tree_replay t es)
replay_keeps steps net t [] run = run
replay_keeps steps net t (e ∷ es) run =
    replay_keeps steps net (tree_step t e) es (step_keeps steps net t e run)

-- the link into a node that has one, at its start: it begins with a setup of its own
pub record IsOpenedAt (net : Network) (node : ℕ) (link : LinkValue) : Type 0 where
  pub setup : LinkSetup
  pub leads : setup_into net node ≡ Some setup
  pub at_start : link ≡ opened setup

-- what a map makes of something comes of something
of_mapped : {A B : Type 0} (f : A → B) (xs : List (Option A)) (i : ℕ) (y : B) → get_or (map (option_map f) xs) i None ≡ Some y
    → (x : A) × (get_or xs i None ≡ Some x) × (y ≡ f x)
of_mapped f [] i y is = absurd (none-some y is)
of_mapped f (None ∷ xs) zero y is = absurd (none-some y is)
of_mapped f (Some x ∷ xs) zero y is = (x, refl, sym (same_Some (f x) y is))
of_mapped f (x ∷ xs) (suc i) y is = of_mapped f xs i y is

opened_into : (net : Network) (node : ℕ) (link : LinkValue)
    → get_or (by_child net.tree.parents (map opened net.links)) node None ≡ Some link → IsOpenedAt net node link
opened_into net node link is =
    let (setup, leads, begins) =
    of_mapped opened (by_child net.tree.parents net.links) node link
    (ap (λ links. get_or links node None) (map-by_child opened net.tree.parents net.links) ∙ is) in
    record { setup = setup; leads = leads; at_start = begins }

-- at its start a link has delivered nothing, so its node has its opening
pub opened_listed : (net : Network) (first : List ℕ) (node : ℕ) (link : LinkValue)
    → get_or (by_child net.tree.parents (map opened net.links)) node None ≡ Some link → first ≡ first ++ link.state.delivered
opened_listed net first node link is =
    let found = opened_into net node link is in
    sym (ap (λ l. first ++ l.state.delivered) found.at_start ∙ append-nil first)

-- at its start a whole tree is of this kind
pub opening_is_run : (net : Network) → length net.links ≡ length (links_of net.tree.parents) → IsRun net (initial_tree net)
opening_is_run net one_per_link =
    let t = initial_tree net in
    record {
      published_stay = refl;
      openings_stay = refl;
      parents_stay = refl;
      linked = linked_nodes net.tree.parents (map opened net.links) 0 (length-map net.links opened ∙ one_per_link);
      replays =
          λ node link is.
          let found = opened_into net node link is in
          record {
            setup = found.setup;
            leads = found.leads;
            run = record { params = ap (λ l. l.params) found.at_start; reached = ([], ap (λ l. l.state) found.at_start) };
          };
      prefixes =
          λ node parent link child is.
          let found = opened_into net node link is in
          (received t parent, ap (λ l. l.state.offered ++ received t parent) found.at_start);
    }

-- what the tree law needs of one link: every replay from a lawful start obeys a law of links
abbrev pub ReplaysObey : (ℕ → List ℕ → List ℕ → ℕ → List ℕ → Type 0) → Type 0
ReplaysObey Law =
    (p : Parameters) (start : Start) (events : List Event) → AreLawful p → IsLawful p start
    → let s = replay p (initial start) events in Law p.capacity (start_items start) s.offered s.acked s.delivered

-- so between a parent and its child there is a link that obeys the law, and the child's opening
-- comes before what it delivered
pub run_links : (Law : ℕ → List ℕ → List ℕ → ℕ → List ℕ → Type 0) → ReplaysObey Law → (net : Network) (t : WholeTree) → IsRun net t → All CanBegin net.links
    → (child parent : ℕ) → parent_at net.tree.parents child ≡ Some parent → LawInto Law net child (received t parent) (received t child)
run_links Law obey net t run lawful child parent is_child =
    let child_of : parent_at t.parents child ≡ Some parent = ap (λ ps. parent_at ps child) run.parents_stay ∙ is_child in
    let kind : is_some (link_into t child) ≡ true = same_kind t.links t.parents child run.linked ∙ ap is_some child_of in
    elim (none_or_some (link_into t child)) [
      | inl none ↦ let never : false ≡ true = sym (ap is_some none) ∙ kind in cc
      | inr some ↦
          let link = some.0 in
          let was = run.replays child link some.1 in
          let p = was.setup.params in
          let start = was.setup.start in
          let (events, reached) = was.run.reached in
          let fed : received t child ≡ opening_at net.openings.lists child ++ link.state.delivered =
          ap (λ o. option_map_or (λ l. opening_at t.openings child ++ l.state.delivered) o t.published) some.1
          ∙ ap (λ openings. opening_at openings child ++ link.state.delivered) run.openings_stay in
          let garbage : garbage_into net child ≡ start_items start = ap (λ o. option_map_or (λ (l : LinkSetup). start_items l.start) o []) was.leads in
          let capacity : capacity_into net child ≡ p.capacity = ap (λ o. option_map_or (λ (l : LinkSetup). l.params.capacity) o 0) was.leads in
          let begins : CanBegin was.setup = holds_by_child CanBegin net.tree.parents net.links child was.setup lawful was.leads in
          let law : Law p.capacity (start_items start) link.state.offered link.state.acked link.state.delivered =
          subst (λ s. Law p.capacity (start_items start) s.offered s.acked s.delivered) (sym reached)
          (obey p start events begins.0 begins.1) in (
            link.state.delivered,
            fed,
            (
              link.state.offered,
              link.state.acked,
              run.prefixes child parent link child_of some.1,
              subst (λ c. Law c (garbage_into net child) link.state.offered link.state.acked link.state.delivered) (sym capacity)
                  (subst (λ xs. Law p.capacity xs link.state.offered link.state.acked link.state.delivered) (sym garbage) law),
            ),
          )
    ]

-- a node without a parent received each published item
pub run_root : (net : Network) (t : WholeTree) → IsRun net t → (node : ℕ) → parent_at net.tree.parents node ≡ None → received t node ≡ net.published
run_root net t run node root =
    let kind : is_some (link_into t node) ≡ false =
    same_kind t.links t.parents node run.linked ∙ ap is_some (ap (λ ps. parent_at ps node) run.parents_stay ∙ root) in
    elim (none_or_some (link_into t node)) [
      | inl none ↦ ap (λ o. option_map_or (λ l. opening_at t.openings node ++ l.state.delivered) o t.published) none ∙ run.published_stay
      | inr some ↦ let never : true ≡ false = sym (ap is_some some.1) ∙ kind in cc
    ]

-- each node obeys the tree law after each schedule
pub schedule_obeys : StepsReach → ReplaysObey LinkLaw → (net : Network) (events : List TreeEvent) → IsNetwork net
    → TreeLawAtNodes net (received (tree_replay (initial_tree net) events))
schedule_obeys steps obey net events is =
    let t = tree_replay (initial_tree net) events in
    let run : IsRun net t = replay_keeps steps net (initial_tree net) events (opening_is_run net is.one_per_link) in
    nodes_obey net is.tree (received t) (run_root net t run (root_of net.tree.parents) is.tree.root_has_none) is.openings_fit
    (run_links LinkLaw obey net t run is.can_begin)

-- and the sharper one
pub schedule_obeys_sharper : StepsReach → ReplaysObey SharperLinkLaw → (net : Network) (events : List TreeEvent) → IsNetwork net
    → SharperTreeLawAtNodes net (received (tree_replay (initial_tree net) events))
schedule_obeys_sharper steps obey net events is =
    let t = tree_replay (initial_tree net) events in
    let run : IsRun net t = replay_keeps steps net (initial_tree net) events (opening_is_run net is.one_per_link) in
    sharper_nodes net is.tree (received t) (run_root net t run (root_of net.tree.parents) is.tree.root_has_none) is.openings_fit
    (run_links SharperLinkLaw obey net t run is.can_begin)
