-- What a schedule leaves obeys: each link of it obeys the sharper link law, the root has the published
-- items, and no node has ended.
use Rattle.std.proofs.Common.{◌≡◌, ℕ, ◌<◌, ◌⊎◌, inl, inr, List, [], ◌++◌, length, Option, Some, None, is_some, true, false, refl, sym, ◌∙◌, ap, subst, arith}
use Rattle.std.specs.Option.{option_map_or}
use Rattle.std.proofs.lemmas.Bool.{false≢true}
use Rattle.std.proofs.lemmas.List.FromFn.{get_or-map-range_with_len, length-map-range_with_len}
use Rattle.stab_core.specs.Link.{LinkValue}
use Rattle.stab_core.specs.LinkLaw.{SharperLinkLaw}
use Rattle.stab_core.specs.LinkSetup.{CanBegin, LinkSetup}
use Rattle.stab_core.specs.Replay.{start_items}
use Rattle.stab_tree.specs.Nodes.{parent_at, root_of}
use Rattle.stab_tree.specs.NodeOpenings.{opening_at}
use Rattle.stab_tree.proofs.ForCallers.{child_is_node, holds_by_child}
use Rattle.stab_treecore.specs.Network.{IsNetwork, Network}
use Rattle.stab_treecore.specs.NodeLaws.{capacity_into, garbage_into}
use Rattle.stab_treecore.specs.TreeReplay.{initial_tree, tree_replay}
use Rattle.stab_treecore.specs.WholeTree.{WholeTree, acked_of, link_into, received}
use Rattle.stab_treecore.specs.declared.event.TreeEvent.{TreeEvent}
use Rattle.stab_treecore.proofs.Linked.{same_kind}
use Rattle.stab_treecore.proofs.Replayed.{IsRun, ReplaysObey, StepsReach, opening_is_run, replay_keeps, run_root}
use Rattle.stab_judge.specs.Obeys.{LinkObeys, RootObeys}
use Rattle.stab_report.specs.EndedNodes.{AllHandOn}
use Rattle.stab_report.specs.Reports.{OnePerNode, acked_at, has_ended, received_at, report_of}

-- nothing, or something
none_or_some : {A : Type 0} (o : Option A) → (o ≡ None) ⊎ ((x : A) × (o ≡ Some x))
none_or_some None = inl refl
none_or_some (Some x) = inr (x, refl)

-- what the report of a whole tree has of a node
received_there : (t : WholeTree) (node : ℕ) → node < length t.parents → received_at (report_of t) node ≡ received t node
received_there t node within = get_or-map-range_with_len (received t) 0 (length t.parents) node node _ within (omega arith)

acked_there : (t : WholeTree) (node : ℕ) → node < length t.parents → acked_at (report_of t) node ≡ acked_of t node
acked_there t node within = get_or-map-range_with_len (acked_of t) 0 (length t.parents) node node _ within (omega arith)

ended_nowhere : (t : WholeTree) (node : ℕ) → node < length t.parents → has_ended (report_of t) node ≡ false
ended_nowhere t node within = get_or-map-range_with_len (λ _. false) 0 (length t.parents) node node _ within (omega arith)

-- there is an entry for each node
pub all_shown : (t : WholeTree) (parents : List (Option ℕ)) → t.parents ≡ parents → OnePerNode parents (report_of t)
all_shown t parents same =
    let as_many = ap length same in
    record {
      received = length-map-range_with_len (received t) 0 (length t.parents) ∙ as_many;
      acked = length-map-range_with_len (acked_of t) 0 (length t.parents) ∙ as_many;
      ended_upstream = length-map-range_with_len (λ _. false) 0 (length t.parents) ∙ as_many;
    }

module _ (obey : ReplaysObey SharperLinkLaw) (net : Network) (t : WholeTree) (run : IsRun net t) (is : IsNetwork net) where
  -- a node of the network is one of the whole tree
  within : (node : ℕ) → node < length net.tree.parents → node < length t.parents
  within node known = subst (λ n. node < n) (ap length (sym run.parents_stay)) known

  -- a link that is a replay obeys
  link_shown : (child parent : ℕ) → parent_at net.tree.parents child ≡ Some parent → (link : LinkValue) → link_into t child ≡ Some link
      → LinkObeys net (report_of t) child parent
  link_shown child parent is_child link there =
      let child_of : parent_at t.parents child ≡ Some parent = ap (λ ps. parent_at ps child) run.parents_stay ∙ is_child in
      let was = run.replays child link there in
      let p = was.setup.params in
      let start = was.setup.start in
      let reached = was.run.reached in
      let fed : received t child ≡ opening_at net.openings.lists child ++ link.state.delivered =
      ap (λ o. option_map_or (λ l. opening_at t.openings child ++ l.state.delivered) o t.published) there
      ∙ ap (λ openings. opening_at openings child ++ link.state.delivered) run.openings_stay in
      let garbage : garbage_into net child ≡ start_items start = ap (λ o. option_map_or (λ (l : LinkSetup). start_items l.start) o []) was.leads in
      let capacity : capacity_into net child ≡ p.capacity = ap (λ o. option_map_or (λ (l : LinkSetup). l.params.capacity) o 0) was.leads in
      let begins : CanBegin was.setup = holds_by_child CanBegin net.tree.parents net.links child was.setup is.can_begin was.leads in
      let law : SharperLinkLaw p.capacity (start_items start) link.state.offered link.state.acked link.state.delivered =
      subst (λ s. SharperLinkLaw p.capacity (start_items start) s.offered s.acked s.delivered) (sym reached.1)
      (obey p start reached.0 begins.0 begins.1) in
      record {
        acked = link.state.acked;
        counted =
            acked_there t child (within child (child_is_node net.tree.parents child parent is_child))
            ∙ ap (λ o. option_map_or (λ (l : LinkValue). Some l.state.acked) o None) there;
        delivered = link.state.delivered;
        has = received_there t child (within child (child_is_node net.tree.parents child parent is_child)) ∙ fed;
        law =
            rw (received_there t parent (within parent (is.tree.known_parents child parent is_child)), capacity, garbage)
            (link.state.offered, run.prefixes child parent link child_of there, law);
      }

  -- so does each link
  pub links_shown : (child parent : ℕ) → parent_at net.tree.parents child ≡ Some parent → LinkObeys net (report_of t) child parent
  links_shown child parent is_child =
      let child_of : parent_at t.parents child ≡ Some parent = ap (λ ps. parent_at ps child) run.parents_stay ∙ is_child in
      let kind : is_some (link_into t child) ≡ true = same_kind t.links t.parents child run.linked ∙ ap is_some child_of in
      elim (none_or_some (link_into t child)) [
        | inl none ↦ absurd (false≢true (sym (ap is_some none) ∙ kind))
        | inr some ↦ link_shown child parent is_child some.0 some.1
      ]

  -- and the root
  pub root_shown : RootObeys net (report_of t) (root_of net.tree.parents)
  root_shown =
      let root = root_of net.tree.parents in
      let no_parent : is_some (parent_at t.parents root) ≡ false =
      ap is_some (ap (λ ps. parent_at ps root) run.parents_stay ∙ is.tree.root_has_none) in
      let kind : is_some (link_into t root) ≡ false = same_kind t.links t.parents root run.linked ∙ no_parent in
      record {
        published = received_there t root (within root is.tree.root_is_node) ∙ run_root net t run root is.tree.root_has_none;
        uncounted =
            acked_there t root (within root is.tree.root_is_node)
            ∙ elim (none_or_some (link_into t root)) [
              | inl none ↦ ap (λ o. option_map_or (λ (l : LinkValue). Some l.state.acked) o None) none
              | inr some ↦ absurd (false≢true (sym kind ∙ ap is_some some.1))
            ];
      }

  -- and no node has ended
  pub none_ended : AllHandOn net.tree.parents (report_of t)
  none_ended child parent is_child ended =
      absurd
      (false≢true
      (sym (ended_nowhere t parent (within parent (is.tree.known_parents child parent is_child))) ∙ ended))

-- what a schedule leaves is a run of its network
pub schedule_is_run : StepsReach → (net : Network) (events : List TreeEvent) → IsNetwork net → IsRun net (tree_replay (initial_tree net) events)
schedule_is_run steps net events is = replay_keeps steps net (initial_tree net) events (opening_is_run net is.one_per_link)
