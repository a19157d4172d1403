-- After enough rounds of one kind of all links of a network, a node has all that it will ever have,
-- and no published item is missing but among the first.
use Rattle.std.proofs.Common.{◌≡◌, ℕ, zero, suc, ◌+◌, ◌*◌, ◌≤◌, List, length, Option, Some, All, sym, ◌∙◌, ap, arith, mul-add}
use Rattle.std.specs.Option.{option_map_or}
use Rattle.std.proofs.lemmas.Option.{none-some, same_Some}
use Rattle.stab_core.specs.Link.{link_at}
use Rattle.stab_core.specs.LinkLaw.{LinkLaw}
use Rattle.stab_core.specs.LinkSetup.{LinkSetup}
use Rattle.stab_tree.specs.Nodes.{parent_at}
use Rattle.stab_tree.specs.NodeOpenings.{hold_at}
use Rattle.stab_tree.specs.Steps.{depth_of}
use Rattle.stab_tree.proofs.ForCallers.{holds_by_child, one_by_child, child_is_deeper, child_is_node}
use Rattle.stab_treecore.specs.declared.event.TreeEvent.{TreeEvent}
use Rattle.stab_treecore.specs.Network.{IsNetwork, Network}
use Rattle.stab_treecore.specs.NodeLaws.{capacity_into, most_strays, most_missing, path_garbage}
use Rattle.stab_treecore.specs.Paths.{sum_above}
use Rattle.stab_treecore.specs.TreeLaw.{CompleteLaw}
use Rattle.stab_treecore.specs.TreeReplay.{initial_tree, tree_replay}
use Rattle.stab_treecore.specs.WholeTree.{WholeTree, received}
use Rattle.stab_treecore.proofs.Replayed.{ReplaysObey, opening_is_run, replay_keeps}
use Rattle.stab_rounds.specs.Kinds.{Kind, plain, reading, rounds_an_item}
use Rattle.stab_rounds.specs.TreeReadingRounds.{ReadingRounds}
use Rattle.stab_rounds.specs.TreeRounds.{IsOpen, TreeRounds, IsHandedOn}
use Rattle.stab_rounds.proofs.TreeSteps.{fixed_of, IsSound, keeps_all, linked, run_is_sound}
use Rattle.stab_rounds.proofs.Drains.{Drained, top, under, drained_over}
use Rattle.stab_rounds.proofs.Most.{Most, most_at_start}
use Rattle.stab_rounds.proofs.Complete.{complete_at, reach_step}
use Rattle.stab_rounds.proofs.Arrives.{Pace, IsRoundOf, RoundsOf, Stages, stage_open, drains}
use Rattle.stab_rounds.proofs.ByKind.{one_more, times}

-- which its link shows
pub handed_on_by : (parents : List (Option ℕ)) (t : WholeTree) (w u : ℕ) → parent_at parents w ≡ Some u → Drained t parents w → IsHandedOn t w u
handed_on_by parents t w u is_child (top none) = absurd (none-some u (sym none ∙ is_child))
handed_on_by parents t w u is_child (under v p s is_parent there all empty above) =
    let same : v ≡ u = same_Some v u (sym is_parent ∙ is_child) in
    (link_at p s, there, all ∙ ap (λ x. length (received t x)) same, empty)

module _ (net : Network) (is : IsNetwork net) where
  abbrev parents : List (Option ℕ)
  parents = net.tree.parents

  opened_sound : IsSound (fixed_of net) (initial_tree net)
  opened_sound = run_is_sound net is.can_begin (initial_tree net) (opening_is_run net is.one_per_link)

  -- the most items that a node can have
  abbrev best : ℕ → ℕ
  best node = length net.published + most_strays net node

  abbrev depth : ℕ → ℕ
  depth node = depth_of parents node

  -- a sum over a path is that of the parent, and what is beside the node
  path_below : (number : ℕ → ℕ) (w u : ℕ) → parent_at parents w ≡ Some u
      → sum_above parents number (depth_of parents w) w ≡ number w + sum_above parents number (depth_of parents u) u
  path_below number w u is_child =
      ap (λ d. sum_above parents number d w) (child_is_deeper net.tree.parents is.tree w u is_child)
      ∙ ap (λ o. number w + option_map_or (sum_above parents number (depth_of parents u)) o 0) is_child

  best_below : (w u : ℕ) → parent_at parents w ≡ Some u → best u + capacity_into net w ≤ best w
  best_below w u is_child =
      omega (arith, path_below (capacity_into net) w u is_child, path_below (hold_at parents net.openings.hold) w u is_child)

  deeper : (w u : ℕ) → parent_at parents w ≡ Some u → depth w ≡ depth u + 1
  deeper w u is_child = omega (arith, child_is_deeper net.tree.parents is.tree w u is_child)

  most_above : (w u : ℕ) → parent_at parents w ≡ Some u → Most (fixed_of net) (initial_tree net) u (best u)
  most_above w u is_child = most_at_start net is u (is.tree.known_parents w u is_child)

  pub capacity_few : (capacity : ℕ) → All (λ link. link.params.capacity ≤ capacity) net.links → (w u : ℕ) → parent_at parents w ≡ Some u
      → 2 * capacity_into net w + 1 ≤ 2 * capacity + 1
  capacity_few capacity small w u is_child =
      let (link, there) = one_by_child parents net.links 0 w u is.one_per_link is_child in
      let its = ap (λ o. option_map_or (λ (l : LinkSetup). l.params.capacity) o 0) there in
      let few = holds_by_child (λ l. l.params.capacity ≤ capacity) parents net.links w link small there in
      omega arith

  module _ (kind : Kind) (each : ℕ) (few : (w u : ℕ) → parent_at parents w ≡ Some u → rounds_an_item kind (capacity_into net w) ≤ each) where
    abbrev AnyNode : ℕ → Type 0
    AnyNode w = Unit {0}

    pub lag_of : ℕ → ℕ
    lag_of node = option_map_or (λ u. each * best u + depth u) (parent_at parents node) 0

    lag_is : (w u : ℕ) → parent_at parents w ≡ Some u → lag_of w ≡ each * best u + depth u
    unfolding lag_of
    lag_is w u is_child = ap (λ o. option_map_or (λ v. each * best v + depth v) o 0) is_child

    pub lag_below : (w u g : ℕ) → parent_at parents w ≡ Some u → parent_at parents u ≡ Some g → lag_of u + each * capacity_into net u + 1 ≤ lag_of w
    lag_below w u g is_child is_parent =
        omega (
          arith,
          lag_is w u is_child,
          lag_is u g is_parent,
          times each (best g + capacity_into net u) (best u) (best_below u g is_parent),
          mul-add each (best g) (capacity_into net u),
          deeper u g is_parent,
        )

    abbrev pace : Pace (fixed_of net) AnyNode kind
    pace = record {
      each = each;
      lag = lag_of;
      up = λ w u on is_child. tt;
      few = λ w u on is_child. few w u is_child;
      farther = λ w u g on is_child is_parent. lag_below w u g is_child is_parent;
    }

    abbrev pub RoundsOfAll : ℕ → List TreeEvent → Type 0
    RoundsOfAll = RoundsOf (IsRoundOf (fixed_of net) AnyNode kind pace)

    begins : Stages (fixed_of net) AnyNode kind pace 0 (initial_tree net)
    begins w u on is_child =
        let (p, s, there) = linked (fixed_of net) (initial_tree net) opened_sound w u is_child in
        stage_open (fixed_of net) AnyNode kind pace (initial_tree net) w u (best u) p s opened_sound tt is_child there (most_above w u is_child)
        (omega (arith, lag_is w u is_child))

    module _ (events : List TreeEvent) (rounds w u : ℕ) (is_open : IsOpen (tree_replay (initial_tree net) events))
        (are_rounds : RoundsOfAll rounds events) (is_child : parent_at parents w ≡ Some u) (enough : each * (best u + 1) + depth u ≤ rounds) where
      abbrev t : WholeTree
      t = tree_replay (initial_tree net) events

      has_all : Drained t parents w
      has_all =
          drains (fixed_of net) AnyNode kind pace (initial_tree net) events rounds w u opened_sound begins (λ v on. is_open v) are_rounds tt is_child
          (omega (arith, lag_is w u is_child, one_more each (best u)))

      pub arrives_handed_on : IsHandedOn t w u
      arrives_handed_on = handed_on_by parents t w u is_child has_all

      pub arrives_complete : ReplaysObey LinkLaw
          → CompleteLaw (most_strays net w) (most_missing net w) (path_garbage net w) net.published (received t w)
      arrives_complete obey =
          complete_at obey net is t (replay_keeps reach_step net (initial_tree net) events (opening_is_run net is.one_per_link)) w
          (child_is_node parents w u is_child) has_all

      -- and whatever comes after such events, a node keeps what it has
      pub arrives_for_good : (more : List TreeEvent) → IsHandedOn (tree_replay t more) w u × (received (tree_replay t more) w ≡ received t w)
      arrives_for_good more =
          let (later, same) = drained_over (fixed_of net) more t (keeps_all (fixed_of net) (initial_tree net) events opened_sound) w has_all in
          (handed_on_by parents (tree_replay t more) w u is_child later, same)

  -- rounds of all links are such rounds, of their kind
  pub plain_rounds : (each : ℕ) (few : (w u : ℕ) → parent_at parents w ≡ Some u → 2 * capacity_into net w + 1 ≤ each) (count : ℕ) (events : List TreeEvent)
      → TreeRounds parents count events → RoundsOfAll plain each few count events
  plain_rounds each few zero events rounds = tt
  plain_rounds each few (suc count) events (part, rest, parts, is_round, more) =
      (part, rest, parts, λ w u on is_child. is_round w u is_child, plain_rounds each few count rest more)

  abbrev pub one_each : (w u : ℕ) → parent_at parents w ≡ Some u → 1 ≤ 1
  one_each w u is_child = omega arith

  pub reads : (count : ℕ) (events : List TreeEvent) → ReadingRounds net count events → RoundsOfAll reading 1 one_each count events
  reads zero events rounds = tt
  reads (suc count) events (part, rest, parts, is_round, more) =
      (part, rest, parts, λ w u on is_child. is_round w u is_child, reads count rest more)
