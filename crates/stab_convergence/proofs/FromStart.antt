-- From the start of a network on, as many rounds of a node's path as are counted from its bounds
-- are enough.
use Rattle.std.proofs.Common.{◌≡◌, ℕ, zero, suc, ◌+◌, ◌*◌, ◌<◌, ◌≤◌, List, [], ◌∷◌, ◌++◌, length, map, get_or, Option, Some, None, option_map, refl, ap, sym, ◌∙◌, length-append, arith}
use Rattle.std.specs.Option.{option_map_or}
use Rattle.stab_core.specs.Link.{LinkValue, link_at}
use Rattle.stab_core.specs.LinkLaw.{LinkLaw, SharperLinkLaw}
use Rattle.stab_core.specs.LinkSetup.{LinkSetup}
use Rattle.stab_core.specs.Replay.{initial}
use Rattle.stab_tree.specs.ByChild.{by_child}
use Rattle.stab_tree.specs.NodeOpenings.{hold_at, opening_at}
use Rattle.stab_tree.specs.Nodes.{parent_at, root_of}
use Rattle.stab_tree.specs.Steps.{depth_of}
use Rattle.stab_tree.proofs.ForCallers.{child_is_node, holds_at_every_depth, map-by_child, one_by_child, openings_fit}
use Rattle.stab_treecore.specs.Network.{IsNetwork, Network, setup_into}
use Rattle.stab_treecore.specs.NodeLaws.{capacity_into, most_strays}
use Rattle.stab_treecore.specs.Paths.{path_sum, sum_above}
use Rattle.stab_treecore.specs.TreeReplay.{initial_tree, opened}
use Rattle.stab_treecore.specs.WholeTree.{WholeTree, received}
use Rattle.stab_treecore.proofs.ForChanges.{opening_is_run}
use Rattle.stab_treecore.specs.declared.change.Change.{Change}
use Rattle.stab_treecore.specs.Changes.{changes_replay}
use Rattle.stab_treecore.specs.Hits.{Spare}
use Rattle.stab_treecore.specs.Since.{IsState, backlog, capacity_at, moment}
use Rattle.stab_treecore.proofs.Obeying.{ObeysSince, PassesOnExactly}
use Rattle.stab_treecore.proofs.States.{opening_fed}
use Rattle.stab_rounds.proofs.TreeSteps.{At, fixed_of, IsSound, known, linked, of_link, root_has, run_is_sound}
use Rattle.stab_rounds.specs.Kinds.{Kind}
use Rattle.stab_rounds.proofs.ByKind.{times}
use Rattle.stab_convergence.specs.Meanwhile.{HasAllBefore}
use Rattle.stab_convergence.specs.PathRounds.{IsPathOpen, PathRounds, TakesAtMost, rounds_since}
use Rattle.stab_convergence.proofs.Meanwhile.{has_all_before}
use Rattle.stab_convergence.proofs.Lags.{backlog_counts, path_below}

module _ (net : Network) (is : IsNetwork net) where
  abbrev s : WholeTree
  s = initial_tree net

  abbrev parents : List (Option ℕ)
  parents = net.tree.parents

  abbrev hold : ℕ → ℕ
  hold = hold_at net.tree.parents net.openings.hold

  abbrev had : ℕ → ℕ
  had w = length (backlog s w)

  is_state : IsState net.tree s
  is_state = (opening_fed net is).is_state

  is_sound : IsSound (fixed_of net) s
  is_sound = run_is_sound net is.can_begin s (opening_is_run net is.one_per_link)

  capacity_is : (w parent : ℕ) → parent_at parents w ≡ Some parent → capacity_at s w ≡ capacity_into net w
  capacity_is w parent is_child =
      let (p, state, there) = linked (fixed_of net) s is_sound w parent is_child in
      ap (λ o. option_map_or (λ (l : LinkValue). l.params.capacity) o 0) there ∙ (known (fixed_of net) s is_sound w p state there).capacity

  -- at first the link into a node is its start
  at_start : (w : ℕ) (setup : LinkSetup) → setup_into net w ≡ Some setup → At s w setup.params (initial setup.start)
  at_start w setup leads =
      ap (λ links. get_or links w None) (sym (map-by_child opened parents net.links))
      ∙ (mapped (by_child parents net.links) w ∙ ap (λ o. option_map opened o) leads)
    where
      mapped : (xs : List (Option LinkSetup)) (i : ℕ) → get_or (map (option_map opened) xs) i None ≡ option_map opened (get_or xs i None)
      mapped [] i = refl
      mapped (x ∷ xs) zero = refl
      mapped (x ∷ xs) (suc i) = mapped xs i

  -- what a node has, and what the nodes above it have for the next of its path, is published or
  -- held
  abbrev FewAt : ℕ → ℕ → Type 0
  FewAt depth u = length (received s u) + sum_above parents had depth u ≤ length net.published + sum_above parents hold depth u

  few_below : (depth child parent : ℕ) → parent_at parents child ≡ Some parent → FewAt depth parent → FewAt (suc depth) child
  few_below depth child parent is_child few =
      let (setup, leads) = one_by_child parents net.links 0 child parent is.one_per_link is_child in
      let there = at_start child setup leads in
      let opening = (openings_fit parents net.openings is.openings_fit).short child in
      let its_had : sum_above parents had (suc depth) child ≡ had child + sum_above parents had depth parent =
      ap (λ o. had child + option_map_or (sum_above parents had depth) o 0) is_child in
      let its_hold : sum_above parents hold (suc depth) child ≡ hold child + sum_above parents hold depth parent =
      ap (λ o. hold child + option_map_or (sum_above parents hold depth) o 0) is_child in
      let list : received s child ≡ opening_at net.openings.lists child ++ [] =
      of_link s child (link_at setup.params (initial setup.start)) there in
      let counts : length (backlog s child) + 0 ≡ length (received s parent) =
      backlog_counts net.tree s is_state child parent setup.params (initial setup.start) is_child there in
      omega (arith, few, opening, its_had, its_hold, counts, ap (λ xs. length xs) list, length-append (opening_at net.openings.lists child) [])

  few_at : (node : ℕ) → node < length parents → FewAt (depth_of parents node) node
  few_at node is_node = holds_at_every_depth parents is.tree FewAt (omega (arith, ap (λ xs. length xs) root_list)) few_below node is_node
    where
      root_list : received s (root_of parents) ≡ net.published
      root_list = root_has (fixed_of net) s is_sound (root_of parents) is.tree.root_has_none

  abbrev SumAt : ℕ → ℕ → Type 0
  SumAt depth u = sum_above parents (capacity_at s) depth u ≤ sum_above parents (capacity_into net) depth u

  sum_at : (node : ℕ) → node < length parents → SumAt (depth_of parents node) node
  sum_at =
      holds_at_every_depth parents is.tree SumAt (omega arith)
      (λ depth child parent is_child few.
      let capacity = capacity_is child parent is_child in
      let its_own : sum_above parents (capacity_at s) (suc depth) child ≡ capacity_at s child + sum_above parents (capacity_at s) depth parent =
      ap (λ o. capacity_at s child + option_map_or (sum_above parents (capacity_at s) depth) o 0) is_child in
      let its_sum : sum_above parents (capacity_into net) (suc depth) child ≡ capacity_into net child + sum_above parents (capacity_into net) depth parent =
      ap (λ o. capacity_into net child + option_map_or (sum_above parents (capacity_into net) depth) o 0) is_child in
      omega (arith, few, capacity, its_own, its_sum))

  -- the rounds that bring all that a node can have to its children
  abbrev rounds_under : ℕ → ℕ → ℕ
  rounds_under each parent = each * (length net.published + most_strays net parent + 1) + depth_of parents parent

  enough : (each node parent : ℕ) → parent_at parents node ≡ Some parent → rounds_since each (moment s) node ≤ rounds_under each parent
  enough each node parent is_child =
      let is_node : parent < length parents = is.tree.known_parents node parent is_child in
      let (setup, leads) = one_by_child parents net.links 0 node parent is.one_per_link is_child in
      let counts : length (backlog s node) + 0 ≡ length (received s parent) =
      backlog_counts net.tree s is_state node parent setup.params (initial setup.start) is_child (at_start node setup leads) in
      let capacities : ℕ = path_sum parents (capacity_at s) parent in
      let since : rounds_since each (moment s) node ≡ each * (path_sum parents had node + capacities + 1) + depth_of parents parent =
      ap (λ o. each * (path_sum parents had node + option_map_or (path_sum parents (capacity_at s)) o 0 + 1) + option_map_or (depth_of parents) o 0)
      is_child in
      let fewer =
      times each (path_sum parents had node + capacities + 1) (length net.published + most_strays net parent + 1)
      (omega (arith, few_at parent is_node, sum_at parent is_node, counts, path_below net.tree s is_state had node parent is_child)) in
      omega (arith, since, fewer)

  pub from_start : ObeysSince LinkLaw → ObeysSince SharperLinkLaw → PassesOnExactly → (kind : Kind) (each : ℕ) (changes later : List Change)
      (rounds node parent : ℕ) → parent_at net.tree.parents node ≡ Some parent → Spare net.tree.parents node (changes ++ later)
      → IsPathOpen (changes_replay (initial_tree net) changes) node → TakesAtMost kind each (initial_tree net) node
      → PathRounds kind (initial_tree net) node rounds changes
      → each * (length net.published + most_strays net parent + 1) + depth_of net.tree.parents parent ≤ rounds
      → HasAllBefore (initial_tree net) (initial_tree net) (changes_replay (initial_tree net) (changes ++ later)) node
  from_start obey sharper exactly kind each changes later rounds node parent is_child spare is_open few are_rounds many =
      has_all_before obey sharper exactly net.tree s [] changes later node is_state (child_is_node parents node parent is_child) spare is_state kind each
      rounds is_open few are_rounds (omega (arith, many, enough each node parent is_child))
