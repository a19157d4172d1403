-- The bounds that the page adds up along a path are those of the laws of all nodes.
use Rattle.std.proofs.Common.{◌≡◌, ℕ, zero, suc, ◌+◌, ◌*◌, List, [], ◌∷◌, map, get_or, set, Option, Some, None, option_map, refl, ap, sym, ◌∙◌}
use Rattle.std.specs.Option.{option_map_or}
use Rattle.stab_core.specs.declared.event.Event.{Event}
use Rattle.stab_core.specs.LinkSetup.{LinkSetup}
use Rattle.stab_core.specs.Tracer.{TracerValue}
use Rattle.stab_tree.specs.NodeOpenings.{OpeningsValue, hold_at}
use Rattle.stab_tree.specs.Nodes.{Nodes, parent_at}
use Rattle.stab_tree.specs.Steps.{depth_of}
use Rattle.stab_tree.proofs.ForCallers.{map-by_child}
use Rattle.stab_treecore.specs.declared.event.TreeEvent.{TreeEvent}
use Rattle.stab_tree.specs.ByChild.{by_child}
use Rattle.stab_treecore.specs.NodeLaws.{capacity_into, held_bound, most_missing, strays_bound}
use Rattle.stab_treecore.specs.Paths.{path_sum, sum_above}
use Rattle.stab_page.specs.TracedTree.{TracedTree, event_at, page_network, traced_after, traced_link, traced_initial_tree}
use Rattle.stab_page.specs.TracedTree.{traced_tree_replay, traced_tree_step}
use Rattle.stab_page.specs.TreeStanding.{capacity_at, held_at_most, missing_at_most, strays_at_most}
use Rattle.stab_page.proofs.Schedule.{read_mapped}

-- the capacity of a link, where there is one
capacity_of : Option TracerValue → ℕ
capacity_of None = 0
capacity_of (Some link) = link.params.capacity

capacity_is : (link : Option TracerValue) → option_map_or (λ (l : TracerValue). l.params.capacity) link 0 ≡ capacity_of link
unfolding capacity_of
capacity_is None = refl
capacity_is (Some link) = refl

-- an event leaves the parameters
same_params : (e : Option Event) (link : Option TracerValue) → capacity_of (option_map (traced_after e) link) ≡ capacity_of link
unfolding capacity_of
same_params e None = refl
same_params None (Some link) = refl
same_params (Some e) (Some link) = refl

-- so a step leaves the capacity of each link
same_read : (e : Option Event) (links : List (Option TracerValue)) (i node : ℕ)
    → capacity_of (get_or (set links i (option_map (traced_after e) (get_or links i None))) node None) ≡ capacity_of (get_or links node None)
same_read e [] i node = refl
same_read e (link ∷ links) zero zero = same_params e link
same_read e (link ∷ links) zero (suc node) = refl
same_read e (link ∷ links) (suc i) zero = refl
same_read e (link ∷ links) (suc i) (suc node) = same_read e links i node

step_keeps : (t : TracedTree) (e : TreeEvent) (node : ℕ) → capacity_at (traced_tree_step t e) node ≡ capacity_at t node
step_keeps t e node =
    capacity_is (get_or (traced_tree_step t e).links node None) ∙ same_read (event_at t e) t.links e.child node
    ∙ sym (capacity_is (get_or t.links node None))

replay_keeps : (t : TracedTree) (events : List TreeEvent) (node : ℕ) → capacity_at (traced_tree_replay t events) node ≡ capacity_at t node
replay_keeps t [] node = refl
replay_keeps t (e ∷ events) node = replay_keeps (traced_tree_step t e) events node ∙ step_keeps t e node

-- the capacity of a link at its start
at_start : (link : Option LinkSetup)
    → option_map_or (λ (l : TracerValue). l.params.capacity) (option_map traced_link link) 0
    ≡ option_map_or (λ (l : LinkSetup). l.params.capacity) link 0
at_start None = refl
at_start (Some link) = refl

-- the capacities are those of the network
same_capacity : (tree : Nodes) (openings : OpeningsValue) (links : List LinkSetup) (published : List ℕ) (events : List TreeEvent) (node : ℕ)
    → capacity_at (traced_tree_replay (traced_initial_tree tree.parents openings links published) events) node
    ≡ capacity_into (page_network tree openings links published) node
same_capacity tree openings links published events node =
    replay_keeps (traced_initial_tree tree.parents openings links published) events node
    ∙ ap (λ ls. option_map_or (λ (l : TracerValue). l.params.capacity) (get_or ls node None) 0) (sym (map-by_child traced_link tree.parents links))
    ∙ ap (λ link. option_map_or (λ (l : TracerValue). l.params.capacity) link 0) (read_mapped (option_map traced_link) (by_child tree.parents links) node None)
    ∙ at_start (get_or (by_child tree.parents links) node None)

-- the parents do not change
same_parents : (t : TracedTree) (events : List TreeEvent) → (traced_tree_replay t events).parents ≡ t.parents
same_parents t [] = refl
same_parents t (e ∷ events) = same_parents (traced_tree_step t e) events

-- nor does what an opening may have
same_openings : (t : TracedTree) (events : List TreeEvent) → (traced_tree_replay t events).openings ≡ t.openings
same_openings t [] = refl
same_openings t (e ∷ events) = same_openings (traced_tree_step t e) events

-- sums of the same numbers along a path
same_up : (parents : List (Option ℕ)) (f g : ℕ → ℕ) (count : ℕ) (parent : Option ℕ)
    → ((node : ℕ) → sum_above parents f count node ≡ sum_above parents g count node)
    → option_map_or (sum_above parents f count) parent 0 ≡ option_map_or (sum_above parents g count) parent 0
same_up parents f g count None same = refl
same_up parents f g count (Some parent) same = same parent

same_sum : (parents : List (Option ℕ)) (f g : ℕ → ℕ) → ((node : ℕ) → f node ≡ g node) → (count node : ℕ)
    → sum_above parents f count node ≡ sum_above parents g count node
same_sum parents f g same zero node = refl
same_sum parents f g same (suc count) node =
    ap (λ n. n + option_map_or (sum_above parents f count) (parent_at parents node) 0) (same node)
    ∙ ap (λ n. g node + n) (same_up parents f g count (parent_at parents node) (same_sum parents f g same count))

pub same_strays_bound : (tree : Nodes) (openings : OpeningsValue) (links : List LinkSetup) (published : List ℕ) (events : List TreeEvent) (node : ℕ)
    → strays_at_most (traced_tree_replay (traced_initial_tree tree.parents openings links published) events) node
    ≡ strays_bound (page_network tree openings links published) node
same_strays_bound tree openings links published events node =
    let t = traced_tree_replay (traced_initial_tree tree.parents openings links published) events in
    ap (λ parents. path_sum parents (capacity_at t) node) (same_parents (traced_initial_tree tree.parents openings links published) events)
    ∙ same_sum tree.parents (capacity_at t) (capacity_into (page_network tree openings links published)) (same_capacity tree openings links published events)
    (depth_of tree.parents node) node

pub same_missing_bound : (tree : Nodes) (openings : OpeningsValue) (links : List LinkSetup) (published : List ℕ) (events : List TreeEvent) (node : ℕ)
    → missing_at_most (traced_tree_replay (traced_initial_tree tree.parents openings links published) events) node
    ≡ most_missing (page_network tree openings links published) node
same_missing_bound tree openings links published events node =
    let t = traced_tree_replay (traced_initial_tree tree.parents openings links published) events in
    let net = page_network tree openings links published in
    ap (λ parents. path_sum parents (λ child. 2 * capacity_at t child + 1) node) (same_parents (traced_initial_tree tree.parents openings links published) events)
    ∙ same_sum tree.parents (λ child. 2 * capacity_at t child + 1) (λ child. 2 * capacity_into net child + 1)
    (λ child. ap (λ c. 2 * c + 1) (same_capacity tree openings links published events child)) (depth_of tree.parents node) node

pub same_held_bound : (tree : Nodes) (openings : OpeningsValue) (links : List LinkSetup) (published : List ℕ) (events : List TreeEvent) (node : ℕ)
    → held_at_most (traced_tree_replay (traced_initial_tree tree.parents openings links published) events) node
    ≡ held_bound (page_network tree openings links published) node
same_held_bound tree openings links published events node =
    let initial = traced_initial_tree tree.parents openings links published in
    ap (λ parents. path_sum parents (hold_at parents (traced_tree_replay initial events).openings.hold) node) (same_parents initial events)
    ∙ ap (λ (o : OpeningsValue). path_sum tree.parents (hold_at tree.parents o.hold) node) (same_openings initial events)
