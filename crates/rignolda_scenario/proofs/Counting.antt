-- Changes keep the capacity of each link, so the bounds since a moment are sums over the network.
use Rattle.std.proofs.Common.{◌≡◌, ℕ, zero, suc, ◌+◌, ◌*◌, List, [], ◌∷◌, length, map, get_or, set, Option, Some, None, option_map, refl, ap, sym, ◌∙◌}
use Rattle.std.specs.Option.{option_map_or}
use Rattle.stab_core.specs.Link.{LinkValue, link_at}
use Rattle.stab_core.specs.LinkSetup.{LinkSetup}
use Rattle.stab_core.specs.LinkState.{LinkState}
use Rattle.stab_core.specs.declared.event.Event.{Event}
use Rattle.stab_treecore.specs.declared.change.Change.{Change}
use Rattle.stab_treecore.specs.declared.change.Change.TheVariants.{Act, Publish, Strike, Restart}
use Rattle.stab_treecore.specs.Changes.{change_step, changes_replay}
use Rattle.stab_treecore.specs.Moment.{missing_since, old_backlog, strays_since}
use Rattle.stab_treecore.specs.Since.{capacity_at, moment}
use Rattle.stab_tree.specs.ByChild.{by_child}
use Rattle.stab_tree.specs.Nodes.{parent_at}
use Rattle.stab_tree.proofs.ForCallers.{map-by_child}
use Rattle.stab_treecore.specs.Faults.{each_link, restarted_at, struck_at}
use Rattle.stab_treecore.specs.Network.{Network, setup_into}
use Rattle.stab_tree.specs.Steps.{depth_of}
use Rattle.stab_treecore.specs.NodeLaws.{capacity_into, most_missing, strays_bound}
use Rattle.stab_treecore.specs.Paths.{path_sum, sum_above}
use Rattle.stab_treecore.specs.TreeReplay.{initial_tree, opened}
use Rattle.stab_treecore.specs.TreeStep.{event_on, link_after}
use Rattle.stab_treecore.specs.WholeTree.{WholeTree}
use Rattle.stab_treecore.proofs.ForChanges.{happened_at, sum_above-add}

-- the capacity of a link, where there is one
abbrev pub capacity : Option LinkValue → ℕ
capacity o = option_map_or (λ (l : LinkValue). l.params.capacity) o 0

kept : (happens : LinkState → LinkState) (o : Option LinkValue) → capacity (option_map (λ l. link_at l.params (happens l.state)) o) ≡ capacity o
kept happens None = refl
kept happens (Some l) = refl

-- something happens to each link
kept_each : (happens : ℕ → LinkState → LinkState) (links : List (Option LinkValue)) (w : ℕ)
    → capacity (get_or (each_link happens 0 links) w None) ≡ capacity (get_or links w None)
kept_each happens links w = ap capacity (happened_at happens links w) ∙ kept (happens w) (get_or links w None)

after_event : (e : Option Event) (o : Option LinkValue) → capacity (option_map (link_after e) o) ≡ capacity o
after_event e None = refl
after_event None (Some l) = refl
after_event (Some e) (Some l) = refl

-- an event happens to one of them
kept_one : (e : Option Event) (links : List (Option LinkValue)) (child w : ℕ)
    → capacity (get_or (set links child (option_map (link_after e) (get_or links child None))) w None) ≡ capacity (get_or links w None)
kept_one e [] child w = refl
kept_one e (x ∷ xs) zero zero = after_event e x
kept_one e (x ∷ xs) zero (suc w) = refl
kept_one e (x ∷ xs) (suc child) zero = refl
kept_one e (x ∷ xs) (suc child) (suc w) = kept_one e xs child w

kept_by : (t : WholeTree) (change : Change) (w : ℕ) → capacity_at (change_step t change) w ≡ capacity_at t w
kept_by t (Act e) w = kept_one (event_on t e) t.links e.child w
kept_by t (Publish items) w = refl
kept_by t (Strike child start) w = kept_each (struck_at child start) t.links w
kept_by t (Restart node list) w = kept_each (restarted_at t.parents node) t.links w

-- the capacities after changes
pub capacities_stay : (t : WholeTree) (changes : List Change) (w : ℕ) → capacity_at (changes_replay t changes) w ≡ capacity_at t w
capacities_stay t [] w = refl
capacities_stay t (change ∷ changes) w = capacities_stay (change_step t change) changes w ∙ kept_by t change w

mapped : (xs : List (Option LinkSetup)) (i : ℕ) → get_or (map (option_map opened) xs) i None ≡ option_map opened (get_or xs i None)
mapped [] i = refl
mapped (x ∷ xs) zero = refl
mapped (x ∷ xs) (suc i) = mapped xs i

opened_capacity : (o : Option LinkSetup) → capacity (option_map opened o) ≡ option_map_or (λ (l : LinkSetup). l.params.capacity) o 0
opened_capacity None = refl
opened_capacity (Some setup) = refl

-- at first they are those of the network
at_first : (net : Network) (w : ℕ) → capacity_at (initial_tree net) w ≡ capacity_into net w
at_first net w =
    ap (λ links. capacity (get_or links w None)) (sym (map-by_child opened net.tree.parents net.links))
    ∙ (ap capacity (mapped (by_child net.tree.parents net.links) w) ∙ opened_capacity (setup_into net w))

-- and so they are after changes
pub capacities_of : (net : Network) (changes : List Change) (w : ℕ) → capacity_at (changes_replay (initial_tree net) changes) w ≡ capacity_into net w
capacities_of net changes w = capacities_stay (initial_tree net) changes w ∙ at_first net w

-- sums of the same numbers
pub same_sums : (parents : List (Option ℕ)) (f g : ℕ → ℕ) → ((w : ℕ) → f w ≡ g w) → (count node : ℕ) → sum_above parents f count node ≡ sum_above parents g count node
same_sums parents f g same zero node = refl
same_sums parents f g same (suc count) node = by (λ parent. same_sums parents f g same count parent) (parent_at parents node)
  where
    by : ((parent : ℕ) → sum_above parents f count parent ≡ sum_above parents g count parent) → (o : Option ℕ) → f node + option_map_or (sum_above parents f count) o 0 ≡ g node + option_map_or (sum_above parents g count) o 0
    by above None = ap (λ n. n + 0) (same node)
    by above (Some parent) = ap (λ n. n + sum_above parents f count parent) (same node) ∙ ap (λ n. g node + n) (above parent)

-- the bounds since a state with the capacities of the network
pub strays_are : (net : Network) (s : WholeTree) (node : ℕ) → s.parents ≡ net.tree.parents → ((w : ℕ) → capacity_at s w ≡ capacity_into net w)
    → strays_bound net node + path_sum s.parents (λ w. length (old_backlog (moment s) w)) node ≡ strays_since (moment s) node
strays_are net s node same caps =
    let held : ℕ → ℕ = λ w. length (old_backlog (moment s) w) in
    let sums : path_sum net.tree.parents (capacity_into net) node ≡ path_sum s.parents (capacity_at s) node =
    ap (λ ps. path_sum ps (capacity_into net) node) (sym same)
    ∙ sym (same_sums s.parents (capacity_at s) (capacity_into net) caps (depth_of s.parents node) node) in
    ap (λ n. n + path_sum s.parents held node) sums ∙ sym (sum_above-add s.parents (capacity_at s) held (depth_of s.parents node) node)

pub missing_are : (net : Network) (s : WholeTree) (node : ℕ) → s.parents ≡ net.tree.parents → ((w : ℕ) → capacity_at s w ≡ capacity_into net w)
    → most_missing net node ≡ missing_since (moment s) node
missing_are net s node same caps =
    ap (λ ps. path_sum ps (λ w. 2 * capacity_into net w + 1) node) (sym same)
    ∙ sym (same_sums s.parents (λ w. 2 * capacity_at s w + 1) (λ w. 2 * capacity_into net w + 1) (λ w. ap (λ n. 2 * n + 1) (caps w))
    (depth_of s.parents node) node)
