-- For each link on a node's path as many items as its `missing` are missing at the node; and at
-- some link these are as many as the sharper bound.
use Rattle.std.proofs.Common.{◌≡◌, ℕ, zero, suc, ◌+◌, ◌-◌, ◌*◌, ◌<◌, inl, inr, List, [], ◌++◌, length, option_map, Contains, Option, Some, None, refl, sym, ◌∙◌, ap, subst, arith}
use Rattle.std.specs.Option.{option_map_or}
use Rattle.std.proofs.lemmas.Option.{same_Some}
use Rattle.std.proofs.lemmas.List.Elements.{All-contains, Contains-append_cases}
use Rattle.stab_frames.specs.Parameters.{Parameters}
use Rattle.stab_core.specs.declared.start.Start.{Start}
use Rattle.stab_core.specs.LinkSetup.{LinkSetup}
use Rattle.stab_core.specs.Replay.{start_items}
use Rattle.stab_tree.specs.NodeOpenings.{opening_at}
use Rattle.stab_tree.specs.Nodes.{parent_at}
use Rattle.stab_tree.specs.Steps.{ancestor, depth_of}
use Rattle.stab_tree.proofs.Fitting.{empty_lists_fit}
use Rattle.stab_tree.proofs.ForCallers.{child_is_deeper, child_is_node}
use Rattle.stab_tree.proofs.Steps.{option_cases}
use Rattle.stab_treecore.specs.Network.{IsNetwork, Network, setup_into}
use Rattle.stab_treecore.specs.NodeLaws.{capacity_into, garbage_into, path_garbage, strays_bound}
use Rattle.stab_treecore.specs.Paths.{lists_above}
use Rattle.stab_treecore.specs.SharperLaw.{fewest_missing, missing_without_strays}
use Rattle.stab_treecore.specs.TreeLaw.{TreeLaw}
use Rattle.stab_convergence.specs.Misses.{Misses, counting}
use Rattle.stab_convergence.proofs.Downwards.{ends, nothing_opened, start}
use Rattle.stab_convergence.proofs.StartKinds.{apart, can_begin, kind_at}
use Rattle.stab_convergence.proofs.NoSmaller.{no_smaller}
use Rattle.stab_convergence.proofs.PathSums.{greatest}
use Rattle.stab_convergence.proofs.Refitted.{all_begin, as_many, refit, refitted, refitted_into, same_params}

-- nothing is in an empty list
none_in : (P : Type 0) (x : ℕ) → Contains {X = ℕ} [] x → P
none_in P x (k, within, is) = absurd (omega (arith, within))

-- what holds of each entry of the list beside each node holds of each of the lists on a path
in_lists : (P : ℕ → Type 0) (parents : List (Option ℕ)) (list : ℕ → List ℕ) → ((node x : ℕ) → Contains (list node) x → P x)
    → (count node x : ℕ) → Contains (lists_above parents list count node) x → P x
in_lists P parents list each zero node x member = none_in (P x) x member
in_lists P parents list each (suc count) node x member =
    elim (Contains-append_cases (list node) (option_map_or (lists_above parents list count) (parent_at parents node) []) x member) [
      | inl own ↦ each node x own
      | inr more ↦ elim (option_cases (parent_at parents node)) [
        | inl none ↦ none_in (P x) x (subst (λ o. Contains (option_map_or (lists_above parents list count) o []) x) none more)
        | inr (parent, some) ↦
            in_lists P parents list each count parent x (subst (λ o. Contains (option_map_or (lists_above parents list count) o []) x) some more)
      ]
    ]

module _ (net : Network) (is : IsNetwork net) (node : ℕ) (is_node : node < length net.tree.parents) (steps child parent : ℕ)
    (leads : ancestor net.tree.parents steps node ≡ Some child) (is_child : parent_at net.tree.parents child ≡ Some parent) where
  abbrev parents : List (Option ℕ)
  parents = net.tree.parents

  abbrev missing : ℕ
  missing = missing_without_strays net parent + (2 * capacity_into net child + 1)

  abbrev its_start : ℕ → Parameters → Start
  its_start = start net is node steps child parent leads is_child

  abbrev links : List LinkSetup
  links = refitted its_start 0 parents net.links

  abbrev network : Network
  network = counting net links missing

  -- a start has no item that is published
  link_apart : (w x : ℕ) → Contains (garbage_into network w) x → missing < x
  link_apart w x member =
      elim (option_cases (setup_into network w)) [
        | inl none ↦ none_in (missing < x) x (subst (λ o. Contains (option_map_or (λ (l : LinkSetup). start_items l.start) o []) x) none member)
        | inr (link, leads_in) ↦ elim (option_cases (setup_into net w)) [
          | inl nothing ↦
              (let none : Some link ≡ None = sym leads_in ∙ refitted_into its_start 0 parents net.links w ∙ ap (λ o. option_map (refit its_start (0 + w)) o) nothing in cc)
          | inr (own, has) ↦
              let same : refit its_start (0 + w) own ≡ link =
              same_Some (refit its_start (0 + w) own) link
              (sym (refitted_into its_start 0 parents net.links w ∙ ap (λ o. option_map (refit its_start (0 + w)) o) has) ∙ leads_in) in
              let there : Contains (start_items link.start) x = subst (λ o. Contains (option_map_or (λ (l : LinkSetup). start_items l.start) o []) x) leads_in member in
              let lowest = apart (kind_at (depth_of parents child) (depth_of parents (0 + w))) own.params (missing + 1) x
              (subst (λ (l : LinkSetup). Contains (start_items l.start) x) (sym same) there) in
              omega (arith, lowest)
        ]
      ]

  garbage_apart : (x : ℕ) → Contains (path_garbage network node) x → missing < x
  garbage_apart x member =
      in_lists (λ y. missing < y) parents (λ w. opening_at network.openings.lists w ++ garbage_into network w)
      (λ w y there.
      link_apart w y (subst (λ (xs : List ℕ). Contains (xs ++ garbage_into network w) y) (nothing_opened (length parents) w) there))
      (depth_of parents node) node x member

  is_network : IsNetwork network
  is_network =
      record {
        tree = is.tree;
        openings_fit = empty_lists_fit parents (length parents) refl;
        one_per_link = as_many its_start 0 parents net.links ∙ is.one_per_link;
        can_begin =
            all_begin its_start (λ w p lawful. can_begin (kind_at (depth_of parents child) (depth_of parents w)) p (missing + 1) lawful) 0 parents
            net.links is.can_begin;
      }

  pub misses : Misses net node missing (strays_bound net node - strays_bound net parent)
  misses =
      let end = ends net is node steps child parent leads is_child is_node in
      record {
        links = links;
        params = same_params its_start 0 parents net.links;
        is_network = is_network;
        schedule = end.schedule;
        its_strays = end.its_strays;
        so_many = end.so_many;
        unpublished = end.unpublished;
        has = end.has;
        least =
            λ most_strays bound law.
            no_smaller missing most_strays bound end.its_strays (path_garbage network node)
            (λ x stray. All-contains (λ y. missing < y) end.its_strays x end.unpublished stray) garbage_apart
            (subst (λ (list : List ℕ). TreeLaw most_strays bound (path_garbage network node) network.published list) end.has law);
      }

-- and at each node but the root as many as its bound
pub misses_all : (net : Network) (node parent : ℕ) → IsNetwork net → parent_at net.tree.parents node ≡ Some parent
    → (strays : ℕ) × Misses net node (fewest_missing net node) strays
misses_all net node parent is has_parent =
    let is_node = child_is_node net.tree.parents node parent has_parent in
    let deep = child_is_deeper net.tree.parents is.tree node parent has_parent in
    let most = greatest net is.tree node is_node (omega (arith, deep)) in
    let strays : ℕ = strays_bound net node - strays_bound net most.parent in (
      strays,
      subst (λ (n : ℕ). Misses net node n strays) (sym most.most)
          (misses net is node is_node most.steps most.child most.parent most.leads most.is_child),
    )
