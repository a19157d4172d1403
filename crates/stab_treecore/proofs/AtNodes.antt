-- The tree law at each node, from the root down.
-- The bounds are sums along the path, and products where all links have one capacity.
use Rattle.std.proofs.Common.{◌≡◌, ℕ, zero, suc, ◌+◌, ◌*◌, ◌<◌, List, [], ◌++◌, length, Option, Some, None, All, Bool, true, false, if◌then◌else◌, refl, sym, ◌∙◌, ap, arith, append_assoc}
use Rattle.std.proofs.Math.Nat.{zero-mul, suc-mul}
use Rattle.std.specs.Option.{option_map_or}
use Rattle.stab_tree.specs.IsTree.{IsRooted}
use Rattle.stab_tree.specs.Links.{links_of}
use Rattle.stab_tree.specs.Nodes.{parent_at, root_of}
use Rattle.stab_tree.specs.Steps.{ancestor, depth_of}
use Rattle.stab_tree.proofs.ForCallers.{holds_at_every_depth, one_step_further}
use Rattle.stab_treecore.specs.Network.{Network}
use Rattle.stab_treecore.specs.NodeLaws.{capacity_into, garbage_into, most_missing, most_strays, path_garbage, strays_bound, LinkLawBetween, LinkLawInto, HalfTreeLawAtNodes, TreeLawAtNode, TreeLawAtNodes}
use Rattle.stab_tree.specs.NodeOpenings.{FitTree, hold_at, is_inner, opening_at}
use Rattle.stab_tree.proofs.Fitting.{openings_fit}
use Rattle.std.proofs.lemmas.List.{nil_from_length}
use Rattle.stab_core.specs.LinkSetup.{LinkSetup}
use Rattle.stab_treecore.specs.Paths.{sum_above, path_sum, lists_above, path_lists}
use Rattle.stab_treecore.specs.TreeLaw.{TreeLaw}
use Rattle.stab_tree.proofs.ForCallers.{holds_by_child, one_by_child}
use Rattle.stab_treecore.proofs.Upwards.{larger_bounds, law_below, law_past_opening, root_law}

-- the sum of two numbers beside each node is the sum of their sums
added_above : (h f g : ℕ → ℕ) (a b : ℕ) (up : Option ℕ) → ((w : ℕ) → h w ≡ f w + g w)
    → a + b + option_map_or h up 0 ≡ a + option_map_or f up 0 + (b + option_map_or g up 0)
added_above h f g a b None each = omega arith
added_above h f g a b (Some above) each = omega (arith, each above)

pub sum_above-add : (parents : List (Option ℕ)) (f g : ℕ → ℕ) (count node : ℕ)
    → sum_above parents (λ w. f w + g w) count node ≡ sum_above parents f count node + sum_above parents g count node
sum_above-add parents f g zero node = omega arith
sum_above-add parents f g (suc count) node =
    added_above (sum_above parents (λ w. f w + g w) count) (sum_above parents f count) (sum_above parents g count) (f node) (g node)
    (parent_at parents node) (sum_above-add parents f g count)

module _ (parents : List (Option ℕ)) (tree : IsRooted parents) (published : List ℕ) (received : ℕ → List ℕ)
    (at_root : received (root_of parents) ≡ published) where
  -- Where each child on a path adds so much to the bounds and to the garbage of its parent, the
  -- bounds and the garbage of a node there are what there is along its path.
  module _ (OnPath : ℕ → Type 0) (up : (child parent : ℕ) → parent_at parents child ≡ Some parent → OnPath child → OnPath parent)
      (more_strays more_missing : ℕ → ℕ) (more_garbage : ℕ → List ℕ)
      (adds : (child parent most_strays most_missing : ℕ) (garbage : List ℕ) → OnPath child → parent_at parents child ≡ Some parent
      → TreeLaw most_strays most_missing garbage published (received parent)
      → TreeLaw (more_strays child + most_strays) (more_missing child + most_missing) (more_garbage child ++ garbage) published (received child)) where
    -- the tree law of a node with what there is beside this many nodes, from it upwards
    abbrev ObeysAt : ℕ → ℕ → Type 0
    ObeysAt depth node =
        TreeLaw (sum_above parents more_strays depth node) (sum_above parents more_missing depth node)
        (lists_above parents more_garbage depth node) published (received node)

    child_obeys : (depth child parent : ℕ) → parent_at parents child ≡ Some parent → (OnPath parent → ObeysAt depth parent)
        → OnPath child → ObeysAt (suc depth) child
    child_obeys depth child parent is_child above on =
        rw is_child
        (adds child parent (sum_above parents more_strays depth parent) (sum_above parents more_missing depth parent)
        (lists_above parents more_garbage depth parent) on is_child (above (up child parent is_child on)))

    pub each_adds : (node : ℕ) → node < length parents → OnPath node
        → TreeLaw (path_sum parents more_strays node) (path_sum parents more_missing node) (path_lists parents more_garbage node) published (received node)
    each_adds =
        holds_at_every_depth parents tree (λ depth node. OnPath node → ObeysAt depth node) (λ on. rw at_root (root_law published)) child_obeys

module _ (net : Network) (tree : IsRooted net.tree.parents) (received : ℕ → List ℕ)
    (at_root : received (root_of net.tree.parents) ≡ net.published) where
  -- the step on one link, with what it adds before what there is at the parent
  step_below : (child most_strays most_missing : ℕ) (garbage above below : List ℕ)
      → LinkLawBetween (capacity_into net child) (garbage_into net child) above below
      → TreeLaw most_strays most_missing garbage net.published above
      → TreeLaw (most_strays + capacity_into net child) (2 * capacity_into net child + 1 + most_missing)
      (garbage_into net child ++ garbage) net.published below
  step_below child most_strays most_missing garbage above below (offered, acked, begins, law) at_parent =
      let missing : most_missing + (2 * capacity_into net child + 1) ≡ 2 * capacity_into net child + 1 + most_missing = omega arith in
      rw (← missing)
      (law_below (capacity_into net child) most_strays acked (garbage_into net child) garbage net.published above offered below
      begins most_missing at_parent law)

  -- a node on a path obeys the tree law, where each link on the path obeys the link law
  pub nodes_on_path_obey : (OnPath : ℕ → Type 0)
      → ((child parent : ℕ) → parent_at net.tree.parents child ≡ Some parent → OnPath child → OnPath parent)
      → FitTree net.tree.parents net.openings
      → ((child parent : ℕ) → OnPath child → parent_at net.tree.parents child ≡ Some parent
      → LinkLawInto net child (received parent) (received child))
      → (node : ℕ) → node < length net.tree.parents → OnPath node → TreeLawAtNode net received node
  nodes_on_path_obey OnPath up fit links node is_node on_path =
      let hold_of = hold_at net.tree.parents net.openings.hold in
      let short = (openings_fit net.tree.parents net.openings fit).short in
      rw (← sum_above-add net.tree.parents (capacity_into net) hold_of (depth_of net.tree.parents node) node)
      (each_adds net.tree.parents tree net.published received at_root OnPath up
      (λ child. capacity_into net child + hold_of child) (λ child. 2 * capacity_into net child + 1)
      (λ child. opening_at net.openings.lists child ++ garbage_into net child)
      (λ child parent most_strays most_missing garbage on is_child at_parent.
      let (delivered, parts, link) = links child parent on is_child in
      let opening = opening_at net.openings.lists child in
      let capacity = capacity_into net child in
      let start_items = garbage_into net child in
      rw (parts, append_assoc)
      (larger_bounds (most_strays + capacity + length opening) (capacity + hold_of child + most_strays) (2 * capacity + 1 + most_missing)
      (2 * capacity + 1 + most_missing) (opening ++ (start_items ++ garbage)) net.published (opening ++ delivered)
      (omega (arith, short child)) (omega arith)
      (law_past_opening (most_strays + capacity) opening (start_items ++ garbage) net.published delivered (2 * capacity + 1 + most_missing)
      (step_below child most_strays most_missing garbage (received parent) delivered link at_parent)))) node is_node on_path)

  -- so each node obeys it, where each link obeys the link law
  pub nodes_obey : FitTree net.tree.parents net.openings
      → ((child parent : ℕ) → parent_at net.tree.parents child ≡ Some parent → LinkLawInto net child (received parent) (received child))
      → TreeLawAtNodes net received
  nodes_obey fit links node is_node =
      nodes_on_path_obey (λ _. Unit {0}) (λ child parent is_child on. tt) fit (λ child parent on is_child. links child parent is_child) node is_node tt

  -- and a node alone does, where each link on its path obeys the link law
  pub node_obeys : FitTree net.tree.parents net.openings → (node : ℕ) → node < length net.tree.parents
      → ((steps child parent : ℕ) → ancestor net.tree.parents steps node ≡ Some child → parent_at net.tree.parents child ≡ Some parent
      → LinkLawInto net child (received parent) (received child))
      → TreeLawAtNode net received node
  node_obeys fit node is_node links =
      nodes_on_path_obey (λ w. (steps : ℕ) × (ancestor net.tree.parents steps node ≡ Some w))
      (λ child parent is_child (steps, leads). (suc steps, one_step_further net.tree.parents steps node child parent leads is_child)) fit
      (λ child parent (steps, leads) is_child. links steps child parent leads is_child) node is_node (0, refl)

-- the same number beside each node with a parent is added once for each link of a path
pub path_sum-same : (parents : List (Option ℕ)) → IsRooted parents → (number_into : ℕ → ℕ) (number node : ℕ)
    → ((child parent : ℕ) → parent_at parents child ≡ Some parent → number_into child ≡ number)
    → node < length parents → path_sum parents number_into node ≡ depth_of parents node * number
path_sum-same parents tree number_into number node same is_node =
    holds_at_every_depth parents tree (λ depth w. sum_above parents number_into depth w ≡ depth * number)
    (sym (zero-mul number))
    (λ depth child parent is_child above.
    ap (λ up. number_into child + option_map_or (sum_above parents number_into depth) up 0) is_child
    ∙ (ap (λ sum. number_into child + sum) above ∙ omega (arith, same child parent is_child, suc-mul depth number)))
    node is_node

-- where each link has this capacity, so has the link into a child
module _ (net : Network) (capacity : ℕ) (tree : IsRooted net.tree.parents) (one_each : length net.links ≡ length (links_of net.tree.parents))
    (alike : All (λ link. link.params.capacity ≡ capacity) net.links) where
  pub its_capacity : (child parent : ℕ) → parent_at net.tree.parents child ≡ Some parent → capacity_into net child ≡ capacity
  its_capacity child parent is_child =
      let (link, is) = one_by_child net.tree.parents net.links 0 child parent one_each is_child in
      ap (λ o. option_map_or (λ (l : LinkSetup). l.params.capacity) o 0) is
      ∙ holds_by_child (λ l. l.params.capacity ≡ capacity) net.tree.parents net.links child link alike is

  -- so the bounds are those of one link, times the depth of the node
  pub strays-same : (node : ℕ) → node < length net.tree.parents → strays_bound net node ≡ depth_of net.tree.parents node * capacity
  strays-same node is_node = path_sum-same net.tree.parents tree (capacity_into net) capacity node its_capacity is_node

  pub missing-same : (node : ℕ) → node < length net.tree.parents → most_missing net node ≡ depth_of net.tree.parents node * (2 * capacity + 1)
  missing-same node is_node =
      path_sum-same net.tree.parents tree (λ child. 2 * capacity_into net child + 1) (2 * capacity + 1) node
      (λ child parent is_child. ap (λ c. 2 * c + 1) (its_capacity child parent is_child)) is_node

-- where no node may hold anything, nothing is added for the openings
none_of : (h : ℕ → ℕ) (up : Option ℕ) → ((w : ℕ) → h w ≡ 0) → option_map_or h up 0 ≡ 0
none_of h None none = refl
none_of h (Some above) none = none above

none_above : (parents : List (Option ℕ)) (hold_of : ℕ → ℕ) (count node : ℕ) → ((w : ℕ) → hold_of w ≡ 0) → sum_above parents hold_of count node ≡ 0
none_above parents hold_of zero node none = refl
none_above parents hold_of (suc count) node none =
    omega (arith, none node, none_of (sum_above parents hold_of count) (parent_at parents node) (λ w. none_above parents hold_of count w none))

holds_none : (b : Bool) (hold : ℕ) → hold ≡ 0 → (if b then hold else 0) ≡ 0
holds_none true hold none = none
holds_none false hold none = refl

pub strays-unopened : (net : Network) (node : ℕ) → net.openings.hold ≡ 0 → most_strays net node ≡ strays_bound net node
strays-unopened net node none =
    omega (
      arith,
      none_above net.tree.parents (hold_at net.tree.parents net.openings.hold) (depth_of net.tree.parents node) node
          (λ w. holds_none (is_inner net.tree.parents w) net.openings.hold none),
    )

-- and all garbage on a path is that of its links
same_of : (f g : ℕ → List ℕ) (up : Option ℕ) → ((w : ℕ) → f w ≡ g w) → option_map_or f up [] ≡ option_map_or g up []
same_of f g None same = refl
same_of f g (Some above) same = same above

same_lists_above : (parents : List (Option ℕ)) (f g : ℕ → List ℕ) (count node : ℕ) → ((w : ℕ) → f w ≡ g w)
    → lists_above parents f count node ≡ lists_above parents g count node
same_lists_above parents f g zero node same = refl
same_lists_above parents f g (suc count) node same =
    ap (λ xs. xs ++ option_map_or (lists_above parents f count) (parent_at parents node) []) (same node)
    ∙ ap (λ rest. g node ++ rest)
    (same_of (lists_above parents f count) (lists_above parents g count) (parent_at parents node) (λ w. same_lists_above parents f g count w same))

pub garbage-unopened : (net : Network) (node : ℕ) → FitTree net.tree.parents net.openings → net.openings.hold ≡ 0
    → path_garbage net node ≡ path_lists net.tree.parents (garbage_into net) node
garbage-unopened net node fit none =
    same_lists_above net.tree.parents (λ w. opening_at net.openings.lists w ++ garbage_into net w) (garbage_into net)
    (depth_of net.tree.parents node) node
    (λ w. ap (λ opening. opening ++ garbage_into net w)
    (nil_from_length (opening_at net.openings.lists w)
    (omega (arith, (openings_fit net.tree.parents net.openings fit).short w, holds_none (is_inner net.tree.parents w) net.openings.hold none))))

-- the tree law holds the half tree law
pub half_of_nodes : (net : Network) (received : ℕ → List ℕ) → TreeLawAtNodes net received → HalfTreeLawAtNodes net received
half_of_nodes net received law node is_node =
    let (places, half, none_missing) = law node is_node in
    (places, half)
