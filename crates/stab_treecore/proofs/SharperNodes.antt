-- The sharper tree law at each node, from the root down.
use Rattle.std.proofs.Common.{◌≡◌, ℕ, zero, suc, ◌+◌, ◌*◌, ◌<◌, ◌≤◌, max, List, ◌++◌, length, Option, Some, None, All, refl, sym, ◌∙◌, subst, arith, append_assoc}
use Rattle.std.proofs.Math.Nat.{max-le, max-eq_right, zero-mul, suc-mul}
use Rattle.std.specs.Option.{option_map_or}
use Rattle.stab_core.specs.LinkLaw.{SharperLinkLaw}
use Rattle.stab_tree.specs.IsTree.{IsRooted}
use Rattle.stab_tree.specs.Links.{links_of}
use Rattle.stab_tree.specs.Nodes.{parent_at, root_of}
use Rattle.stab_tree.specs.Steps.{ancestor, depth_of}
use Rattle.stab_tree.proofs.ForCallers.{holds_at_every_depth, one_step_further}
use Rattle.stab_treecore.specs.Network.{Network}
use Rattle.stab_treecore.specs.NodeLaws.{capacity_into, garbage_into, most_missing, strays_bound, LawInto}
use Rattle.stab_tree.specs.NodeOpenings.{FitTree, hold_at, opening_at}
use Rattle.stab_treecore.specs.Paths.{sum_above, lists_above}
use Rattle.stab_treecore.specs.SharperLaw.{SharperTreeLaw, SharperTreeLawAtNode, SharperTreeLawAtNodes, missing_without_strays, fewest_missing, peak_above}
use Rattle.stab_treecore.proofs.AtNodes.{sum_above-add, its_capacity}
use Rattle.stab_tree.proofs.Fitting.{openings_fit}
use Rattle.stab_treecore.proofs.Upwards.{sharper_below, sharper_past_opening, sharper_root, sharper_larger}

module _ (parents : List (Option ℕ)) (tree : IsRooted parents) (published : List ℕ) (received : ℕ → List ℕ)
    (at_root : received (root_of parents) ≡ published) (OnPath : ℕ → Type 0)
    (up : (child parent : ℕ) → parent_at parents child ≡ Some parent → OnPath child → OnPath parent)
    (more_strays capacity : ℕ → ℕ) (more_garbage : ℕ → List ℕ)
    (adds : (child parent strays without peak : ℕ) (garbage : List ℕ) → OnPath child → parent_at parents child ≡ Some parent
    → SharperTreeLaw strays without peak garbage published (received parent)
    → SharperTreeLaw (more_strays child + strays) (capacity child + 1 + without) (max peak (without + (2 * capacity child + 1)))
    (more_garbage child ++ garbage) published (received child)) where
  -- the law of a node with what there is beside this many nodes, from it upwards
  abbrev ObeysAt : ℕ → ℕ → Type 0
  ObeysAt depth node =
      SharperTreeLaw (sum_above parents more_strays depth node) (sum_above parents (λ w. capacity w + 1) depth node)
      (peak_above parents capacity depth node) (lists_above parents more_garbage depth node) published (received node)

  child_obeys : (depth child parent : ℕ) → parent_at parents child ≡ Some parent → (OnPath parent → ObeysAt depth parent)
      → OnPath child → ObeysAt (suc depth) child
  child_obeys depth child parent is_child above on =
      rw is_child
      (adds child parent (sum_above parents more_strays depth parent) (sum_above parents (λ w. capacity w + 1) depth parent)
      (peak_above parents capacity depth parent) (lists_above parents more_garbage depth parent) on is_child
      (above (up child parent is_child on)))

  -- so each node on the path obeys it with what there is along its path
  each_obeys : (node : ℕ) → node < length parents → OnPath node → ObeysAt (depth_of parents node) node
  each_obeys =
      holds_at_every_depth parents tree (λ depth node. OnPath node → ObeysAt depth node) (λ on. rw at_root (sharper_root published)) child_obeys

module _ (net : Network) (tree : IsRooted net.tree.parents) (received : ℕ → List ℕ)
    (at_root : received (root_of net.tree.parents) ≡ net.published) (fit : FitTree net.tree.parents net.openings)
    (OnPath : ℕ → Type 0) (up : (child parent : ℕ) → parent_at net.tree.parents child ≡ Some parent → OnPath child → OnPath parent)
    (links : (child parent : ℕ) → OnPath child → parent_at net.tree.parents child ≡ Some parent
    → LawInto SharperLinkLaw net child (received parent) (received child)) where
  -- what each link and each opening add to the strays and to the garbage
  abbrev own_strays : ℕ → ℕ
  own_strays child = capacity_into net child + hold_at net.tree.parents net.openings.hold child

  abbrev own_garbage : ℕ → List ℕ
  own_garbage child = opening_at net.openings.lists child ++ garbage_into net child

  -- what the link into a child and the child's opening add to the bounds of the parent
  added : (child parent strays without peak : ℕ) (garbage : List ℕ) → OnPath child → parent_at net.tree.parents child ≡ Some parent
      → SharperTreeLaw strays without peak garbage net.published (received parent)
      → SharperTreeLaw (own_strays child + strays) (capacity_into net child + 1 + without)
      (max peak (without + (2 * capacity_into net child + 1))) (own_garbage child ++ garbage) net.published (received child)
  added child parent strays without peak garbage on is_child above =
      let (delivered, parts, link) = links child parent on is_child in
      let (offered, acked, begins, law) = link in
      let own : List ℕ = opening_at net.openings.lists child in
      let capacity : ℕ = capacity_into net child in
      let after : ℕ = max peak (without + (2 * capacity + 1)) in
      let short = (openings_fit net.tree.parents net.openings fit).short child in
      let turned : without + (capacity + 1) ≡ capacity + 1 + without = omega arith in
      let all : SharperTreeLaw (strays + capacity + length own) (without + (capacity + 1)) after
      (own ++ (garbage_into net child ++ garbage)) net.published (own ++ delivered) =
      sharper_past_opening (strays + capacity) (without + (capacity + 1)) after own (garbage_into net child ++ garbage) net.published
      delivered
      (sharper_below capacity strays acked (garbage_into net child) garbage net.published (received parent) offered delivered begins
      without peak above law) in
      rw (parts, append_assoc)
      (sharper_larger (strays + capacity + length own) (own_strays child + strays) (capacity + 1 + without) after after
      (own ++ (garbage_into net child ++ garbage)) net.published (own ++ delivered) (omega (arith, short)) (omega arith)
      (subst (λ (n : ℕ). SharperTreeLaw (strays + capacity + length own) n after
      (own ++ (garbage_into net child ++ garbage)) net.published (own ++ delivered)) turned all))

  -- each node on the path obeys the sharper law
  nodes_on_path : (node : ℕ) → node < length net.tree.parents → OnPath node → SharperTreeLawAtNode net received node
  nodes_on_path node is_node on =
      let parents = net.tree.parents in
      rw (← sum_above-add parents (capacity_into net) (hold_at parents net.openings.hold) (depth_of parents node) node)
      (each_obeys net.tree.parents tree net.published received at_root OnPath up own_strays (capacity_into net) own_garbage added node is_node on)

-- so each node obeys it, where each link obeys the sharper link law
pub sharper_nodes : (net : Network) → IsRooted net.tree.parents → (received : ℕ → List ℕ)
    → received (root_of net.tree.parents) ≡ net.published → FitTree net.tree.parents net.openings
    → ((child parent : ℕ) → parent_at net.tree.parents child ≡ Some parent
    → LawInto SharperLinkLaw net child (received parent) (received child))
    → SharperTreeLawAtNodes net received
sharper_nodes net tree received at_root fit links node is_node =
    nodes_on_path net tree received at_root fit (λ _. Unit {0}) (λ child parent is_child on. tt) (λ child parent on is_child. links child parent is_child)
    node is_node tt

-- and a node alone does, where each link on its path obeys it
pub sharper_node : (net : Network) → IsRooted net.tree.parents → (received : ℕ → List ℕ)
    → received (root_of net.tree.parents) ≡ net.published → FitTree net.tree.parents net.openings
    → (node : ℕ) → node < length net.tree.parents
    → ((steps child parent : ℕ) → ancestor net.tree.parents steps node ≡ Some child → parent_at net.tree.parents child ≡ Some parent
    → LawInto SharperLinkLaw net child (received parent) (received child))
    → SharperTreeLawAtNode net received node
sharper_node net tree received at_root fit node is_node links =
    nodes_on_path net tree received at_root fit (λ w. (steps : ℕ) × (ancestor net.tree.parents steps node ≡ Some w))
    (λ child parent is_child (steps, leads). (suc steps, one_step_further net.tree.parents steps node child parent leads is_child))
    (λ child parent (steps, leads) is_child. links steps child parent leads is_child) node is_node (0, refl)

-- ---- the sharper bounds beside the others

-- equal numbers beside each node have equal sums
same_of : (f g : ℕ → ℕ) (up : Option ℕ) → ((w : ℕ) → f w ≡ g w) → option_map_or f up 0 ≡ option_map_or g up 0
same_of f g None same = refl
same_of f g (Some above) same = same above

sum_above-same : (parents : List (Option ℕ)) (f g : ℕ → ℕ) (count node : ℕ) → ((w : ℕ) → f w ≡ g w)
    → sum_above parents f count node ≡ sum_above parents g count node
sum_above-same parents f g zero node same = refl
sum_above-same parents f g (suc count) node same =
    omega (
      arith,
      same node,
      same_of (sum_above parents f count) (sum_above parents g count) (parent_at parents node)
          (λ w. sum_above-same parents f g count w same),
    )

-- no larger numbers have no larger sums
no_more_of : (f g : ℕ → ℕ) (up : Option ℕ) → ((w : ℕ) → f w ≤ g w) → option_map_or f up 0 ≤ option_map_or g up 0
no_more_of f g None less = omega arith
no_more_of f g (Some above) less = less above

sum_above-no_more : (parents : List (Option ℕ)) (f g : ℕ → ℕ) (count node : ℕ) → ((w : ℕ) → f w ≤ g w)
    → sum_above parents f count node ≤ sum_above parents g count node
sum_above-no_more parents f g zero node less = omega arith
sum_above-no_more parents f g (suc count) node less =
    omega (
      arith,
      less node,
      no_more_of (sum_above parents f count) (sum_above parents g count) (parent_at parents node)
          (λ w. sum_above-no_more parents f g count w less),
    )

-- c + 1 for each link and the strays that it may bring are 2c + 1
pub without_and_strays : (net : Network) (node : ℕ)
    → missing_without_strays net node + strays_bound net node ≡ most_missing net node
without_and_strays net node =
    let depth : ℕ = depth_of net.tree.parents node in
    sym (sum_above-add net.tree.parents (λ w. capacity_into net w + 1) (capacity_into net) depth node)
    ∙ sum_above-same net.tree.parents (λ w. capacity_into net w + 1 + capacity_into net w) (λ w. 2 * capacity_into net w + 1) depth node
    (λ w. omega arith)

-- one link that adds 2c + 1 adds no more than if all do
pub peak_no_more : (parents : List (Option ℕ)) (capacity : ℕ → ℕ) (count node : ℕ)
    → peak_above parents capacity count node ≤ sum_above parents (λ w. 2 * capacity w + 1) count node
peak_no_more parents capacity zero node = omega arith
peak_no_more parents capacity (suc count) node =
    let whole = λ (w : ℕ). 2 * capacity w + 1 in
    let up = parent_at parents node in
    let peaks = no_more_of (peak_above parents capacity count) (sum_above parents whole count) up (peak_no_more parents capacity count) in
    let sums = no_more_of (sum_above parents (λ w. capacity w + 1) count) (sum_above parents whole count) up
    (λ w. sum_above-no_more parents (λ v. capacity v + 1) whole count w (λ v. omega arith)) in
    max-le (omega arith) (omega arith)

pub fewest_no_more : (net : Network) (node : ℕ) → fewest_missing net node ≤ most_missing net node
fewest_no_more net node = peak_no_more net.tree.parents (capacity_into net) (depth_of net.tree.parents node) node

-- where each link has this capacity, a node at depth d misses at most d(c + 1) + c
module _ (net : Network) (capacity : ℕ) (tree : IsRooted net.tree.parents) (one_each : length net.links ≡ length (links_of net.tree.parents))
    (alike : All (λ link. link.params.capacity ≡ capacity) net.links) where
  record PeakAt (depth node : ℕ) : Type 0 where
    sum : sum_above net.tree.parents (λ w. capacity_into net w + 1) depth node ≡ depth * (capacity + 1)
    no_more : peak_above net.tree.parents (capacity_into net) depth node ≤ depth * (capacity + 1) + capacity
    is : 1 ≤ depth → peak_above net.tree.parents (capacity_into net) depth node ≡ depth * (capacity + 1) + capacity

  peak_step : (depth child parent : ℕ) → parent_at net.tree.parents child ≡ Some parent → PeakAt depth parent → PeakAt (suc depth) child
  peak_step depth child parent is_child above =
      let own : capacity_into net child ≡ capacity = its_capacity net capacity tree one_each alike child parent is_child in
      let product = suc-mul depth (capacity + 1) in
      let peak : ℕ = peak_above net.tree.parents (capacity_into net) depth parent in
      let sum = above.sum in
      let no_more = above.no_more in
      let grown : max peak (sum_above net.tree.parents (λ w. capacity_into net w + 1) depth parent + (2 * capacity_into net child + 1))
      ≡ suc depth * (capacity + 1) + capacity = max-eq_right (omega arith) ∙ omega arith in
      record {
        sum = rw is_child (omega arith);
        no_more = rw is_child (omega arith);
        is = λ _. rw is_child grown;
      }

  pub fewest-same : (node : ℕ) → node < length net.tree.parents → 1 ≤ depth_of net.tree.parents node
      → fewest_missing net node ≡ depth_of net.tree.parents node * (capacity + 1) + capacity
  fewest-same node is_node deep =
      (holds_at_every_depth net.tree.parents tree PeakAt
      (record {
        sum = sym (zero-mul (capacity + 1));
        no_more = omega arith;
        is = λ deep_root. absurd (omega arith);
      })
      peak_step node is_node).is deep
