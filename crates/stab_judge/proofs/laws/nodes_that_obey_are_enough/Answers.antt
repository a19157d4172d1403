use Rattle.std.proofs.Common.{◌≡◌, ℕ, Some}
use Rattle.stab_tree.specs.Nodes.{parent_at}
use Rattle.stab_report.specs.EndedNodes.{AllHandOn}
use Rattle.stab_judge.specs.Obeys.{LinkObeys}
use Rattle.stab_judge.proofs.Enough.{as_counted, child_obeys, root_obeys, tree_law}
use Rattle.stab_judge.proofs.laws.nodes_that_obey_are_enough.Goals as goal

pub returns : goal.returns
returns c net r tree fit entries nodes =
    let root = root_obeys net r tree nodes in
    let links : (child parent : ℕ) → parent_at net.tree.parents child ≡ Some parent → LinkObeys net r child parent =
    λ child parent is_child. (child_obeys net r tree nodes child parent is_child).0 in
    let handed : AllHandOn net.tree.parents r =
    λ child parent is_child. (child_obeys net r tree nodes child parent is_child).1 in record {
      entries = entries;
      root = root;
      links = links;
      handed_on = handed;
      tree_law = tree_law net r tree fit root links c.tree_law_along_a_path.ensures.sharper;
      complete =
          c.nothing_is_missing_below_ended_nodes.ensures net r tree fit root.published
          (λ child parent is_child. as_counted net r child parent (links child parent is_child)) handed;
    }
