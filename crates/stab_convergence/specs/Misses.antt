-- That as many published items can be missing at a node as its bound says, and so no smaller bound
-- holds there.
-- Example: A root, a node a and its child b, with two links of capacity 1. The bound of b is
-- (1 + 1) + (2 * 1 + 1) = 5, so the root publishes 0 to 5. The link into a can begin so that it
-- loses 0 and 1, and that into b so that it loses 2, 3 and 4 and delivers a stray, say 6. Then b
-- has 6, 5: the five items before 5 are missing.
-- Source: this project's own.
use Rattle.std.specs.Prelude.{◌≡◌, ℕ, ◌+◌, ◌<◌, ◌≤◌, List, [], ◌∷◌, ◌++◌, length, map, replicate}
use Rattle.std.specs.Prelude.{All}
use Rattle.std.specs.List.{range_with_len}
use Rattle.stab_core.specs.LinkSetup.{LinkSetup}
use Rattle.stab_treecore.specs.declared.event.TreeEvent.{TreeEvent}
use Rattle.stab_treecore.specs.Network.{IsNetwork, Network}
use Rattle.stab_treecore.specs.NodeLaws.{path_garbage}
use Rattle.stab_treecore.specs.TreeLaw.{TreeLaw}
use Rattle.stab_treecore.specs.TreeReplay.{initial_tree, tree_replay}
use Rattle.stab_treecore.specs.WholeTree.{received}

-- the network with the same nodes and these links, whose nodes begin with nothing, and whose root
-- publishes the items 0, 1, 2 and so on up to the last one
abbrev pub counting : Network → List LinkSetup → ℕ → Network
counting net links last =
    record {
      tree = net.tree;
      links = links;
      openings = record { hold = 0; lists = replicate (length net.tree.parents) [] };
      published = range_with_len 0 (last + 1);
    }

-- Links with the same parameters and other starts, and a schedule, after which a node has `strays`
-- strays and then one published item alone, which has `missing` items before it: all of these are
-- missing.
pub record Misses (net : Network) (node missing strays : ℕ) : Type 0 where
  pub links : List LinkSetup
  pub params : map (λ link. link.params) links ≡ map (λ link. link.params) net.links
  pub is_network : IsNetwork (counting net links missing)
  pub schedule : List TreeEvent
  pub its_strays : List ℕ
  pub so_many : length its_strays ≡ strays
  pub unpublished : All (λ item. missing < item) its_strays
  pub has : received (tree_replay (initial_tree (counting net links missing)) schedule) node
      ≡ its_strays ++ missing ∷ []
  -- so a smaller bound of the tree law does not hold of its list
  pub least : (most_strays bound : ℕ)
      → TreeLaw most_strays bound (path_garbage (counting net links missing) node)
      (counting net links missing).published
      (received (tree_replay (initial_tree (counting net links missing)) schedule) node)
      → missing ≤ bound
