-- A tree: each node but one root has one parent, and reaches the root by parent steps. The laws ask
-- this of the parents alone, however many nodes there are and whatever they are called; a tree that
-- is read has names as well, and no more nodes than readers take.
-- Source: this project's profile.
use Rattle.std.specs.Prelude.{◌≡◌, ◌≢◌, ℕ, ◌<◌, ◌≤◌, List, length, Option, Some, None, AllPairs}
use Rattle.std.specs.Prelude.{IsTrue}
use Rattle.std.specs.List.{list_all}
use Rattle.stab_tree.specs.Name.{is_name}
use Rattle.stab_tree.specs.Nodes.{Nodes, most_nodes, parent_at, root_of}
use Rattle.stab_tree.specs.Steps.{Reaches}

pub record IsRooted (parents : List (Option ℕ)) : Type 0 where
  -- there is a node, and each parent is one of the nodes
  pub some_node : 1 ≤ length parents
  pub known_parents : (w p : ℕ) → parent_at parents w ≡ Some p → p < length parents
  -- one node alone has no parent, and each node reaches it
  pub root_is_node : root_of parents < length parents
  pub root_has_none : parent_at parents (root_of parents) ≡ None
  pub one_root : (w : ℕ) → w < length parents → parent_at parents w ≡ None → w ≡ root_of parents
  pub reaches_root : (w : ℕ) → w < length parents → Reaches parents w (root_of parents)

pub record IsTree (t : Nodes) : Type 0 where
  pub rooted : IsRooted t.parents
  -- each node has a name of its own
  pub named : length t.names ≡ length t.parents
  pub lawful_names : IsTrue (list_all is_name t.names)
  pub own_names : AllPairs (λ s u. s ≢ u) t.names
  -- there are at most 64 nodes
  pub few_nodes : length t.parents ≤ most_nodes
