-- The bounds of a node, as numbers: what the laws of the network allow it.
-- Source: this project's own.
use Rattle.std.specs.Prelude.{◌≡◌, ℕ}
use Rattle.stab_tree.specs.Steps.{depth_of}
use Rattle.stab_treecore.specs.Network.{Network}
use Rattle.stab_treecore.specs.NodeLaws.{held_bound, most_missing, strays_bound}
use Rattle.stab_judge.specs.declared.bounds.Bounds.{Bounds}

-- the depth of the node, and its sums C, E and M
pub record AreBoundsAt (net : Network) (node : ℕ) (b : Bounds) : Type 0 where
  pub depth : b.depth ≡ depth_of net.tree.parents node
  pub link_strays : b.link_strays ≡ strays_bound net node
  pub opening_strays : b.opening_strays ≡ held_bound net node
  pub missing : b.missing ≡ most_missing net node
