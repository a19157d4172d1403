use Rattle.std.specs.List.{list_all}
use Rattle.std.proofs.Common.{◌≡◌, ◌++◌, length, map, drop, IsTrue}
use Rattle.stab_tree.specs.ByChild.{by_child}
use Rattle.stab_page.specs.TracedTree.{traced_link}
use Rattle.stab_page.specs.TreeCodes.{fits, setup_of}
use Rattle.stab_page.proofs.tree.links_by_child.Given as goal

-- the links so far, and then those of the nodes and links that are left, are all of them; what is
-- left fits
abbrev pub invariant-loop-parent : goal.invariant-loop-parent
invariant-loop-parent l =
    (l.links.items ++ by_child (drop l.parent-index l.parents) (map traced_link (map setup_of l.left))
    ≡ by_child l.parents (map traced_link (map setup_of l.codes)))
    × (length l.links.items ≡ l.parent-index)
    × IsTrue (list_all fits l.left)
