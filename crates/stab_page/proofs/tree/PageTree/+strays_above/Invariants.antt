use Rattle.stab_page.proofs.tree.PageTree.+strays_above.Given as goal

-- fewer nodes are looked up
abbrev pub decreases-strays_above : goal.decreases-strays_above
decreases-strays_above l = l.count
