use Rattle.stab_page.proofs.tree.PageTree.+origins_above.Given as goal

-- fewer nodes are looked up
abbrev pub decreases-origins_above : goal.decreases-origins_above
decreases-origins_above l = l.count
