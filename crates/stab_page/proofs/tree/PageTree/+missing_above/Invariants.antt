use Rattle.stab_page.proofs.tree.PageTree.+missing_above.Given as goal

-- fewer nodes are looked up
abbrev pub decreases-missing_above : goal.decreases-missing_above
decreases-missing_above l = l.count
