use Rattle.stab_page.proofs.tree.PageTree.+held_above.Given as goal

-- fewer nodes are looked up
abbrev pub decreases-held_above : goal.decreases-held_above
decreases-held_above l = l.count
