use Rattle.stab_page.proofs.tree.PageTree.+steps_below.Given as goal

-- the limit is less
abbrev pub decreases-steps_below : goal.decreases-steps_below
decreases-steps_below l = l.limit
