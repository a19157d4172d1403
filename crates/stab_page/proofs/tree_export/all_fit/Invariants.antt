use Rattle.std.specs.List.{list_all}
use Rattle.std.proofs.Common.{◌≡◌, drop}
use Rattle.stab_page.specs.TreeCodes.{fits}
use Rattle.stab_page.proofs.tree_export.all_fit.Given as goal

-- those so far fit
abbrev pub invariant-loop-link : goal.invariant-loop-link
invariant-loop-link l = list_all fits (drop l.link-index l.links) ≡ list_all fits l.links
