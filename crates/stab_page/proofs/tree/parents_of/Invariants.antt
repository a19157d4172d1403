use Rattle.std.proofs.Common.{◌≡◌, ◌++◌, length, map, drop}
use Rattle.stab_page.specs.TreeCodes.{parent_of}
use Rattle.stab_page.proofs.tree.parents_of.Given as goal

-- the parents so far, and then those that are left, are all of them
abbrev pub invariant-loop-code : goal.invariant-loop-code
invariant-loop-code l =
    (l.parents.items ++ map parent_of (drop l.code-index l.codes) ≡ map parent_of l.codes)
    × (length l.parents.items ≡ l.code-index)
