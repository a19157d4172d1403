use Rattle.std.proofs.Common.{◌≡◌, ◌++◌, All, length, map, drop}
use Rattle.stab_page.specs.TracedTree.{HasAtMost, traced_tree_replay, tree_effects}
use Rattle.stab_page.specs.TreeCodes.{tree_event_of}
use Rattle.stab_page.proofs.tree_run.run_tree.Given as goal

-- the replay of the remaining events, from the state so far, is that of all the events, and their
-- effects come after those so far; no list has grown by more than one entry for each event
abbrev pub invariant-loop-code : goal.invariant-loop-code
invariant-loop-code l =
    (traced_tree_replay l.tree (map tree_event_of (drop l.code-index l.events))
    ≡ traced_tree_replay l.initial.tree (map tree_event_of l.events))
    × (l.had.items ++ tree_effects l.tree (map tree_event_of (drop l.code-index l.events))
    ≡ tree_effects l.initial.tree (map tree_event_of l.events))
    × (length l.had.items ≡ l.code-index)
    × (l.tree.published ≡ l.initial.tree.published)
    × All (HasAtMost l.code-index) l.tree.links
