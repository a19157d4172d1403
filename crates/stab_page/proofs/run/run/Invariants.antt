use Rattle.std.proofs.Common.{◌≡◌, ◌++◌, ◌≤◌, length, map, drop}
use Rattle.stab_core.specs.Trace.{traced_replay}
use Rattle.stab_page.specs.Codes.{event_of}
use Rattle.stab_page.specs.Effects.{effects}
use Rattle.stab_page.proofs.run.run.Given as goal

-- the replay of the remaining events, from the state so far, is that of all the events, and their
-- effects come after those so far; no list has grown by more than one entry for each event
abbrev pub invariant-loop-code : goal.invariant-loop-code
invariant-loop-code l =
    (l.link.params ≡ l.initial.link.params)
    × (traced_replay l.link.params l.link.traced (map event_of (drop l.code-index l.events))
    ≡ traced_replay l.initial.link.params l.initial.link.traced (map event_of l.events))
    × (l.had.items ++ effects l.link.params l.link.traced (map event_of (drop l.code-index l.events))
    ≡ effects l.initial.link.params l.initial.link.traced (map event_of l.events))
    × (length l.had.items ≡ l.code-index)
    × (length l.link.traced.state.offered ≤ l.code-index)
    × (length l.link.traced.state.delivered ≤ l.code-index)
