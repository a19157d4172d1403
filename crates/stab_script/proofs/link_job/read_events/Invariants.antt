use Rattle.std.proofs.Common.{◌≡◌, length}
use Rattle.std.specs.Vec.Iter.{into_iter_items, into_iter_len}
use Rattle.serde_json.specs.View.{items_view}
use Rattle.stab_json.specs.Values.{entries}
use Rattle.stab_script.specs.Events.{event}
use Rattle.stab_json.proofs.ForCallers.{read_before}
use Rattle.stab_script.proofs.link_job.read_events.Given as goal

-- what was read, and then what is left, gives the whole list
abbrev pub invariant-loop-value : goal.invariant-loop-value
invariant-loop-value l =
    (entries event (items_view l.fn.values.items)
    ≡ read_before l.events (entries event (items_view (into_iter_items l.value-iterator))))
    × (into_iter_len l.value-iterator ≡ length (into_iter_items l.value-iterator))
