use Rattle.std.proofs.Common.{◌≡◌, drop}
use Rattle.serde_json.specs.View.{items_view}
use Rattle.stab_json.specs.Values.{entries}
use Rattle.stab_json.proofs.ForCallers.{read_before}
use Rattle.stab_json.proofs.list.read_entries.Given as goal

-- what was read, and then what is left, gives the whole list
abbrev pub invariant-loop-value : goal.invariant-loop-value
invariant-loop-value g l =
    entries g.E.Entry.meaning (items_view l.values)
    ≡ read_before l.read.items (entries g.E.Entry.meaning (items_view (drop l.value-index l.values)))
