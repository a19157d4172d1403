use Rattle.std.proofs.Common.{◌≡◌, ◌≤◌, Some, take}
use Rattle.serde_json.specs.Data.{items_depth}
use Rattle.serde_json.specs.View.{items_view}
use Rattle.stab_json.specs.Values.{entries}
use Rattle.rignolda_make.proofs.values.values_of.Given as goal

-- the values so far mean the first of the elements
abbrev pub invariant-loop-element : goal.invariant-loop-element
invariant-loop-element g l =
    (entries g.E.Element.meaning (items_view l.values.items) ≡ Some (take l.element-index l.elements)) × (items_depth (items_view l.values.items) ≤ 1)
