use Rattle.std.proofs.Common.{◌≡◌, ◌++◌, take, string_bytes}
use Rattle.std.specs.List.{flat_map}
use Rattle.stab_core.specs.Texts.{number_entry}
use Rattle.rignolda_scenario.proofs.text.push_items.Given as goal

-- the items so far are there
abbrev pub invariant-loop-item : goal.invariant-loop-item
invariant-loop-item l = string_bytes l.text ≡ string_bytes l.fn.text ++ flat_map number_entry (take l.item-index l.items)
