use Rattle.std.proofs.Common.{◌≡◌, ◌++◌, take, string_bytes}
use Rattle.std.specs.List.{flat_map}
use Rattle.stab_core.specs.Texts.{number_entry}
use Rattle.rignolda_verdict.proofs.link_text.push_labels_line.Given as goal

-- the entries so far come after what was there
abbrev pub invariant-loop-label : goal.invariant-loop-label
invariant-loop-label l = string_bytes l.text ≡ string_bytes l.initial.text ++ flat_map number_entry (take l.label-index l.labels)
