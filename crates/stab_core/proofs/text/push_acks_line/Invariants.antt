use Rattle.std.proofs.Common.{◌≡◌, ◌++◌, take, string_bytes}
use Rattle.std.specs.List.{flat_map}
use Rattle.stab_core.specs.Texts.{number_entry}
use Rattle.stab_core.proofs.text.push_acks_line.Given as goal

-- the entries so far come after what was there
abbrev pub invariant-loop-place : goal.invariant-loop-place
invariant-loop-place l = string_bytes l.text ≡ string_bytes l.initial.text ++ flat_map number_entry (take l.place l.link.state.acks)
