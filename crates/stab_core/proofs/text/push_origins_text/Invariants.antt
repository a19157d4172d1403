use Rattle.std.proofs.Common.{◌≡◌, ◌++◌, take, string_bytes}
use Rattle.std.specs.List.{flat_map}
use Rattle.stab_core.specs.Texts.{origin_entry}
use Rattle.stab_core.proofs.text.push_origins_text.Given as goal

-- the entries so far come after what was there
abbrev pub invariant-loop-origin : goal.invariant-loop-origin
invariant-loop-origin l = string_bytes l.text ≡ string_bytes l.initial.text ++ flat_map origin_entry (take l.origin-index l.origins)
