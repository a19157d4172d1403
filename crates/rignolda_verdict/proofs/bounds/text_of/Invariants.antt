use Rattle.std.proofs.Common.{◌≡◌, string_bytes}
use Rattle.std.specs.List.{flat_map, range_with_len}
use Rattle.rignolda_verdict.specs.BoundsTexts.{node_lines}
use Rattle.rignolda_verdict.proofs.bounds.text_of.Given as goal

-- the lines of the nodes so far
abbrev pub invariant-loop-place : goal.invariant-loop-place
invariant-loop-place l = string_bytes l.text ≡ flat_map (node_lines l.judge) (range_with_len 0 l.place)
