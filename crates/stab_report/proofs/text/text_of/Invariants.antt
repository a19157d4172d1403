use Rattle.std.proofs.Common.{◌≡◌, string_bytes}
use Rattle.std.specs.List.{flat_map, range_with_len}
use Rattle.stab_report.specs.Texts.{lines_at}
use Rattle.stab_report.proofs.text.text_of.Given as goal

-- the lines of the nodes so far
abbrev pub invariant-loop-place : goal.invariant-loop-place
invariant-loop-place g l =
    string_bytes l.text ≡ flat_map (lines_at l.tree (g.R.Entries.report l.report) l.fn.says_so) (range_with_len 0 l.place)
