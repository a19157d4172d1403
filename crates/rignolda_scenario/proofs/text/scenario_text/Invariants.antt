use Rattle.std.proofs.Common.{◌≡◌, string_bytes}
use Rattle.std.specs.List.{flat_map, range_with_len}
use Rattle.rignolda_scenario.specs.Texts.{lines_of}
use Rattle.rignolda_scenario.proofs.text.scenario_text.Given as goal

-- the lines so far are those of the first nodes
abbrev pub invariant-nodes : goal.invariant-nodes
invariant-nodes l = string_bytes l.text ≡ flat_map (lines_of l.job l.fn.scenario.steps) (range_with_len 0 l.place)
