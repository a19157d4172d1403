use Rattle.std.proofs.Common.{◌≡◌, ◌++◌, string_bytes}
use Rattle.rignolda_make.specs.DrawnTexts.{node_text, texts}
use Rattle.rignolda_make.proofs.parts.push_tree.Given as goal

abbrev pub invariant-loop-place : goal.invariant-loop-place
invariant-loop-place l = string_bytes l.text ≡ string_bytes l.initial.text ++ texts (node_text l.parents) l.place
