use Rattle.std.proofs.Common.{◌≡◌, ◌++◌, string_bytes}
use Rattle.rignolda_make.specs.DrawnTexts.{link_text, texts}
use Rattle.rignolda_make.proofs.parts.push_links.Given as goal

abbrev pub invariant-loop-place : goal.invariant-loop-place
invariant-loop-place l = string_bytes l.text ≡ string_bytes l.initial.text ++ texts (link_text l.links) l.place
