use Rattle.std.proofs.Common.{◌≡◌, ◌++◌, take, string_bytes}
use Rattle.std.specs.List.{flat_map}
use Rattle.stab_core.specs.Texts.{frame_entry}
use Rattle.rignolda_verdict.proofs.link_text.push_frames_line.Given as goal

-- the entries so far come after what was there
abbrev pub invariant-loop-frame : goal.invariant-loop-frame
invariant-loop-frame l = string_bytes l.text ≡ string_bytes l.initial.text ++ flat_map frame_entry (take l.frame-index l.frames)
