use Rattle.std.proofs.Common.{string_bytes}
use Rattle.rignolda_make.specs.DrawnTexts.{frame_piece}
use Rattle.rignolda_make.proofs.Drawing.{HasDrawn}
use Rattle.rignolda_make.proofs.starts.push_frames.Given as goal

abbrev pub invariant-loop-place : goal.invariant-loop-place
invariant-loop-place g l = HasDrawn (frame_piece l.labels) l.place (string_bytes l.initial.text) (string_bytes l.text) (g.R.Rng.stream l.initial.rng) (g.R.Rng.stream l.rng)
