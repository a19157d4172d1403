-- The texts that no link has; and which labels and frames are made of the numbers of a line.
-- Example: The line `frames: 2=99 0=7` shows the numbers 2, 99, 0 and 7: two frames, one with the
-- label 2 and the item 99, one with the label 0 and the item 7. A text whose third line is
-- `acked: 07` is that of no link, since 7 is printed without a 0 before it.
-- Source: this project's own; numbers are in plain decimal, as std prints them.
use Rattle.std.specs.Prelude.{◌≢◌, ◌<◌, ◌^◌, ℕ, List, [], ◌∷◌, All, Option, Some, None}
use Rattle.std.specs.Prelude.{nat_lt, if◌then◌else◌}
use Rattle.stab_frames.specs.declared.frame.Frame.{Frame}
use Rattle.stab_core.specs.LinkState.{LinkState}
use Rattle.stab_core.specs.Texts.{link_text}
use Rattle.stab_report.specs.Lines.{AreItems}

-- each is a label: a number below 2 ^ 16
abbrev pub AreLabels : List ℕ → Type 0
AreLabels labels = All (λ label. label < 2 ^ 16) labels

-- each has a label, and an item, which is a number below 2 ^ 32
abbrev pub AreFrames : List Frame → Type 0
AreFrames frames = All (λ frame. (frame.label < 2 ^ 16) × (frame.item < 2 ^ 32)) frames

-- the numbers of a state are such as a link has
pub record IsPrintable (s : LinkState) : Type 0 where
  pub delivered : AreItems s.delivered
  pub offered : AreItems s.offered
  pub acked : s.acked < 2 ^ 64
  pub send_label : s.send_label < 2 ^ 16
  pub recv_label : s.recv_label < 2 ^ 16
  pub frames : AreFrames s.frames
  pub acks : AreLabels s.acks

-- no link with such numbers has this text
abbrev pub IsNoLink : List ℕ → Type 0
IsNoLink text = (s : LinkState) → IsPrintable s → text ≢ link_text s

-- the numbers that a frame shows
abbrev pub frame_numbers : Frame → List ℕ
frame_numbers frame = frame.label ∷ frame.item ∷ []

-- the label that a number is, and 0 where it is none
abbrev pub label_or_zero : ℕ → ℕ
label_or_zero n = if nat_lt n (2 ^ 16) then n else 0

-- the frames that are made of numbers, where this label waits for its item
abbrev pub frames_after : Option ℕ → List ℕ → List Frame
frames_after waiting [] = []
frames_after None (n ∷ numbers) = frames_after (Some n) numbers
frames_after (Some label) (n ∷ numbers) =
    record { label = label_or_zero label; item = n } ∷ frames_after None numbers
