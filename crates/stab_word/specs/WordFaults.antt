-- Why a link of two words is refused: the first check that fails, or memory where none does.
-- Example: Capacity 2 and a start with five frames: the capacity is not 1, so `CapacityNotOne`, and
-- of the start nothing is said.
-- Source: this project's profile.
use Rattle.std.specs.Prelude.{◌≡◌, ◌≢◌}
use Rattle.stab_core.specs.declared.start.Start.{Start}
use Rattle.stab_core.specs.declared.start.StartFault.TheVariants as start_fault
use Rattle.stab_core.specs.Link.{IsReason}
use Rattle.stab_core.specs.Replay.{IsLawful}
use Rattle.stab_frames.specs.Parameters.{Parameters}
use Rattle.stab_word.specs.declared.fault.WordFault.{WordFault}
use Rattle.stab_word.specs.declared.fault.WordFault.TheVariants as word_fault

-- Refused memory has one name here: a start is never the reason where memory is.
abbrev pub IsWordReason : Parameters → Start → WordFault → Type 0
IsWordReason p start word_fault.CapacityNotOne = p.capacity ≢ 1
IsWordReason p start (word_fault.Start start_fault.TooManyFrames) =
    (p.capacity ≡ 1) × IsReason p start start_fault.TooManyFrames
IsWordReason p start (word_fault.Start start_fault.TooManyAcks) =
    (p.capacity ≡ 1) × IsReason p start start_fault.TooManyAcks
IsWordReason p start (word_fault.Start start_fault.Memory) = ⊥
IsWordReason p start word_fault.Memory = (p.capacity ≡ 1) × IsLawful p start
