-- The words in which a frame and an acknowledgement can lie in a store of numbers, one word in each
-- of two places. A frame has its label above its item, below a mark of its own, and so has an
-- acknowledgement its label. A word that is no code shows nothing.
-- Example: The frame with label 2 and item 99 has the word 2^48 + 2 * 2^32 + 99 = 281483566645347,
-- and the acknowledgement of label 3 has 2^16 + 3 = 65539.
-- Source: this project's own.
use Rattle.std.specs.Prelude.{ℕ, ◌+◌, ◌*◌, ◌^◌, ◌/◌, ◌%◌, ◌&&◌, not, nat_lt}
use Rattle.std.specs.Prelude.{if◌then◌else◌, Option, Some, None}
use Rattle.stab_frames.specs.declared.frame.Frame.{Frame}

abbrev pub frame_code : Frame → ℕ
frame_code f = 2 ^ 48 + f.label * 2 ^ 32 + f.item

abbrev pub label_code : ℕ → ℕ
label_code label = 2 ^ 16 + label

-- the frame that a word shows, if it shows one
abbrev pub frame_shown : ℕ → Option Frame
frame_shown word =
    if not (nat_lt word (2 ^ 48)) && nat_lt word (2 ^ 49)
    then Some (record { label = word / 2 ^ 32 % 2 ^ 16; item = word % 2 ^ 32 })
    else None

-- the label of the acknowledgement that a word shows, if it shows one
abbrev pub label_shown : ℕ → Option ℕ
label_shown word =
    if not (nat_lt word (2 ^ 16)) && nat_lt word (2 ^ 17) then Some (word % 2 ^ 16) else None
