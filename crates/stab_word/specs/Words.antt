-- What the two words of a link of capacity one show, and the numbers that code it.
-- Example: The frame with label 2 and item 99 has the number 2^48 + 2 * 2^32 + 99 =
-- 281483566645347. The words of the worst start are this number and 2^16 + 0 = 65536, and they show
-- its initial state. Frames have numbers from 2^48 on, and the largest, of label 65535 and item
-- 4294967295, is 2^49 - 1; so none is the number of the close.
-- Source: this project's own.
use Rattle.std.specs.Prelude.{◌≡◌, ℕ, ◌+◌, ◌*◌, ◌^◌, ◌<◌, Bool, true, false, List, [], ◌∷◌}
use Rattle.stab_frames.specs.declared.frame.Frame.{Frame}
use Rattle.stab_core.specs.LinkState.{LinkState}
use Rattle.stab_word.specs.declared.words.FrameWord.{FrameWord}
use Rattle.stab_word.specs.declared.words.FrameWord.TheVariants as frame
use Rattle.stab_word.specs.declared.words.AckWord.{AckWord}
use Rattle.stab_word.specs.declared.words.AckWord.TheVariants as ack

-- the number of each frame word: a frame has its label above its item, below a mark of its own
abbrev pub frame_code : FrameWord → ℕ
frame_code frame.Empty = 0
frame_code (frame.Full f) = 2 ^ 48 + f.label * 2 ^ 32 + f.item
frame_code frame.Closed = 2 ^ 49

-- the number of each acknowledgement word
abbrev pub ack_code : AckWord → ℕ
ack_code ack.Empty = 0
ack_code (ack.Full label) = 2 ^ 16 + label

-- the label and the item are within the widths of their types
abbrev pub FrameFits : FrameWord → Type 0
FrameFits frame.Empty = Unit {0}
FrameFits (frame.Full f) = (f.label < 2 ^ 16) × (f.item < 2 ^ 32)
FrameFits frame.Closed = Unit {0}

abbrev pub AckFits : AckWord → Type 0
AckFits ack.Empty = Unit {0}
AckFits (ack.Full label) = label < 2 ^ 16

-- this number is the word's code
abbrev pub IsFrameCode : ℕ → FrameWord → Type 0
IsFrameCode n word = FrameFits word × (n ≡ frame_code word)

abbrev pub IsAckCode : ℕ → AckWord → Type 0
IsAckCode n word = AckFits word × (n ≡ ack_code word)

-- the frames that a frame word shows, and whether it shows the close
abbrev pub frames_of : FrameWord → List Frame
frames_of frame.Empty = []
frames_of (frame.Full f) = f ∷ []
frames_of frame.Closed = []

abbrev pub is_closed_word : FrameWord → Bool
is_closed_word frame.Empty = false
is_closed_word (frame.Full f) = false
is_closed_word frame.Closed = true

-- the acknowledgements that an acknowledgement word shows
abbrev pub acks_of : AckWord → List ℕ
acks_of ack.Empty = []
acks_of (ack.Full label) = label ∷ []

-- the frame word shows the frames of this state and whether it is closed
abbrev pub ShowsFrames : ℕ → LinkState → Type 0
ShowsFrames n s =
    (word : FrameWord) × IsFrameCode n word
    × (s.frames ≡ frames_of word) × (s.closed ≡ is_closed_word word)

-- the acknowledgement word shows the acknowledgements of this state while it is open; after the
-- close it may be any code
abbrev pub ShowsAcks : ℕ → LinkState → Type 0
ShowsAcks n s =
    (word : AckWord) × IsAckCode n word × (s.closed ≡ false → s.acks ≡ acks_of word)

-- there are two words, and they show this state
abbrev pub WordsShow : List ℕ → LinkState → Type 0
WordsShow words s =
    (frame_word ack_word : ℕ) × (words ≡ frame_word ∷ ack_word ∷ [])
    × ShowsFrames frame_word s × ShowsAcks ack_word s
