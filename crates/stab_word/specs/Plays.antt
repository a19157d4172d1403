-- What each kind of step tells the end that takes it: how its view changed, and what the word that
-- it found shows.
-- Source: this project's own.
use Rattle.std.specs.Prelude.{◌≡◌, ℕ, []}
use Rattle.atomic_table.specs.Table.{Me, Step}
use Rattle.stab_word.specs.Words.{IsAckCode, IsFrameCode}
use Rattle.stab_word.specs.Views.{sender_of, receiver_of, offered_to, after_ack, closed_by}
use Rattle.stab_word.specs.Views.{stored_by, answered_by, after_frame, after_look}
use Rattle.stab_word.specs.declared.words.FrameWord.{FrameWord}
use Rattle.stab_word.specs.declared.words.AckWord.{AckWord}
use Rattle.stab_word.specs.declared.view.View.{View}
use Rattle.stab_word.specs.declared.view.View.TheVariants.{Sending, Receiving}

-- a seat of a link of two words, which holds no slot
abbrev pub SeatView : Type 0
SeatView = Me (Unit {0}) View

-- the sender takes the item
abbrev pub OfferLoad : ℕ → Step (Unit {0}) → SeatView → ℕ → SeatView → Type 0
OfferLoad item st me n after = after ≡ (Sending (offered_to (sender_of me.0) item), [])

-- the sender stores its frame
abbrev pub FrameStore : Step (Unit {0}) → SeatView → ℕ → SeatView → Type 0
FrameStore st me n after = after ≡ (Sending (stored_by (sender_of me.0)), [])

-- the receiver stores the acknowledgement of its label
abbrev pub AckStore : Step (Unit {0}) → SeatView → ℕ → SeatView → Type 0
AckStore st me n after = after ≡ (Receiving (answered_by (receiver_of me.0)), [])

-- the sender sees the acknowledgement word
abbrev pub AckLoad : Step (Unit {0}) → SeatView → ℕ → SeatView → Type 0
AckLoad st me n after =
    (word : AckWord) × IsAckCode n word × (after ≡ (Sending (after_ack (sender_of me.0) word), []))

-- the receiver sees the frame word
abbrev pub FrameLoad : Step (Unit {0}) → SeatView → ℕ → SeatView → Type 0
FrameLoad st me n after =
    (word : FrameWord) × IsFrameCode n word
    × (after ≡ (Receiving (after_frame (receiver_of me.0) word), []))

-- the receiver looks at the frame word, and takes no frame
abbrev pub FrameLook : Step (Unit {0}) → SeatView → ℕ → SeatView → Type 0
FrameLook st me n after =
    (word : FrameWord) × IsFrameCode n word
    × (after ≡ (Receiving (after_look (receiver_of me.0) word), []))

-- the sender closes the link
abbrev pub CloseStore : Step (Unit {0}) → SeatView → ℕ → SeatView → Type 0
CloseStore st me n after = after ≡ (Sending (closed_by (sender_of me.0)), [])
