-- One exchange on a connection, in which nothing is lost: the sender's end is asked what to send,
-- its frame comes, the receiver's end answers, and the answer comes. Then the same of registers.
-- Source: this project's own.
use Rattle.std.specs.Prelude.{◌≡◌, ℕ, Bool, true, false, List, [], ◌∷◌, ◌++◌, map}
use Rattle.stab_line.specs.Registers.{RegisterAct, sets_frame, gets_frame, is_given_frame}
use Rattle.stab_line.specs.Registers.{sets_ack, gets_ack, is_given_ack}
use Rattle.stab_line.specs.Session.{session_on}
use Rattle.stab_line.specs.SessionLink.{SessionLink, LinkAct, ConnectionAct, item_offered}
use Rattle.stab_line.specs.SessionLink.{happens, unused}
use Rattle.stab_line.specs.SessionLink.{sender_makes, receiver_makes, sender_accepts}
use Rattle.stab_line.specs.SessionLink.{receiver_accepts, frame_sent, ack_sent, frame_comes}
use Rattle.stab_line.specs.SessionLink.{ack_comes}

-- neither end is closed
abbrev pub AreOpen : SessionLink → Type 0
AreOpen t = (t.sender.closed ≡ false) × (t.receiver.closed ≡ false)

-- this connection was never used
abbrev pub IsNew : SessionLink → ℕ → Type 0
IsNew t n = (t.stage n ≡ unused) × (t.down n ≡ []) × (t.up n ≡ [])

-- both ends have this connection, nothing is under way on it, and the turn is the sender's
abbrev pub IsSendersTurn : SessionLink → ℕ → Type 0
IsSendersTurn t n =
    (t.at_sender ≡ session_on n true) × (t.at_receiver ≡ session_on n false)
    × (t.down n ≡ []) × (t.up n ≡ [])

-- One end makes this connection, the sender's (true) or the receiver's, and the other accepts it.
-- Where that is the receiver's, it has the first turn, and answers.
abbrev pub connection_acts : Bool → ℕ → List ConnectionAct
connection_acts true n = sender_makes n ∷ receiver_accepts n ∷ ack_sent ∷ ack_comes n ∷ []
connection_acts false n = receiver_makes n ∷ sender_accepts n ∷ []

abbrev pub exchange_acts : ℕ → List ConnectionAct
exchange_acts n = frame_sent ∷ frame_comes n ∷ ack_sent ∷ ack_comes n ∷ []

-- these acts on one link
abbrev pub connects : Bool → ℕ → List LinkAct
connects by_sender n = map happens (connection_acts by_sender n)

abbrev pub exchange : ℕ → List LinkAct
exchange n = map happens (exchange_acts n)

-- these items are offered, and after each offer comes an exchange
abbrev pub exchanges : ℕ → List ℕ → List LinkAct
exchanges n [] = []
exchanges n (item ∷ items) = item_offered item ∷ exchange n ++ exchanges n items

-- the same of a link in two registers: each end sets its own, and then the other end gets it
abbrev pub register_exchange : List RegisterAct
register_exchange =
    sets_frame ∷ gets_frame ∷ is_given_frame ∷ sets_ack ∷ gets_ack ∷ is_given_ack ∷ []
