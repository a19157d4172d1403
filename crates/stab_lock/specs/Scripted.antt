-- What is behind the lock of a link: its book, the script that the link was given, and of each end
-- the acts of its half that it has still to take. A history is by a script where some calls of the
-- two ends note it, each of which takes the next act of its own half.
-- Example: Capacity 1, label 0 at the sender and 3 at the receiver, and a script with Keep for the
-- frames that come in, and nothing else. After an offer of 7, a send and two looks of the receiver
-- the history is `["offer", 7]`, `"send_frame"`, `"keep_frame"`, `"recv_frame"`: the first frame
-- that is received stays, and the act of the second look is past the end. A history in which the
-- first frame is taken is not by this script, whatever was called.
-- Source: this project's profile.
use Rattle.std.specs.Prelude.{◌≡◌, List, [], ◌∷◌}
use Rattle.stab_frames.specs.Parameters.{Parameters}
use Rattle.stab_core.specs.declared.event.Event.{Event}
use Rattle.stab_core.specs.declared.start.Start.{Start}
use Rattle.stab_core.specs.LinkSetup.{LinkSetup}
use Rattle.stab_acts.specs.Scripts.{Acts, ActsRemaining, receiver_half, sender_half}
use Rattle.stab_lock.specs.Book.{Book, book_of}
use Rattle.stab_lock.specs.Calls.{Call, offering, sending, polling_ack, closing, polling_frame}
use Rattle.stab_lock.specs.Calls.{sending_ack, acts_after, book_noting, no_acts}
use Rattle.stab_lock.specs.Taken.{SameScriptTaken}

-- what a locked link is given: its parameters and its start, and its script
pub record LockSetup : Type 0 where
  pub given : LinkSetup
  pub script : Acts

-- what its lock keeps
pub record Shared : Type 0 where
  pub book : Book
  pub script : Acts
  pub sender : ActsRemaining
  pub receiver : ActsRemaining

-- before any call
abbrev pub before_calls : Parameters → Start → Acts → Shared
before_calls p start script =
    record {
      book = book_of p start [];
      script = script;
      sender = sender_half script;
      receiver = receiver_half script;
    }

-- after a call of an end, which takes acts of its own half alone
abbrev pub after_call : Call → Shared → Shared
after_call (offering item) s = record s { book = book_noting (offering item) s.book no_acts }
after_call sending s =
    record s {
      book = book_noting sending s.book s.sender;
      sender = acts_after sending s.book s.sender;
    }
after_call polling_ack s =
    record s {
      book = book_noting polling_ack s.book s.sender;
      sender = acts_after polling_ack s.book s.sender;
    }
after_call closing s = record s { book = book_noting closing s.book no_acts }
after_call polling_frame s =
    record s {
      book = book_noting polling_frame s.book s.receiver;
      receiver = acts_after polling_frame s.book s.receiver;
    }
after_call sending_ack s =
    record s {
      book = book_noting sending_ack s.book s.receiver;
      receiver = acts_after sending_ack s.book s.receiver;
    }

-- after several, in the order in which they took the lock
unfoldable pub after_calls : List Call → Shared → Shared
after_calls [] s = s
after_calls (call ∷ calls) s = after_calls calls (after_call call s)

-- some calls lead here from the start
pub record IsReached (s : Shared) : Type 0 where
  pub calls : List Call
  pub reached : s ≡ after_calls calls (before_calls s.book.params s.book.start s.script)

-- some calls of the two ends, each under the next act of its half of this script, noted these
-- events
pub record IsNotedUnder (p : Parameters) (start : Start) (script : Acts) (events : List Event)
    : Type 0 where
  pub calls : List Call
  pub noted : events ≡ (after_calls calls (before_calls p start script)).book.history

-- this is a book of a link with these parameters and this start, and its history is by this script
pub record IsBookOf (p : Parameters) (start : Start) (script : Acts) (b : Book) : Type 0 where
  pub its_params : b.params ≡ p
  pub its_start : b.start ≡ start
  pub noted : IsNotedUnder p start script b.history

-- what a lock kept is of a link with these parameters and this start, and its acts that were taken
-- are those of this script
pub record IsOf (s : Shared) (p : Parameters) (start : Start) (script : Acts) : Type 0 where
  pub its_params : s.book.params ≡ p
  pub its_start : s.book.start ≡ start
  pub its_acts : SameScriptTaken s.sender s.receiver s.script script
