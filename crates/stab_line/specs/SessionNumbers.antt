-- The numbers by which an end knows its connections. Each new one has the next number, so what an
-- end takes for its connection is the newest one that it made or accepted, until that ends.
-- Source: this project's own.
use Rattle.std.specs.Prelude.{◌≡◌, ℕ, ◌+◌, ◌==◌, Bool, false, if◌then◌else◌, List, [], ◌∷◌}
use Rattle.stab_line.specs.Session.{Session, no_session, after_end, after_message, last_number}
use Rattle.stab_line.specs.Session.{session_next}
use Rattle.stab_core.specs.Picks.{AllBelow}

-- a session with the number of its newest connection, and the numbers of all, the newest first
pub record Numbered : Type 0 where
  pub session : Session
  pub number : ℕ
  pub given : List ℕ

pub data Call : Type 0 where
  -- a connection is made (false) or accepted (true)
  begins : Bool → Call
  ends : ℕ → Call
  message_comes : ℕ → Call
  gives_turn : Call

abbrev pub call_step : Numbered → Call → Numbered
call_step s (begins turn) =
    record {
      session = session_next s.number turn;
      number = if s.number == last_number then s.number else s.number + 1;
      given = if s.number == last_number then s.given else (s.number + 1) ∷ s.given;
    }
call_step s (ends n) = record s { session = after_end s.session n }
call_step s (message_comes n) = record s { session = after_message s.session n }
call_step s gives_turn =
    record s { session = record { connection = s.session.connection; turn = false } }

abbrev pub call_run : Numbered → List Call → Numbered
call_run s [] = s
call_run s (call ∷ calls) = call_run (call_step s call) calls

abbrev pub never_connected : Numbered
never_connected = record { session = no_session; number = 0; given = [] }

-- this number was given last, and every number that was given before is a lower one
pub record IsNewest (given : List ℕ) (n : ℕ) : Type 0 where
  pub older : List ℕ
  pub given_last : given ≡ n ∷ older
  pub all_older : AllBelow n older
