-- What one end of a link remembers of its connections: the newest one, while it has it, and whether
-- the turn to send there is its own. On one connection the two ends take turns, and the end that
-- accepted it begins.
-- Source: this project's own.
use Rattle.std.specs.Prelude.{ℕ, ◌+◌, ◌==◌, ◌&&◌, Bool, true, false, if◌then◌else◌, Option, Some}
use Rattle.std.specs.Prelude.{None}
use Rattle.std.specs.Prelude.{is_some}

pub record Session : Type 0 where
  -- the connection that the end has, if it has one
  pub connection : Option ℕ
  -- the end may send there now; it counts only while there is a connection
  pub turn : Bool

-- no connection
abbrev pub no_session : Session
no_session = record { connection = None; turn = false }

-- this connection, and whose turn it is
abbrev pub session_on : ℕ → Bool → Session
session_on n turn = record { connection = Some n; turn = turn }

-- this connection is that one
abbrev pub is_on : Option ℕ → ℕ → Bool
is_on None n = false
is_on (Some m) n = n == m

-- the end has this connection
abbrev pub has : Session → ℕ → Bool
has s n = is_on s.connection n

-- the end has a connection, and the turn there
abbrev pub may_send : Session → Bool
may_send s = is_some s.connection && s.turn

-- what the end sends now, where it has something to send
abbrev pub sent_now : {A : Type 0} → Session → Option A → Option A
sent_now s x = if may_send s then x else None

-- the connection with its turn given away, if something was sent
abbrev pub turn_after : {A : Type 0} → Session → Option A → Session
turn_after s None = s
turn_after s (Some x) = record { connection = s.connection; turn = false }

-- after a message of this connection: the turn is the end's own
abbrev pub after_message : Session → ℕ → Session
after_message s n = if has s n then session_on n true else s

-- after this connection ended, for whatever reason
abbrev pub after_end : Session → ℕ → Session
after_end s n = if has s n then no_session else s

-- the highest number of a connection
abbrev pub last_number : ℕ
last_number = 18446744073709551615

-- the number of the next connection, or 0 where no number is left
abbrev pub next_number : ℕ → ℕ
next_number n = if n == last_number then 0 else n + 1

-- the session on the next connection; none, where no number is left
abbrev pub session_next : ℕ → Bool → Session
session_next n turn = if n == last_number then no_session else session_on (n + 1) turn
