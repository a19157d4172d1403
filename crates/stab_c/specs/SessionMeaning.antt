-- What the struct of a session means that crosses to C: every bit pattern means a session.
-- Source: this project's own.
use Rattle.std.specs.Prelude.{if◌then◌else◌, Some, None}
use Rattle.stab_c.specs.Meaning.{is_set}
use Rattle.stab_c.specs.declared.session.Session.{Session as Struct}
use Rattle.stab_line.specs.Session.{Session}

abbrev pub session_of : Struct → Session
session_of s =
    record { connection = if is_set s.there then Some s.number else None; turn = is_set s.turn }
