-- A stream of messages, in whatever pieces it comes.
-- Example: The bytes 'G', 'A' and 0 of a child are a goodbye, and then two bytes of which more has
-- to come.
-- Source: this project's own.
use Rattle.std.specs.Prelude.{◌≡◌, ℕ, List, ◌++◌, Err}
use Rattle.std.specs.List.{flat_map, AllByRecursion}
use Rattle.rignolda_wire.specs.declared.fault.Fault.{Fault}
use Rattle.rignolda_wire.specs.declared.said.Expect.{Expect}
use Rattle.rignolda_wire.specs.Reading.{message_at}
use Rattle.rignolda_wire.specs.Said.{IsMessage, Said, spelling}

-- the stream is these messages, and then bytes that have no whole one in front, for this reason
pub record Splits (expect : Expect) (stream : List ℕ) (said : List Said) (rest : List ℕ)
    (why : Fault) : Type 0 where
  pub whole : stream ≡ flat_map spelling said ++ rest
  pub each : AllByRecursion (IsMessage expect) said
  pub ends : message_at expect rest ≡ Err why
