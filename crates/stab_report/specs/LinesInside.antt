-- How a text is read, byte by byte, and what is read of it.
-- Source: this project's own.
use Rattle.std.specs.Prelude.{◌≡◌, ℕ, ◌+◌, ◌-◌, ◌*◌, ◌%◌, ◌^◌, Bool, false, List, [], ◌∷◌}
use Rattle.std.specs.Prelude.{Option, Some, None, unwrap_or, if◌then◌else◌, length, map}
use Rattle.std.specs.Char.{is_ascii_digit}
use Rattle.std.specs.List.{flat_map, range_with_len}
use Rattle.stab_tree.specs.Nodes.{Nodes}
use Rattle.stab_report.specs.Reports.{ReportValue, OnePerNode, received_at, acked_at}
use Rattle.stab_report.specs.Texts.{IsPrintable, end_at, lines_at}

-- the number that a text ends with after this byte, where it ended with that one before
abbrev pub number_after : Option ℕ → ℕ → Option ℕ
number_after number byte =
    if is_ascii_digit byte then Some ((unwrap_or number 0 * 10 + (byte - 48)) % 2 ^ 64) else None

-- the item that ended, where the next byte is no digit of it
abbrev pub ended_item : Option ℕ → Option ℕ → List ℕ
ended_item None next = []
ended_item (Some number) None = (number % 2 ^ 32) ∷ []
ended_item (Some number) (Some next) = []

-- the text is that of this report, or of this tree
pub record IsPrint (nodes : Nodes) (text : List ℕ) (r : ReportValue) (says_so : Bool) : Type 0 where
  pub entries : OnePerNode nodes.parents r
  pub printable : IsPrintable r
  pub the_text : text
      ≡ flat_map (lines_at nodes r says_so) (range_with_len 0 (length nodes.parents))

-- what is read of it
abbrev pub as_read : Nodes → ReportValue → Bool → ReportValue
as_read nodes r says_so =
    let places = range_with_len 0 (length nodes.parents) in
    record {
      received = map (received_at r) places;
      acked = map (acked_at r) places;
      ended_upstream = map (λ node. unwrap_or (end_at r says_so node) false) places;
    }
