-- Writing the head of a message into a buffer: all but the body, names or report at its end.
-- Example: The head of a report of two bytes is 'R', 0, 0, 0, 2; the report itself is its tail.
-- Source: this project's own.
use Rattle.std.specs.Prelude.{ℕ, ◌+◌, ◌==◌, nat_le, ◌&&◌, Bool, true, if◌then◌else◌}
use Rattle.std.specs.Prelude.{List, [], ◌∷◌, ◌++◌, length, take, drop, Option, Some, None}
use Rattle.std.specs.Int.{w16, w32, w64, to_be_bytes}
use Rattle.rignolda_wire.specs.Names.{name_limit}
use Rattle.rignolda_wire.specs.Said.{Referred, Said, after_letter, body_limit, digest_len, frame}
use Rattle.rignolda_wire.specs.Said.{head_len, hello, letter, numbered, refers, refers_signed}
use Rattle.rignolda_wire.specs.Said.{report, report_limit, signature_bytes, signature_limit, signed}
use Rattle.rignolda_wire.specs.Said.{way, way_limit}

-- texts, one after the other
abbrev pub joined : List (List ℕ) → List ℕ
joined [] = []
joined (text ∷ texts) = text ++ joined texts

-- the buffer with a text in it from this place on
abbrev pub with_text : List ℕ → ℕ → List ℕ → List ℕ
with_text buffer at text = take at buffer ++ (text ++ drop (at + length text) buffer)

-- what is before the text at the end of a message
abbrev pub way_head : ℕ → ℕ → List ℕ
way_head cost len = to_be_bytes w16 cost ++ to_be_bytes w16 len

abbrev pub frame_head : ℕ → ℕ → ℕ → List ℕ
frame_head label item len = to_be_bytes w16 label ++ (to_be_bytes w32 item ++ to_be_bytes w32 len)

abbrev pub numbered_head : ℕ → ℕ → ℕ → List ℕ
numbered_head number cost len = to_be_bytes w64 number ++ way_head cost len

abbrev pub signed_head : ℕ → ℕ → List ℕ → ℕ → List ℕ
signed_head label item signature len =
    to_be_bytes w16 label
    ++ (to_be_bytes w32 item ++ (signature_bytes signature ++ to_be_bytes w32 len))

abbrev pub head_after_letter : Said → List ℕ
head_after_letter (way w) = way_head w.cost (length w.names)
head_after_letter (frame f) = frame_head f.label f.item (length f.body)
head_after_letter (report text) = to_be_bytes w32 (length text)
head_after_letter (numbered n) = numbered_head n.number n.route.cost (length n.route.names)
head_after_letter (signed f) = signed_head f.label f.item f.signature (length f.body)
head_after_letter m = after_letter m

abbrev pub head_bytes : Said → List ℕ
head_bytes m = letter m ∷ head_after_letter m

-- the text at the end of a message
abbrev pub tail_bytes : Said → List ℕ
tail_bytes (way w) = w.names
tail_bytes (frame f) = f.body
tail_bytes (report text) = text
tail_bytes (numbered n) = n.route.names
tail_bytes (signed f) = f.body
tail_bytes m = []

abbrev pub is_reference : Referred → Bool
is_reference r = (length r.head == head_len) && (length r.digest == digest_len)

-- each length is within its limit
abbrev pub is_short : Said → Bool
is_short (hello is_look g) = nat_le (length g.from) name_limit && nat_le (length g.to) name_limit
is_short (way w) = nat_le (length w.names) way_limit
is_short (frame f) = nat_le (length f.body) body_limit
is_short (refers r) = is_reference r
is_short (report text) = nat_le (length text) report_limit
is_short (numbered n) = nat_le (length n.route.names) way_limit
is_short (signed f) =
    nat_le (length f.signature) signature_limit && nat_le (length f.body) body_limit
is_short (refers_signed r) =
    is_reference r.reference && nat_le (length r.signature) signature_limit
is_short m = true

-- the head is written: the buffer has room for it
abbrev pub is_written : List ℕ → Said → Bool
is_written buffer m = is_short m && nat_le (length (head_bytes m)) (length buffer)

abbrev pub end_of : Bool → List ℕ → Option ℕ
end_of written text = if written then Some (length text) else None

abbrev pub after_writing : Bool → List ℕ → List ℕ → List ℕ
after_writing written buffer text = if written then with_text buffer 0 text else buffer
