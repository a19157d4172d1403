-- Reading the message in front of some bytes from left to right: the message and the bytes after
-- it, or that more has to come, or the first fault that is met.
-- Example: Of 'A' and 0 more has to come if acknowledgements may come, and if frames may come it is
-- no message.
-- Source: this project's own.
use Rattle.std.specs.Prelude.{ℕ, nat_le, nat_lt, ◌==◌, Bool, true, false, if◌then◌else◌}
use Rattle.std.specs.Prelude.{List, [], ◌∷◌, length, take, drop, Result, Ok, Err}
use Rattle.std.specs.Int.{Width, w16, w32, w64, byte_len, from_be_bytes}
use Rattle.rignolda_wire.specs.declared.fault.Fault.{Fault}
use Rattle.rignolda_wire.specs.declared.fault.Fault.TheVariants.{More, NoHello, NoVersion, NoName}
use Rattle.rignolda_wire.specs.declared.fault.Fault.TheVariants.{NoMessage, LongBody, LongWay}
use Rattle.rignolda_wire.specs.declared.fault.Fault.TheVariants.{NoNameOfWay, LongReport}
use Rattle.rignolda_wire.specs.declared.fault.Fault.TheVariants.{LongSignature}
use Rattle.rignolda_wire.specs.declared.said.Expect.{Expect}
use Rattle.rignolda_wire.specs.declared.said.Expect.TheVariants.{Hello, Way, NumberedWay, Frames}
use Rattle.rignolda_wire.specs.declared.said.Expect.TheVariants.{SignedFrames, Acks}
use Rattle.rignolda_wire.specs.Names.{are_few, are_names, is_name, is_name_or_none, name_limit}
use Rattle.rignolda_wire.specs.Said.{Framed, Greeted, Numbered, Referred, Routed, Said, Signed}
use Rattle.rignolda_wire.specs.Said.{SignedReference, ack, asks, body_limit, digest_len, filler}
use Rattle.rignolda_wire.specs.Said.{frame, goodbye, head_len, hello, lacks, numbered, oldest}
use Rattle.rignolda_wire.specs.Said.{refers, refers_signed, report, report_limit, signature_limit}
use Rattle.rignolda_wire.specs.Said.{signed, way, way_limit}

-- a reader gives what it read, and the bytes after that
abbrev pub Reader : Type 0 → Type 0
Reader A = List ℕ → Result (A × List ℕ) Fault

abbrev pub read_on : {A B : Type 0} → Result (A × List ℕ) Fault → (A → Reader B)
    → Result (B × List ℕ) Fault
read_on (Ok x) next = next x.0 x.1
read_on (Err fault) next = Err fault

-- one reader after the other
infixl 10 ◌>>=◌
abbrev pub ◌>>=◌ : {A B : Type 0} → Reader A → (A → Reader B) → Reader B
r >>= next = λ bytes. read_on (r bytes) next

-- nothing more is read
abbrev pub give : {A : Type 0} → A → Reader A
give a = λ bytes. Ok (a, bytes)

abbrev pub refuse : {A : Type 0} → Fault → Reader A
refuse fault = λ bytes. Err fault

-- what was read is refused if it is none of those
abbrev pub wanted : {A : Type 0} → (A → Bool) → Fault → A → Reader A
wanted test fault a = λ bytes. if test a then Ok (a, bytes) else Err fault

-- what was read is a message of this kind
abbrev pub kind_at : {A : Type 0} → (A → Said) → Reader A → Reader Said
kind_at kind r = r >>= λ a. give (kind a)

-- the first reader if so, else the second
abbrev pub choose : {A : Type 0} → Bool → Reader A → Reader A → Reader A
choose so r s = λ bytes. if so then r bytes else s bytes

-- ---- fields

abbrev pub byte_at : Reader ℕ
byte_at [] = Err More
byte_at (byte ∷ rest) = Ok (byte, rest)

abbrev pub number_at : Width → Reader ℕ
number_at w bytes =
    if nat_lt (length bytes) (byte_len w) then Err More
    else Ok (from_be_bytes w (take (byte_len w) bytes), drop (byte_len w) bytes)

-- so many bytes
abbrev pub text_at : ℕ → Reader (List ℕ)
text_at len bytes =
    if nat_lt (length bytes) len then Err More else Ok (take len bytes, drop len bytes)

-- a number up to a limit
unfoldable pub limited_at : Width → ℕ → Fault → Reader ℕ
limited_at w limit fault = number_at w >>= wanted (λ n. nat_le n limit) fault

-- as many bytes as such a number says
unfoldable pub counted_at : Width → ℕ → Fault → Reader (List ℕ)
counted_at w limit fault = limited_at w limit fault >>= text_at

-- ---- hellos

unfoldable pub letter_at : ℕ → Reader ℕ
letter_at letter = byte_at >>= wanted (λ byte. byte == letter) NoHello

unfoldable pub version_at : ℕ → Reader ℕ
version_at least = byte_at >>= wanted (nat_le least) NoVersion

-- a name is refused at its length already, if that is above the limit
unfoldable pub name_len_at : Reader ℕ
name_len_at = byte_at >>= wanted (λ len. nat_le len name_limit) NoName

unfoldable pub name_at : (List ℕ → Bool) → Reader (List ℕ)
name_at is = do
  len ← name_len_at
  name ← text_at len
  wanted is NoName name

unfoldable pub greeting_at : ℕ → Reader Greeted
greeting_at least = do
  version ← version_at least
  life ← number_at w64
  label ← number_at w16
  from ← name_at is_name
  to ← name_at is_name_or_none
  give (record { version = version; life = life; label = label; from = from; to = to })

-- what follows the first three letters
unfoldable pub fourth_at : Reader Said
fourth_at = do
  letter ← byte_at
  choose (letter == 76) (kind_at (hello true) (greeting_at (oldest true)))
      (choose (letter == 68) (kind_at (hello false) (greeting_at (oldest false))) (refuse NoHello))

unfoldable pub hello_at : Reader Said
hello_at = do
  _ ← letter_at 82
  _ ← letter_at 71
  _ ← letter_at 78
  fourth_at

-- ---- what a parent says

unfoldable pub names_at : Reader (List ℕ)
names_at =
    counted_at w16 way_limit LongWay >>= wanted are_few LongWay >>= wanted are_names NoNameOfWay

unfoldable pub way_at : Reader Routed
way_at = do
  cost ← number_at w16
  names ← names_at
  give (record { cost = cost; names = names })

unfoldable pub frame_at : Reader Framed
frame_at = do
  label ← number_at w16
  item ← number_at w32
  body ← counted_at w32 body_limit LongBody
  give (record { label = label; item = item; body = body })

unfoldable pub reference_at : Reader Referred
reference_at = do
  label ← number_at w16
  item ← number_at w32
  len ← limited_at w32 body_limit LongBody
  head ← text_at head_len
  digest ← text_at digest_len
  give (record { label = label; item = item; len = len; head = head; digest = digest })

unfoldable pub candidate_at : Reader Said
candidate_at = do
  letter ← byte_at
  choose (letter == 87) (kind_at way way_at) (refuse NoMessage)

unfoldable pub parent_at : Reader Said
parent_at = do
  letter ← byte_at
  choose (letter == 70) (kind_at frame frame_at)
      (choose (letter == 68) (kind_at refers reference_at)
      (choose (letter == 87) (kind_at way way_at)
      (choose (letter == 81) (give asks) (refuse NoMessage))))

-- ---- what a parent says from version 5 on

unfoldable pub numbered_at : Reader Numbered
numbered_at = do
  number ← number_at w64
  route ← way_at
  give (record { number = number; route = route })

unfoldable pub numbering_candidate_at : Reader Said
numbering_candidate_at = do
  letter ← byte_at
  choose (letter == 86) (kind_at numbered numbered_at) (refuse NoMessage)

unfoldable pub signed_at : Reader Signed
signed_at = do
  label ← number_at w16
  item ← number_at w32
  signature ← counted_at w16 signature_limit LongSignature
  body ← counted_at w32 body_limit LongBody
  give (record { label = label; item = item; signature = signature; body = body })

unfoldable pub signed_reference_at : Reader SignedReference
signed_reference_at = do
  reference ← reference_at
  signature ← counted_at w16 signature_limit LongSignature
  give (record { reference = reference; signature = signature })

unfoldable pub signing_parent_at : Reader Said
signing_parent_at = do
  letter ← byte_at
  choose (letter == 83) (kind_at signed signed_at)
      (choose (letter == 66) (kind_at refers_signed signed_reference_at)
      (choose (letter == 86) (kind_at numbered numbered_at)
      (choose (letter == 69) (kind_at filler (number_at w16))
      (choose (letter == 81) (give asks) (refuse NoMessage)))))

-- ---- what a child says

unfoldable pub child_at : Reader Said
child_at = do
  letter ← byte_at
  choose (letter == 65) (kind_at ack (number_at w16))
      (choose (letter == 78) (kind_at lacks (number_at w16))
      (choose (letter == 82) (kind_at report (counted_at w32 report_limit LongReport))
      (choose (letter == 71) (give goodbye) (refuse NoMessage))))

-- the message in front of the bytes
abbrev pub message_at : Expect → Reader Said
message_at Hello = hello_at
message_at Way = candidate_at
message_at NumberedWay = numbering_candidate_at
message_at Frames = parent_at
message_at SignedFrames = signing_parent_at
message_at Acks = child_at
