-- A message as C sees it: what it says beside its texts, and where these lie in the bytes that it
-- is in front of.
-- Source: this project's own.
use Rattle.std.specs.Prelude.{◌≡◌, ℕ, ◌+◌, ◌≤◌, ◌==◌, if◌then◌else◌, Bool, true, false}
use Rattle.std.specs.Prelude.{List, [], length, take, drop, Option, Some, None, Result, Ok, Err}
use Rattle.rignolda_wire.specs.declared.fault.Fault.{Fault}
use Rattle.rignolda_wire.specs.declared.fault.Fault.TheVariants.{More, NoHello, NoVersion, NoName}
use Rattle.rignolda_wire.specs.declared.fault.Fault.TheVariants.{NoMessage, LongBody, LongWay}
use Rattle.rignolda_wire.specs.declared.fault.Fault.TheVariants.{NoNameOfWay, LongReport}
use Rattle.rignolda_wire.specs.declared.fault.Fault.TheVariants.{LongSignature}
use Rattle.rignolda_wire.specs.declared.refusal.Refusal.{Refusal}
use Rattle.rignolda_wire.specs.declared.said.Expect.{Expect}
use Rattle.rignolda_wire.specs.declared.said.Expect.TheVariants.{Hello, Way, NumberedWay, Frames}
use Rattle.rignolda_wire.specs.declared.said.Expect.TheVariants.{SignedFrames, Acks}
use Rattle.rignolda_wire.specs.Reading.{message_at}
use Rattle.rignolda_wire.specs.Refusals.{byte_of, refused, told}
use Rattle.rignolda_wire.specs.Said.{Greeted, Referred, Said, Signed, ack, asks, digest_len}
use Rattle.rignolda_wire.specs.Said.{filler, frame, goodbye, head_len, hello, lacks, numbered}
use Rattle.rignolda_wire.specs.Said.{refers, refers_signed, report, signed, way}
use Rattle.rignolda_wire.specs.Words.{Headed}
use Rattle.rignolda_wire.specs.Writing.{after_writing, end_of, head_bytes, is_written}
use Rattle.rignolda_settings_c.specs.declared.messages.WireMessage.{WireMessage}

-- ---- what the numbers mean

abbrev pub expect_named : ℕ → Option Expect
expect_named byte =
    if byte == 72 then Some Hello
    else (if byte == 87 then Some Way
    else (if byte == 70 then Some Frames
    else (if byte == 65 then Some Acks
    else (if byte == 86 then Some NumberedWay
    else (if byte == 83 then Some SignedFrames else None)))))

-- the number of a fault, after 0, which is none
abbrev pub fault_code : Fault → ℕ
fault_code More = 1
fault_code NoHello = 2
fault_code NoVersion = 3
fault_code NoName = 4
fault_code NoMessage = 5
fault_code LongBody = 6
fault_code LongWay = 7
fault_code NoNameOfWay = 8
fault_code LongReport = 9
fault_code LongSignature = 10

-- the byte of a reason, or 255 where there is none
abbrev pub reason_code : Option Refusal → ℕ
reason_code None = 255
reason_code (Some why) = byte_of why

abbrev pub end_code : Option ℕ → ℕ
end_code None = 0
end_code (Some end) = end

abbrev pub is_there : {A : Type 0} → Option A → Bool
is_there None = false
is_there (Some x) = true

-- what may not come is no message, and no reason
abbrev pub read_as : Option Expect → List ℕ → Result (Said × List ℕ) Fault
read_as None bytes = Err NoMessage
read_as (Some expect) bytes = message_at expect bytes

abbrev pub refused_as : Option Expect → List ℕ → Option Refusal
refused_as None bytes = None
refused_as (Some expect) bytes = refused expect bytes

-- what an end is told that expects this
abbrev pub told_as : Option Expect → Refusal → List ℕ
told_as None why = []
told_as (Some expect) why = told expect why

-- ---- what a struct says

abbrev pub greeted_with : WireMessage → List ℕ → List ℕ → Greeted
greeted_with w from to =
    record { version = w.version; life = w.life; label = w.label; from = from; to = to }

-- a hello of this version and label
abbrev pub said_by : ℕ → ℕ → Greeted
said_by version label =
    record { version = version; life = 0; label = label; from = []; to = [] }

abbrev pub referred_with : WireMessage → List ℕ → List ℕ → Referred
referred_with w head digest = record {
  label = w.label;
  item = w.item;
  len = w.body_length;
  head = head;
  digest = digest;
}

abbrev pub signed_with : WireMessage → List ℕ → List ℕ → Signed
signed_with w signature body =
    record { label = w.label; item = w.item; signature = signature; body = body }

-- the message that says this and has these texts and this signature
abbrev pub said_with : WireMessage → List ℕ → List ℕ → List ℕ → Option Said
said_with w first second signature =
    if w.kind == 72 then Some (hello false (greeted_with w first second))
    else (if w.kind == 76 then Some (hello true (greeted_with w first second))
    else (if w.kind == 87 then Some (way (record { cost = w.label; names = first }))
    else (if w.kind == 70
    then Some (frame (record { label = w.label; item = w.item; body = first }))
    else (if w.kind == 68
    then Some (refers (referred_with w first second))
    else (if w.kind == 81 then Some asks
    else (if w.kind == 65 then Some (ack w.label)
    else (if w.kind == 78 then Some (lacks w.label)
    else (if w.kind == 82 then Some (report first)
    else (if w.kind == 71 then Some goodbye
    else (if w.kind == 86
    then Some (numbered (record {
      number = w.table;
      route = record { cost = w.label; names = first };
    }))
    else (if w.kind == 83
    then Some (signed (signed_with w signature first))
    else (if w.kind == 66
    then Some (refers_signed (record {
      reference = referred_with w first second;
      signature = signature;
    }))
    else (if w.kind == 69 then Some (filler w.label) else None)))))))))))))

-- the message that a struct shows in the bytes
abbrev pub said_in : List ℕ → WireMessage → Option Said
said_in bytes w =
    said_with w (take w.first_length (drop w.first bytes))
    (take w.second_length (drop w.second bytes))
    (take w.signature_length (drop w.signature bytes))

-- ---- how a message is shown, without its end

abbrev pub empty : ℕ → ℕ → WireMessage
empty kind label = record {
  life = 0;
  table = 0;
  item = 0;
  body_length = 0;
  label = label;
  version = 0;
  kind = kind;
  first = 0;
  first_length = 0;
  second = 0;
  second_length = 0;
  signature = 0;
  signature_length = 0;
  end = 0;
}

abbrev pub greeting : ℕ → Greeted → WireMessage
greeting kind g = record (empty kind g.label) {
  life = g.life;
  version = g.version;
  first = 16;
  first_length = length g.from;
  second = 16 + length g.from + 1;
  second_length = length g.to;
}

abbrev pub reference_of : ℕ → Referred → WireMessage
reference_of kind r = record (empty kind r.label) {
  item = r.item;
  body_length = r.len;
  first = 11;
  first_length = length r.head;
  second = 11 + length r.head;
  second_length = length r.digest;
}

abbrev pub shown_of : Said → WireMessage
shown_of (hello false g) = greeting 72 g
shown_of (hello true g) = greeting 76 g
shown_of (way w) = record (empty 87 w.cost) { first = 5; first_length = length w.names }
shown_of (frame f) =
    record (empty 70 f.label) { item = f.item; first = 11; first_length = length f.body }
shown_of (refers r) = reference_of 68 r
shown_of asks = empty 81 0
shown_of (ack label) = empty 65 label
shown_of (lacks label) = empty 78 label
shown_of (report text) = record (empty 82 0) { first = 5; first_length = length text }
shown_of goodbye = empty 71 0
shown_of (numbered n) = record (empty 86 n.route.cost) {
  table = n.number;
  first = 13;
  first_length = length n.route.names;
}
shown_of (signed f) = record (empty 83 f.label) {
  item = f.item;
  first = 13 + length f.signature;
  first_length = length f.body;
  signature = 9;
  signature_length = length f.signature;
}
shown_of (refers_signed r) = record (reference_of 66 r.reference) {
  signature = 13 + head_len + digest_len;
  signature_length = length r.signature;
}
shown_of (filler label) = empty 69 label

-- ---- what is read

-- a message is in front of the bytes, and these after it: the struct shows it and nothing else, its
-- texts lie within the bytes, and the others begin at its end
pub record IsInFront (bytes : List ℕ) (m : Said) (rest : List ℕ) (w : WireMessage) : Type 0 where
  pub shown : said_in bytes w ≡ Some m
  pub alone : w ≡ record (shown_of m) { end = w.end }
  pub first : w.first + w.first_length ≤ length bytes
  pub second : w.second + w.second_length ≤ length bytes
  pub signature : w.signature + w.signature_length ≤ length bytes
  pub behind : drop w.end bytes ≡ rest
  pub end : w.end + length rest ≡ length bytes

-- a call read that: it returned 0; or there is none, it returned the fault, and all is as it was
abbrev pub Read : List ℕ → WireMessage → Result (Said × List ℕ) Fault → ℕ → WireMessage → Type 0
Read bytes old (Ok x) code w = (code ≡ 0) × IsInFront bytes x.0 x.1 w
Read bytes old (Err fault) code w = (code ≡ fault_code fault) × (w ≡ old)

-- the same of the hello of a word
abbrev pub ReadWord : List ℕ → WireMessage → Option (Greeted × List ℕ) → Bool → WireMessage
    → Type 0
ReadWord bytes old (Some x) found w = (found ≡ true) × IsInFront bytes (hello false x.0) x.1 w
ReadWord bytes old None found w = (found ≡ false) × (w ≡ old)

-- what a frame has before its body
abbrev pub head_read : WireMessage → Option Headed → WireMessage
head_read old None = old
head_read old (Some h) = record (empty 70 h.label) { item = h.item; body_length = h.len }

abbrev pub count_read : ℕ → Option ℕ → ℕ
count_read old None = old
count_read old (Some count) = count

-- ---- what is written

abbrev pub written_end : List ℕ → Option Said → ℕ
written_end buffer None = 0
written_end buffer (Some m) = end_code (end_of (is_written buffer m) (head_bytes m))

abbrev pub written : List ℕ → Option Said → List ℕ
written buffer None = buffer
written buffer (Some m) = after_writing (is_written buffer m) buffer (head_bytes m)
