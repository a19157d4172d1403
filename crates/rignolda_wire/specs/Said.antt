-- What a message says, and the one spelling of it in bytes. Numbers are in big-endian order.
-- Example: The acknowledgement of label 3 is spelled 'A', 0, 3. A frame of label 3 and item 7 with
-- the body `b` is spelled 'F', 0, 3, then the four bytes of 7, then 0, 0, 0, 1 and `b`.
-- Source: this project's own.
use Rattle.std.specs.Prelude.{◌≡◌, ℕ, ◌^◌, ◌<◌, ◌≤◌, ◌+◌, Bool, true, false}
use Rattle.std.specs.Prelude.{List, [], ◌∷◌, ◌++◌, length}
use Rattle.std.specs.Int.{w16, w32, w64, to_be_bytes}
use Rattle.rignolda_wire.specs.declared.said.Expect.{Expect}
use Rattle.rignolda_wire.specs.declared.said.Expect.TheVariants.{Hello, Way, NumberedWay, Frames}
use Rattle.rignolda_wire.specs.declared.said.Expect.TheVariants.{SignedFrames, Acks}
use Rattle.rignolda_wire.specs.Names.{are_few, are_names, is_name, is_name_or_none}

-- what an end says first
pub record Greeted : Type 0 where
  pub version : ℕ
  pub life : ℕ
  pub label : ℕ
  pub from : List ℕ
  pub to : List ℕ

-- a way: what it costs, and its names with a line feed between two
pub record Routed : Type 0 where
  pub cost : ℕ
  pub names : List ℕ

pub record Framed : Type 0 where
  pub label : ℕ
  pub item : ℕ
  pub body : List ℕ

-- a frame without its body, of which there are the length, the front and the digest
pub record Referred : Type 0 where
  pub label : ℕ
  pub item : ℕ
  pub len : ℕ
  pub head : List ℕ
  pub digest : List ℕ

-- from version 5 on: a way, with the number of the last whole table of whoever says it
pub record Numbered : Type 0 where
  pub number : ℕ
  pub route : Routed

-- frames with a signature of their body, which may be empty
pub record Signed : Type 0 where
  pub label : ℕ
  pub item : ℕ
  pub signature : List ℕ
  pub body : List ℕ

pub record SignedReference : Type 0 where
  pub reference : Referred
  pub signature : List ℕ

pub data Said : Type 0 where
  -- a hello, or a look
  hello : Bool → Greeted → Said
  way : Routed → Said
  frame : Framed → Said
  refers : Referred → Said
  -- a whole report is asked for
  asks : Said
  ack : ℕ → Said
  lacks : ℕ → Said
  report : List ℕ → Said
  goodbye : Said
  numbered : Numbered → Said
  signed : Signed → Said
  refers_signed : SignedReference → Said
  -- a frame of the link alone, which brings no item
  filler : ℕ → Said

-- ---- the bytes

-- the last of the four letters of a look, and of a hello
abbrev pub fourth : Bool → ℕ
fourth true = 76
fourth false = 68

-- a name behind its length
abbrev pub name_bytes : List ℕ → List ℕ
name_bytes name = length name ∷ name

abbrev pub greeting_bytes : Greeted → List ℕ
greeting_bytes g =
    g.version ∷ (to_be_bytes w64 g.life
    ++ (to_be_bytes w16 g.label ++ (name_bytes g.from ++ name_bytes g.to)))

-- what a hello or a look has before its names
abbrev pub before_names : Bool → Greeted → List ℕ
before_names is_look g =
    82 ∷ 71 ∷ 78 ∷ fourth is_look ∷ g.version
    ∷ (to_be_bytes w64 g.life ++ to_be_bytes w16 g.label)

abbrev pub way_bytes : Routed → List ℕ
way_bytes w = to_be_bytes w16 w.cost ++ (to_be_bytes w16 (length w.names) ++ w.names)

abbrev pub frame_bytes : Framed → List ℕ
frame_bytes f =
    to_be_bytes w16 f.label ++ (to_be_bytes w32 f.item
    ++ (to_be_bytes w32 (length f.body) ++ f.body))

abbrev pub reference_bytes : Referred → List ℕ
reference_bytes r =
    to_be_bytes w16 r.label ++ (to_be_bytes w32 r.item
    ++ (to_be_bytes w32 r.len ++ (r.head ++ r.digest)))

abbrev pub numbered_bytes : Numbered → List ℕ
numbered_bytes n = to_be_bytes w64 n.number ++ way_bytes n.route

-- a signature behind its length
abbrev pub signature_bytes : List ℕ → List ℕ
signature_bytes signature = to_be_bytes w16 (length signature) ++ signature

abbrev pub signed_bytes : Signed → List ℕ
signed_bytes f =
    to_be_bytes w16 f.label ++ (to_be_bytes w32 f.item
    ++ (signature_bytes f.signature ++ (to_be_bytes w32 (length f.body) ++ f.body)))

abbrev pub signed_reference_bytes : SignedReference → List ℕ
signed_reference_bytes r = reference_bytes r.reference ++ signature_bytes r.signature

abbrev pub report_bytes : List ℕ → List ℕ
report_bytes text = to_be_bytes w32 (length text) ++ text

-- the first byte of a message, and those after it
abbrev pub letter : Said → ℕ
letter (hello is_look g) = 82
letter (way w) = 87
letter (frame f) = 70
letter (refers r) = 68
letter asks = 81
letter (ack label) = 65
letter (lacks label) = 78
letter (report text) = 82
letter goodbye = 71
letter (numbered n) = 86
letter (signed f) = 83
letter (refers_signed r) = 66
letter (filler label) = 69

abbrev pub after_letter : Said → List ℕ
after_letter (hello is_look g) = 71 ∷ 78 ∷ fourth is_look ∷ greeting_bytes g
after_letter (way w) = way_bytes w
after_letter (frame f) = frame_bytes f
after_letter (refers r) = reference_bytes r
after_letter asks = []
after_letter (ack label) = to_be_bytes w16 label
after_letter (lacks label) = to_be_bytes w16 label
after_letter (report text) = report_bytes text
after_letter goodbye = []
after_letter (numbered n) = numbered_bytes n
after_letter (signed f) = signed_bytes f
after_letter (refers_signed r) = signed_reference_bytes r
after_letter (filler label) = to_be_bytes w16 label

abbrev pub spelling : Said → List ℕ
spelling m = letter m ∷ after_letter m

-- ---- what may come

-- the oldest version of a look, and of a hello
abbrev pub oldest : Bool → ℕ
oldest true = 2
oldest false = 1

-- the longest body, way, report and signature
abbrev pub body_limit : ℕ
body_limit = 16777216

abbrev pub way_limit : ℕ
way_limit = 8320

abbrev pub report_limit : ℕ
report_limit = 1048576

abbrev pub signature_limit : ℕ
signature_limit = 1024

-- how many bytes of a body a reference has, and how many its digest has
abbrev pub head_len : ℕ
head_len = 9

abbrev pub digest_len : ℕ
digest_len = 32

pub record IsGreeting (least : ℕ) (g : Greeted) : Type 0 where
  pub spoken : least ≤ g.version
  pub version : g.version < 256
  pub life : g.life < 2 ^ 64
  pub label : g.label < 2 ^ 16
  pub from : is_name g.from ≡ true
  pub to : is_name_or_none g.to ≡ true

pub record IsWay (w : Routed) : Type 0 where
  pub cost : w.cost < 2 ^ 16
  pub short : length w.names ≤ way_limit
  pub few : are_few w.names ≡ true
  pub each : are_names w.names ≡ true

pub record IsFrame (f : Framed) : Type 0 where
  pub label : f.label < 2 ^ 16
  pub item : f.item < 2 ^ 32
  pub short : length f.body ≤ body_limit

pub record IsReference (r : Referred) : Type 0 where
  pub label : r.label < 2 ^ 16
  pub item : r.item < 2 ^ 32
  pub short : r.len ≤ body_limit
  pub head : length r.head ≡ head_len
  pub digest : length r.digest ≡ digest_len

pub record IsNumbered (n : Numbered) : Type 0 where
  pub number : n.number < 2 ^ 64
  pub route : IsWay n.route

pub record IsSigned (f : Signed) : Type 0 where
  pub label : f.label < 2 ^ 16
  pub item : f.item < 2 ^ 32
  pub signature : length f.signature ≤ signature_limit
  pub short : length f.body ≤ body_limit

pub record IsSignedReference (r : SignedReference) : Type 0 where
  pub reference : IsReference r.reference
  pub signature : length r.signature ≤ signature_limit

-- it is one of the messages that may come next
abbrev pub IsMessage : Expect → Said → Type 0
IsMessage Hello (hello is_look g) = IsGreeting (oldest is_look) g
IsMessage Way (way w) = IsWay w
IsMessage Frames (way w) = IsWay w
IsMessage Frames (frame f) = IsFrame f
IsMessage Frames (refers r) = IsReference r
IsMessage Frames asks = Unit {0}
IsMessage NumberedWay (numbered n) = IsNumbered n
IsMessage SignedFrames (numbered n) = IsNumbered n
IsMessage SignedFrames (signed f) = IsSigned f
IsMessage SignedFrames (refers_signed r) = IsSignedReference r
IsMessage SignedFrames (filler label) = label < 2 ^ 16
IsMessage SignedFrames asks = Unit {0}
IsMessage Acks (ack label) = label < 2 ^ 16
IsMessage Acks (lacks label) = label < 2 ^ 16
IsMessage Acks (report text) = length text ≤ report_limit
IsMessage Acks goodbye = Unit {0}
IsMessage expect m = ⊥

-- fewer bytes than this are kept while more has to come
abbrev pub most : Expect → ℕ
most Hello = 145
most Way = 5 + way_limit
most Frames = 11 + body_limit
most NumberedWay = 13 + way_limit
most SignedFrames = 13 + signature_limit + body_limit
most Acks = 5 + report_limit
