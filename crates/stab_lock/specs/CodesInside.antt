-- What the codes of a packed history mean, with the numbers that they leave out: runs of equal
-- events. A code has one part or two, a part for each run: the kind of its event, and its count
-- where that is at most 11. A number has 16 bits.
-- Example: the bytes 4, 139 and 21 are the codes (SendAck, 0), then (Offer, 1) with (LoseFrame, 1),
-- then (WideOffer, 1). With the numbers 300, 0, 0, 0, 7, 2, 1, 1 they mean 300 times SendAck, an
-- offer of 7, the loss of the frame at place 2, and an offer of 65,537.
-- Source: this project's own.
use Rattle.std.specs.Prelude.{◌≡◌, ℕ, ◌+◌, ◌-◌, ◌*◌, ◌/◌, ◌%◌, ◌<◌, ◌≤◌, ◌==◌, Bool, true, false}
use Rattle.std.specs.Prelude.{if◌then◌else◌, List, [], ◌∷◌, ◌++◌, replicate, get_or}
use Rattle.std.specs.Prelude.{Option, Some, None, length, take}
use Rattle.stab_core.specs.declared.event.Event.{Event}
use Rattle.stab_core.specs.declared.event.Event.TheVariants as event
use Rattle.stab_lock.specs.declared.kind.Kind.{Kind}
use Rattle.stab_lock.specs.declared.kind.Kind.TheVariants as kind
use Rattle.stab_lock.specs.declared.part.Part.{Part}
use Rattle.stab_lock.specs.declared.run.Run.{Run}

-- the kind of this number
abbrev pub kind_at : ℕ → Kind
kind_at n =
    if n == 0 then kind.Offer
    else (if n == 1 then kind.SendFrame
    else (if n == 2 then kind.TakeFrame
    else (if n == 3 then kind.KeepFrame
    else (if n == 4 then kind.SendAck
    else (if n == 5 then kind.TakeAck
    else (if n == 6 then kind.KeepAck
    else (if n == 7 then kind.LoseFrame
    else (if n == 8 then kind.LoseAck
    else (if n == 9 then kind.Close
    else kind.WideOffer)))))))))

-- the kind of an event
abbrev pub kind_of : Event → Kind
kind_of (event.Offer item) = if item / 65536 == 0 then kind.Offer else kind.WideOffer
kind_of event.SendFrame = kind.SendFrame
kind_of (event.RecvFrame false) = kind.TakeFrame
kind_of (event.RecvFrame true) = kind.KeepFrame
kind_of event.SendAck = kind.SendAck
kind_of (event.RecvAck false) = kind.TakeAck
kind_of (event.RecvAck true) = kind.KeepAck
kind_of (event.LoseFrame place) = kind.LoseFrame
kind_of (event.LoseAck place) = kind.LoseAck
kind_of event.Close = kind.Close

-- the event of a kind, with its item or its place
abbrev pub event_of : Kind → ℕ → Event
event_of kind.Offer value = event.Offer value
event_of kind.SendFrame value = event.SendFrame
event_of kind.TakeFrame value = event.RecvFrame false
event_of kind.KeepFrame value = event.RecvFrame true
event_of kind.SendAck value = event.SendAck
event_of kind.TakeAck value = event.RecvAck false
event_of kind.KeepAck value = event.RecvAck true
event_of kind.LoseFrame value = event.LoseFrame (value % 65536)
event_of kind.LoseAck value = event.LoseAck (value % 65536)
event_of kind.Close value = event.Close
event_of kind.WideOffer value = event.Offer value

-- how many numbers an event of this kind has for its item or its place
abbrev pub kind_numbers : Kind → ℕ
kind_numbers kind.Offer = 1
kind_numbers kind.LoseFrame = 1
kind_numbers kind.LoseAck = 1
kind_numbers kind.WideOffer = 2
kind_numbers _ = 0

-- the count that is in a code
abbrev pub small_count : ℕ → ℕ
small_count n = if n / 12 == 0 then n else 0

-- what a code says of a run
abbrev pub part_of : Run → Part
part_of run = record { kind = kind_of run.event; count = small_count run.count }

-- the part of this kind, by its number, and this count
abbrev pub part_at : ℕ → ℕ → Part
part_at n count = record { kind = kind_at n; count = count }

-- the parts of a code's byte: one below 132, and from there on two of one event each
abbrev pub parts_of : ℕ → List Part
parts_of byte =
    if byte / 132 == 0 then part_at (byte % 11) (byte / 11) ∷ []
    else part_at ((byte - 132) / 11) 1 ∷ part_at ((byte - 132) % 11) 1 ∷ []

-- the parts of a code, as they are read: the first one, and the second where there is one
abbrev pub parts_in : Part → Option Part → List Part
parts_in one None = one ∷ []
parts_in one (Some second) = one ∷ second ∷ []

-- both of two parts have one event
abbrev pub AreOnes : Part → Option Part → Type 0
AreOnes one None = Unit {0}
AreOnes one (Some second) = (one.count ≡ 1) × (second.count ≡ 1)

-- the parts of all these codes
abbrev pub all_parts : List (List Part) → List Part
all_parts [] = []
all_parts (c ∷ codes) = c ++ all_parts codes

-- this part is added to the last of these codes, or nothing is changed
abbrev pub IsJoined : List (List Part) → Part → List (List Part) → Bool → Type 0
IsJoined old part new true =
    (all_parts new ≡ all_parts old ++ part ∷ []) × (length new ≡ length old)
    × ((n : ℕ) → n < length old → take n new ≡ take n old)
IsJoined old part new false = new ≡ old

-- how many numbers a part takes, and how many these parts take
abbrev pub numbers_of : Part → ℕ
numbers_of p = if p.count == 0 then kind_numbers p.kind + 4 else kind_numbers p.kind

abbrev pub numbers_in : List Part → ℕ
numbers_in [] = 0
numbers_in (p ∷ parts) = numbers_of p + numbers_in parts

-- a number below 4294967296 as two, the lower half first
abbrev pub wide_left : ℕ → List ℕ
wide_left n = n % 65536 ∷ n / 65536 ∷ []

-- the numbers of an event, and of a count
abbrev pub event_left : Event → List ℕ
event_left (event.Offer item) = if item / 65536 == 0 then item ∷ [] else wide_left item
event_left (event.LoseFrame place) = place ∷ []
event_left (event.LoseAck place) = place ∷ []
event_left _ = []

abbrev pub count_left : ℕ → List ℕ
count_left n = if n / 12 == 0 then [] else wide_left (n % 4294967296) ++ wide_left (n / 4294967296)

-- what two numbers from this place on are, and what four are
abbrev pub wide_at : List ℕ → ℕ → ℕ
wide_at numbers i = get_or numbers i 0 + get_or numbers (i + 1) 0 * 65536

abbrev pub count_at : List ℕ → ℕ → ℕ
count_at numbers i = wide_at numbers i + wide_at numbers (i + 2) * 4294967296

-- the item or the place of an event of this kind whose numbers begin at this place
abbrev pub value_at : List ℕ → ℕ → Kind → ℕ
value_at numbers i kind.Offer = get_or numbers i 0
value_at numbers i kind.LoseFrame = get_or numbers i 0
value_at numbers i kind.LoseAck = get_or numbers i 0
value_at numbers i kind.WideOffer = wide_at numbers i
value_at numbers i _ = 0

-- the run of a part whose numbers begin at this place
abbrev pub run_at : List ℕ → ℕ → Part → Run
run_at numbers i p = record {
  event = event_of p.kind (value_at numbers i p.kind);
  count = if p.count == 0 then count_at numbers (i + kind_numbers p.kind) else p.count;
}

-- the runs of parts whose numbers begin at this place
abbrev pub unpack : List ℕ → ℕ → List Part → List Run
unpack numbers i [] = []
unpack numbers i (p ∷ parts) = run_at numbers i p ∷ unpack numbers (i + numbers_of p) parts

-- the events of runs, the first ones first
abbrev pub expand : List Run → List Event
expand [] = []
expand (r ∷ rest) = replicate r.count r.event ++ expand rest

-- no run is empty, and neighbouring runs have different events
abbrev pub AreRuns : List Run → Type 0
AreRuns [] = Unit {0}
AreRuns (r ∷ []) = 1 ≤ r.count
AreRuns (r ∷ s ∷ rest) = (1 ≤ r.count) × ¬ (r.event ≡ s.event) × AreRuns (s ∷ rest)
