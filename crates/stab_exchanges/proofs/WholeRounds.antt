-- How many reading rounds there are among events, where one after the other is added: a whole one
-- counts, wherever it begins.
use Rattle.std.proofs.Common.{◌≡◌, ℕ, zero, suc, ◌+◌, ◌≤◌, false, List, [], ◌∷◌, ◌++◌, map, replicate, ap, ◌∙◌, arith}
use Rattle.std.proofs.lemmas.List.{map-append}
use Rattle.stab_core.specs.declared.act.LinkAct.{LinkAct}
use Rattle.stab_core.specs.declared.act.LinkAct.TheVariants as act
use Rattle.stab_core.specs.declared.event.Event.{Event}
use Rattle.stab_core.specs.declared.event.Event.TheVariants.{SendFrame, RecvFrame, SendAck, RecvAck}
use Rattle.stab_rounds.specs.Played.{reading_round_with}
use Rattle.stab_rounds.specs.ReadingRounds.{Reads, offer, frames, frame, acks, ack, reads_after, reading_from}
use Rattle.stab_rounds.specs.Rounds.{act_of}

-- at most c messages are still to be taken
abbrev pub IsLeft : ℕ → Reads → Type 0
IsLeft c (frames left) = left ≤ c
IsLeft c (acks left) = left ≤ c
IsLeft c r = Unit {0}

left_after : (c : ℕ) (r : Reads) (a : LinkAct) → IsLeft c r → IsLeft c (reads_after c r a)
left_after c offer act.Offer few = omega arith
left_after c (frames (suc left)) (act.RecvFrame false) few = omega (arith, few)
left_after c (frames zero) act.SendFrame few = tt
left_after c frame (act.RecvFrame false) few = omega arith
left_after c frame (act.LoseFrame place) few = omega arith
left_after c (acks (suc left)) (act.RecvAck false) few = omega (arith, few)
left_after c (acks zero) act.SendAck few = tt
left_after c ack (act.RecvAck false) few = tt
left_after c ack (act.LoseAck place) few = omega arith
left_after c r a few = few

-- what is awaited after these acts
abbrev pub reads_over : ℕ → Reads → List LinkAct → Reads
reads_over c r [] = r
reads_over c r (a ∷ acts) = reads_over c (reads_after c r a) acts

pub left_over : (c : ℕ) (r : Reads) (acts : List LinkAct) → IsLeft c r → IsLeft c (reads_over c r acts)
left_over c r [] few = few
left_over c r (a ∷ acts) few = left_over c (reads_after c r a) acts (left_after c r a few)

pub reading_append : (c : ℕ) (r : Reads) (first second : List LinkAct)
    → reading_from c r (first ++ second) ≡ reading_from c r first + reading_from c (reads_over c r first) second
reading_append c r [] second = omega arith
reading_append c r (a ∷ first) second = omega (arith, reading_append c (reads_after c r a) first second)

-- the reading rounds among these events, where this is awaited first
abbrev pub counted : ℕ → Reads → List Event → ℕ
counted c r events = reading_from c r (map act_of events)

pub counted_append : (c : ℕ) (r : Reads) (first second : List Event)
    → counted c r (first ++ second) ≡ counted c r first + counted c (reads_over c r (map act_of first)) second
counted_append c r first second =
    ap (reading_from c r) (map-append act_of first second) ∙ reading_append c r (map act_of first) (map act_of second)

-- ---- a whole round, from its end

abbrev answering : ℕ → List Event
answering n = replicate n (RecvAck false) ++ (SendAck ∷ RecvAck false ∷ [])

abbrev sending : ℕ → List Event
sending c = SendFrame ∷ RecvFrame false ∷ answering c

from_acks : (c left n : ℕ) → left ≤ n → 1 ≤ counted c (acks left) (answering n)
from_acks c zero zero few = omega arith
from_acks c (suc left) zero few = absurd (omega arith)
from_acks c zero (suc n) few = omega (arith, from_acks c zero n (omega arith))
from_acks c (suc left) (suc n) few = omega (arith, from_acks c left n (omega arith))

from_ack : (c n : ℕ) → 1 ≤ counted c ack (answering n)
from_ack c zero = omega arith
from_ack c (suc n) = omega arith

-- no frame is to be taken before one is sent
abbrev IsPast : ℕ → Reads → Type 0
IsPast c offer = ⊥
IsPast c (frames zero) = Unit {0}
IsPast c (frames (suc left)) = ⊥
IsPast c frame = Unit {0}
IsPast c (acks left) = left ≤ c
IsPast c ack = Unit {0}

past_sent : (c : ℕ) (r : Reads) → IsPast c r → 1 ≤ counted c r (sending c)
past_sent c offer past = absurd past
past_sent c (frames zero) past = omega (arith, from_acks c c c (omega arith))
past_sent c (frames (suc left)) past = absurd past
past_sent c frame past = omega (arith, from_acks c c c (omega arith))
past_sent c (acks zero) past = omega (arith, from_acks c zero c past)
past_sent c (acks (suc left)) past = omega (arith, from_acks c (suc left) c past)
past_sent c ack past = omega (arith, from_ack c c)

past_frames : (c n : ℕ) (r : Reads) → IsPast c r → 1 ≤ counted c r (replicate n (RecvFrame false) ++ sending c)
past_frames c zero r past = past_sent c r past
past_frames c (suc n) offer past = absurd past
past_frames c (suc n) (frames zero) past = omega (arith, past_frames c n (frames zero) tt)
past_frames c (suc n) (frames (suc left)) past = absurd past
past_frames c (suc n) frame past = omega (arith, past_frames c n (acks c) (omega arith))
past_frames c (suc n) (acks zero) past = omega (arith, past_frames c n (acks zero) past)
past_frames c (suc n) (acks (suc left)) past = omega (arith, past_frames c n (acks (suc left)) past)
past_frames c (suc n) ack past = omega (arith, past_frames c n ack tt)

from_frames : (c left n : ℕ) → left ≤ n → 1 ≤ counted c (frames left) (replicate n (RecvFrame false) ++ sending c)
from_frames c zero n few = past_frames c n (frames zero) tt
from_frames c (suc left) zero few = absurd (omega arith)
from_frames c (suc left) (suc n) few = omega (arith, from_frames c left n (omega arith))

pub whole_counts : (c item : ℕ) (r : Reads) → IsLeft c r → 1 ≤ counted c r (reading_round_with c item)
whole_counts c item offer few = omega (arith, from_frames c c c (omega arith))
whole_counts c item (frames zero) few = omega (arith, from_frames c zero c few)
whole_counts c item (frames (suc left)) few = omega (arith, from_frames c (suc left) c few)
whole_counts c item frame few = omega (arith, past_frames c c frame tt)
whole_counts c item (acks zero) few = omega (arith, past_frames c c (acks zero) few)
whole_counts c item (acks (suc left)) few = omega (arith, past_frames c c (acks (suc left)) few)
whole_counts c item ack few = omega (arith, past_frames c c ack tt)
