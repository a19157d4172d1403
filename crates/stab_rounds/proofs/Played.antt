-- Events that are a number of rounds and nothing else count as that number of rounds.
use Rattle.std.proofs.Common.{◌≡◌, inl, inr, ℕ, zero, suc, ◌+◌, ◌-◌, ◌<◌, ◌≤◌, false, List, [], ◌∷◌, ◌++◌, map, length, replicate, refl, ◌∙◌, ap, arith}
use Rattle.stab_frames.specs.Parameters.{Parameters}
use Rattle.stab_core.specs.LinkState.{LinkState}
use Rattle.stab_core.specs.Step.{step}
use Rattle.stab_core.specs.Replay.{replay}
use Rattle.stab_core.specs.declared.event.Event.{Event}
use Rattle.stab_core.specs.declared.event.Event.TheVariants.{Offer, SendFrame, RecvFrame, SendAck, RecvAck}
use Rattle.std.proofs.lemmas.Bool.{cases_lt}
use Rattle.stab_core.specs.Link.{LinkValue, link_at}
use Rattle.stab_core.proofs.Replays.{replay-append}
use Rattle.stab_rounds.specs.Rounds.{IsWithin, act_of, rounds_of}
use Rattle.stab_rounds.specs.ReadingRounds.{frames, acks, reading_from, reading_rounds}
use Rattle.stab_rounds.specs.Played.{round_with, rounds_with, reading_round_with}

-- `rounds` rounds, one after the other, count as `rounds` rounds
pub rounds_with_count : (item rounds : ℕ) → rounds_of (rounds_with item rounds) ≡ rounds
rounds_with_count item zero = refl
rounds_with_count item (suc rounds) = omega (arith, rounds_with_count item rounds)

-- frames that are taken, as many as are to be taken
frames_read : (c left : ℕ) (rest : List Event)
    → reading_from c (frames left) (map act_of (replicate left (RecvFrame false) ++ rest)) ≡ reading_from c (frames 0) (map act_of rest)
frames_read c zero rest = refl
frames_read c (suc left) rest = omega (arith, frames_read c left rest)

-- and acknowledgements
acks_read : (c left : ℕ) (rest : List Event)
    → reading_from c (acks left) (map act_of (replicate left (RecvAck false) ++ rest)) ≡ reading_from c (acks 0) (map act_of rest)
acks_read c zero rest = refl
acks_read c (suc left) rest = omega (arith, acks_read c left rest)

-- the second half of a reading round, and its end
abbrev heard : List Event
heard = SendAck ∷ RecvAck false ∷ []

abbrev answered : ℕ → List Event
answered c = SendFrame ∷ RecvFrame false ∷ (replicate c (RecvAck false) ++ heard)

-- a reading round is one
pub reading_round_with_count : (c item : ℕ) → reading_rounds c (reading_round_with c item) ≡ 1
reading_round_with_count c item =
    ap (λ n. 0 + n) (frames_read c c (answered c)) ∙ ap (λ n. 0 + (0 + (0 + n))) (acks_read c c heard)

-- the first of the rounds that are left
pub rounds_left : (p : Parameters) (s : LinkState) (item rounds done : ℕ) → done < rounds
    → replay p s (rounds_with item (rounds - done)) ≡ replay p (replay p s (round_with item)) (rounds_with item (rounds - (done + 1)))
rounds_left p s item rounds done more =
    ap (λ n. replay p s (rounds_with item n)) (let e : rounds - done ≡ suc (rounds - (done + 1)) = omega arith in e)

-- the first of the events that are left
pub times_left : (p : Parameters) (s : LinkState) (e : Event) (times done : ℕ) → done < times
    → replay p s (replicate (times - done) e) ≡ replay p (step p s e) (replicate (times - (done + 1)) e)
times_left p s e times done more =
    ap (λ n. replay p s (replicate n e)) (let is : times - done ≡ suc (times - (done + 1)) = omega arith in is)

-- a link after an event, and after one event `n` times
abbrev after_event : Event → LinkValue → LinkValue
after_event e l = link_at l.params (step l.params l.state e)

abbrev after_times : ℕ → Event → LinkValue → LinkValue
after_times n e l = link_at l.params (replay l.params l.state (replicate n e))

-- so a link in a known state goes on to a known one
pub on_event : (p : Parameters) (s : LinkState) (e : Event) {l m : LinkValue} → l ≡ link_at p s
    → m ≡ link_at l.params (step l.params l.state e) → m ≡ link_at p (step p s e)
on_event p s e is stepped = stepped ∙ ap (after_event e) is

pub on_times : (p : Parameters) (s : LinkState) (n : ℕ) (e : Event) {l m : LinkValue} → l ≡ link_at p s
    → m ≡ link_at l.params (replay l.params l.state (replicate n e)) → m ≡ link_at p (replay p s (replicate n e))
on_times p s n e is replayed = replayed ∙ ap (after_times n e) is

-- one event, and then the others
first_event : (p : Parameters) (s : LinkState) (e : Event) (es : List Event) → replay p s (e ∷ es) ≡ replay p (step p s e) es
first_event p s e es = refl

-- the states of a reading round, part by part
abbrev pub read_state : Parameters → LinkState → ℕ → ℕ → LinkState
read_state p s c item = replay p (step p s (Offer item)) (replicate c (RecvFrame false))

abbrev pub told_state : Parameters → LinkState → ℕ → LinkState
told_state p read c = replay p (step p (step p read SendFrame) (RecvFrame false)) (replicate c (RecvAck false))

pub read_in_parts : (p : Parameters) (s : LinkState) (c item : ℕ) → replay p s (reading_round_with c item)
    ≡ step p (step p (told_state p (read_state p s c item) c) SendAck) (RecvAck false)
read_in_parts p s c item =
    let offered : LinkState = step p s (Offer item) in
    let read : LinkState = read_state p s c item in
    let sent : LinkState = step p read SendFrame in
    let told : LinkState = told_state p read c in
    first_event p s (Offer item) (replicate c (RecvFrame false) ++ answered c)
    ∙ replay-append p offered (replicate c (RecvFrame false)) (answered c)
    ∙ first_event p read SendFrame (RecvFrame false ∷ (replicate c (RecvAck false) ++ heard))
    ∙ first_event p sent (RecvFrame false) (replicate c (RecvAck false) ++ heard)
    ∙ replay-append p (step p sent (RecvFrame false)) (replicate c (RecvAck false)) heard
    ∙ first_event p told SendAck (RecvAck false ∷ [])
    ∙ first_event p (step p told SendAck) (RecvAck false) []

-- the state of a link is within its bounds
pub link_within : (p : Parameters) (s : LinkState) → length s.frames ≤ p.capacity → length s.acks ≤ p.capacity
    → s.acked ≤ length s.offered → length s.offered ≤ s.acked + 1 → IsWithin p s
link_within p s few_frames few_acks offered one =
    record {
      frames = few_frames;
      acks = few_acks;
      waits = elim (cases_lt s.acked (length s.offered)) [
        | inl more ↦ inr (omega arith)
        | inr none ↦ inl (omega arith)
      ];
    }
