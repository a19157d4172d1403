-- What agents of a ring say has the names of those that they follow, one more after each round.
use Rattle.std.proofs.Common.{◌≡◌, ◌⊎◌, ℕ, zero, suc, ◌+◌, ◌-◌, ◌<◌, ◌≤◌, inl, inr, true, false, List, [], ◌∷◌, ◌++◌, length, Contains, Option, Some, None, refl, sym, ◌∙◌, ap, subst, arith}
use Rattle.std.specs.Prelude.{eqb}
use Rattle.std.specs.List.{AllByRecursion, IsDistinct, list_any}
use Rattle.std.proofs.lemmas.Bool.{cases_Bool, cases_eq, cases_lt, ne_eqb, eqb-true, or_cases}
use Rattle.std.proofs.lemmas.List.Elements.{Contains-append_left, Contains-push}
use Rattle.std.proofs.lemmas.Map.Steps.{length-le_from_distinct_below}
use Rattle.rignolda_ways.specs.declared.asked.Answer.TheVariants.{Takes, Leaves}
use Rattle.rignolda_ways.specs.Nets.{Candidate, Net, IsAt}
use Rattle.rignolda_ways.specs.Turns.{Way, Said, Heard, State, Turn, told, says, asked, after_turn, after_turns}
use Rattle.rignolda_ways.specs.Runs.{WasSaid, IsTurn, AreTurns, moments, Learns, AllLearn, Round, IsRound, after_first, after_round, round_moments, IsRun}
use Rattle.rignolda_ways.specs.Rings.{HasParent, IsRing, StaysInTurns, Stays}
use Rattle.rignolda_ways.proofs.Answered.{follows}
use Rattle.rignolda_ways.proofs.Quality.{says_below, says_root}
use Rattle.rignolda_ways.proofs.Steps.{learned, done, turn_here, turn_elsewhere, by_answer, is_parent, same_candidate}
use Rattle.rignolda_ways.proofs.Named.{heard_now, none_seen, takes_apart, unnamed, with_last}

-- so many of the ring, from this one on, are named
abbrev Names : (ℕ → ℕ) → ℕ → ℕ → ℕ → List ℕ → Type 0
Names ring steps t i names = (j : ℕ) → j < t → i + j ≤ steps → Contains names (ring (i + j))

-- what the ring has said at these moments
abbrev SaidNames : (ℕ → ℕ) → ℕ → ℕ → List Said → Type 0
SaidNames ring steps t said = (i : ℕ) (way : Way) → i ≤ steps → WasSaid said (ring i) way → Names ring steps t i way.names

-- what one of it has heard of its parent
abbrev Hears : (ℕ → ℕ) → ℕ → ℕ → ℕ → Heard → Type 0
Hears ring steps t i heard = Names ring steps t (suc i) heard.way.names × (1 ≤ t → Contains heard.way.names (ring i) → ⊥)

abbrev HeardNames : (ℕ → ℕ) → ℕ → ℕ → State → Type 0
HeardNames ring steps t s = (i : ℕ) (heard : Heard) → i < steps → s (ring i) ≡ Some heard → Hears ring steps t i heard

heard_same : (x y : Heard) → Some x ≡ Some y → x ≡ y
heard_same x y same = cc

-- ---- what is said

told_itself : (net : Net) (v : ℕ) (old : Option Heard) → Contains (told net v old).names v
told_itself net v None = (0, omega arith, refl)
told_itself net v (Some heard) = Contains-push heard.way.names v

names_itself : (net : Net) (s : State) (v : ℕ) → Contains (says net s v).names v
names_itself net s v =
    elim (cases_Bool (net.is_root v)) [
      | inl root ↦ subst (λ (way : Way). Contains way.names v) (sym (says_root net s v root)) (0, omega arith, refl)
      | inr below ↦ subst (λ (way : Way). Contains way.names v) (sym (says_below net s v below)) (told_itself net v (s v))
    ]

says_names : (net : Net) (ring : ℕ → ℕ) (steps t : ℕ) (s : State) → IsRing net ring steps s → HeardNames ring steps t s
    → (i : ℕ) → i ≤ steps → Names ring steps (suc t) i (says net s (ring i)).names
says_names net ring steps t s is hears i in_ring zero few fits =
    let same : i ≡ i + 0 = omega arith in subst (λ k. Contains (says net s (ring i)).names (ring k)) same (names_itself net s (ring i))
says_names net ring steps t s is hears i in_ring (suc j) few fits =
    let (heard, c, agent, below, its, is_at, parent) = is.2 i (omega (arith, fits)) in
    let same : suc i + j ≡ i + suc j = omega arith in
    let names : heard.way.names ++ ring i ∷ [] ≡ (says net s (ring i)).names =
    sym (ap (λ (way : Way). way.names) (says_below net s (ring i) below) ∙ ap (λ o. (told net (ring i) o).names) its) in
    subst (λ names. Contains names (ring (i + suc j))) names
    (Contains-append_left heard.way.names (ring i ∷ []) (ring (i + suc j))
    (subst (λ k. Contains heard.way.names (ring k)) same ((hears i heard (omega (arith, fits)) its).0 j (omega (arith, few)) (omega (arith, fits)))))

said_now : (net : Net) (ring : ℕ → ℕ) (steps t : ℕ) (s : State) (before : List Said) → IsRing net ring steps s → HeardNames ring steps t s
    → SaidNames ring steps (suc t) before → SaidNames ring steps (suc t) (says net s ∷ before)
said_now net ring steps t s before is hears said i way in_ring (inl same) =
    subst (λ (way : Way). Names ring steps (suc t) i way.names) same (says_names net ring steps t s is hears i in_ring)
said_now net ring steps t s before is hears said i way in_ring (inr earlier) = said i way in_ring earlier

said_fewer : (ring : ℕ → ℕ) (steps t : ℕ) (said : List Said) → SaidNames ring steps (suc t) said → SaidNames ring steps t said
said_fewer ring steps t said names i way in_ring was j few fits = names i way in_ring was j (omega (arith, few)) fits

said_still : (net : Net) (ring : ℕ → ℕ) (steps t : ℕ) (s : State) (before : List Said) → IsRing net ring steps s → HeardNames ring steps t s
    → SaidNames ring steps t before → SaidNames ring steps t (says net s ∷ before)
said_still net ring steps t s before is hears said i way in_ring (inl same) j few fits =
    subst (λ (way : Way). Names ring steps (suc t) i way.names) same (says_names net ring steps t s is hears i in_ring) j (omega (arith, few)) fits
said_still net ring steps t s before is hears said i way in_ring (inr earlier) j few fits = said i way in_ring earlier j few fits

said_both : (ring : ℕ → ℕ) (steps t : ℕ) (xs ys : List Said) → SaidNames ring steps t xs → SaidNames ring steps t ys → SaidNames ring steps t (xs ++ ys)
said_both ring steps t [] ys xs_name ys_name i way in_ring was = ys_name i way in_ring was
said_both ring steps t (x ∷ xs) ys xs_name ys_name i way in_ring (inl same) = xs_name i way in_ring (inl same)
said_both ring steps t (x ∷ xs) ys xs_name ys_name i way in_ring (inr there) =
    said_both ring steps t xs ys (λ k its within was. xs_name k its within (inr was)) ys_name i way in_ring there

-- ---- a turn

-- whoever has taken a way of the one that it follows has heard these names
learned_names : (net : Net) (ring : ℕ → ℕ) (steps t : ℕ) (said : List Said) (turn : Turn) (after : State) (i : ℕ) (heard : Heard)
    → IsRing net ring steps after → IsTurn net said turn → SaidNames ring steps t said → i < steps → ring i ≡ turn.agent → after (ring i) ≡ Some heard
    → learned turn ≡ heard → (Contains turn.way.names turn.agent → ⊥) → Hears ring steps t i heard
learned_names net ring steps t said turn after i heard is (d, its, was) names in_ring own has new apart =
    let (other, c, agent, below, now, is_at, parent) = is.2 i in_ring in
    let one : other ≡ heard = heard_same other heard (sym now ∙ has) in
    let place : other.place ≡ turn.place = ap (λ (h : Heard). h.place) (one ∙ sym new) in
    let candidate : c ≡ d = same_candidate net turn.agent other.place turn.place c d place (subst (λ v. IsAt net v other.place c) own is_at) its in
    let agent : d.agent ≡ ring (suc i) = sym (ap (λ (e : Candidate). e.agent) candidate) ∙ parent in
    subst (Hears ring steps t i) new (
      names (suc i) turn.way (omega (arith, in_ring)) (subst (λ u. WasSaid said u turn.way) agent was),
      λ _ named. apart (subst (Contains turn.way.names) own named),
    )

turn_names : (net : Net) (ring : ℕ → ℕ) (steps t : ℕ) (said : List Said) (s : State) (turn : Turn) → IsRing net ring steps (after_turn net s turn)
    → HeardNames ring steps t s → IsTurn net said turn → SaidNames ring steps t said → HeardNames ring steps t (after_turn net s turn)
turn_names net ring steps t said s turn is hears its names i heard in_ring has =
    elim (cases_eq (ring i) turn.agent) [
      | inl same ↦
          elim (heard_now net s turn heard (sym (ap (after_turn net s turn) same ∙ turn_here net s turn) ∙ has)) [
            | inl (new, apart) ↦ learned_names net ring steps t said turn (after_turn net s turn) i heard is its names in_ring same has new apart
            | inr old ↦ hears i heard in_ring (ap s same ∙ old)
          ]
      | inr other ↦ hears i heard in_ring (sym (turn_elsewhere net s turn (ring i) other) ∙ has)
    ]

-- ---- what is due

-- what each of the ring has heard has one name more already, or it learns of its parent still
abbrev Due : (ℕ → ℕ) → ℕ → ℕ → List Turn → State → Type 0
Due ring steps t turns s = (i : ℕ) (heard : Heard) → i < steps → s (ring i) ≡ Some heard → Hears ring steps (suc t) i heard ⊎ Learns turns (ring i) heard.place

due_after : (net : Net) (ring : ℕ → ℕ) (steps t : ℕ) (said : List Said) (s : State) (turn : Turn) (turns : List Turn)
    → IsRing net ring steps (after_turn net s turn) → IsTurn net said turn → SaidNames ring steps (suc t) said
    → Due ring steps t (turn ∷ turns) s → Due ring steps t turns (after_turn net s turn)
due_after net ring steps t said s turn turns is its names due i heard in_ring has =
    elim (cases_eq (ring i) turn.agent) [
      | inl same ↦
          let here : done net s turn ≡ Some heard = sym (ap (after_turn net s turn) same ∙ turn_here net s turn) ∙ has in
          elim (heard_now net s turn heard here) [
            | inl (new, apart) ↦ inl (taken same new apart)
            | inr old ↦
                elim (due i heard in_ring (ap s same ∙ old)) [
                  | inl good ↦ inl good
                  | inr (inl (own, place)) ↦ inl (of_parent same here old (sym place))
                  | inr (inr still) ↦ inr still
                ]
          ]
      | inr other ↦ still other (due i heard in_ring (sym (turn_elsewhere net s turn (ring i) other) ∙ has))
    ]
  where
    taken : ring i ≡ turn.agent → learned turn ≡ heard → (Contains turn.way.names turn.agent → ⊥) → Hears ring steps (suc t) i heard
    taken same new apart = learned_names net ring steps (suc t) said turn (after_turn net s turn) i heard is its names in_ring same has new apart

    of_parent : ring i ≡ turn.agent → done net s turn ≡ Some heard → s turn.agent ≡ Some heard → heard.place ≡ turn.place → Hears ring steps (suc t) i heard
    of_parent same here old place =
        elim (follows net.none (asked net s turn) (is_parent net s turn heard old place)) [
          | inl takes ↦
              taken same (heard_same (learned turn) heard (sym (by_answer net s turn Takes takes) ∙ here))
              (unnamed turn.way.names turn.agent (takes_apart net.none (asked net s turn) takes))
          | inr (why, leaves) ↦ let now : None ≡ Some heard = sym (by_answer net s turn (Leaves why) leaves) ∙ here in cc
        ]

    still : {A : Type 0} {place : ℕ} → (ring i ≡ turn.agent → ⊥) → A ⊎ Learns (turn ∷ turns) (ring i) place → A ⊎ Learns turns (ring i) place
    still other (inl is) = inl is
    still other (inr (inl (own, same))) = absurd (other (sym own))
    still other (inr (inr there)) = inr there

-- ---- turns and rounds

first_holds : (net : Net) (holds : State → Type 0) (s : State) (turns : List Turn) → StaysInTurns net holds s turns → holds s
first_holds net holds s [] stays = stays
first_holds net holds s (turn ∷ turns) stays = stays.0

turns_name : (net : Net) (ring : ℕ → ℕ) (steps t : ℕ) (before : List Said) (s : State) (turns : List Turn) → StaysInTurns net (IsRing net ring steps) s turns
    → HeardNames ring steps t s → SaidNames ring steps t before → AreTurns net before s turns
    → HeardNames ring steps t (after_turns net s turns) × SaidNames ring steps (suc t) (moments net s turns)
turns_name net ring steps t before s [] is hears names are =
    (hears, said_now net ring steps t s [] is hears (λ i way in_ring never. absurd never))
turns_name net ring steps t before s (turn ∷ turns) (is, stays) hears names are =
    let now = said_still net ring steps t s before is hears names in
    let after = first_holds net (IsRing net ring steps) (after_turn net s turn) turns stays in
    let (last, said) = turns_name net ring steps t (says net s ∷ before) (after_turn net s turn) turns stays
    (turn_names net ring steps t (says net s ∷ before) s turn after hears are.0 now) now are.1 in
    (last, said_now net ring steps t s (moments net (after_turn net s turn) turns) is hears said)

turns_due : (net : Net) (ring : ℕ → ℕ) (steps t : ℕ) (before : List Said) (s : State) (turns : List Turn) → StaysInTurns net (IsRing net ring steps) s turns
    → HeardNames ring steps t s → SaidNames ring steps (suc t) before → Due ring steps t turns s → AreTurns net before s turns
    → HeardNames ring steps (suc t) (after_turns net s turns)
turns_due net ring steps t before s [] is hears names due are = λ i heard in_ring has. at_last (due i heard in_ring has)
  where
    at_last : {A : Type 0} → A ⊎ ⊥ → A
    at_last (inl is) = is
    at_last (inr never) = absurd never
turns_due net ring steps t before s (turn ∷ turns) (is, stays) hears names due are =
    let now = said_now net ring steps t s before is hears names in
    let after = first_holds net (IsRing net ring steps) (after_turn net s turn) turns stays in
    turns_due net ring steps t (says net s ∷ before) (after_turn net s turn) turns stays
    (turn_names net ring steps t (says net s ∷ before) s turn after hears are.0 (said_fewer ring steps t (says net s ∷ before) now)) now
    (due_after net ring steps t (says net s ∷ before) s turn turns after are.0 now due) are.1

begins_due : (net : Net) (ring : ℕ → ℕ) (steps t : ℕ) (s : State) (turns : List Turn) → IsRing net ring steps s → AllLearn net turns → Due ring steps t turns s
begins_due net ring steps t s turns is all i heard in_ring has =
    let (other, c, agent, below, its, is_at, parent) = is.2 i in_ring in
    let same : other ≡ heard = heard_same other heard (sym its ∙ has) in
    inr (all (ring i) heard.place agent below c (subst (λ (h : Heard). IsAt net (ring i) h.place c) same is_at))

round_names : (net : Net) (ring : ℕ → ℕ) (steps t : ℕ) (before : List Said) (s : State) (round : Round)
    → StaysInTurns net (IsRing net ring steps) s round.first → StaysInTurns net (IsRing net ring steps) (after_first net s round) round.second
    → HeardNames ring steps t s → SaidNames ring steps t before → IsRound net before s round
    → HeardNames ring steps (suc t) (after_round net s round) × SaidNames ring steps (suc t) (round_moments net s round)
round_names net ring steps t before s round in_first in_second hears names is =
    let there = after_first net s round in
    let (middle, first) = turns_name net ring steps t before s round.first in_first hears names is.first in
    let (_, second) = turns_name net ring steps t (moments net s round.first) there round.second in_second middle
    (said_fewer ring steps t (moments net s round.first) first) is.second in (
      turns_due net ring steps t (moments net s round.first) there round.second in_second middle first
          (begins_due net ring steps t there round.second (first_holds net (IsRing net ring steps) there round.second in_second) is.all) is.second,
      said_both ring steps (suc t) (moments net s round.first) (moments net there round.second) first second,
    )

-- once it has as many names as the ring has agents, the first one has heard its own
no_ring_names : (net : Net) (ring : ℕ → ℕ) (steps t : ℕ) (s : State) → steps ≤ t → IsRing net ring steps s → HeardNames ring steps t s → ⊥
no_ring_names net ring zero t s enough is hears = omega (arith, is.0)
no_ring_names net ring (suc last) t s enough is hears =
    let (heard, c, agent, below, its, is_at, parent) = is.2 0 (omega arith) in
    let (names, apart) = hears 0 heard (omega arith) its in
    let named : Contains heard.way.names (ring (1 + last)) = names last (omega (arith, enough)) (omega arith) in
    let same : 1 + last ≡ suc last = omega arith in
    apart (omega (arith, enough)) (subst (Contains heard.way.names) (ap ring same ∙ is.1) named)

no_ring : (net : Net) (ring : ℕ → ℕ) (steps t : ℕ) (before : List Said) (s : State) (rounds : List Round) (further : List Turn)
    → Stays net (IsRing net ring steps) s rounds → HeardNames ring steps t s → SaidNames ring steps t before → IsRun net before s rounds further
    → steps ≤ t + length rounds → ⊥
no_ring net ring steps t before s [] further stays hears names run enough =
    no_ring_names net ring steps t s (omega (arith, enough)) stays hears
no_ring net ring steps t before s (round ∷ rounds) further (in_first, in_second, stays) hears names run enough =
    let (heard, said) = round_names net ring steps t before s round in_first in_second hears names run.0 in
    no_ring net ring steps (suc t) (round_moments net s round) (after_round net s round) rounds further stays heard said run.1 (omega (arith, enough))

begins_heard : (ring : ℕ → ℕ) (steps : ℕ) (s : State) → HeardNames ring steps 0 s
begins_heard ring steps s i heard in_ring has = (λ j few. absurd (omega (arith, few)), λ some. absurd (omega (arith, some)))

begins_said : (ring : ℕ → ℕ) (steps : ℕ) (before : List Said) → SaidNames ring steps 0 before
begins_said ring steps before i way in_ring was j few = absurd (omega (arith, few))

pub no_short_ring : (net : Net) (ring : ℕ → ℕ) (steps : ℕ) (before : List Said) (s : State) (rounds : List Round) (further : List Turn)
    → Stays net (IsRing net ring steps) s rounds → IsRun net before s rounds further → steps ≤ length rounds → ⊥
no_short_ring net ring steps before s rounds further stays run enough =
    no_ring net ring steps 0 before s rounds further stays (begins_heard ring steps s) (begins_said ring steps before) run (omega (arith, enough))

-- ---- rings of any length

stays_in_turns : (net : Net) (holds others : State → Type 0) (s : State) (turns : List Turn) → ((s : State) → holds s → others s)
    → StaysInTurns net holds s turns → StaysInTurns net others s turns
stays_in_turns net holds others s [] each stays = each s stays
stays_in_turns net holds others s (turn ∷ turns) each (is, stays) = (each s is, stays_in_turns net holds others (after_turn net s turn) turns each stays)

stays_so : (net : Net) (holds others : State → Type 0) (s : State) (rounds : List Round) → ((s : State) → holds s → others s)
    → Stays net holds s rounds → Stays net others s rounds
stays_so net holds others s [] each stays = each s stays
stays_so net holds others s (round ∷ rounds) each (in_first, in_second, stays) = (
  stays_in_turns net holds others s round.first each in_first,
  stays_in_turns net holds others (after_first net s round) round.second each in_second,
  stays_so net holds others (after_round net s round) rounds each stays,
)

starts_so : (net : Net) (holds : State → Type 0) (s : State) (rounds : List Round) → Stays net holds s rounds → holds s
starts_so net holds s [] stays = stays
starts_so net holds s (round ∷ rounds) (in_first, in_second, stays) = first_holds net holds s round.first in_first

-- the first ones of a ring, the last of them first
abbrev firsts : (ℕ → ℕ) → ℕ → List ℕ
firsts ring zero = []
firsts ring (suc n) = ring n ∷ firsts ring n

firsts_long : (ring : ℕ → ℕ) (n : ℕ) → length (firsts ring n) ≡ n
firsts_long ring zero = refl
firsts_long ring (suc n) = omega (arith, firsts_long ring n)

comes_before : (ring : ℕ → ℕ) (v n : ℕ) → ((a : ℕ) × (a < n) × (ring a ≡ v)) ⊎ AllByRecursion (λ u. eqb v u ≡ false) (firsts ring n)
comes_before ring v zero = inr tt
comes_before ring v (suc n) =
    elim (cases_eq v (ring n)) [
      | inl same ↦ inl (n, omega arith, sym same)
      | inr other ↦
          elim (comes_before ring v n) [
            | inl (a, before, same) ↦ inl (a, omega (arith, before), same)
            | inr none ↦ inr (ne_eqb v (ring n) other, none)
          ]
    ]

-- an agent comes twice
abbrev Twice : (ℕ → ℕ) → ℕ → Type 0
Twice ring n = (a : ℕ) × (b : ℕ) × (a < b) × (b < n) × (ring a ≡ ring b)

twice : (ring : ℕ → ℕ) (n : ℕ) → Twice ring n ⊎ IsDistinct eqb (firsts ring n)
twice ring zero = inr none_seen
twice ring (suc n) =
    elim (twice ring n) [
      | inl (a, b, before, low, same) ↦ inl (a, b, before, omega (arith, low), same)
      | inr distinct ↦
          elim (comes_before ring (ring n) n) [
            | inl (a, before, same) ↦ inl (a, n, before, omega arith, same)
            | inr none ↦ inr (with_last (firsts ring n) (ring n) none distinct)
          ]
    ]

firsts_are : (ring : ℕ → ℕ) (agents n : ℕ) → ((i : ℕ) → i < n → ring i < agents) → (q : ℕ) → list_any (eqb q) (firsts ring n) ≡ true → q < agents
firsts_are ring agents zero each q is = let never : false ≡ true = is in cc
firsts_are ring agents (suc n) each q is =
    elim (or_cases (eqb q (ring n)) (list_any (eqb q) (firsts ring n)) is) [
      | inl here ↦ let same : q ≡ ring n = eqb-true q (ring n) here in omega (arith, same, each n (omega arith))
      | inr there ↦ firsts_are ring agents n (λ i low. each i (omega (arith, low))) q there
    ]

-- the part of a ring from an agent to where it comes again
part : (net : Net) (ring : ℕ → ℕ) (steps a b : ℕ) (s : State) → a < b → b < steps → ring a ≡ ring b → IsRing net ring steps s
    → IsRing net (λ i. ring (a + i)) (b - a) s
part net ring steps a b s before low same is = (
  omega (arith, before),
  ap ring last ∙ (sym same ∙ ap ring first),
  λ i fits. let next : suc (a + i) ≡ a + suc i = omega arith in
      subst (λ k. HasParent net s (ring (a + i)) (ring k)) next (is.2 (a + i) (omega (arith, fits, before, low))),
)
  where
    last : a + (b - a) ≡ b
    last = omega (arith, before)

    first : a ≡ a + 0
    first = omega arith

pub no_long_ring : (net : Net) (ring : ℕ → ℕ) (steps : ℕ) (before : List Said) (s : State) (rounds : List Round) (further : List Turn)
    → Stays net (IsRing net ring steps) s rounds → IsRun net before s rounds further → net.agents ≤ length rounds → ⊥
no_long_ring net ring steps before s rounds further stays run enough =
    elim (cases_lt net.agents steps) [
      | inr short ↦ no_short_ring net ring steps before s rounds further stays run (omega (arith, short, enough))
      | inl long ↦
          elim (twice ring (suc net.agents)) [
            | inl (a, b, before_it, low, same) ↦
                no_short_ring net (λ i. ring (a + i)) (b - a) before s rounds further
                (stays_so net (IsRing net ring steps) (IsRing net (λ i. ring (a + i)) (b - a)) s rounds
                (λ s is. part net ring steps a b s before_it (omega (arith, low, long)) same is) stays) run (omega (arith, low, enough))
            | inr distinct ↦
                let is = starts_so net (IsRing net ring steps) s rounds stays in
                omega (
                  arith,
                  firsts_long ring (suc net.agents),
                  length-le_from_distinct_below (firsts ring (suc net.agents)) net.agents distinct
                      (firsts_are ring net.agents (suc net.agents) (λ i low. (is.2 i (omega (arith, low, long))).2)),
                )
          ]
    ]
