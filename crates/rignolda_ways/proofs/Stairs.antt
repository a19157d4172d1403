-- A chain of agents, each of which learns what the one before it said before that one learned better.
-- The first one is wrong after one round, and so is each of the others a round later.
use Rattle.std.proofs.Common.{◌≡◌, ◌⊎◌, ℕ, zero, suc, ◌+◌, ◌<◌, ◌≤◌, inl, inr, Bool, true, false, not, ◌&&◌, List, [], ◌∷◌, length, Contains, Option, Some, None, slice_get, refl, sym, ◌∙◌, ap, subst, length-append, arith}
use Rattle.std.specs.Prelude.{min, nat_lt, is_some}
use Rattle.std.proofs.lemmas.Bool.{cases_eq, cases_lt, lt-ltb, ltb-true}
use Rattle.std.proofs.lemmas.List.Elements.{Contains-push_cases}
use Rattle.rignolda_ways.specs.declared.asked.Answer.TheVariants.{Takes, Keeps}
use Rattle.rignolda_ways.specs.Nets.{Candidate, Net, IsAt, IsNet, Path, IsDistance}
use Rattle.rignolda_ways.specs.Answers.{over, fault_of, answer_of}
use Rattle.rignolda_ways.specs.Turns.{Way, Said, Heard, State, Turn, price_at, told, says, is_place, asked, after_turn, after_turns}
use Rattle.rignolda_ways.specs.Runs.{AreTurns, Learns, AllLearn, Round, after_round, round_moments, after_rounds, IsRun}
use Rattle.rignolda_ways.proofs.Answered.{no_fault, takes_parent, takes_free, keeps, apart, heard_after}
use Rattle.rignolda_ways.proofs.Quality.{over_is}
use Rattle.rignolda_ways.proofs.Steps.{learned, done, turn_here, turn_elsewhere, by_answer, is_parent, is_other}

abbrev is_zero : ℕ → Bool
is_zero zero = true
is_zero (suc v) = false

abbrev by : ℕ → Candidate
by u = record { agent = u; cost = 1 }

abbrev only_if : Bool → ℕ → List Candidate
only_if true u = by u ∷ []
only_if false u = []

-- the first one has the last one behind the chain, which has no candidate, and the root; each other
-- one of the chain has the one before
abbrev chained : ℕ → ℕ → List Candidate
chained last zero = []
chained last (suc zero) = by (suc last) ∷ by 0 ∷ []
chained last (suc (suc v)) = only_if (nat_lt (suc v) last) (suc v)

abbrev pub chain : ℕ → Net
chain last = record { agents = suc (suc last); is_root = is_zero; candidates = chained last; none = 128 }

some_same : {A : Type 0} (x y : A) → Some x ≡ Some y → x ≡ y
some_same x y same = cc

abbrev Fine : ℕ → Candidate → Type 0
Fine last c = (c.agent < suc (suc last)) × (1 ≤ c.cost)

only_fine : (last u : ℕ) (b : Bool) (place : ℕ) (c : Candidate) → u < suc (suc last) → slice_get (only_if b u) place ≡ Some c → Fine last c
only_fine last u true zero c low is = subst (Fine last) (some_same (by u) c is) (low, omega arith)
only_fine last u true (suc place) c low is = cc
only_fine last u false place c low is = cc

pub lawful : (last : ℕ) → IsNet (chain last)
lawful last zero place agent c is = cc
lawful last (suc zero) zero agent c is = subst (Fine last) (some_same (by (suc last)) c is) (omega arith, omega arith)
lawful last (suc zero) (suc zero) agent c is = subst (Fine last) (some_same (by 0) c is) (omega arith, omega arith)
lawful last (suc zero) (suc (suc place)) agent c is = cc
lawful last (suc (suc v)) place agent c is = only_fine last (suc v) (nat_lt (suc v) last) place c (omega (arith, agent)) is

-- ---- distances

at_chain : (last v : ℕ) → suc v < last → IsAt (chain last) (suc (suc v)) 0 (by (suc v))
at_chain last v low = ap (λ b. slice_get (only_if b (suc v)) 0) (lt-ltb (suc v) last low)

path : (last v : ℕ) → v < last → Path (chain last) (suc v) (suc v) (suc v)
path last zero low = (1, by 0, 0, refl, (refl, refl), refl)
path last (suc v) low = (0, by (suc v), suc v, at_chain last v low, path last v (omega (arith, low)), omega arith)

only_is : (u : ℕ) (b : Bool) (place : ℕ) (c : Candidate) → slice_get (only_if b u) place ≡ Some c → by u ≡ c
only_is u true zero c is = some_same (by u) c is
only_is u true (suc place) c is = cc
only_is u false place c is = cc

far : (last hops v cost : ℕ) → v ≤ last → Path (chain last) hops v cost → v ≤ cost
far last zero zero cost low path = omega arith
far last zero (suc v) cost low path = let never : false ≡ true = path.0 in cc
far last (suc hops) zero cost low path = omega arith
far last (suc hops) (suc zero) cost low (place, c, rest, is, path, sum) = omega (arith, (lawful last 1 place (omega arith) c is).1, sum)
far last (suc hops) (suc (suc v)) cost low (place, c, rest, is, path, sum) =
    let same = only_is (suc v) (nat_lt (suc v) last) place c is in
    let before = far last hops (suc v) rest (omega (arith, low)) (subst (λ (d : Candidate). Path (chain last) hops d.agent rest) (sym same) path) in
    let one : 1 ≡ c.cost = ap (λ (d : Candidate). d.cost) same in
    omega (arith, before, sum, one)

pub distant : (last v : ℕ) → v < last → IsDistance (chain last) (suc v) (suc v)
distant last v low = ((suc v, path last v low), λ hops cost its. far last hops (suc v) cost (omega (arith, low)) its)

-- ---- the rounds

abbrev pub start : State
start zero = None
start (suc zero) = Some (record { place = 0; way = record { cost = 0; names = [] } })
start (suc (suc v)) = None

-- the agent learns what this one says now
abbrev now : ℕ → State → ℕ → ℕ → ℕ → Turn
now last s v place u = record {
  agent = v;
  place = place;
  way = says (chain last) s u;
  is_sole = true;
  has_children = false;
  was_in_circle = false;
  head_is_smaller = false;
}

abbrev last_two : ℕ → State → List Turn
last_two last s = now last s 1 1 0 ∷ now last (after_turn (chain last) s (now last s 1 1 0)) 1 0 (suc last) ∷ []

-- from the end of the chain on
abbrev down : ℕ → ℕ → State → List Turn
down last zero s = last_two last s
down last (suc n) s = now last s (suc (suc n)) 0 (suc n) ∷ down last n (after_turn (chain last) s (now last s (suc (suc n)) 0 (suc n)))

abbrev all_down : ℕ → State → Round
all_down m s = record { first = []; second = down (suc m) m s }

abbrev pub slow : ℕ → ℕ → State → List Round
slow m zero s = []
slow m (suc r) s = all_down m s ∷ slow m r (after_round (chain (suc m)) s (all_down m s))

down_turns : (last n : ℕ) (said : List Said) (s : State) → n < last → AreTurns (chain last) said s (down last n s)
down_turns last zero said s low = ((by 0, refl, inl refl), ((by (suc last), refl, inl refl), tt))
down_turns last (suc n) said s low = (
  (by (suc n), at_chain last n low, inl refl),
  down_turns last n (says (chain last) s ∷ said) (after_turn (chain last) s (now last s (suc (suc n)) 0 (suc n))) (omega (arith, low)),
)

one_learns : (last n : ℕ) (s : State) → Learns (down last n s) 1 0 × Learns (down last n s) 1 1
one_learns last zero s = (inr (inl (refl, refl)), inl (refl, refl))
one_learns last (suc n) s =
    let (first, second) = one_learns last n (after_turn (chain last) s (now last s (suc (suc n)) 0 (suc n))) in (inr first, inr second)

others_learn : (last n v : ℕ) (s : State) → v < n → Learns (down last n s) (suc (suc v)) 0
others_learn last zero v s low = absurd (omega (arith, low))
others_learn last (suc n) v s low =
    elim (cases_eq n v) [
      | inl same ↦ inl (ap (λ k. suc (suc k)) same, refl)
      | inr other ↦ inr (others_learn last n v (after_turn (chain last) s (now last s (suc (suc n)) 0 (suc n))) (omega (arith, low, other)))
    ]

only_first : (u : ℕ) (b : Bool) (place : ℕ) (c : Candidate) → slice_get (only_if b u) place ≡ Some c → (b ≡ true) × (place ≡ 0)
only_first u true zero c is = (refl, refl)
only_first u true (suc place) c is = cc
only_first u false place c is = cc

all_learn : (m : ℕ) (s : State) → AllLearn (chain (suc m)) (down (suc m) m s)
all_learn m s zero place agent below c is = let never : true ≡ false = below in cc
all_learn m s (suc zero) zero agent below c is = (one_learns (suc m) m s).0
all_learn m s (suc zero) (suc zero) agent below c is = (one_learns (suc m) m s).1
all_learn m s (suc zero) (suc (suc place)) agent below c is = cc
all_learn m s (suc (suc v)) place agent below c is =
    let (test, first) = only_first (suc v) (nat_lt (suc v) (suc m)) place c is in
    subst (Learns (down (suc m) m s) (suc (suc v))) (sym first)
    (others_learn (suc m) m v s (omega (arith, ltb-true (suc v) (suc m) test)))

pub slow_run : (m r : ℕ) (before : List Said) (s : State) → IsRun (chain (suc m)) before s (slow m r s) []
slow_run m zero before s = tt
slow_run m (suc r) before s = (
  record { first = tt; second = down_turns (suc m) m (says (chain (suc m)) s ∷ []) s (omega arith); all = all_learn m s },
  slow_run m r (round_moments (chain (suc m)) s (all_down m s)) (after_round (chain (suc m)) s (all_down m s)),
)

pub slow_long : (m r : ℕ) (s : State) → length (slow m r s) ≡ r
slow_long m zero s = refl
slow_long m (suc r) s = omega (arith, slow_long m r (after_round (chain (suc m)) s (all_down m s)))

-- ---- what comes of them

down_above : (last n v : ℕ) (s : State) → suc n < v → after_turns (chain last) s (down last n s) v ≡ s v
down_above last zero v s high =
    let one = now last s 1 1 0 in
    let there = after_turn (chain last) s one in
    turn_elsewhere (chain last) there (now last there 1 0 (suc last)) v (λ same. omega (arith, same, high))
    ∙ turn_elsewhere (chain last) s one v (λ same. omega (arith, same, high))
down_above last (suc n) v s high =
    let t = now last s (suc (suc n)) 0 (suc n) in
    down_above last n v (after_turn (chain last) s t) (omega (arith, high)) ∙ turn_elsewhere (chain last) s t v (λ same. omega (arith, same, high))

-- the state in which an agent has its turn: its own and the one before have changed nothing yet
record Turned (last n j : ℕ) (s : State) : Type 0 where
  pub there : State
  pub own : there (suc (suc j)) ≡ s (suc (suc j))
  pub before : there (suc j) ≡ s (suc j)
  pub after : after_turns (chain last) s (down last n s) (suc (suc j)) ≡ done (chain last) there (now last there (suc (suc j)) 0 (suc j))

turned : (last n j : ℕ) (s : State) → j < n → Turned last n j s
turned last zero j s low = absurd (omega (arith, low))
turned last (suc n) j s low =
    elim (cases_eq n j) [
      | inl same ↦ subst (λ k. Turned last (suc n) k s) same (record {
        there = s;
        own = refl;
        before = refl;
        after = down_above last n (suc (suc n)) (after_turn (chain last) s t) (omega arith) ∙ turn_here (chain last) s t;
      })
      | inr other ↦
          let rest = turned last n j (after_turn (chain last) s t) (omega (arith, low, other)) in
          record {
            there = rest.there;
            own = rest.own ∙ turn_elsewhere (chain last) s t (suc (suc j)) (λ same. other (omega (arith, same)));
            before = rest.before ∙ turn_elsewhere (chain last) s t (suc j) (λ same. omega (arith, same, low));
            after = rest.after;
          }
    ]
  where
    t : Turn
    t = now last s (suc (suc n)) 0 (suc n)

-- whoever has a parent in the chain has the one before
abbrev Chained : State → Type 0
Chained s = (j : ℕ) (heard : Heard) → s (suc (suc j)) ≡ Some heard → heard.place ≡ 0

record Wrong (last k : ℕ) (s : State) : Type 0 where
  pub chained : Chained s
  pub cost : (says (chain last) s (suc k)).cost ≡ 129 + k
  pub names : (u : ℕ) → Contains (says (chain last) s (suc k)).names u → (u ≤ suc k) ⊎ (u ≡ suc last)
  pub few : length (says (chain last) s (suc k)).names ≤ suc (suc k)

chained_after : (m : ℕ) (s : State) → Chained s → Chained (after_round (chain (suc m)) s (all_down m s))
chained_after m s chained j heard is =
    elim (cases_lt j m) [
      | inr high ↦ chained j heard (sym (down_above (suc m) m (suc (suc j)) s (omega (arith, high))) ∙ is)
      | inl low ↦
          let its = turned (suc m) m j s low in
          let t = now (suc m) its.there (suc (suc j)) 0 (suc j) in
          elim (heard_after (answer_of 128 (asked (chain (suc m)) its.there t)) (learned t) heard (its.there (suc (suc j))) (sym its.after ∙ is)) [
            | inl new ↦ sym (ap (λ (h : Heard). h.place) new)
            | inr old ↦ chained j heard (sym its.own ∙ old)
          ]
    ]

wrong_after : (m k : ℕ) (s : State) → k < m → suc (suc k) < 128 → Wrong (suc m) k s → Wrong (suc m) (suc k) (after_round (chain (suc m)) s (all_down m s))
wrong_after m k s low small wrong = record {
  chained = chained_after m s wrong.chained;
  cost = ap (λ (way : Way). way.cost) says_is ∙ let past = wrong.cost in omega (arith, past, costs, small);
  names = λ u named.
      elim (Contains-push_cases old.names (suc (suc k)) u (subst (λ (way : Way). Contains way.names u) says_is named)) [
        | inl before ↦
            elim (wrong.names u before) [
              | inl short ↦ inl (omega (arith, short))
              | inr end ↦ inr end
            ]
        | inr own ↦ inl (omega (arith, own))
      ];
  few = let past = wrong.few in omega (arith, ap (λ (way : Way). length way.names) says_is, length-append old.names (suc (suc k) ∷ []), past);
}
  where
    net : Net
    net = chain (suc m)

    its : Turned (suc m) m k s
    its = turned (suc m) m k s low

    t : Turn
    t = now (suc m) its.there (suc (suc k)) 0 (suc k)

    old : Way
    old = says net s (suc k)

    way_is : t.way ≡ old
    way_is = ap (told net (suc k)) its.before

    is : IsAt net (suc (suc k)) 0 (by (suc k))
    is = at_chain (suc m) k (omega (arith, low))

    costs : over 128 old.cost (price_at net (suc (suc k)) 0) ≡ min 256 (old.cost + 1)
    costs = over_is net (suc (suc k)) 0 old.cost (by (suc k)) is

    right : fault_of 128 (asked net its.there t) ≡ None
    right =
        subst (λ (way : Way). fault_of 128 (asked net its.there (record t { way = way })) ≡ None) (sym way_is)
        (no_fault 128 (asked net its.there (record t { way = old }))
        (apart old.names (suc (suc k)) (λ name named same. own_name name same (wrong.names name named)))
        (let past = wrong.cost in omega (arith, costs, past, small))
        (let past = wrong.few in omega (arith, past, small)))
      where
        own_name : (name : ℕ) → name ≡ suc (suc k) → (name ≤ suc k) ⊎ (name ≡ suc (suc m)) → ⊥
        own_name name same (inl short) = omega (arith, same, short)
        own_name name same (inr end) = omega (arith, same, end, low)

    takes : (o : Option Heard) → its.there (suc (suc k)) ≡ o → answer_of 128 (asked net its.there t) ≡ Takes
    takes None none =
        takes_free 128 (asked net its.there t) (ap (is_place 0) none) right (ap (λ o. not (is_some o) && true && true) none)
    takes (Some heard) some =
        takes_parent 128 (asked net its.there t) (is_parent net its.there t heard some (wrong.chained k heard (sym its.own ∙ some))) right

    says_is : says net (after_round net s (all_down m s)) (suc (suc k)) ≡ told net (suc (suc k)) (Some (record { place = 0; way = old }))
    says_is =
        ap (told net (suc (suc k))) (its.after ∙ by_answer net its.there t Takes (takes (its.there (suc (suc k))) refl))
        ∙ ap (λ (way : Way). told net (suc (suc k)) (Some (record { place = 0; way = way }))) way_is

-- the first one learns first that the root is no better than what was forged, and then that its
-- parent has no root
first_wrong : (last n : ℕ) (s : State) → n < last → s 1 ≡ start 1 → s (suc last) ≡ None
    → after_turns (chain last) s (down last n s) 1 ≡ Some (record { place = 0; way = record { cost = 128; names = suc last ∷ [] } })
first_wrong last (suc n) s low own end =
    let t = now last s (suc (suc n)) 0 (suc n) in
    first_wrong last n (after_turn (chain last) s t) (omega (arith, low))
    (turn_elsewhere (chain last) s t 1 (λ same. omega (arith, same)) ∙ own)
    (turn_elsewhere (chain last) s t (suc last) (λ same. omega (arith, same, low)) ∙ end)
first_wrong last zero s low own end = turn_here net next two ∙ (by_answer net next two Takes takes ∙ ap (λ (way : Way). Some (record { place = 0; way = way })) way_is)
  where
    net : Net
    net = chain last

    one : Turn
    one = now last s 1 1 0

    next : State
    next = after_turn net s one

    two : Turn
    two = now last next 1 0 (suc last)

    costs : (says net s 1).cost ≡ 1
    costs = ap (λ o. (told net 1 o).cost) own

    unmoved : next 1 ≡ start 1
    unmoved =
        let (why, kept) = keeps 128 (asked net s one) (is_other net s one (record { place = 0; way = record { cost = 0; names = [] } }) own (λ same. omega (arith, same)))
        (ap is_some own) (omega (arith, costs)) in
        turn_here net s one ∙ (by_answer net s one (Keeps why) kept ∙ own)

    way_is : two.way ≡ record { cost = 128; names = suc last ∷ [] }
    way_is = ap (told net (suc last)) (turn_elsewhere net s one (suc last) (λ same. omega (arith, same, low)) ∙ end)

    right : fault_of 128 (asked net next two) ≡ None
    right =
        subst (λ (way : Way). fault_of 128 (asked net next (record two { way = way })) ≡ None) (sym way_is)
        (no_fault 128 (asked net next (record two { way = record { cost = 128; names = suc last ∷ [] } }))
        (apart (suc last ∷ []) 1 (λ name named same.
        elim (Contains-push_cases [] (suc last) name named) [
          | inl before ↦ omega (arith, before.1)
          | inr end ↦ omega (arith, same, end, low)
        ]))
        (omega arith) (omega arith))

    takes : answer_of 128 (asked net next two) ≡ Takes
    takes = takes_parent 128 (asked net next two) (is_parent net next two (record { place = 0; way = record { cost = 0; names = [] } }) unmoved refl) right

first_after : (m : ℕ) → Wrong (suc m) 0 (after_round (chain (suc m)) start (all_down m start))
first_after m = record {
  chained = chained_after m start (λ j heard is. cc);
  cost = ap (λ (way : Way). way.cost) says_is;
  names = λ u named.
      elim (Contains-push_cases (suc (suc m) ∷ []) 1 u (subst (λ (way : Way). Contains way.names u) says_is named)) [
        | inl before ↦
            elim (Contains-push_cases [] (suc (suc m)) u before) [
              | inl none ↦ absurd (omega (arith, none.1))
              | inr end ↦ inr (sym end)
            ]
        | inr own ↦ inl (omega (arith, own))
      ];
  few = omega (arith, ap (λ (way : Way). length way.names) says_is);
}
  where
    net : Net
    net = chain (suc m)

    says_is : says net (after_round net start (all_down m start)) 1 ≡ told net 1 (Some (record { place = 0; way = record { cost = 128; names = suc (suc m) ∷ [] } }))
    says_is = ap (told net 1) (first_wrong (suc m) m start (omega arith) refl refl)

still_wrong : (m r k : ℕ) (s : State) → k + r ≤ m → suc (k + r) < 128 → Wrong (suc m) k s → Wrong (suc m) (k + r) (after_rounds (chain (suc m)) s (slow m r s))
still_wrong m zero k s low small wrong = let same : k ≡ k + 0 = omega arith in subst (λ i. Wrong (suc m) i s) same wrong
still_wrong m (suc r) k s low small wrong =
    let more : suc k + r ≡ k + suc r = omega arith in
    let next = after_round (chain (suc m)) s (all_down m s) in
    subst (λ i. Wrong (suc m) i (after_rounds (chain (suc m)) next (slow m r next))) more
    (still_wrong m r (suc k) next (omega (arith, low)) (omega (arith, small)) (wrong_after m k s (omega (arith, low)) (omega (arith, small)) wrong))

-- after as many rounds as its distance the last one of the chain says 128 more
pub last_wrong : (m : ℕ) → suc m < 128 → (says (chain (suc m)) (after_rounds (chain (suc m)) start (slow m (suc m) start)) (suc m)).cost ≡ 129 + m
last_wrong m small =
    let first = after_round (chain (suc m)) start (all_down m start) in
    let all : 0 + m ≡ m = omega arith in
    (subst (λ i. Wrong (suc m) i (after_rounds (chain (suc m)) first (slow m m first))) all
    (still_wrong m m 0 first (omega arith) (omega (arith, small)) (first_after m))).cost
