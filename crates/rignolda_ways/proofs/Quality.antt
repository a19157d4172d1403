-- How good a way is that an agent said, and that ways are better by one than those that they are of.
use Rattle.std.proofs.Common.{◌≡◌, ℕ, suc, ◌+◌, ◌-◌, ◌<◌, ◌≤◌, inl, inr, true, false, if◌then◌else◌, [], ◌∷◌, ◌++◌, length, Contains, Option, Some, None, slice_get, refl, sym, ◌∙◌, ap, subst, length-append, arith}
use Rattle.std.specs.Prelude.{min}
use Rattle.std.proofs.lemmas.Bool.{cases_Bool}
use Rattle.std.proofs.lemmas.List.Elements.{Contains-push_cases}
use Rattle.rignolda_ways.specs.Nets.{Candidate, Net, IsAt, IsNet, IsFar, IsDistance}
use Rattle.rignolda_ways.specs.Answers.{over}
use Rattle.rignolda_ways.specs.Turns.{Way, Heard, State, price_of, price_at, told, says}
use Rattle.rignolda_ways.proofs.Paths.{Within, candidate_far}

-- the way of an agent whose distance it costs: its names are of agents as near, and few
pub record Exact (net : Net) (distance : ℕ) (way : Way) : Type 0 where
  pub cost : way.cost ≡ distance
  pub within : (name : ℕ) → Contains way.names name → Within net distance name
  pub few : length way.names ≤ suc distance

-- below t no cost is too small, and below t - 1 each is right
pub record Quality (net : Net) (t v : ℕ) (way : Way) : Type 0 where
  pub low : (far : ℕ) → far ≤ t → far ≤ net.none → IsFar net far v → far ≤ way.cost
  pub exact : (distance : ℕ) → suc (suc distance) ≤ t → distance < net.none → IsDistance net v distance → Exact net distance way

pub weaker : (net : Net) (t v : ℕ) (way : Way) → Quality net (suc t) v way → Quality net t v way
weaker net t v way good = record {
  low = λ far below. good.low far (omega (arith, below));
  exact = λ distance below. good.exact distance (omega (arith, below));
}

pub none_yet : (net : Net) (v : ℕ) (way : Way) → Quality net 0 v way
none_yet net v way = record {
  low = λ far below some is_far. omega (arith, below);
  exact = λ distance below. absurd (omega (arith, below));
}

-- what is heard of a parent is so good
abbrev pub Backed : Net → ℕ → ℕ → Option Heard → Type 0
Backed net t v old = (heard : Heard) (c : Candidate) → old ≡ Some heard → IsAt net v heard.place c → Quality net t c.agent heard.way

-- an agent has a parent on a shortest path, which said its distance
pub record Right (net : Net) (v distance : ℕ) (old : Option Heard) : Type 0 where
  pub heard : Heard
  pub candidate : Candidate
  pub is : old ≡ Some heard
  pub is_at : IsAt net v heard.place candidate
  pub nearer : IsDistance net candidate.agent heard.way.cost
  pub sum : heard.way.cost + candidate.cost ≡ distance

abbrev pub Settled : Net → ℕ → ℕ → Option Heard → Type 0
Settled net t v old = (distance : ℕ) → suc distance ≤ t → distance < net.none → IsDistance net v distance → Right net v distance old

pub record SoundAt (net : Net) (t v : ℕ) (old : Option Heard) : Type 0 where
  pub backed : Backed net t v old
  pub settled : Settled net t v old

abbrev pub Sound : Net → ℕ → State → Type 0
Sound net t s = (v : ℕ) → v < net.agents → net.is_root v ≡ false → SoundAt net t v (s v)

-- ---- what an agent says

price_is : (net : Net) (v place : ℕ) (c : Candidate) → IsAt net v place c → price_at net v place ≡ c.cost
price_is net v place c is = ap (price_of net.none) is

pub over_is : (net : Net) (v place x : ℕ) (c : Candidate) → IsAt net v place c → over net.none x (price_at net v place) ≡ min (net.none + net.none) (x + c.cost)
over_is net v place x c is = ap (over net.none x) (price_is net v place c is)

-- the way over a candidate costs no less than a root is far
pub over_low : (net : Net) (t v place far : ℕ) (c : Candidate) (way : Way) → IsNet net → v < net.agents → IsAt net v place c → Quality net t c.agent way
    → far ≤ suc t → far ≤ net.none → IsFar net far v → far ≤ over net.none way.cost (price_at net v place)
over_low net t v place far c way lawful agent is good below some is_far =
    let dear = (lawful v place agent c is).1 in
    let least = good.low (far - c.cost) (omega (arith, dear, below)) (omega (arith, some)) (candidate_far net far v place c is is_far) in
    omega (arith, over_is net v place way.cost c is, least, some)

pub told_low : (net : Net) (t v far : ℕ) (old : Option Heard) → IsNet net → v < net.agents → Backed net t v old
    → far ≤ suc t → far ≤ net.none → IsFar net far v → far ≤ (told net v old).cost
told_low net t v far None lawful agent backed below some is_far = some
told_low net t v far (Some heard) lawful agent backed below some is_far = by_place (slice_get (net.candidates v) heard.place) refl
  where
    by_place : (found : Option Candidate) → slice_get (net.candidates v) heard.place ≡ found → far ≤ over net.none heard.way.cost (price_at net v heard.place)
    by_place None is = let beyond : price_at net v heard.place ≡ net.none + net.none = ap (price_of net.none) is in omega (arith, beyond, some)
    by_place (Some c) is = over_low net t v heard.place far c heard.way lawful agent is (backed heard c refl is) below some is_far

-- what it says is its distance, once its parent is right
pub told_right : (net : Net) (v distance : ℕ) (old : Option Heard) → distance < net.none → Right net v distance old → (told net v old).cost ≡ distance
told_right net v distance old some right =
    ap (λ o. (told net v o).cost) right.is
    ∙ let sum = right.sum in omega (arith, over_is net v right.heard.place right.heard.way.cost right.candidate right.is_at, sum, some)

told_exact : (net : Net) (t v distance : ℕ) (old : Option Heard) → IsNet net → v < net.agents → SoundAt net t v old
    → suc distance ≤ t → distance < net.none → IsDistance net v distance → Exact net distance (told net v old)
told_exact net t v distance old lawful agent sound below some is =
    let right = sound.settled distance below some is in
    let sum = right.sum in
    let dear = (lawful v right.heard.place agent right.candidate right.is_at).1 in
    let parent = (sound.backed right.heard right.candidate right.is right.is_at).exact right.heard.way.cost (omega (arith, dear, sum, below)) (omega (arith, sum, some)) right.nearer in
    let names : (told net v old).names ≡ right.heard.way.names ++ v ∷ [] = ap (λ o. (told net v o).names) right.is in
    record {
      cost = told_right net v distance old some right;
      within = λ name named.
          elim (Contains-push_cases right.heard.way.names v name (subst (λ all. Contains all name) names named)) [
            | inl before ↦ let (hops, cost, path, short) = parent.within name before in (hops, cost, path, omega (arith, short, sum))
            | inr last ↦ subst (Within net distance) last (is.0.0, distance, is.0.1, omega arith)
          ];
      few = omega (arith, ap length names, length-append right.heard.way.names (v ∷ []), parent.few, sum, dear);
    }

pub says_root : (net : Net) (s : State) (v : ℕ) → net.is_root v ≡ true → says net s v ≡ record { cost = 0; names = v ∷ [] }
says_root net s v root = ap (λ b. if b then record { cost = 0; names = v ∷ [] } else told net v (s v)) root

pub says_below : (net : Net) (s : State) (v : ℕ) → net.is_root v ≡ false → says net s v ≡ told net v (s v)
says_below net s v below = ap (λ b. if b then record { cost = 0; names = v ∷ [] } else told net v (s v)) below

root_quality : (net : Net) (t v : ℕ) → net.is_root v ≡ true → Quality net t v (record { cost = 0; names = v ∷ [] })
root_quality net t v root = record {
  low = λ far below some is_far. is_far 0 0 (root, refl);
  exact = λ distance below some is.
      let none : distance ≤ 0 = is.1 0 0 (root, refl) in
      record {
        cost = omega (arith, none);
        within = λ name named.
            elim (Contains-push_cases [] v name named) [
              | inl before ↦ absurd (omega (arith, before.1))
              | inr same ↦ subst (Within net distance) same (0, 0, (root, refl), omega arith)
            ];
        few = omega arith;
      };
}

-- it says what is better by one than what it has heard
pub says_quality : (net : Net) (t v : ℕ) (s : State) → IsNet net → Sound net t s → v < net.agents → Quality net (suc t) v (says net s v)
says_quality net t v s lawful sound agent =
    elim (cases_Bool (net.is_root v)) [
      | inl root ↦ subst (Quality net (suc t) v) (sym (says_root net s v root)) (root_quality net (suc t) v root)
      | inr below ↦ subst (Quality net (suc t) v) (sym (says_below net s v below)) (record {
        low = λ far low some is_far. told_low net t v far (s v) lawful agent (sound v agent below).backed low some is_far;
        exact = λ distance low some is. told_exact net t v distance (s v) lawful agent (sound v agent below) (omega (arith, low)) some is;
      })
    ]
