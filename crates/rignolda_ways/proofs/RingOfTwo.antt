-- The run of one round in which two agents have each other as their parents all the time.
use Rattle.std.proofs.Common.{◌≡◌, ℕ, zero, suc, ◌<◌, ◌≤◌, inl, inr, Bool, true, false, if◌then◌else◌, ◌==◌, List, [], ◌∷◌, Some, refl, subst, arith}
use Rattle.rignolda_ways.specs.Nets.{Candidate, IsNet}
use Rattle.rignolda_ways.specs.Turns.{Heard, State, after_turn}
use Rattle.rignolda_ways.specs.Runs.{AllLearn, IsRun}
use Rattle.rignolda_ways.specs.Rings.{HasParent, IsRing, Stays}
use Rattle.rignolda_ways.specs.RingOfTwo.{two, unheard, each_other, crossed}
use Rattle.rignolda_ways.specs.TwoRounds.{learns}

fine : (u : ℕ) (c : Candidate) → u < 2 → Some (record { agent = u; cost = 1 }) ≡ Some c → (c.agent < 2) × (1 ≤ c.cost)
fine u c low is = subst (λ (d : Candidate). (d.agent < 2) × (1 ≤ d.cost)) (some_same (record { agent = u; cost = 1 }) c is) (low, omega arith)
  where
    some_same : (x y : Candidate) → Some x ≡ Some y → x ≡ y
    some_same x y same = cc

pub lawful : IsNet two
lawful v zero agent c is = fine (if v == 0 then 1 else 0) c (low (v == 0)) is
  where
    low : (b : Bool) → (if b then 1 else 0) < 2
    low true = omega arith
    low false = omega arith
lawful v (suc place) agent c is = cc

all : AllLearn two crossed.second
all zero zero agent below c is = inl (refl, refl)
all zero (suc place) agent below c is = cc
all (suc zero) zero agent below c is = inr (inl (refl, refl))
all (suc zero) (suc place) agent below c is = cc
all (suc (suc v)) place agent below c is = absurd (omega (arith, agent))

pub run : IsRun two [] unheard (crossed ∷ []) []
run = (
  record {
    first = tt;
    second = (
      (record { agent = 1; cost = 1 }, refl, inl refl),
      ((record { agent = 0; cost = 1 }, refl, inr (inl refl)), tt),
    );
    all = all;
  },
  tt,
)

-- two who have each other as their parents
ring_of : (s : State) → HasParent two s 0 1 → HasParent two s 1 0 → IsRing two each_other 2 s
ring_of s one other = (omega arith, refl, each)
  where
    each : (i : ℕ) → i < 2 → HasParent two s (each_other i) (each_other (suc i))
    each zero low = one
    each (suc zero) low = other
    each (suc (suc i)) low = absurd (omega (arith, low))

abbrev heard : ℕ → List ℕ → Heard
heard cost names = record { place = 0; way = record { cost = cost; names = names } }

abbrev by : ℕ → Candidate
by u = record { agent = u; cost = 1 }

abbrev once : State
once = after_turn two unheard (learns 0 0 1 (1 ∷ []))

abbrev twice : State
twice = after_turn two once (learns 1 0 1 (0 ∷ []))

pub stays : Stays two (IsRing two each_other 2) unheard (crossed ∷ [])
stays = (at_first, (at_first, (after_one, at_last)), at_last)
  where
    at_first : IsRing two each_other 2 unheard
    at_first = ring_of unheard (heard 0 [], by 1, omega arith, refl, refl, refl, refl) (heard 0 [], by 0, omega arith, refl, refl, refl, refl)

    after_one : IsRing two each_other 2 once
    after_one = ring_of once (heard 1 (1 ∷ []), by 1, omega arith, refl, refl, refl, refl) (heard 0 [], by 0, omega arith, refl, refl, refl, refl)

    at_last : IsRing two each_other 2 twice
    at_last = ring_of twice (heard 1 (1 ∷ []), by 1, omega arith, refl, refl, refl, refl) (heard 1 (0 ∷ []), by 0, omega arith, refl, refl, refl, refl)
