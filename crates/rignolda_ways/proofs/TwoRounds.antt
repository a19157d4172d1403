-- The run of two rounds by which an agent is wrong and then right.
use Rattle.std.proofs.Common.{◌≡◌, ℕ, zero, suc, ◌<◌, ◌≤◌, inl, inr, Bool, true, false, List, [], ◌∷◌, Some, refl, subst, if◌then◌else◌, ◌==◌, arith}
use Rattle.rignolda_ways.specs.Nets.{Candidate, IsNet, IsFar, IsDistance}
use Rattle.rignolda_ways.specs.Runs.{AllLearn, IsRound, IsRun, after_round, round_moments}
use Rattle.rignolda_ways.specs.TwoRounds.{three, forged, asks, unlucky, second}

some_same : {A : Type 0} (x y : A) → Some x ≡ Some y → x ≡ y
some_same x y same = cc

one_or_two : (v : ℕ) → (if v == 1 then 2 else 1) < 3
one_or_two v = by_test (v == 1)
  where
    by_test : (b : Bool) → (if b then 2 else 1) < 3
    by_test true = omega arith
    by_test false = omega arith

pub lawful : IsNet three
lawful v zero agent c is =
    let same = some_same (record { agent = if v == 1 then 2 else 1; cost = 1 }) c is in
    subst (λ (d : Candidate). (d.agent < 3) × (1 ≤ d.cost)) same (one_or_two v, omega arith)
lawful v (suc zero) agent c is =
    let same = some_same (record { agent = 0; cost = 1 }) c is in
    subst (λ (d : Candidate). (d.agent < 3) × (1 ≤ d.cost)) same (omega arith, omega arith)
lawful v (suc (suc place)) agent c is = cc

far : IsFar three 1 1
far zero cost path = let never : false ≡ true = path.0 in cc
far (suc hops) cost (place, c, rest, is, path, sum) = omega (arith, (lawful 1 place (omega arith) c is).1, sum)

pub one : IsDistance three 1 1
one = ((1, (1, record { agent = 0; cost = 1 }, 0, refl, (refl, refl), refl)), far)

all : (cost other : ℕ) (names others : List ℕ) → AllLearn three (asks cost names other others).second
all cost other names others zero place agent below c is = let never : true ≡ false = below in cc
all cost other names others (suc zero) zero agent below c is = inr (inl (refl, refl))
all cost other names others (suc zero) (suc zero) agent below c is = inl (refl, refl)
all cost other names others (suc zero) (suc (suc place)) agent below c is = cc
all cost other names others (suc (suc zero)) zero agent below c is = inr (inr (inl (refl, refl)))
all cost other names others (suc (suc zero)) (suc zero) agent below c is = inr (inr (inr (inl (refl, refl))))
all cost other names others (suc (suc zero)) (suc (suc place)) agent below c is = cc
all cost other names others (suc (suc (suc v))) place agent below c is = absurd (omega (arith, agent))

first_round : IsRound three [] forged unlucky
first_round = record {
  first = tt;
  second = (
    (record { agent = 0; cost = 1 }, refl, inl refl),
    (
      (record { agent = 2; cost = 1 }, refl, inl refl),
      ((record { agent = 1; cost = 1 }, refl, inr (inl refl)), ((record { agent = 0; cost = 1 }, refl, inl refl), tt)),
    ),
  );
  all = all 128 1 (2 ∷ []) (1 ∷ []);
}

second_round : IsRound three (round_moments three forged unlucky) (after_round three forged unlucky) second
second_round = record {
  first = tt;
  second = (
    (record { agent = 0; cost = 1 }, refl, inl refl),
    (
      (record { agent = 2; cost = 1 }, refl, inl refl),
      ((record { agent = 1; cost = 1 }, refl, inl refl), ((record { agent = 0; cost = 1 }, refl, inl refl), tt)),
    ),
  );
  all = all 1 1 (0 ∷ 2 ∷ []) (0 ∷ 1 ∷ []);
}

pub run : IsRun three [] forged (unlucky ∷ second ∷ []) []
run = (first_round, (second_round, tt))
