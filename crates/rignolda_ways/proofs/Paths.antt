-- How far agents are from roots, and that this can be found out.
use Rattle.std.proofs.Common.{◌≡◌, ◌⊎◌, ℕ, zero, suc, ◌+◌, ◌-◌, ◌<◌, ◌≤◌, inl, inr, true, false, List, [], ◌∷◌, Some, slice_get, refl, sym, ◌∙◌, subst, arith}
use Rattle.std.proofs.lemmas.Bool.{cases_lt, cases_Bool}
use Rattle.rignolda_ways.specs.Nets.{Candidate, Net, IsAt, IsNet, Path, IsFar, IsDistance}

-- no candidate is nearer than its cost allows
pub candidate_far : (net : Net) (far v place : ℕ) (c : Candidate) → IsAt net v place c → IsFar net far v → IsFar net (far - c.cost) c.agent
candidate_far net far v place c is far_there hops cost path =
    omega (arith, far_there (suc hops) (cost + c.cost) (place, c, cost, is, path, refl))

-- there is a path that costs so much at most
abbrev pub Within : Net → ℕ → ℕ → Type 0
Within net most v = (hops : ℕ) × (cost : ℕ) × Path net hops v cost × (cost ≤ most)

abbrev SomeNear : Net → ℕ → List Candidate → Type 0
SomeNear net most cs = (place : ℕ) × (c : Candidate) × (slice_get cs place ≡ Some c) × (c.cost ≤ most) × Within net (most - c.cost) c.agent

abbrev FarOver : Net → ℕ → Candidate → Type 0
FarOver net most c = c.cost ≤ most → IsFar net (suc (most - c.cost)) c.agent

abbrev AllFar : Net → ℕ → List Candidate → Type 0
AllFar net most cs = (place : ℕ) (c : Candidate) → slice_get cs place ≡ Some c → FarOver net most c

far_with : (net : Net) (most : ℕ) (c : Candidate) (cs : List Candidate) → FarOver net most c → AllFar net most cs → AllFar net most (c ∷ cs)
far_with net most c cs first others zero d is = let same : c ≡ d = some_same c d is in subst (FarOver net most) same first
  where
    some_same : (c d : Candidate) → Some c ≡ Some d → c ≡ d
    some_same c d same = cc
far_with net most c cs first others (suc place) d is = others place d is

with_first : (net : Net) (most : ℕ) (c : Candidate) (cs : List Candidate) → FarOver net most c → SomeNear net most cs ⊎ AllFar net most cs
    → SomeNear net most (c ∷ cs) ⊎ AllFar net most (c ∷ cs)
with_first net most c cs first (inl (place, d, is, fits, near)) = inl (suc place, d, is, fits, near)
with_first net most c cs first (inr far) = inr (far_with net most c cs first far)

some_near : (net : Net) (most : ℕ) (cs : List Candidate)
    → ((place : ℕ) (c : Candidate) → slice_get cs place ≡ Some c → c.cost ≤ most → Within net (most - c.cost) c.agent ⊎ IsFar net (suc (most - c.cost)) c.agent)
    → SomeNear net most cs ⊎ AllFar net most cs
some_near net most [] each = inr (λ place c is. cc)
some_near net most (c ∷ cs) each =
    let rest = some_near net most cs (λ place d is. each (suc place) d is) in
    elim (cases_lt most c.cost) [
      | inl dear ↦ with_first net most c cs (λ fits. absurd (omega (arith, dear, fits))) rest
      | inr fits ↦
          elim (each 0 c refl fits) [
            | inl near ↦ inl (0, c, refl, fits, near)
            | inr far ↦ with_first net most c cs (λ _. far) rest
          ]
    ]

-- who is no root and has far candidates is far
all_far : (net : Net) (most v : ℕ) → net.is_root v ≡ false → AllFar net most (net.candidates v) → IsFar net (suc most) v
all_far net most v below far zero cost path = let never : false ≡ true = sym below ∙ path.0 in cc
all_far net most v below far (suc hops) cost (place, c, rest, is, path, sum) =
    elim (cases_lt most c.cost) [
      | inl dear ↦ omega (arith, dear, sum)
      | inr fits ↦ omega (arith, far place c is fits hops rest path, fits, sum)
    ]

-- a path is so short, or all are longer
pub near_or_far : (net : Net) (fuel most v : ℕ) → IsNet net → v < net.agents → most < fuel → Within net most v ⊎ IsFar net (suc most) v
near_or_far net zero most v lawful agent enough = absurd (omega (arith, enough))
near_or_far net (suc fuel) most v lawful agent enough =
    elim (cases_Bool (net.is_root v)) [
      | inl root ↦ inl (zero, 0, (root, refl), omega arith)
      | inr below ↦
          elim (some_near net most (net.candidates v) (λ place c is fits.
          let in_net = lawful v place agent c is in near_or_far net fuel (most - c.cost) c.agent lawful in_net.0 (omega (arith, in_net.1, enough, fits)))) [
            | inl (place, c, is, fits, (hops, cost, path, short)) ↦ inl (suc hops, cost + c.cost, (place, c, cost, is, path, refl), omega (arith, short, fits))
            | inr far ↦ inr (all_far net most v below far)
          ]
    ]

-- whose distance it is where no root is nearer, and one is not farther
pub distance_if_near : (net : Net) (distance v : ℕ) → IsNet net → v < net.agents → IsFar net distance v → (IsFar net (suc distance) v → ⊥) → IsDistance net v distance
distance_if_near net distance v lawful agent far near =
    elim (near_or_far net (suc distance) distance v lawful agent (omega arith)) [
      | inl (hops, cost, path, short) ↦
          let same : cost ≡ distance = omega (arith, far hops cost path, short) in ((hops, subst (λ far. Path net hops v far) same path), far)
      | inr farther ↦ absurd (near farther)
    ]

-- a candidate on a shortest path
pub record Next (net : Net) (v distance : ℕ) : Type 0 where
  pub place : ℕ
  pub candidate : Candidate
  pub rest : ℕ
  pub is : IsAt net v place candidate
  pub nearer : IsDistance net candidate.agent rest
  pub sum : rest + candidate.cost ≡ distance

pub next : (net : Net) (v distance : ℕ) → net.is_root v ≡ false → IsDistance net v distance → Next net v distance
next net v distance below ((zero, path), far) = let never : false ≡ true = sym below ∙ path.0 in cc
next net v distance below ((suc hops, (place, c, rest, is, path, sum)), far) =
    record {
      place = place;
      candidate = c;
      rest = rest;
      is = is;
      nearer = ((hops, path), λ others cost other. omega (arith, candidate_far net distance v place c is far others cost other, sum));
      sum = sym sum;
    }
