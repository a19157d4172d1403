-- How numbers near each other compare.
use Rattle.std.proofs.Common.{◌≡◌, ◌≢◌, ℕ, ◌+◌, ◌-◌, ◌<◌, ◌≤◌, ◌⊎◌, true, false, inl, inr, sym, ap, ◌∙◌, arith}
use Rattle.std.specs.Prelude.{◌==◌, not, if◌then◌else◌}
use Rattle.std.proofs.lemmas.Bool.{cases_lt, cases_eq, and_from, or_right, le-leb, lt-leb, lt-ltb, ne_eqb, true≢false}
use Rattle.rignolda_agent.specs.Numbers.{ahead, circle, half, is_newer}
use Rattle.rignolda_agent.specs.Rounds.{place, IsNear}

pub up : (from number : ℕ) → from ≤ number → ahead from number ≡ number - from
up from number le = ap (λ b. if b then number - from else number + circle - from) (le-leb from number le)

pub down : (from number : ℕ) → number < from → ahead from number ≡ number + circle - from
down from number lt = ap (λ b. if b then number - from else number + circle - from) (lt-leb from number lt)

-- the higher of two numbers on a stretch of less than half of the circle is ahead by their difference
pub ahead_by : (low x y : ℕ) → low < circle → x < circle → y < circle → ahead low x < ahead low y
    → ahead x y ≡ ahead low y - ahead low x
ahead_by low x y low_in x_in y_in less = by (cases_lt x low) (cases_lt y low) (cases_lt y x)
  where
    by : (x < low) ⊎ (low ≤ x) → (y < low) ⊎ (low ≤ y) → (y < x) ⊎ (x ≤ y) → ahead x y ≡ ahead low y - ahead low x
    by (inl a) (inl b) (inl c) = omega (arith, down low x a, down low y b, down x y c, less)
    by (inl a) (inl b) (inr c) = omega (arith, down low x a, down low y b, up x y c, less)
    by (inl a) (inr b) (inl c) = omega (arith, down low x a, up low y b, down x y c, less)
    by (inl a) (inr b) (inr c) = omega (arith, down low x a, up low y b, up x y c, less)
    by (inr a) (inl b) (inl c) = omega (arith, up low x a, down low y b, down x y c, less)
    by (inr a) (inl b) (inr c) = omega (arith, up low x a, down low y b, up x y c, less)
    by (inr a) (inr b) (inl c) = omega (arith, up low x a, up low y b, down x y c, less)
    by (inr a) (inr b) (inr c) = omega (arith, up low x a, up low y b, up x y c, less)

pub place_of : (low number : ℕ) → number ≢ 0 → place low number ≡ ahead low number
place_of low number is_one = ap (λ b. if b then 0 else ahead low number) (ne_eqb number 0 is_one)

pub no_place : (low number : ℕ) → number ≡ 0 → place low number ≡ 0
no_place low number none = ap (place low) none

higher_is_newer : (low x y : ℕ) → low < circle → IsNear low x → IsNear low y → x ≢ 0 → y ≢ 0 → place low x < place low y → is_newer x y ≡ true
higher_is_newer low x y low_in x_near y_near x_one y_one less =
    let by = ahead_by low x y low_in x_near.0 y_near.0 (omega (arith, less, place_of low x x_one, place_of low y y_one)) in
    and_from (not (y == 0)) _ (ap not (ne_eqb y 0 y_one))
    (or_right (x == 0) _ (and_from _ _ (lt-ltb 0 (ahead x y) (omega (arith, by, less, place_of low x x_one, place_of low y y_one)))
    (lt-ltb (ahead x y) half (omega (arith, by, y_near.1, place_of low y y_one)))))

-- what is not newer than a number is no higher
pub not_higher : (low x y : ℕ) → low < circle → IsNear low x → IsNear low y → x ≢ 0 → is_newer x y ≡ false → place low y ≤ place low x
not_higher low x y low_in x_near y_near x_one older =
    elim (cases_eq y 0) [
      | inl none ↦ omega (arith, no_place low y none)
      | inr y_one ↦
          elim (cases_lt (place low x) (place low y)) [
            | inl less ↦ absurd (true≢false (sym (higher_is_newer low x y low_in x_near y_near x_one y_one less) ∙ older))
            | inr not_less ↦ not_less
          ]
    ]
