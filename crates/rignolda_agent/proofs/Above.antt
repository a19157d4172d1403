-- The number after the furthest of those that were heard.
use Rattle.std.proofs.Common.{◌≡◌, ◌⊎◌, ◌≢◌, ℕ, ◌+◌, ◌-◌, ◌<◌, ◌≤◌, Bool, true, false, inl, inr, List, [], ◌∷◌, ap, ◌∙◌, arith}
use Rattle.std.specs.Prelude.{◌==◌, not, nat_lt, if◌then◌else◌}
use Rattle.std.specs.List.{AllByRecursion, fold}
use Rattle.std.proofs.lemmas.Bool.{cases_lt, cases_eq, cases_Bool, and_from, or_right, lt-ltb, le-ltb, ne_eqb, eq-eqb, and_right, or_from}
use Rattle.rignolda_agent.specs.Numbers.{ahead, circle, half, is_newer, next, lead, further, furthest}
use Rattle.rignolda_agent.specs.Rounds.{is_behind, IsWithin}
use Rattle.rignolda_agent.proofs.Places.{up, down, ahead_by}

-- ---- the furthest

further_holds : (P : ℕ → Type 0) (from a b : ℕ) → P a → P b → P (further from a b)
further_holds P from a b left right = by (nat_lt (lead from a) (lead from b))
  where
    by : (t : Bool) → P (if t then b else a)
    by true = right
    by false = left

further_higher : (from a b : ℕ) → (lead from a ≤ lead from (further from a b)) × (lead from b ≤ lead from (further from a b))
further_higher from a b =
    elim (cases_lt (lead from a) (lead from b)) [
      | inl less ↦
          let is = ap (λ t. if t then b else a) (lt-ltb (lead from a) (lead from b) less) in
          let leads = ap (lead from) is in
          (omega (arith, less, leads), omega (arith, leads))
      | inr not_less ↦
          let is = ap (λ t. if t then b else a) (le-ltb (lead from a) (lead from b) not_less) in
          let leads = ap (lead from) is in
          (omega (arith, leads), omega (arith, not_less, leads))
    ]

abbrev pub Highest : ℕ → ℕ → List ℕ → ℕ → Type 0
Highest from a xs f = (lead from a ≤ lead from f) × AllByRecursion (λ n. lead from n ≤ lead from f) xs

pub highest : (from a : ℕ) (xs : List ℕ) → Highest from a xs (fold (further from) a xs)
highest from a [] = (omega arith, tt)
highest from a (x ∷ xs) =
    let rest = highest from (further from a x) xs in
    let here = further_higher from a x in
    (omega (arith, here.0, rest.0), (omega (arith, here.1, rest.0), rest.1))

pub all_hold : (P : ℕ → Type 0) (from a : ℕ) (xs : List ℕ) → P a → AllByRecursion P xs → P (fold (further from) a xs)
all_hold P from a [] here all = here
all_hold P from a (x ∷ xs) here all = all_hold P from (further from a x) xs (further_holds P from a x here all.0) all.1

-- ---- numbers

pub next_ahead : (from f : ℕ) → from < circle → f < circle → ahead from f < half
    → (next f < circle) × (next f ≢ 0) × (ahead from f < ahead from (next f)) × (ahead from (next f) ≤ ahead from f + 2)
next_ahead from f from_in f_in near =
    elim (cases_eq (f + 1) circle) [
      | inl last ↦
          let one : next f ≡ 1 = ap (λ b. if b then 1 else f + 1) (eq-eqb (f + 1) circle last) in
          elim (cases_lt f from) [
            | inl below ↦ absurd (omega (arith, last, below, from_in))
            | inr not_below ↦
                elim (cases_lt 1 from) [
                  | inl higher ↦
                      let there : ahead from (next f) ≡ 1 + circle - from = ap (ahead from) one ∙ down from 1 higher in
                      (omega (arith, one), (λ none. omega (arith, one, none)), omega (arith, there, up from f not_below, last, from_in), omega (arith, there, up from f not_below, last, from_in))
                  | inr not_higher ↦ absurd (omega (arith, not_higher, near, up from f not_below, last))
                ]
          ]
      | inr not_last ↦
          let more : next f ≡ f + 1 = ap (λ b. if b then 1 else f + 1) (ne_eqb (f + 1) circle not_last) in
          elim (cases_lt f from) [
            | inl below ↦
                elim (cases_lt (f + 1) from) [
                  | inl still_below ↦
                      let there : ahead from (next f) ≡ f + 1 + circle - from = ap (ahead from) more ∙ down from (f + 1) still_below in
                      (omega (arith, more, f_in, not_last), (λ none. omega (arith, more, none)), omega (arith, there, down from f below, from_in), omega (arith, there, down from f below, from_in))
                  | inr not_below ↦ absurd (omega (arith, not_below, near, down from f below, from_in))
                ]
            | inr not_below ↦
                let there : ahead from (next f) ≡ f + 1 - from = ap (ahead from) more ∙ up from (f + 1) (omega (arith, not_below)) in
                (omega (arith, more, f_in, not_last), (λ none. omega (arith, more, none)), omega (arith, there, up from f not_below), omega (arith, there, up from f not_below))
          ]
    ]

pub ahead_back : (x y : ℕ) → x < circle → y < circle → 0 < ahead x y → ahead y x ≡ circle - ahead x y
ahead_back x y x_in y_in apart =
    elim (cases_lt y x) [
      | inl below ↦ omega (arith, down x y below, up y x (omega (arith, below)), x_in, y_in)
      | inr not_below ↦
          elim (cases_eq x y) [
            | inl alike ↦ absurd (omega (arith, alike, apart, up x y not_below))
            | inr other ↦ omega (arith, up x y not_below, down y x (omega (arith, not_below, other)), x_in, y_in)
          ]
    ]

pub newer_by : (than n : ℕ) → n ≢ 0 → 0 < ahead than n → ahead than n < half → is_newer than n ≡ true
newer_by than n one apart near =
    and_from (not (n == 0)) _ (ap not (ne_eqb n 0 one))
    (or_right (than == 0) _ (and_from _ _ (lt-ltb 0 (ahead than n) apart) (lt-ltb (ahead than n) half near)))

pub not_newer_by : (than n : ℕ) → than ≢ 0 → half ≤ ahead than n → is_newer than n ≡ false
not_newer_by than n one far =
    and_right (not (n == 0)) _
    (or_from (than == 0) _ (ne_eqb than 0 one) (and_right (nat_lt 0 (ahead than n)) _ (le-ltb (ahead than n) half far)))

-- a number is not ahead of itself
pub own_lead : (from : ℕ) → lead from from ≡ 0
own_lead from =
    elim (cases_Bool (is_newer from from)) [
      | inl newer ↦ ap (λ b. if b then ahead from from else 0) newer ∙ omega (arith, up from from (omega arith))
      | inr older ↦ ap (λ b. if b then ahead from from else 0) older
    ]

-- how far a number leads is how much higher its place is
pub same_place : (low x y : ℕ) → low < circle → x < circle → y < circle → ahead low x ≡ ahead low y → x ≡ y
same_place low x y low_in x_in y_in alike = by (cases_lt x low) (cases_lt y low)
  where
    by : (x < low) ⊎ (low ≤ x) → (y < low) ⊎ (low ≤ y) → x ≡ y
    by (inl a) (inl b) = omega (arith, down low x a, down low y b, alike)
    by (inl a) (inr b) = omega (arith, down low x a, up low y b, alike)
    by (inr a) (inl b) = omega (arith, up low x a, down low y b, alike)
    by (inr a) (inr b) = omega (arith, up low x a, up low y b, alike)

lead_is : (low from x : ℕ) → low < circle → IsWithin low from → IsWithin low x → lead from x ≡ ahead low x - ahead low from
lead_is low from x low_in (from_in, from_one, from_near) (x_in, x_one, x_near) =
    elim (cases_lt (ahead low from) (ahead low x)) [
      | inl higher ↦
          let by = ahead_by low from x low_in from_in x_in higher in
          ap (λ b. if b then ahead from x else 0) (newer_by from x (λ none. omega (arith, none, x_one)) (omega (arith, by, higher)) (omega (arith, by, x_near))) ∙ by
      | inr not_higher ↦
          elim (cases_lt (ahead low x) (ahead low from)) [
            | inl lower ↦
                let by = ahead_by low x from low_in x_in from_in lower in
                let back = ahead_back x from x_in from_in (omega (arith, by, lower)) in
                ap (λ b. if b then ahead from x else 0) (not_newer_by from x (λ none. omega (arith, none, from_one)) (omega (arith, back, by, from_near)))
                ∙ omega (arith, lower)
            | inr not_lower ↦
                ap (lead from) (same_place low x from low_in x_in from_in (omega (arith, not_higher, not_lower))) ∙ own_lead from ∙ omega (arith, not_higher)
          ]
    ]

-- the furthest is no lower than the first
no_lower : (low from a : ℕ) (xs : List ℕ) → low < circle → IsWithin low from → IsWithin low a → AllByRecursion (IsWithin low) xs → ahead low from ≤ ahead low a
    → ahead low from ≤ ahead low (fold (further from) a xs)
no_lower low from a [] low_in from_within a_within all above = above
no_lower low from a (x ∷ xs) low_in from_within a_within all above =
    no_lower low from (further from a x) xs low_in from_within (further_holds (IsWithin low) from a x a_within all.0) all.1
    (elim (cases_lt (lead from a) (lead from x)) [
      | inl less ↦ omega (arith, less, lead_is low from x low_in from_within all.0, ap (λ t. ahead low (if t then x else a)) (lt-ltb (lead from a) (lead from x) less))
      | inr not_less ↦ omega (arith, above, ap (λ t. ahead low (if t then x else a)) (le-ltb (lead from a) (lead from x) not_less))
    ])

behind_next : (low f n : ℕ) → low < circle → IsWithin low f → IsWithin low n → ahead low n ≤ ahead low f → is_behind (next f) n ≡ true
behind_next low f n low_in (f_in, f_one, f_near) (n_in, n_one, n_near) lower =
    let (next_in, next_one, next_more, next_most) = next_ahead low f low_in f_in (omega (arith, f_near)) in
    let less : ahead low n < ahead low (next f) = omega (arith, lower, next_more) in
    let by = ahead_by low n (next f) low_in n_in next_in less in
    let back = ahead_back n (next f) n_in next_in (omega (arith, by, less)) in
    and_from (is_newer n (next f)) _
    (newer_by n (next f) next_one (omega (arith, by, less)) (omega (arith, by, next_most, f_near)))
    (ap not (not_newer_by (next f) n next_one (omega (arith, back, by, next_most, f_near))))

each_behind : (low from f : ℕ) (xs : List ℕ) → low < circle → IsWithin low from → IsWithin low f → ahead low from ≤ ahead low f → AllByRecursion (IsWithin low) xs
    → AllByRecursion (λ n. lead from n ≤ lead from f) xs → AllByRecursion (λ n. is_behind (next f) n ≡ true) xs
each_behind low from f [] low_in from_within f_within above all lower = tt
each_behind low from f (x ∷ xs) low_in from_within f_within above all lower = (
  behind_next low f x low_in f_within all.0
      (omega (arith, above, lower.0, lead_is low from x low_in from_within all.0, lead_is low from f low_in from_within f_within)),
  each_behind low from f xs low_in from_within f_within above all.1 lower.1,
)

pub above_heard : (low from : ℕ) (heard : List ℕ) → low < circle → AllByRecursion (IsWithin low) (from ∷ heard)
    → AllByRecursion (λ n. is_behind (next (furthest from heard)) n ≡ true) (from ∷ heard)
above_heard low from heard low_in all =
    let f_within = all_hold (IsWithin low) from from heard all.0 all.1 in
    let above = no_lower low from from heard low_in all.0 all.0 all.1 (omega arith) in (
      behind_next low (furthest from heard) from low_in f_within all.0 above,
      each_behind low from (furthest from heard) heard low_in all.0 f_within above all.1 (highest from from heard).1,
    )
