-- By a quarter of the circle at once.
use Rattle.std.proofs.Common.{◌≡◌, ◌⊎◌, ◌≢◌, ℕ, ◌+◌, ◌-◌, ◌<◌, ◌≤◌, Bool, true, false, inl, inr, sym, ap, ◌∙◌, arith}
use Rattle.std.specs.Prelude.{◌==◌, ◌&&◌, not, nat_le, nat_lt, if◌then◌else◌}
use Rattle.std.proofs.lemmas.Bool.{cases_lt, cases_Bool, and_right, or_from, le-leb, lt-leb, lt-ltb, le-ltb, ne_eqb, true≢false}
use Rattle.rignolda_agent.specs.Numbers.{ahead, circle, half, is_newer, next, quarter, quarter_on, towards}
use Rattle.rignolda_agent.specs.Publishers.{Publisher, gone_above}
use Rattle.rignolda_agent.proofs.Places.{up, down}
use Rattle.rignolda_agent.proofs.Above.{next_ahead, newer_by, not_newer_by}

-- what is ahead of what is ahead
pub ahead_sum : (x y z : ℕ) → x < circle → y < circle → z < circle → ahead x y + ahead y z < circle
    → ahead x z ≡ ahead x y + ahead y z
ahead_sum x y z x_in y_in z_in less = by (cases_lt y x) (cases_lt z y) (cases_lt z x)
  where
    by : (y < x) ⊎ (x ≤ y) → (z < y) ⊎ (y ≤ z) → (z < x) ⊎ (x ≤ z) → ahead x z ≡ ahead x y + ahead y z
    by (inl a) (inl b) (inl c) = omega (arith, down x y a, down y z b, down x z c, less)
    by (inl a) (inl b) (inr c) = omega (arith, down x y a, down y z b, up x z c, less)
    by (inl a) (inr b) (inl c) = omega (arith, down x y a, up y z b, down x z c, less)
    by (inl a) (inr b) (inr c) = omega (arith, down x y a, up y z b, up x z c, less)
    by (inr a) (inl b) (inl c) = omega (arith, up x y a, down y z b, down x z c, less)
    by (inr a) (inl b) (inr c) = omega (arith, up x y a, down y z b, up x z c, less)
    by (inr a) (inr b) (inl c) = omega (arith, up x y a, up y z b, down x z c, less)
    by (inr a) (inr b) (inr c) = omega (arith, up x y a, up y z b, up x z c, less)

itself : (n : ℕ) → n ≢ 0 → is_newer n n ≡ false
itself n one =
    let none : ahead n n ≡ 0 = omega (arith, up n n (omega arith)) in
    and_right (not (n == 0)) _ (or_from (n == 0) _ (ne_eqb n 0 one)
    (ap (λ by. nat_lt 0 by && nat_lt by half) none))

none_ahead : (x y : ℕ) → x < circle → ahead x y ≡ 0 → y ≡ x
none_ahead x y x_in none =
    elim (cases_lt y x) [
      | inl below ↦ absurd (omega (arith, down x y below, none, x_in))
      | inr not_below ↦ omega (arith, up x y not_below, none)
    ]

-- what is left after a part of the way
rest_ahead : (x y z : ℕ) → x < circle → y < circle → z < circle → ahead x y ≤ ahead x z
    → ahead y z ≡ ahead x z - ahead x y
rest_ahead x y z x_in y_in z_in less = by (cases_lt y x) (cases_lt z y) (cases_lt z x)
  where
    by : (y < x) ⊎ (x ≤ y) → (z < y) ⊎ (y ≤ z) → (z < x) ⊎ (x ≤ z) → ahead y z ≡ ahead x z - ahead x y
    by (inl a) (inl b) (inl c) = omega (arith, down x y a, down y z b, down x z c, less)
    by (inl a) (inl b) (inr c) = omega (arith, down x y a, down y z b, up x z c, less)
    by (inl a) (inr b) (inl c) = omega (arith, down x y a, up y z b, down x z c, less)
    by (inl a) (inr b) (inr c) = omega (arith, down x y a, up y z b, up x z c, less)
    by (inr a) (inl b) (inl c) = omega (arith, up x y a, down y z b, down x z c, less)
    by (inr a) (inl b) (inr c) = omega (arith, up x y a, down y z b, up x z c, less)
    by (inr a) (inr b) (inl c) = omega (arith, up x y a, up y z b, down x z c, less)
    by (inr a) (inr b) (inr c) = omega (arith, up x y a, up y z b, up x z c, less)

-- ---- a step

pub quarter_in : (from : ℕ) → 0 < from → from < circle
    → (0 < quarter_on from) × (quarter_on from < circle) × (quarter ≤ ahead from (quarter_on from)) × (ahead from (quarter_on from) ≤ quarter + 1)
quarter_in from one from_in =
    elim (cases_lt (from + quarter) circle) [
      | inl within ↦
          let is : quarter_on from ≡ from + quarter = ap (λ b. if b then from + quarter else from + quarter + 1 - circle) (lt-ltb (from + quarter) circle within) in
          let by : ahead from (quarter_on from) ≡ from + quarter - from = ap (ahead from) is ∙ up from (from + quarter) (omega arith) in
          (omega (arith, is, one), omega (arith, is, within), omega (arith, by), omega (arith, by))
      | inr past ↦
          let is : quarter_on from ≡ from + quarter + 1 - circle = ap (λ b. if b then from + quarter else from + quarter + 1 - circle) (le-ltb (from + quarter) circle past) in
          let by : ahead from (quarter_on from) ≡ from + quarter + 1 - circle + circle - from = ap (ahead from) is ∙ down from (from + quarter + 1 - circle) (omega (arith, from_in)) in
          (omega (arith, is, past), omega (arith, is, from_in), omega (arith, by, past), omega (arith, by, past))
    ]

pub to_it : (from number : ℕ) → ahead from number ≤ quarter → towards from number ≡ number
to_it from number near = ap (λ b. if b then number else quarter_on from) (le-leb (ahead from number) quarter near)

pub by_a_quarter : (from number : ℕ) → quarter < ahead from number → towards from number ≡ quarter_on from
by_a_quarter from number far = ap (λ b. if b then number else quarter_on from) (lt-leb (ahead from number) quarter far)

is_number : (from number : ℕ) → is_newer from number ≡ true → number ≢ 0
is_number from number newer none = true≢false (sym newer ∙ ap (is_newer from) none)

abbrev IsStep : ℕ → ℕ → Type 0
IsStep from to = (to < circle) × (ahead from to ≤ quarter + 1)

step_towards : (from number : ℕ) → 0 < from → from < circle → number < circle → IsStep from (towards from number)
step_towards from number one from_in number_in =
    elim (cases_lt quarter (ahead from number)) [
      | inl far ↦
          let is = by_a_quarter from number far in
          let step = quarter_in from one from_in in
          (omega (arith, is, step.1), omega (arith, ap (ahead from) is, step.3))
      | inr near ↦
          let is = to_it from number near in
          (omega (arith, is, number_in), omega (arith, ap (ahead from) is, near))
    ]

gone : (root : Publisher) (number : ℕ) → is_newer root.number number ≡ true → (gone_above root number).number ≡ towards root.number number
gone root number newer = ap (λ b. (if b then record root { number = towards root.number number; table_first = true } else root).number) newer

stayed : (root : Publisher) (number : ℕ) → is_newer root.number number ≡ false → (gone_above root number).number ≡ root.number
stayed root number older = ap (λ b. (if b then record root { number = towards root.number number; table_first = true } else root).number) older

step : (root : Publisher) (number : ℕ) → 0 < root.number → root.number < circle → number < circle → IsStep root.number (gone_above root number).number
step root number one root_in number_in =
    elim (cases_Bool (is_newer root.number number)) [
      | inl newer ↦
          let is = gone root number newer in
          let by = step_towards root.number number one root_in number_in in
          (omega (arith, is, by.0), omega (arith, ap (ahead root.number) is, by.1))
      | inr older ↦
          let is = stayed root number older in
          (omega (arith, is, root_in), omega (arith, ap (ahead root.number) is, up root.number root.number (omega arith)))
    ]

taken_after : (from to agent : ℕ) → from < circle → IsStep from to → 0 < agent → agent < circle → ahead agent from < quarter - 3
    → is_newer agent (next to) ≡ true
taken_after from to agent from_in (to_in, short) one agent_in near =
    let sum = ahead_sum agent from to agent_in from_in to_in (omega (arith, short, near)) in
    let (next_in, next_one, next_more, next_most) = next_ahead agent to agent_in to_in (omega (arith, sum, short, near)) in
    newer_by agent (next to) next_one (omega (arith, next_more)) (omega (arith, next_most, sum, short, near))

pub near_takes : (root : Publisher) (number agent : ℕ)
    → 0 < root.number → root.number < circle → number < circle → 0 < agent → agent < circle
    → ahead agent root.number < quarter - 3
    → is_newer agent (next (gone_above root number).number) ≡ true
near_takes root number agent one root_in number_in agent_one agent_in near =
    taken_after root.number (gone_above root number).number agent root_in (step root number one root_in number_in) agent_one agent_in near

-- ---- two steps

-- once it is near, the next step reaches it
reaches : (root : Publisher) (number : ℕ) → root.number < circle → number ≢ 0 → ahead root.number number ≤ quarter
    → (gone_above root number).number ≡ number
reaches root number root_in one near =
    elim (cases_Bool (is_newer root.number number)) [
      | inl newer ↦ gone root number newer ∙ to_it root.number number near
      | inr older ↦
          stayed root number older ∙
          elim (cases_lt 0 (ahead root.number number)) [
            | inl apart ↦ absurd (true≢false (sym (newer_by root.number number one apart (omega (arith, near))) ∙ older))
            | inr alike ↦ sym (none_ahead root.number number root_in (omega (arith, alike)))
          ]
    ]

newer_ahead : (from number : ℕ) → 0 < from → is_newer from number ≡ true → ahead from number < half
newer_ahead from number one newer =
    elim (cases_lt (ahead from number) half) [
      | inl less ↦ less
      | inr far ↦ absurd (true≢false (sym newer ∙ not_newer_by from number (λ none. omega (arith, none, one)) far))
    ]

pub twice_reaches : (root : Publisher) (number : ℕ)
    → 0 < root.number → root.number < circle → number < circle
    → is_newer root.number number ≡ true
    → (gone_above (gone_above root number) number).number ≡ number
twice_reaches root number one root_in number_in newer =
    let is = gone root number newer in
    let there = is_number root.number number newer in
    elim (cases_lt quarter (ahead root.number number)) [
      | inl far ↦
          let at : (gone_above root number).number ≡ quarter_on root.number = is ∙ by_a_quarter root.number number far in
          let step = quarter_in root.number one root_in in
          let left = rest_ahead root.number (quarter_on root.number) number root_in step.1 number_in (omega (arith, step.3, far)) in
          reaches (gone_above root number) number (omega (arith, at, step.1)) there
          (omega (arith, ap (λ from. ahead from number) at, left, step.2, newer_ahead root.number number one newer))
      | inr near ↦
          let at : (gone_above root number).number ≡ number = is ∙ to_it root.number number near in
          reaches (gone_above root number) number (omega (arith, at, number_in)) there
          (omega (arith, ap (λ from. ahead from number) at, up number number (omega arith)))
    ]
