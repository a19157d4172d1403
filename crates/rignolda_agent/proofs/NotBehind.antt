-- The numbers of an agent never fall, and are not behind those of what it heard.
use Rattle.std.proofs.Common.{◌≡◌, ◌≢◌, ℕ, ◌<◌, ◌≤◌, Bool, true, false, inl, inr, List, [], ◌∷◌, Option, Some, None, refl, sym, ap, subst, ◌∙◌, arith}
use Rattle.std.specs.Prelude.{◌==◌, not, if◌then◌else◌}
use Rattle.std.specs.List.{fold}
use Rattle.std.proofs.lemmas.Bool.{and_from, cases_eq, cases_lt, ne_eqb, true≢false}
use Rattle.rignolda_agent.specs.declared.body.Kind.{Kind}
use Rattle.rignolda_agent.specs.BodySpelling.{Body}
use Rattle.rignolda_agent.specs.Agents.{Agent, happens_all, hears, starts_again}
use Rattle.rignolda_agent.specs.Items.{hears_read}
use Rattle.rignolda_agent.specs.Numbers.{circle, is_newer}
use Rattle.rignolda_agent.specs.Reports.{NeitherFalls, NoneAhead}
use Rattle.rignolda_agent.specs.Rounds.{AllNear, IsNear, is_behind, place}
use Rattle.rignolda_agent.specs.Takers.{Taker, after_if, is_held, takes}
use Rattle.rignolda_agent.proofs.Above.{ahead_back, newer_by, not_newer_by}
use Rattle.rignolda_agent.proofs.Histories.{taken_is_one, taker_after}
use Rattle.rignolda_agent.proofs.Places.{ahead_by, no_place, not_higher, place_of}

-- ---- numbers that are near

pub newer_than_none : (y : ℕ) → y ≢ 0 → is_newer 0 y ≡ true
newer_than_none y one = and_from (not (y == 0)) _ (ap not (ne_eqb y 0 one)) refl

-- a newer number is no lower
pub newer_is_no_lower : (low x y : ℕ) → low < circle → IsNear low x → IsNear low y → is_newer x y ≡ true → place low x ≤ place low y
newer_is_no_lower low x y low_in x_near y_near newer =
    elim (cases_eq x 0) [
      | inl none ↦ omega (arith, no_place low x none)
      | inr x_one ↦
          elim (cases_lt (place low y) (place low x)) [
            | inr not_lower ↦ not_lower
            | inl lower ↦
                let x_place = place_of low x x_one in
                let y_place = place_of low y (taken_is_one x y newer) in
                let by = ahead_by low y x low_in y_near.0 x_near.0 (omega (arith, lower, x_place, y_place)) in
                let back = ahead_back y x y_near.0 x_near.0 (omega (arith, by, lower, x_place, y_place)) in
                absurd (true≢false (sym newer ∙ not_newer_by x y x_one (omega (arith, back, by, x_near.1, x_place))))
          ]
    ]

-- and one that is not newer is no higher, also where the other is no number
pub older_is_no_higher : (low x y : ℕ) → low < circle → IsNear low x → IsNear low y → is_newer x y ≡ false → place low y ≤ place low x
older_is_no_higher low x y low_in x_near y_near older =
    elim (cases_eq x 0) [
      | inr one ↦ not_higher low x y low_in x_near y_near one older
      | inl none ↦
          elim (cases_eq y 0) [
            | inl nothing ↦ omega (arith, no_place low y nothing)
            | inr something ↦
                absurd (true≢false (sym (newer_than_none y something) ∙ (ap (λ m. is_newer m y) (sym none) ∙ older)))
          ]
    ]

-- the lower one is behind the higher
pub lower_is_behind : (low x y : ℕ) → low < circle → IsNear low x → IsNear low y → place low x < place low y → is_behind y x ≡ true
lower_is_behind low x y low_in x_near y_near lower =
    let y_one : y ≢ 0 = λ none. omega (arith, lower, no_place low y none) in
    elim (cases_eq x 0) [
      | inl none ↦ ap (λ n. is_behind y n) none ∙ and_from (is_newer 0 y) _ (newer_than_none y y_one) refl
      | inr x_one ↦
          let x_place = place_of low x x_one in
          let y_place = place_of low y y_one in
          let by = ahead_by low x y low_in x_near.0 y_near.0 (omega (arith, lower, x_place, y_place)) in
          let back = ahead_back x y x_near.0 y_near.0 (omega (arith, by, lower, x_place, y_place)) in
          and_from (is_newer x y) _
          (newer_by x y y_one (omega (arith, by, lower, x_place, y_place)) (omega (arith, by, y_near.1, y_place)))
          (ap not (not_newer_by y x y_one (omega (arith, back, by, y_near.1, y_place))))
    ]

-- ---- one body

-- the floor after a body that is taken, which the files may be ahead of
floor_if : (low : ℕ) (h : Bool) (t : Taker) (n : ℕ) → low < circle → is_held t n ≡ h → IsNear low t.floor → IsNear low n
    → IsNear low (if h then t.floor else n) × (place low t.floor ≤ place low (if h then t.floor else n))
floor_if low true t n low_in held floor_near n_near = (floor_near, omega arith)
floor_if low false t n low_in free floor_near n_near = (n_near, older_is_no_higher low n t.floor low_in n_near floor_near free)

after_when : (low : ℕ) (b : Bool) (t : Taker) (k : Kind) (n : ℕ) → low < circle → takes t n ≡ b → IsNear low t.number → IsNear low t.floor → IsNear low n
    → NeitherFalls low t (after_if b t k n) × (place low n ≤ place low (after_if b t k n).number)
after_when low true t k n low_in taken number floor n_near =
    let there = floor_if low (is_held t n) t n low_in refl floor n_near in (
      record {
        number_near = n_near;
        floor_near = there.0;
        number = newer_is_no_lower low t.number n low_in number n_near taken;
        floor = there.1;
      },
      omega arith,
    )
after_when low false t k n low_in passed number floor n_near = (
  record { number_near = number; floor_near = floor; number = omega arith; floor = omega arith },
  older_is_no_higher low t.number n low_in number n_near passed,
)

after_one : (low : ℕ) (a : Agent) (b : Body) → low < circle → IsNear low a.taker.number → IsNear low a.taker.floor → IsNear low b.number
    → NeitherFalls low a.taker (hears a b).taker × (place low b.number ≤ place low (hears a b).taker.number)
after_one low a b low_in number floor near =
    subst (λ t. NeitherFalls low a.taker t × (place low b.number ≤ place low t.number)) (sym (taker_after a b))
    (after_when low (takes a.taker b.number) a.taker b.kind b.number low_in refl number floor near)

-- ---- all of them

falls_on : (low : ℕ) (t u v : Taker) → NeitherFalls low t u → NeitherFalls low u v → NeitherFalls low t v
falls_on low t u v first then_on = record {
  number_near = then_on.number_near;
  floor_near = then_on.floor_near;
  number = omega (arith, first.number, then_on.number);
  floor = omega (arith, first.floor, then_on.floor);
}

pub heard_all : (low : ℕ) (a : Agent) (said : List (Option Body)) → low < circle → IsNear low a.taker.number → IsNear low a.taker.floor → AllNear low said
    → NeitherFalls low a.taker (fold hears_read a said).taker × NoneAhead low (fold hears_read a said).taker.number said
heard_all low a [] low_in number floor all =
    (record { number_near = number; floor_near = floor; number = omega arith; floor = omega arith }, tt)
heard_all low a (None ∷ rest) low_in number floor all = heard_all low a rest low_in number floor all
heard_all low a (Some b ∷ rest) low_in number floor all =
    let one = after_one low a b low_in number floor all.0 in
    let more = heard_all low (hears a b) rest low_in one.0.number_near one.0.floor_near all.1 in (
      falls_on low a.taker (hears a b).taker (fold hears_read (hears a b) rest).taker one.0 more.0,
      (omega (arith, one.1, more.0.number), more.1),
    )

-- ---- over starts of the process

-- as long as the number is not ahead of the floor, it stays so
held_if : (low : ℕ) (h : Bool) (t : Taker) (n : ℕ) → low < circle → is_held t n ≡ h → IsNear low t.floor → IsNear low n
    → place low n ≤ place low (if h then t.floor else n)
held_if low true t n low_in held floor_near n_near = newer_is_no_lower low n t.floor low_in n_near floor_near held
held_if low false t n low_in free floor_near n_near = omega arith

floor_leads : (low : ℕ) (b : Bool) (t : Taker) (k : Kind) (n : ℕ) → low < circle → IsNear low t.floor → IsNear low n → place low t.number ≤ place low t.floor
    → place low (after_if b t k n).number ≤ place low (after_if b t k n).floor
floor_leads low true t k n low_in floor n_near leads = held_if low (is_held t n) t n low_in refl floor n_near
floor_leads low false t k n low_in floor n_near leads = leads

pub started_all : (low : ℕ) (a : Agent) (history : List (Option Body)) → low < circle → IsNear low a.taker.number → IsNear low a.taker.floor → AllNear low history
    → place low a.taker.number ≤ place low a.taker.floor
    → (place low a.taker.floor ≤ place low (happens_all a history).taker.floor)
    × (place low (happens_all a history).taker.number ≤ place low (happens_all a history).taker.floor)
    × NoneAhead low (happens_all a history).taker.floor history
started_all low a [] low_in number floor all leads = (omega arith, leads, tt)
started_all low a (None ∷ rest) low_in number floor all leads =
    started_all low (starts_again a) rest low_in (omega arith, omega arith) floor all (omega arith)
started_all low a (Some b ∷ rest) low_in number floor all leads =
    let one = after_one low a b low_in number floor all.0 in
    let still : place low (hears a b).taker.number ≤ place low (hears a b).taker.floor =
    subst (λ t. place low t.number ≤ place low t.floor) (sym (taker_after a b)) (floor_leads low (takes a.taker b.number) a.taker b.kind b.number low_in floor all.0 leads) in
    let more = started_all low (hears a b) rest low_in one.0.number_near one.0.floor_near all.1 still in (
      omega (arith, one.0.floor, more.0),
      more.1,
      (omega (arith, one.1, still, more.0), more.2),
    )
