-- What an agent reports is not behind any number that it is made of.
use Rattle.std.proofs.Common.{◌≡◌, ◌≢◌, ℕ, ◌-◌, ◌<◌, ◌≤◌, true, inl, inr, List, [], ◌∷◌, sym, ap, ◌∙◌, arith}
use Rattle.std.specs.Prelude.{nat_le, if◌then◌else◌}
use Rattle.std.specs.List.{AllByRecursion, fold}
use Rattle.std.proofs.lemmas.Bool.{and_from, cases_Bool, cases_lt, le-leb, le-ltb, lt-ltb}
use Rattle.rignolda_agent.specs.Numbers.{ahead, circle, further, is_newer, lead}
use Rattle.rignolda_agent.specs.Reports.{covers, reported}
use Rattle.rignolda_agent.specs.Rounds.{IsNear, place}
use Rattle.rignolda_agent.specs.Takers.{Taker}
use Rattle.rignolda_agent.proofs.Above.{all_hold, highest, newer_by, own_lead, same_place}
use Rattle.rignolda_agent.proofs.Histories.{taken_is_one}
use Rattle.rignolda_agent.proofs.NotBehind.{newer_is_no_lower}
use Rattle.rignolda_agent.proofs.Places.{ahead_by, no_place, place_of}

-- how far a number leads is how much higher its place is
pub lead_near : (low from x : ℕ) → low < circle → IsNear low from → from ≢ 0 → IsNear low x → lead from x ≡ place low x - place low from
lead_near low from x low_in from_near one x_near =
    elim (cases_lt (place low from) (place low x)) [
      | inl higher ↦
          let x_one : x ≢ 0 = λ none. omega (arith, higher, no_place low x none) in
          let from_place = place_of low from one in
          let x_place = place_of low x x_one in
          let by = ahead_by low from x low_in from_near.0 x_near.0 (omega (arith, higher, from_place, x_place)) in
          ap (λ b. if b then ahead from x else 0)
          (newer_by from x x_one (omega (arith, by, higher, from_place, x_place)) (omega (arith, by, x_near.1, x_place)))
          ∙ omega (arith, by, from_place, x_place)
      | inr not_higher ↦
          elim (cases_Bool (is_newer from x)) [
            | inr older ↦ ap (λ b. if b then ahead from x else 0) older ∙ omega (arith, not_higher)
            | inl newer ↦
                let no_lower = newer_is_no_lower low from x low_in from_near x_near newer in
                let from_place = place_of low from one in
                let x_place = place_of low x (taken_is_one from x newer) in
                let same = same_place low from x low_in from_near.0 x_near.0 (omega (arith, not_higher, no_lower, from_place, x_place)) in
                ap (lead from) (sym same) ∙ (own_lead from ∙ omega (arith, not_higher))
          ]
    ]

module _ (low from : ℕ) (low_in : low < circle) (from_near : IsNear low from) (one : from ≢ 0) where
  -- the furthest of some numbers is no lower than where they are counted from
  stays_above : (a : ℕ) (xs : List ℕ) → AllByRecursion (IsNear low) xs → place low from ≤ place low a → place low from ≤ place low (fold (further from) a xs)
  stays_above a [] all above = above
  stays_above a (x ∷ xs) all above =
      stays_above (further from a x) xs all.1
      (elim (cases_lt (lead from a) (lead from x)) [
        | inl less ↦
            omega (arith, less, lead_near low from x low_in from_near one all.0, ap (λ t. place low (if t then x else a)) (lt-ltb (lead from a) (lead from x) less))
        | inr not_less ↦ omega (arith, above, ap (λ t. place low (if t then x else a)) (le-ltb (lead from a) (lead from x) not_less))
      ])

  -- nor than any of these
  none_above : (f : ℕ) (xs : List ℕ) → IsNear low f → place low from ≤ place low f → AllByRecursion (IsNear low) xs → AllByRecursion (λ n. lead from n ≤ lead from f) xs
      → AllByRecursion (λ n. place low n ≤ place low f) xs
  none_above f [] f_near above all least = tt
  none_above f (x ∷ xs) f_near above all least = (
    omega (arith, above, least.0, lead_near low from x low_in from_near one all.0, lead_near low from f low_in from_near one f_near),
    none_above f xs f_near above all.1 least.1,
  )

pub reported_covers : (low : ℕ) (t : Taker) (below : List ℕ) → low < circle → IsNear low t.number → 0 < t.number → IsNear low t.floor → AllByRecursion (IsNear low) below
    → IsNear low (reported t below) × (covers low t (reported t below) ≡ true) × AllByRecursion (λ n. place low n ≤ place low (reported t below)) below
reported_covers low t below low_in number one floor all =
    let some : t.number ≢ 0 = λ none. omega (arith, none, one) in
    let said = reported t below in
    let near : IsNear low said = all_hold (IsNear low) t.number t.number (t.floor ∷ below) number (floor, all) in
    let above : place low t.number ≤ place low said = stays_above low t.number low_in number some t.number (t.floor ∷ below) (floor, all) (omega arith) in
    let each = none_above low t.number low_in number some said (t.floor ∷ below) near above (floor, all) (highest t.number t.number (t.floor ∷ below)).1 in (
      near,
      and_from (nat_le (place low t.number) (place low said)) _ (le-leb (place low t.number) (place low said) above) (le-leb (place low t.floor) (place low said) each.0),
      each.1,
    )
