-- The number of an agent's files, whatever happens.
use Rattle.std.proofs.Common.{◌≡◌, ◌≢◌, ℕ, ◌<◌, Bool, true, false, inl, inr, List, [], ◌∷◌, ◌++◌, length, Option, Some, None, refl, sym, ap, subst, ◌∙◌}
use Rattle.std.specs.Prelude.{◌==◌, ◌&&◌, not, if◌then◌else◌}
use Rattle.std.proofs.lemmas.Bool.{and_parts, cases_Bool, eq-eqb, true≢false}
use Rattle.rignolda_agent.specs.BodySpelling.{Body}
use Rattle.rignolda_agent.specs.Numbers.{circle, is_newer}
use Rattle.rignolda_agent.specs.Takers.{Taker, takes, is_held, after_if, after}
use Rattle.rignolda_agent.specs.Agents.{Agent, applied_if, taken_if, hears, happens, applies, number_if, applied, applied_by, starts_again, with_body}
use Rattle.rignolda_agent.specs.Rounds.{IsNear, AllNear, NeverFall}
use Rattle.rignolda_agent.proofs.Places.{not_higher}

pub from_not : (b : Bool) → not b ≡ true → b ≡ false
from_not true e = sym e
from_not false e = refl

to_not : (b : Bool) → not b ≡ false → b ≡ true
to_not true e = refl
to_not false e = sym e

taker_if : (b : Bool) (a : Agent) (bodies : List Body) (t : Taker) → (applied_if b a bodies t).taker ≡ t
taker_if true a bodies t = refl
taker_if false a bodies t = refl

taker_of_taken : (b : Bool) (a : Agent) (body : Body) (t : Taker) → (taken_if b a body t).taker ≡ t
taker_of_taken true a body t = taker_if (not (is_held a.taker body.number)) a (with_body a body) t
taker_of_taken false a body t = refl

-- what it remembers after a body is that of its numbers alone
pub taker_after : (a : Agent) (body : Body) → (hears a body).taker ≡ after a.taker body.kind body.number
taker_after a body = taker_of_taken (takes a.taker body.number) a body (after a.taker body.kind body.number)

floor_applied : (a : Agent) (body : Body) → applies a body.number ≡ true → (hears a body).taker.floor ≡ body.number
floor_applied a body is =
    let parts = and_parts (takes a.taker body.number) (not (is_held a.taker body.number)) is in
    ap (λ t. t.floor) (taker_after a body)
    ∙ ap (λ b. (after_if b a.taker body.kind body.number).floor) parts.0
    ∙ ap (λ h. if h then a.taker.floor else body.number) (from_not _ parts.1)

floor_kept : (a : Agent) (body : Body) → applies a body.number ≡ false → (hears a body).taker.floor ≡ a.taker.floor
floor_kept a body is =
    ap (λ t. t.floor) (taker_after a body)
    ∙ elim (cases_Bool (takes a.taker body.number)) [
      | inl takes_it ↦
          ap (λ b. (after_if b a.taker body.kind body.number).floor) takes_it
          ∙ ap (λ h. if h then a.taker.floor else body.number)
          (to_not _ (sym (ap (λ b. b && not (is_held a.taker body.number)) takes_it) ∙ is))
      | inr passes ↦ ap (λ b. (after_if b a.taker body.kind body.number).floor) passes
    ]

-- what is taken has a number
pub taken_is_one : (than number : ℕ) → is_newer than number ≡ true → number ≢ 0
taken_is_one than number newer none =
    true≢false (sym (and_parts (not (number == 0)) _ newer).0 ∙ ap not (eq-eqb number 0 none))

pub never_fall : (low : ℕ) (a : Agent) (history : List (Option Body)) → low < circle → IsNear low a.taker.floor → AllNear low history
    → NeverFall low a.taker.floor (applied a history)
never_fall low a [] low_in near all = tt
never_fall low a (None ∷ rest) low_in near all = never_fall low (starts_again a) rest low_in near all
never_fall low a (Some body ∷ rest) low_in near all =
    elim (cases_Bool (applies a body.number)) [
      | inl is ↦
          let parts = and_parts (takes a.taker body.number) (not (is_held a.taker body.number)) is in
          let there = floor_applied a body is in
          let later = never_fall low (hears a body) rest low_in (subst (IsNear low) (sym there) all.0) all.1 in
          subst (λ b. NeverFall low a.taker.floor (number_if b body.number ++ applied (hears a body) rest)) (sym is) (
            not_higher low body.number a.taker.floor low_in all.0 near (taken_is_one a.taker.number body.number parts.0) (from_not _ parts.1),
            subst (λ n. NeverFall low n (applied (hears a body) rest)) there later,
          )
      | inr is_not ↦
          let there = floor_kept a body is_not in
          let later = never_fall low (hears a body) rest low_in (subst (IsNear low) (sym there) near) all.1 in
          subst (λ b. NeverFall low a.taker.floor (number_if b body.number ++ applied (hears a body) rest)) (sym is_not)
          (subst (λ n. NeverFall low n (applied (hears a body) rest)) there later)
    ]

-- ---- files

files_if : (t h : Bool) (a : Agent) (body : Body) (taker : Taker) → (t && not h) ≡ false → is_held a.taker body.number ≡ h → (taken_if t a body taker).files ≡ a.files
files_if false h a body taker not_applied is = refl
files_if true false a body taker not_applied is = absurd (true≢false not_applied)
files_if true true a body taker not_applied is = ap (λ x. (applied_if (not x) a (with_body a body) taker).files) is

none_is_not : (b : Bool) (number : ℕ) → number_if b number ≡ [] → b ≡ false
none_is_not false number e = refl
none_is_not true number e = let one = ap length e in cc

pub files_stay : (a : Agent) (it : Option Body) → applied_by a it ≡ [] → (happens a it).files ≡ a.files
files_stay a None none = refl
files_stay a (Some body) none =
    files_if (takes a.taker body.number) (is_held a.taker body.number) a body (after a.taker body.kind body.number)
    (none_is_not (applies a body.number) body.number none) refl
