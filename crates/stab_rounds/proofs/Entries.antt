-- Entries of a queue from a place on, all of one kind.
use Rattle.std.proofs.Common.{ℕ, zero, suc, ◌≤◌, Bool, true, false, List, [], ◌∷◌, ◌++◌, length, drop, arith}
use Rattle.std.specs.List.{AllByRecursion as Each}
use Rattle.stab_frames.specs.Queue.{without}
use Rattle.stab_core.specs.Step.{after_front}
use Rattle.stab_core.proofs.InOrder.{in_order_without, Each-in_order, Each-push}

module _ {A : Type 0} (P : A → Type 0) where
  -- from this place on, each entry is of the kind
  abbrev pub From : ℕ → List A → Type 0
  From place xs = Each P (drop place xs)

  -- from the end on there is none
  pub from_end : (place : ℕ) (xs : List A) → length xs ≤ place → From place xs
  from_end place [] within = nothing place
    where
      nothing : (n : ℕ) → From n []
      nothing zero = tt
      nothing (suc n) = tt
  from_end zero (x ∷ xs) within = absurd (omega arith)
  from_end (suc place) (x ∷ xs) within = from_end place xs (omega arith)

  -- one more at the end
  pub from-push : (place : ℕ) (xs : List A) (x : A) → From place xs → P x → From place (xs ++ x ∷ [])
  from-push zero xs x each one = Each-push P xs x each one
  from-push (suc place) [] x each one = from_end place [] (omega arith)
  from-push (suc place) (y ∷ xs) x each one = from-push place xs x each one

  -- the rest of a list
  pub from-rest : (place : ℕ) (x : A) (xs : List A) → From place (x ∷ xs) → From place xs
  from-rest zero x xs each = each.1
  from-rest (suc zero) x [] each = tt
  from-rest (suc zero) x (y ∷ xs) each = each.1
  from-rest (suc (suc place)) x [] each = tt
  from-rest (suc (suc place)) x (y ∷ xs) each = from-rest (suc place) y xs each

  -- one entry fewer
  pub from-without : (place i : ℕ) (xs : List A) → From place xs → From place (without i xs)
  from-without place i [] each = each
  from-without place zero (x ∷ xs) each = from-rest place x xs each
  from-without zero (suc i) (x ∷ xs) each = Each-in_order P (in_order_without (suc i) (x ∷ xs)) each
  from-without (suc place) (suc i) (x ∷ xs) each = from-without place i xs each

  -- the front may go
  pub from-front : (place : ℕ) (keep : Bool) (xs : List A) → From place xs → From place (after_front keep xs)
  from-front place true xs each = each
  from-front place false [] each = each
  from-front place false (x ∷ xs) each = from-rest place x xs each
