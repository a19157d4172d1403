-- What a list becomes when entries vanish and others are repeated where they stand. Whatever a
-- queue loses or keeps at its front, and whatever the receiver takes or answers, the labels on the
-- circle change in no other way.
use Rattle.std.proofs.Common.{◌≡◌, ℕ, zero, suc, Bool, true, false, List, [], ◌∷◌, ◌++◌, map, refl, ap}
use Rattle.std.specs.List.{AllByRecursion as Each}
use Rattle.stab_frames.specs.Queue.{without}
use Rattle.stab_core.specs.Step.{after_front}

-- the second list has entries of the first in their order, where some may be missing and others
-- repeated
pub data InOrder {A : Type 0} : List A → List A → Type 0 where
  nothing : InOrder [] []
  skip : {x : A} {xs ys : List A} → InOrder xs ys → InOrder (x ∷ xs) ys
  repeat : {x : A} {xs ys : List A} → InOrder (x ∷ xs) ys → InOrder (x ∷ xs) (x ∷ ys)

-- an entry that both lists begin with
pub again : {A : Type 0} {x : A} {xs ys : List A} → InOrder xs ys → InOrder (x ∷ xs) (x ∷ ys)
again in_order = repeat (skip in_order)

-- a list is in its own order
pub in_order_same : {A : Type 0} (xs : List A) → InOrder xs xs
in_order_same [] = nothing
in_order_same (x ∷ xs) = again (in_order_same xs)

-- so is the list without one entry
pub in_order_without : {A : Type 0} (i : ℕ) (xs : List A) → InOrder xs (without i xs)
in_order_without i [] = nothing
in_order_without zero (x ∷ xs) = skip (in_order_same xs)
in_order_without (suc i) (x ∷ xs) = again (in_order_without i xs)

-- and the list after its front was received
pub in_order_after_front : {A : Type 0} (keep : Bool) (xs : List A) → InOrder xs (after_front keep xs)
in_order_after_front true xs = in_order_same xs
in_order_after_front false [] = nothing
in_order_after_front false (x ∷ xs) = skip (in_order_same xs)

-- a function's values are in the order of the lists
pub in_order_map : {A B : Type 0} (f : A → B) {xs ys : List A} → InOrder xs ys → InOrder (map f xs) (map f ys)
in_order_map f nothing = nothing
in_order_map f (skip in_order) = skip (in_order_map f in_order)
in_order_map f (repeat in_order) = repeat (in_order_map f in_order)

-- the same list may come before both
pub in_order_behind : {A : Type 0} (zs : List A) {xs ys : List A} → InOrder xs ys → InOrder (zs ++ xs) (zs ++ ys)
in_order_behind [] in_order = in_order
in_order_behind (z ∷ zs) in_order = again (in_order_behind zs in_order)

-- or after both
pub in_order_before : {A : Type 0} {xs ys : List A} (zs : List A) → InOrder xs ys → InOrder (xs ++ zs) (ys ++ zs)
in_order_before zs nothing = in_order_same zs
in_order_before zs (skip in_order) = skip (in_order_before zs in_order)
in_order_before zs (repeat in_order) = repeat (in_order_before zs in_order)

-- what holds of each entry of the first list holds of each of the second
pub Each-in_order : {A : Type 0} (P : A → Type 0) {xs ys : List A} → InOrder xs ys → Each P xs → Each P ys
Each-in_order P nothing each = tt
Each-in_order P (skip in_order) each = Each-in_order P in_order each.1
Each-in_order P (repeat in_order) each = (each.0, Each-in_order P in_order each)

-- what holds of each entry and of one more holds with that one at the end
pub Each-push : {A : Type 0} (P : A → Type 0) (xs : List A) (x : A) → Each P xs → P x → Each P (xs ++ x ∷ [])
Each-push P [] x each one = (one, tt)
Each-push P (y ∷ xs) x each one = (each.0, Each-push P xs x each.1 one)

-- what follows from it holds of each entry too
pub Each-weaker : {A : Type 0} (P Q : A → Type 0) → ((x : A) → P x → Q x) → (xs : List A) → Each P xs → Each Q xs
Each-weaker P Q follows [] each = tt
Each-weaker P Q follows (x ∷ xs) each = (follows x each.0, Each-weaker P Q follows xs each.1)

-- taking an entry out of a function's values is taking it out of the places
pub without-map : {A B : Type 0} (f : A → B) (i : ℕ) (xs : List A) → without i (map f xs) ≡ map f (without i xs)
without-map f i [] = refl
without-map f zero (x ∷ xs) = refl
without-map f (suc i) (x ∷ xs) = ap (λ rest. f x ∷ rest) (without-map f i xs)

-- an empty queue stays empty
pub after_front-nil : {A : Type 0} (keep : Bool) → after_front {A = A} keep [] ≡ []
after_front-nil true = refl
after_front-nil false = refl

-- taking the front of a function's values is taking that of the places
pub after_front-map : {A B : Type 0} (f : A → B) (keep : Bool) (xs : List A) → after_front keep (map f xs) ≡ map f (after_front keep xs)
after_front-map f true xs = refl
after_front-map f false [] = refl
after_front-map f false (x ∷ xs) = refl
