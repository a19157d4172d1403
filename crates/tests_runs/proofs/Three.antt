-- What holds of each entry of a short list holds of all.
use Rattle.std.proofs.Common.{[], ◌∷◌, All}
use Rattle.std.proofs.lemmas.List.Elements.{All-nil, All-cons}

-- what holds of one holds of all of a list of it
pub one_holds : {A : Type 0} (P : A → Type 0) (x : A) → P x → All P (x ∷ [])
one_holds P x first = All-cons P x [] first (All-nil P)

-- what holds of three holds of all of a list of them
pub three_hold : {A : Type 0} (P : A → Type 0) (x y z : A) → P x → P y → P z → All P (x ∷ y ∷ z ∷ [])
three_hold P x y z first second third = All-cons P x (y ∷ z ∷ []) first (All-cons P y (z ∷ []) second (one_holds P z third))
