-- What the steps of one call add to those of an end.
use Rattle.std.proofs.Common.{◌≡◌, List, [], ◌∷◌, ◌++◌, refl, ap, ◌∙◌}

-- two steps, one after the other
pub two_steps : {S : Type 0} (steps : List S) (a b : S) → (steps ++ a ∷ []) ++ b ∷ [] ≡ steps ++ a ∷ b ∷ []
two_steps [] a b = refl
two_steps (s ∷ steps) a b = ap (λ rest. s ∷ rest) (two_steps steps a b)

-- the second of two steps, after the first
pub one_more : {S : Type 0} (steps before after : List S) (a b : S) → before ≡ steps ++ a ∷ [] → after ≡ before ++ b ∷ []
    → after ≡ steps ++ a ∷ b ∷ []
one_more steps before after a b first second = second ∙ (ap (λ l. l ++ b ∷ []) first ∙ two_steps steps a b)
