-- Steps of reading that did not fail.
use Rattle.std.proofs.Common.{◌≡◌, ◌⊎◌, inl, inr, Bool, true, false, cond, Result, Ok, Err, refl}
use Rattle.rignolda_agent.specs.declared.fault.Fault.{Fault}
use Rattle.rignolda_agent.specs.Reading.{◌>>=◌}

-- both steps did not fail
pub bind_ok : {A B : Type 0} (r : Result A Fault) (f : A → Result B Fault) (y : B) → (r >>= f) ≡ Ok y
    → (x : A) × (r ≡ Ok x) × (f x ≡ Ok y)
bind_ok (Ok x) f y is = (x, refl, is)
bind_ok (Err fault) f y is = absurd cc

-- nothing was refused by a test
pub not_refused : {A : Type 0} (b : Bool) (fault : Fault) (r : Result A Fault) (y : A)
    → cond b (Err fault) r ≡ Ok y → (b ≡ false) × (r ≡ Ok y)
not_refused true fault r y is = absurd cc
not_refused false fault r y is = (refl, is)

pub passed : {A : Type 0} (b : Bool) (fault : Fault) (r : Result A Fault) (y : A)
    → cond b r (Err fault) ≡ Ok y → (b ≡ true) × (r ≡ Ok y)
passed true fault r y is = (refl, is)
passed false fault r y is = absurd cc

-- which of two was chosen
pub chosen : {A : Type 0} (b : Bool) (r s : Result A Fault) (y : A) → cond b r s ≡ Ok y
    → ((b ≡ true) × (r ≡ Ok y)) ⊎ ((b ≡ false) × (s ≡ Ok y))
chosen true r s y is = inl (refl, is)
chosen false r s y is = inr (refl, is)

abbrev done : {A : Type 0} → A → Result A Fault
done x = Ok x

pub same : {A : Type 0} (x y : A) → done x ≡ done y → x ≡ y
same x y is = cc
