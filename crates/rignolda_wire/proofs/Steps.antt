-- Steps of reading that did not fail, and that did.
use Rattle.std.proofs.Common.{◌≡◌, ◌⊎◌, inl, inr, Bool, true, false, cond, List, ℕ, Result, Ok, Err, refl, sym}
use Rattle.rignolda_wire.specs.declared.fault.Fault.{Fault}
use Rattle.rignolda_wire.specs.Reading.{Reader, read_on}

abbrev done : {A : Type 0} → A → Result A Fault
done x = Ok x

abbrev pub failed : (A : Type 0) → Fault → Result A Fault
failed A fault = Err fault

-- what was read is one
pub same : {A : Type 0} (x y : A) → done x ≡ done y → x ≡ y
same x y is = cc

pub same_fault : (A B : Type 0) (one other : Fault) → failed A one ≡ failed A other → failed B one ≡ failed B other
same_fault A B one other is = let e : one ≡ other = cc in cc

pub fault_is : (A : Type 0) (one other : Fault) → failed A one ≡ failed A other → one ≡ other
fault_is A one other is = cc

-- both readers did not fail
pub read_ok : {A B : Type 0} (r : Result (A × List ℕ) Fault) (next : A → Reader B) (y : B × List ℕ)
    → read_on r next ≡ Ok y → (x : A × List ℕ) × (r ≡ Ok x) × (next x.0 x.1 ≡ Ok y)
read_ok (Ok x) next y is = (x, refl, is)
read_ok (Err fault) next y is = absurd cc

-- the first reader failed, or the second
pub read_err : {A B : Type 0} (r : Result (A × List ℕ) Fault) (next : A → Reader B) (fault : Fault)
    → read_on r next ≡ Err fault → (r ≡ Err fault) ⊎ ((x : A × List ℕ) × (r ≡ Ok x) × (next x.0 x.1 ≡ Err fault))
read_err (Ok x) next fault is = inr (x, refl, is)
read_err {A = A} {B = B} (Err other) next fault is = inl (same_fault (B × List ℕ) (A × List ℕ) other fault is)

-- a test let it pass, and did not
pub passed : {A : Type 0} (test : Bool) (fault : Fault) (r : Result A Fault) (y : A)
    → cond test r (Err fault) ≡ Ok y → (test ≡ true) × (r ≡ Ok y)
passed true fault r y is = (refl, is)
passed false fault r y is = absurd cc

pub not_passed : {A : Type 0} (test : Bool) (fault other : Fault) (x y : A)
    → cond test (Ok x) (Err fault) ≡ failed A other → (cond test (Ok y) (Err fault) ≡ failed A other) × (fault ≡ other)
not_passed true fault other x y is = absurd cc
not_passed {A = A} false fault other x y is = (is, fault_is A fault other is)

-- there were enough bytes, and were not
pub enough : {A : Type 0} (short : Bool) (fault : Fault) (r : Result A Fault) (y : A)
    → cond short (Err fault) r ≡ Ok y → (short ≡ false) × (r ≡ Ok y)
enough true fault r y is = absurd cc
enough false fault r y is = (refl, is)

pub not_enough : {A : Type 0} (short : Bool) (fault other : Fault) (y : A)
    → cond short (Err fault) (Ok y) ≡ failed A other → (short ≡ true) × (other ≡ fault)
not_enough {A = A} true fault other y is = (refl, sym (fault_is A fault other is))
not_enough false fault other y is = absurd cc
