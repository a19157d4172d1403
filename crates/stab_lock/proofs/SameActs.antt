-- Acts that are found equal are the same; and of two lists that are the same as far as they are taken, so is the next act that is taken.
use Rattle.std.proofs.Common.{◌≡◌, ℕ, suc, ◌-◌, ◌≤◌, Bool, true, List, [], ◌∷◌, drop, take, length, refl, rules, subst, arith}
use lib.Pointwise.{pointwise}
use Rattle.stab_acts.specs.declared.act.OutAct.{OutAct}
use Rattle.stab_acts.specs.declared.act.InAct.{InAct}
use Rattle.stab_acts.specs.contracts.act.OutActPartialEq.TheImpl as out_eq
use Rattle.stab_acts.specs.contracts.act.InActPartialEq.TheImpl as in_eq
use Rattle.stab_acts.specs.Scripts.{in_act, out_act}
use Rattle.stab_lock.specs.Taken.{SameTaken}
use Rattle.stab_lock.proofs.Starts.{equal_to_itself, same_by_entry}

-- acts for what goes out that are found equal are the same
pub same_out : (x y : OutAct) → out_eq.ghosts.eq x y ≡ true → x ≡ y
same_out x y alike = search rules

-- so are acts for what comes in
pub same_in : (x y : InAct) → in_eq.ghosts.eq x y ≡ true → x ≡ y
same_in x y alike = search rules

-- each act is found equal to itself
pub own_out : (x : OutAct) → out_eq.ghosts.eq x x ≡ true
own_out x = search rules

pub own_in : (x : InAct) → in_eq.ghosts.eq x x ≡ true
own_in x = search rules

-- two lists of as many acts, whose acts that were taken are found equal, are the same as far as they were taken
pub same_by_entry_taken : {A : Type 0} (equal : A → A → Bool) → ((x y : A) → equal x y ≡ true → x ≡ y) → (left : ℕ) (one other : List A)
    → length one ≡ length other → pointwise equal (take (length one - left) one) (take (length one - left) other) ≡ true → SameTaken left one other
same_by_entry_taken equal same left one other as_many found = record { as_many = as_many; taken = same_by_entry equal same _ _ found }

-- and two lists that are the same as far as they are taken are found so
pub found_by_entry_taken : {A : Type 0} (equal : A → A → Bool) → ((x : A) → equal x x ≡ true) → (left : ℕ) (one other : List A)
    → SameTaken left one other → pointwise equal (take (length one - left) one) (take (length one - left) other) ≡ true
found_by_entry_taken equal found left one other same =
    subst (λ taken. pointwise equal (take (length one - left) one) taken ≡ true) same.taken
    (equal_to_itself equal found (take (length one - left) one))

-- two lists whose first acts are still taken
module _ {A : Type 0} (left : ℕ) (x y : A) (xs ys : List A) (same : SameTaken left (x ∷ xs) (y ∷ ys)) (more : left ≤ length xs) where
  -- of the whole list one more is taken than of its rest
  one_more : length (x ∷ xs) - left ≡ suc (length xs - left)
  one_more = omega (arith, more)

  -- the first acts are the same
  pub same_first : x ≡ y
  same_first = search (rules, same.taken, one_more)

  -- and so is the rest, as far as it is taken
  pub same_rest : SameTaken left xs ys
  same_rest = record { as_many = search (rules, same.as_many); taken = search (rules, same.taken, one_more) }

-- what remains after one more act is the same as far as it is taken, also where both lists have ended
pub same_dropped : {A : Type 0} (left : ℕ) (xs ys : List A) → SameTaken left xs ys → left ≤ length (drop 1 xs) → SameTaken left (drop 1 xs) (drop 1 ys)
same_dropped left [] [] same more = same
same_dropped left [] (y ∷ ys) same more = search (rules, same.as_many)
same_dropped left (x ∷ xs) [] same more = search (rules, same.as_many)
same_dropped left (x ∷ xs) (y ∷ ys) same more = same_rest left x y xs ys same more

-- the next act for what goes out is the same, where it is taken
pub same_out_act : (left : ℕ) (xs ys : List OutAct) → SameTaken left xs ys → left ≤ length (drop 1 xs) → out_act xs ≡ out_act ys
same_out_act left [] [] same more = refl
same_out_act left [] (y ∷ ys) same more = search (rules, same.as_many)
same_out_act left (x ∷ xs) [] same more = search (rules, same.as_many)
same_out_act left (x ∷ xs) (y ∷ ys) same more = same_first left x y xs ys same more

-- so is the next act for what comes in
pub same_in_act : (left : ℕ) (xs ys : List InAct) → SameTaken left xs ys → left ≤ length (drop 1 xs) → in_act xs ≡ in_act ys
same_in_act left [] [] same more = refl
same_in_act left [] (y ∷ ys) same more = search (rules, same.as_many)
same_in_act left (x ∷ xs) [] same more = search (rules, same.as_many)
same_in_act left (x ∷ xs) (y ∷ ys) same more = same_first left x y xs ys same more
