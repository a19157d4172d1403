use Rattle.std.proofs.Common.{◌≡◌, ◌⊎◌, ◌<◌, ◌≤◌, ℕ, zero, suc, slice_index, [], ◌∷◌, Some, Contains, refl, ap, ◌∙◌, inl, inr, subst, arith}
use Rattle.stab_settings.specs.Refreshes.{IsSetBetween, Sets}
use Rattle.stab_settings.specs.Tables.{Reading}
use Rattle.stab_settings.proofs.examples.worked_out.Goals as goal

-- a member of two keys is one of them
one_of_two : (key : ℕ) → Contains (1 ∷ 2 ∷ []) key → (1 ≡ key) ⊎ (2 ≡ key)
one_of_two key (zero, within, is) = inl is
one_of_two key (suc zero, within, is) = inr is
one_of_two key (suc (suc k), within, is) = absurd (omega (arith, within))

-- where each item sets the key that it is, an item equal to a key sets it
abbrev own_key : Reading
own_key item = record { key = item; value = Some 9 } ∷ []

set_here : (key place : ℕ) → 3 ≤ place → place < 5 → slice_index (1 ∷ 2 ∷ 0 ∷ 2 ∷ 1 ∷ []) place ≡ key
    → IsSetBetween own_key (1 ∷ 2 ∷ 0 ∷ 2 ∷ 1 ∷ []) 3 5 key
set_here key place from before is = record {
  place = place;
  from_first = from;
  before_end = before;
  sets = (record { key = slice_index (1 ∷ 2 ∷ 0 ∷ 2 ∷ 1 ∷ []) place; value = Some 9 }, (0, omega arith, refl), is);
}

-- an item 2 does not set key 1
not_set : Sets (own_key 2) 1 → ⊥
not_set (setting, (zero, within, is), sets) = let never : 2 ≡ 1 = ap (λ x. x.key) is ∙ sets in absurd (omega (arith, never))
not_set (setting, (suc k, within, is), sets) = absurd (omega (arith, within))

pub returns-clause-refresh : goal.returns-clause-refresh
returns-clause-refresh c = record {
  in_list = omega arith;
  all_set = λ key member. elim (one_of_two key member) [
    | inl is ↦ set_here key 4 (omega arith) (omega arith) is
    | inr is ↦ set_here key 3 (omega arith) (omega arith) is
  ];
}

-- the item at place 3 does not set key 1
pub returns-clause-no_refresh : goal.returns-clause-no_refresh
returns-clause-no_refresh c refresh =
    let set = refresh.all_set 1 (0, omega arith, refl) in
    let place : set.place ≡ 3 = omega (arith, set.from_first, set.before_end) in
    not_set (subst (λ at. Sets (own_key (slice_index (1 ∷ 2 ∷ 0 ∷ 2 ∷ 1 ∷ []) at)) 1) place set.sets)
