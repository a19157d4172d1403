-- Which nodes have a depth.
use Rattle.std.proofs.Common.{◌≡◌, ℕ, suc, ◌+◌, ◌-◌, ◌<◌, true, false, List, length, Option, Some, None, is_some, option_map, zero-add, inl, inr, refl, ap, arith}
use Rattle.std.proofs.lemmas.List.Folds.{list_all_at}
use Rattle.std.proofs.lemmas.List.FromFn.{length-range_with_len, get_or-range_with_len}
use Rattle.std.proofs.lemmas.List.Recursion.{and_at, and_from_places}
use Rattle.std.specs.List.{list_all, range_with_len}
use Rattle.stab_tree.specs.Parents.{have_depths}
use Rattle.stab_tree.specs.Nodes.{parent_at}
use Rattle.stab_tree.specs.Steps.{steps_below, depth_at}
use Rattle.stab_tree.proofs.Steps.{option_cases, steps-child}

-- the steps so far and those to come: one that is taken goes from the second to the first
steps_more : (s : ℕ) (o : Option ℕ) → option_map (λ k. s + k) (option_map suc o) ≡ option_map (λ k. (s + 1) + k) o
steps_more s None = refl
steps_more s (Some j) = ap Some (omega arith)

pub step_on : (ps : List (Option ℕ)) (n s w p : ℕ) → s < n → parent_at ps w ≡ Some p → option_map (λ k. s + k) (steps_below ps (n - s) w) ≡ option_map (λ k. (s + 1) + k) (steps_below ps (n - (s + 1)) p)
step_on ps n s w p few e =
    let left : n - s ≡ suc (n - (s + 1)) = omega arith in
    rw (left, steps-child ps (n - (s + 1)) w p e) (steps_more s (steps_below ps (n - (s + 1)) p))

-- where one node has no depth, not each node has one
pub have_depths-lack : (ps : List (Option ℕ)) (w : ℕ) → w < length ps → depth_at ps w ≡ None → have_depths ps ≡ false
have_depths-lack ps w within none =
    list_all_at (λ v. is_some (depth_at ps v)) (range_with_len 0 (length ps)) w 0 (rw length-range_with_len within) (rw (get_or-range_with_len 0 (length ps) w 0 within, zero-add, none) refl)

-- where each node has a depth, the test of it passes
pub have_depths-all : (ps : List (Option ℕ)) → ((w : ℕ) → w < length ps → is_some (depth_at ps w) ≡ true) → have_depths ps ≡ true
have_depths-all ps each =
    and_from_places (list_all (λ v. is_some (depth_at ps v))) (λ v. is_some (depth_at ps v)) refl (λ _ _. refl) (range_with_len 0 (length ps)) 0
    (λ i within. let inside : i < length ps = rw length-range_with_len at within in rw (get_or-range_with_len 0 (length ps) i 0 inside, zero-add) (each i inside))

-- where the test passes, a node has a depth
pub have_depths-at : (ps : List (Option ℕ)) → have_depths ps ≡ true → (w : ℕ) → w < length ps → (k : ℕ) × (depth_at ps w ≡ Some k)
have_depths-at ps all w within =
    let some = and_at (list_all (λ v. is_some (depth_at ps v))) (λ v. is_some (depth_at ps v)) refl (λ _ _. refl) (range_with_len 0 (length ps)) w 0 (rw length-range_with_len within) all in
    let has : is_some (depth_at ps w) ≡ true = rw (get_or-range_with_len 0 (length ps) w 0 within, zero-add) at some in
    elim (option_cases (depth_at ps w)) [ inl none ↦ (let no : is_some {T = ℕ} None ≡ true = rw none at has in cc) | inr found ↦ found ]
