-- Of a list of strays and one published item no law has a bound that is smaller than the number of
-- items before that one.
use Rattle.std.proofs.Common.{◌≡◌, ℕ, ◌+◌, ◌<◌, ◌≤◌, inl, inr, List, [], ◌∷◌, ◌++◌, map, length, slice_index, Contains, refl, sym, ◌∙◌, arith, subst}
use Rattle.std.specs.List.{range_with_len}
use Rattle.std.proofs.lemmas.Bool.{cases_lt}
use Rattle.std.proofs.lemmas.List.Elements.{Contains-append_cases, Contains-append_right, Contains-push_cases, Contains-get_or}
use Rattle.std.proofs.lemmas.List.FromFn.{length-range_with_len, get_or-range_with_len}
use Rattle.stab_core.proofs.ForCallers.{chosen_is_member, member_is_chosen, member_is_below, picked_is_member}
use Rattle.stab_treecore.specs.TreeLaw.{HalfTreeLawAt, NoneMissingBefore, TreeLaw}

-- neither the strays nor the garbage have a published item
module _ (missing most_strays bound : ℕ) (strays garbage : List ℕ) (beyond : (x : ℕ) → Contains strays x → missing < x)
    (apart : (x : ℕ) → Contains garbage x → missing < x) where
  abbrev published : List ℕ
  published = range_with_len 0 (missing + 1)

  published_at : (place : ℕ) → place < missing + 1 → slice_index published place ≡ place
  published_at place within = let sum : 0 + place ≡ place = omega arith in get_or-range_with_len 0 (missing + 1) place 0 within ∙ sum

  -- the published item of the list is at its own place, and before that place no other is in the
  -- list
  enough : (places : List ℕ) → HalfTreeLawAt most_strays garbage published (strays ++ missing ∷ []) places → NoneMissingBefore bound places
      → missing ≤ bound
  enough places half none_missing =
      elim (cases_lt bound missing) [
        | inr larger ↦ larger
        | inl fewer ↦
            let there : Contains (strays ++ missing ∷ []) missing = Contains-append_right strays (missing ∷ []) missing (0, omega arith, refl) in
            let parted : Contains (half.strays ++ half.taken) missing = subst (λ xs. Contains xs missing) half.parts there in
            elim (Contains-append_cases half.strays half.taken missing parted) [
              | inl among ↦
                  absurd (let never = apart missing (picked_is_member garbage half.stray_places half.strays missing half.strays_picked among) in omega (arith, never))
              | inr taken ↦
                  let chosen : Contains (map (λ place. slice_index published place) places) missing =
                  subst (λ xs. Contains xs missing) half.taken_picked.the_items taken in
                  let (place, among, is) = member_is_chosen published places missing chosen in
                  let q : ℕ = slice_index places place in
                  let member : Contains places q = Contains-get_or places place 0 among in
                  let below : q < length published = member_is_below (length published) places q half.taken_picked.in_list member in
                  let within : q < missing + 1 = omega (arith, below, length-range_with_len 0 (missing + 1)) in
                  let same : q ≡ missing = sym (published_at q within) ∙ is in
                  let before : Contains places bound = none_missing bound missing (omega arith) fewer (subst (λ n. Contains places n) same member) in
                  let value : slice_index published bound ≡ bound = published_at bound (omega arith) in
                  let picked : Contains half.taken bound =
                  subst (λ (xs : List ℕ). Contains xs bound) (sym half.taken_picked.the_items)
                  (subst (λ n. Contains (map (λ place. slice_index published place) places) n) value (chosen_is_member published places bound before)) in
                  let received : Contains (strays ++ missing ∷ []) bound =
                  subst (λ (xs : List ℕ). Contains xs bound) (sym half.parts) (Contains-append_right half.strays half.taken bound picked) in
                  elim (Contains-push_cases strays missing bound received) [
                    | inl stray ↦ absurd (let higher = beyond bound stray in omega (arith, higher))
                    | inr last ↦ absurd (omega (arith, last))
                  ]
            ]
      ]

  pub no_smaller : TreeLaw most_strays bound garbage published (strays ++ missing ∷ []) → missing ≤ bound
  no_smaller (places, half, none_missing) = enough places half none_missing
