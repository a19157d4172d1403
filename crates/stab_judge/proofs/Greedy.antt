-- Lists that are picked from others, and how many of the first items are, found greedily.
use Rattle.std.proofs.Common.{◌≡◌, ℕ, zero, suc, ◌+◌, ◌<◌, ◌≤◌, cond, eqb, ◌⊎◌, inl, inr, List, [], ◌∷◌, ◌++◌, length, get_or, take, drop, refl, sym, ◌∙◌, ap, subst, arith}
use Rattle.std.proofs.lemmas.Bool.{cond_both, eqb-true, eqb-false, cond-true, cond-false, eq-eqb, ne_eqb}
use Rattle.std.proofs.lemmas.List.{take-append-drop, length-take-le, drop_all, drop_more}
use Rattle.stab_core.specs.Picks.{RisesFrom, AllBelow, Picks}
use Rattle.stab_core.proofs.ForCallers.{at_places, raised, below_higher, parted, items_parted, picks_chosen, picks_joined}
use Rattle.stab_treecore.proofs.ForCallers.{all_places, all_picked}
use Rattle.stab_judge.specs.Judged.{IsPicked}

-- nothing is picked from any list
pub nothing_picked : (whole : List ℕ) → IsPicked [] whole
nothing_picked whole = ([], record { rising = tt; in_list = tt; the_items = refl })

-- a list is picked from itself
pub itself_picked : (whole : List ℕ) → IsPicked whole whole
itself_picked whole = (all_places whole, all_picked whole)

-- what is picked from what is picked is picked
pub picked_of_picked : (part middle whole : List ℕ) → IsPicked part middle → IsPicked middle whole → IsPicked part whole
picked_of_picked part middle whole (qs, second) (ps, first) =
    (at_places ps qs, picks_chosen whole ps middle qs part first second)

-- what is picked from two lists, one after the other
pub picked_joined : (front back part more : List ℕ) → IsPicked part front → IsPicked more back
    → IsPicked (part ++ more) (front ++ back)
picked_joined front back part more (ps, first) (qs, second) =
    (ps ++ raised (length front) qs, picks_joined front back ps qs part more first second)

-- the same first item
pub picked_again : (x : ℕ) (part whole : List ℕ) → IsPicked part whole → IsPicked (x ∷ part) (x ∷ whole)
picked_again x part whole picked = picked_joined (x ∷ []) whole (x ∷ []) part (itself_picked (x ∷ [])) picked

-- one more item in front
pub picked_past : (x : ℕ) (part whole : List ℕ) → IsPicked part whole → IsPicked part (x ∷ whole)
picked_past x part whole picked = picked_joined (x ∷ []) whole [] part (nothing_picked (x ∷ [])) picked

-- the front of a list is picked from a longer front
pub front_of_front : (k n : ℕ) (xs : List ℕ) → k ≤ n → IsPicked (take k xs) (take n xs)
front_of_front zero n xs fits = nothing_picked (take n xs)
front_of_front (suc k) zero xs fits = absurd (omega arith)
front_of_front (suc k) (suc n) [] fits = nothing_picked []
front_of_front (suc k) (suc n) (x ∷ xs) fits =
    picked_again x (take k xs) (take n xs) (front_of_front k n xs (omega arith))

-- the front of a list is picked from it
pub front_picked : (k : ℕ) (xs : List ℕ) → IsPicked (take k xs) xs
front_picked zero xs = nothing_picked xs
front_picked (suc k) [] = nothing_picked []
front_picked (suc k) (x ∷ xs) = picked_again x (take k xs) xs (front_picked k xs)

-- the back of a list is picked from it
pub back_picked : (k : ℕ) (xs : List ℕ) → IsPicked (drop k xs) xs
back_picked zero xs = itself_picked xs
back_picked (suc k) [] = nothing_picked []
back_picked (suc k) (x ∷ xs) = picked_past x (drop k xs) xs (back_picked k xs)

-- rising places below 1: the place 0 or none
pub none_or_zero : (low : List ℕ) → RisesFrom 0 low → AllBelow 1 low → (low ≡ []) ⊎ (low ≡ 0 ∷ [])
none_or_zero [] rises below = inl refl
none_or_zero (p ∷ []) rises below =
    let is : p ≡ 0 = omega (arith, below.0) in inr (ap (λ x. x ∷ []) is)
none_or_zero (p ∷ q ∷ ps) rises below = absurd (omega (arith, below.0, below.1.0, rises.1.0))

-- what is picked from a list either begins with its first item or is picked from the rest
pub picked_first : (x : ℕ) (part whole : List ℕ) → IsPicked part (x ∷ whole)
    → ((rest : List ℕ) × (part ≡ x ∷ rest) × IsPicked rest whole) ⊎ IsPicked part whole
picked_first x part whole (places, picks) =
    let parts = parted 1 (length whole) 0 places picks.rising
    (below_higher (length (x ∷ whole)) (1 + length whole) places (omega arith) picks.in_list) in
    let items : part ≡ at_places (x ∷ []) parts.low ++ at_places whole parts.high =
    picks.the_items ∙ (ap (at_places (x ∷ whole)) parts.both ∙ items_parted (x ∷ []) whole parts.low parts.high parts.low_below) in
    let picks_high : Picks whole parts.high (at_places whole parts.high) =
    record { rising = parts.high_rise; in_list = parts.high_below; the_items = refl } in
    elim (none_or_zero parts.low parts.low_rise parts.low_below) [
      | inl none ↦
          inr (subst (λ (xs : List ℕ). IsPicked xs whole)
          (sym (items ∙ ap (λ low. at_places (x ∷ []) low ++ at_places whole parts.high) none)) (parts.high, picks_high))
      | inr first ↦
          inl (
            at_places whole parts.high,
            items ∙ ap (λ low. at_places (x ∷ []) low ++ at_places whole parts.high) first,
            (parts.high, picks_high),
          )
    ]

-- nothing but the empty list is picked from it
pub picked_from_nothing : (part : List ℕ) → IsPicked part [] → part ≡ []
picked_from_nothing part ([], picks) = picks.the_items
picked_from_nothing part (p ∷ ps, picks) = absurd (omega (arith, picks.in_list.0))

-- ---- greedily

-- how many of the first items of a list are found in another, each at the first place after the one
-- before
abbrev pub greedy : List ℕ → List ℕ → ℕ
greedy part [] = 0
greedy [] (w ∷ ws) = 0
greedy (p ∷ ps) (w ∷ ws) = cond (eqb p w) (suc (greedy ps ws)) (greedy (p ∷ ps) ws)

-- no more than there are
pub greedy_within : (part whole : List ℕ) → greedy part whole ≤ length part
greedy_within part [] = omega arith
greedy_within [] (w ∷ ws) = omega arith
greedy_within (p ∷ ps) (w ∷ ws) =
    cond_both (eqb p w) (suc (greedy ps ws)) (greedy (p ∷ ps) ws) (λ n. n ≤ length (p ∷ ps))
    (λ _. omega (arith, greedy_within ps ws)) (λ _. greedy_within (p ∷ ps) ws)

-- the first `greedy part whole` of them are picked
pub greedy_picked : (part whole : List ℕ) → IsPicked (take (greedy part whole) part) whole
greedy_picked part [] = nothing_picked []
greedy_picked [] (w ∷ ws) = nothing_picked (w ∷ ws)
greedy_picked (p ∷ ps) (w ∷ ws) =
    cond_both (eqb p w) (suc (greedy ps ws)) (greedy (p ∷ ps) ws) (λ n. IsPicked (take n (p ∷ ps)) (w ∷ ws))
    (λ same. subst (λ (x : ℕ). IsPicked (x ∷ take (greedy ps ws) ps) (w ∷ ws)) (sym (eqb-true p w same))
    (picked_again w (take (greedy ps ws) ps) ws (greedy_picked ps ws)))
    (λ _. picked_past w (take (greedy (p ∷ ps) ws) (p ∷ ps)) ws (greedy_picked (p ∷ ps) ws))

-- no more are picked
pub greedy_most : (part more whole : List ℕ) → IsPicked part whole → length part ≤ greedy (part ++ more) whole
greedy_most [] more whole picked = omega arith
greedy_most (p ∷ ps) more [] picked = absurd (omega (arith, ap length (picked_from_nothing (p ∷ ps) picked)))
greedy_most (p ∷ ps) more (w ∷ ws) picked =
    let rest_picked : IsPicked ps ws =
    elim (picked_first w (p ∷ ps) ws picked) [
      | inl (rest, is, rest_picked) ↦
          let same : ps ≡ rest = cc in subst (λ (xs : List ℕ). IsPicked xs ws) (sym same) rest_picked
      | inr all_picked ↦ picked_of_picked ps (p ∷ ps) ws (picked_past p ps ps (itself_picked ps)) all_picked
    ] in
    cond_both (eqb p w) (suc (greedy (ps ++ more) ws)) (greedy (p ∷ ps ++ more) ws) (λ n. length (p ∷ ps) ≤ n)
    (λ _. omega (arith, greedy_most ps more ws rest_picked))
    (λ differ. elim (picked_first w (p ∷ ps) ws picked) [
      | inl (rest, is, rest_picked) ↦ let same : p ≡ w = cc in absurd (eqb-false p w differ same)
      | inr all_picked ↦ greedy_most (p ∷ ps) more ws all_picked
    ])

-- the same of the front of a list
pub most_picked : (part whole : List ℕ) (n : ℕ) → n ≤ length part → IsPicked (take n part) whole → n ≤ greedy part whole
most_picked part whole n fits picked =
    let all : take n part ++ drop n part ≡ part = take-append-drop n part in
    let long : length (take n part) ≡ n = length-take-le n part fits in
    let most : length (take n part) ≤ greedy (take n part ++ drop n part) whole =
    greedy_most (take n part) (drop n part) whole picked in
    omega (arith, ap (λ xs. greedy xs whole) all)

-- ---- step by step

-- none of no items
pub greedy_of_nothing : (whole : List ℕ) → greedy [] whole ≡ 0
greedy_of_nothing [] = refl
greedy_of_nothing (w ∷ ws) = refl

-- one more is found
pub greedy_found : (part whole : List ℕ) (n i : ℕ) → n < length part → i < length whole
    → get_or part n 0 ≡ get_or whole i 0
    → greedy (drop n part) (drop i whole) ≡ suc (greedy (drop (n + 1) part) (drop (i + 1) whole))
greedy_found part whole n i n_within i_within same =
    ap (λ ps. greedy ps (drop i whole)) (drop_more part n 0 n_within)
    ∙ (ap (greedy (get_or part n 0 ∷ drop (n + 1) part)) (drop_more whole i 0 i_within)
    ∙ cond-true (eqb (get_or part n 0) (get_or whole i 0)) _ _ (eq-eqb _ _ same))

-- the next one is not here
pub greedy_missed : (part whole : List ℕ) (n i : ℕ) → n < length part → i < length whole
    → (get_or part n 0 ≡ get_or whole i 0 → ⊥)
    → greedy (drop n part) (drop i whole) ≡ greedy (drop n part) (drop (i + 1) whole)
greedy_missed part whole n i n_within i_within differ =
    ap (λ ps. greedy ps (drop i whole)) (drop_more part n 0 n_within)
    ∙ (ap (greedy (get_or part n 0 ∷ drop (n + 1) part)) (drop_more whole i 0 i_within)
    ∙ (cond-false (eqb (get_or part n 0) (get_or whole i 0)) _ _ (ne_eqb _ _ differ)
    ∙ ap (λ ps. greedy ps (drop (i + 1) whole)) (sym (drop_more part n 0 n_within))))

-- all were found
pub greedy_full : (part whole : List ℕ) (n : ℕ) → length part ≤ n → greedy (drop n part) whole ≡ 0
greedy_full part whole n past = ap (λ ps. greedy ps whole) (drop_all n part past) ∙ greedy_of_nothing whole

-- the list is at its end
pub greedy_end : (part whole : List ℕ) (i : ℕ) → length whole ≤ i → greedy part (drop i whole) ≡ 0
greedy_end part whole i past = ap (greedy part) (drop_all i whole past)

-- ---- the invariant of the loop: what is found so far, and what will be found in the rest, is all

-- where one more is found
pub step_found : (part whole : List ℕ) (n i m all : ℕ) → n < length part → i < length whole
    → get_or part n 0 ≡ get_or whole i 0 → m ≡ n + 1 → n + greedy (drop n part) (drop i whole) ≡ all
    → (m ≤ length part) × (m + greedy (drop m part) (drop (i + 1) whole) ≡ all)
step_found part whole n i m all n_within i_within same is so_far = (
  omega arith,
  ap (λ k. k + greedy (drop k part) (drop (i + 1) whole)) is ∙ omega (arith, greedy_found part whole n i n_within i_within same),
)

-- where the next one is not here
pub step_missed : (part whole : List ℕ) (n i m all : ℕ) → n < length part → i < length whole
    → (get_or part n 0 ≡ get_or whole i 0 → ⊥) → m ≡ n → n + greedy (drop n part) (drop i whole) ≡ all
    → (m ≤ length part) × (m + greedy (drop m part) (drop (i + 1) whole) ≡ all)
step_missed part whole n i m all n_within i_within differ is so_far = (
  omega arith,
  ap (λ k. k + greedy (drop k part) (drop (i + 1) whole)) is ∙ omega (arith, greedy_missed part whole n i n_within i_within differ),
)

-- where all were found
pub step_full : (part whole : List ℕ) (n i m all : ℕ) → n ≤ length part → length part ≤ n → m ≡ n
    → n + greedy (drop n part) (drop i whole) ≡ all
    → (m ≤ length part) × (m + greedy (drop m part) (drop (i + 1) whole) ≡ all)
step_full part whole n i m all within full is so_far = (
  omega arith,
  ap (λ k. k + greedy (drop k part) (drop (i + 1) whole)) is
      ∙ omega (arith, greedy_full part (drop i whole) n full, greedy_full part (drop (i + 1) whole) n full),
)
