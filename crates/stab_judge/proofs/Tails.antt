-- Taken places where none is missing before the last: picks from a front, then the first items of
-- what comes after it.
use Rattle.std.proofs.Common.{◌≡◌, ℕ, suc, ◌+◌, ◌-◌, ◌<◌, ◌≤◌, inl, inr, List, [], ◌∷◌, ◌++◌, length, take, drop, Contains, refl, sym, ◌∙◌, ap, subst, append_assoc, arith}
use Rattle.std.proofs.lemmas.List.{length-append, length-map, take-append-drop, length-take-le}
use Rattle.stab_core.specs.Picks.{RisesFrom, AllBelow, Picks}
use Rattle.stab_core.proofs.ForCallers.{at_places, raised, raised_rise, rises_above, below_higher, parted, items_parted, items_in_front, member_is_at, member_is_below, raised_is_member, member_is_raised, picks_joined, picks_of_prefix}
use Rattle.stab_treecore.specs.TreeLaw.{HalfTreeLawAt, NoneMissingBefore}
use Rattle.stab_treecore.proofs.ForCallers.{all_places, all_below, all_items, all_picked, all_there, length_all}
use Rattle.stab_judge.specs.Judged.{SplitsBefore}
use Rattle.stab_judge.proofs.Greedy.{none_or_zero}

-- each place below one of these is one of these
abbrev pub Closed : List ℕ → Type 0
Closed places = (i q : ℕ) → i < q → Contains places q → Contains places i

-- no place that was raised is 0
raised_not_zero : (places : List ℕ) → Contains (raised 1 places) 0 → RisesFrom 0 places → ⊥
raised_not_zero places member rises =
    let (k, here) = member_is_at (raised 1 places) 0 member in
    omega (arith, here.is_there, rises_above (1 + 0) (raised 1 places) k (raised_rise 1 0 places rises) here.within)

-- such places are the first ones
pub closed_places : (items places : List ℕ) → RisesFrom 0 places → AllBelow (length items) places → Closed places
    → places ≡ all_places (take (length places) items)
closed_places [] [] rises below closed = refl
closed_places [] (p ∷ ps) rises below closed = absurd (omega (arith, below.0))
closed_places (x ∷ items) places rises below closed =
    let parts = parted 1 (length items) 0 places rises
    (below_higher (length (x ∷ items)) (1 + length items) places (omega arith) below) in
    elim (none_or_zero parts.low parts.low_rise parts.low_below) [
      | inl none ↦
          let is : places ≡ raised 1 parts.high =
          parts.both ∙ ap (λ low. low ++ raised 1 parts.high) none in
          none_at_all x items places parts.high is parts.high_rise closed
      | inr first ↦
          let is : places ≡ 0 ∷ raised 1 parts.high =
          parts.both ∙ ap (λ low. low ++ raised 1 parts.high) first in
          let closed_high : Closed parts.high =
          (λ i q before member.
          let here : Contains places (1 + q) =
          subst (λ (xs : List ℕ). Contains xs (1 + q)) (sym is) (raised_is_member 1 (0 ∷ []) parts.high q member) in
          member_is_raised 1 i (0 ∷ []) parts.high (omega arith, tt)
          (subst (λ (xs : List ℕ). Contains xs (1 + i)) is (closed (1 + i) (1 + q) (omega arith) here))) in
          let rest : parts.high ≡ all_places (take (length parts.high) items) =
          closed_places items parts.high parts.high_rise parts.high_below closed_high in
          let long : length places ≡ suc (length parts.high) =
          ap length is ∙ ap suc (length-map parts.high (λ place. 1 + place)) in
          is ∙ (ap (λ ps. 0 ∷ raised 1 ps) rest ∙ ap (λ n. all_places (take n (x ∷ items))) (sym long))
    ]
  where
    none_at_all : (x : ℕ) (items places high : List ℕ) → places ≡ raised 1 high → RisesFrom 0 high → Closed places
        → places ≡ all_places (take (length places) (x ∷ items))
    none_at_all x items places [] is rises closed = is ∙ ap (λ n. all_places (take n (x ∷ items))) (sym (ap length is))
    none_at_all x items places (q ∷ qs) is rises closed =
        let here : Contains places (1 + q) =
        subst (λ (xs : List ℕ). Contains xs (1 + q)) (sym is) (0, omega arith, refl) in
        let zero_there : Contains (raised 1 (q ∷ qs)) 0 =
        subst (λ (xs : List ℕ). Contains xs 0) is (closed 0 (1 + q) (omega arith) here) in
        absurd (raised_not_zero (q ∷ qs) zero_there rises)

-- places in the front, then all places of the first `count` items after it
pub record Placed (most : ℕ) (garbage front back received places : List ℕ) (count : ℕ) : Type 0 where
  pub low : List ℕ
  pub low_below : AllBelow (length front) low
  pub are : places ≡ low ++ raised (length front) (all_places (take count back))
  pub within : count ≤ length back
  pub splits : SplitsBefore most garbage front (take count back) received

-- the items at all places of the first items
items_at_first : (count : ℕ) (back : List ℕ) → at_places back (all_places (take count back)) ≡ take count back
items_at_first count back =
    let first : List ℕ = take count back in
    ap (λ xs. at_places xs (all_places first)) (sym (take-append-drop count back))
    ∙ (sym (items_in_front first (drop count back) (all_places first) (all_below first)) ∙ all_items first)

-- where none is missing before the last, the places are such
pub placed : (most : ℕ) (garbage front back received places : List ℕ)
    → HalfTreeLawAt most garbage (front ++ back) received places → NoneMissingBefore (length front) places
    → (count : ℕ) × Placed most garbage front back received places count
placed most garbage front back received places law none_missing =
    let size : ℕ = length front in
    let picks = law.taken_picked in
    let parts = parted size (length back) 0 places picks.rising
    (below_higher (length (front ++ back)) (size + length back) places (omega (arith, length-append front back)) picks.in_list) in
    let closed_high : Closed parts.high =
    (λ i q before member.
    let here : Contains places (size + q) =
    subst (λ (xs : List ℕ). Contains xs (size + q)) (sym parts.both) (raised_is_member size parts.low parts.high q member) in
    member_is_raised size i parts.low parts.high parts.low_below
    (subst (λ (xs : List ℕ). Contains xs (size + i)) parts.both (none_missing (size + i) (size + q) (omega arith) (omega arith) here))) in
    let count : ℕ = length parts.high in
    let high : parts.high ≡ all_places (take count back) =
    closed_places back parts.high parts.high_rise parts.high_below closed_high in
    let few : count ≤ length back =
    fewer_than count back parts.high high in
    let taken : law.taken ≡ at_places front parts.low ++ take count back =
    picks.the_items
    ∙ (ap (at_places (front ++ back)) parts.both
    ∙ (items_parted front back parts.low parts.high parts.low_below
    ∙ ap (λ more. at_places front parts.low ++ more) (ap (at_places back) high ∙ items_at_first count back))) in (
      count,
      record {
        low = parts.low;
        low_below = parts.low_below;
        are = parts.both ∙ ap (λ ps. parts.low ++ raised size ps) high;
        within = few;
        splits = record {
          body = law.strays ++ at_places front parts.low;
          ends =
              law.parts
              ∙ (ap (λ more. law.strays ++ more) taken
              ∙ sym (append_assoc law.strays (at_places front parts.low) (take count back)));
          splits = record {
            strays = law.strays;
            taken = at_places front parts.low;
            parts = refl;
            few_strays = law.few_strays;
            strays_picked = (law.stray_places, law.strays_picked);
            taken_picked =
                (parts.low, record { rising = parts.low_rise; in_list = parts.low_below; the_items = refl });
          };
        };
      },
    )
  where
    -- there are no more places of the first items than items
    fewer_than : (count : ℕ) (items places : List ℕ) → places ≡ all_places (take count items)
        → length places ≤ length items
    fewer_than count items places are =
        omega (arith, ap length are, length_all (take count items), length-append (take count items) (drop count items), ap length (take-append-drop count items))

-- what splits so has such places
pub from_split : (most : ℕ) (garbage front back received : List ℕ) (count : ℕ) → count ≤ length back
    → SplitsBefore most garbage front (take count back) received
    → (places : List ℕ) × HalfTreeLawAt most garbage (front ++ back) received places
    × Placed most garbage front back received places count
from_split most garbage front back received count within before =
    let first : List ℕ = take count back in
    let (low, picks_low) = before.splits.taken_picked in
    let places : List ℕ = low ++ raised (length front) (all_places first) in
    let joined : Picks (front ++ first) places (before.splits.taken ++ first) =
    picks_joined front first low (all_places first) before.splits.taken first picks_low (all_picked first) in
    let whole : (front ++ first) ++ drop count back ≡ front ++ back =
    append_assoc front first (drop count back) ∙ ap (λ xs. front ++ xs) (take-append-drop count back) in (
      places,
      record {
        strays = before.splits.strays;
        stray_places = before.splits.strays_picked.0;
        taken = before.splits.taken ++ first;
        parts =
            before.ends
            ∙ (ap (λ xs. xs ++ first) before.splits.parts
            ∙ append_assoc before.splits.strays before.splits.taken first);
        few_strays = before.splits.few_strays;
        strays_picked = before.splits.strays_picked.1;
        taken_picked =
            subst (λ (xs : List ℕ). Picks xs places (before.splits.taken ++ first)) whole
            (picks_of_prefix (front ++ first) (drop count back) places (before.splits.taken ++ first) joined);
      },
      record { low = low; low_below = picks_low.in_list; are = refl; within = within; splits = before },
    )

-- which places after the front are there
pub there_below : (most : ℕ) (garbage front back received places : List ℕ) (count i : ℕ)
    → Placed most garbage front back received places count → length front ≤ i → i < length front + count
    → Contains places i
there_below most garbage front back received places count i placed after before =
    let size : ℕ = length front in
    let first : List ℕ = take count back in
    let there : Contains (all_places first) (i - size) =
    all_there first (i - size) (omega (arith, length-take-le count back placed.within)) in
    let raised_there : Contains places (size + (i - size)) =
    subst (λ (xs : List ℕ). Contains xs (size + (i - size))) (sym placed.are)
    (raised_is_member size placed.low (all_places first) (i - size) there) in
    subst (Contains places) (omega arith) raised_there

-- and no others
pub below_there : (most : ℕ) (garbage front back received places : List ℕ) (count i : ℕ)
    → Placed most garbage front back received places count → length front ≤ i → Contains places i
    → i < length front + count
below_there most garbage front back received places count i placed after member =
    let size : ℕ = length front in
    let first : List ℕ = take count back in
    let same : i ≡ size + (i - size) = omega arith in
    let raised_there : Contains (placed.low ++ raised size (all_places first)) (size + (i - size)) =
    subst (λ (xs : List ℕ). Contains xs (size + (i - size))) placed.are (subst (Contains places) same member) in
    let high : Contains (all_places first) (i - size) =
    member_is_raised size (i - size) placed.low (all_places first) placed.low_below raised_there in
    omega (arith, member_is_below (length first) (all_places first) (i - size) (all_below first) high, length-take-le count back placed.within)
