-- A complete list, of which all that was there at first came before a moment: what comes then was
-- published later, and from a place on that had not come all of it comes.
use Rattle.std.proofs.Common.{◌≡◌, ℕ, zero, suc, ◌+◌, ◌<◌, ◌≤◌, List, [], ◌∷◌, ◌++◌, length, drop, get_or, slice_index, Contains, refl, sym, ap, subst, ◌∙◌, get_or-append-add, length-append, arith}
use Rattle.std.specs.List.{AllByRecursion}
use Rattle.std.proofs.lemmas.List.{length-map}
use Rattle.stab_core.specs.Picks.{AllBelow, RisesFrom}
use Rattle.stab_core.specs.LinkLaw.{NoneMissingFrom}
use Rattle.stab_core.proofs.ForCallers.{at_places, below_higher, items_after, member_is_raised, parted, raised, rises_from_lower}
use Rattle.stab_treecore.specs.TreeLaw.{CompleteLaw}
use Rattle.stab_treecore.proofs.ForCallers.{all_picked, all_places}

-- ---- lists in two parts

-- of one list parted twice, where the first front is no longer
record Between (first more front rest : List ℕ) : Type 0 where
  middle : List ℕ
  front_is : front ≡ first ++ middle
  more_is : more ≡ middle ++ rest

between : (first more front rest : List ℕ) → front ++ rest ≡ first ++ more → length first ≤ length front → Between first more front rest
between [] more front rest same short = record { middle = front; front_is = refl; more_is = sym same }
between (x ∷ first) more [] rest same short = absurd (omega (arith, short))
between (x ∷ first) more (y ∷ front) rest same short =
    let it = between first more front rest (ap (drop 1) same) (omega (arith, short)) in
    record {
      middle = it.middle;
      front_is = ap (λ z. z ∷ front) (ap (λ xs. get_or xs 0 0) same) ∙ ap (λ xs. x ∷ xs) it.front_is;
      more_is = it.more_is;
    }

-- places whose items are two lists, one after the other
record Split (items places front rest : List ℕ) : Type 0 where
  low : List ℕ
  high : List ℕ
  both : places ≡ low ++ high
  front_is : front ≡ at_places items low
  rest_is : rest ≡ at_places items high

split : (items places front rest : List ℕ) → front ++ rest ≡ at_places items places → Split items places front rest
split items places [] rest same = record { low = []; high = places; both = refl; front_is = refl; rest_is = same }
split items [] (x ∷ front) rest same = let short = ap length same in cc
split items (p ∷ places) (x ∷ front) rest same =
    let it = split items places front rest (ap (drop 1) same) in
    record {
      low = p ∷ it.low;
      high = it.high;
      both = ap (λ xs. p ∷ xs) it.both;
      front_is = ap (λ z. z ∷ front) (ap (λ xs. get_or xs 0 0) same) ∙ ap (λ xs. slice_index items p ∷ xs) it.front_is;
      rest_is = it.rest_is;
    }

-- ---- rising places in two parts

-- the second part rises from as many on as are before it
second_rises : (lowest : ℕ) (low high : List ℕ) → RisesFrom lowest (low ++ high) → RisesFrom (lowest + length low) high
second_rises lowest [] high rises = rises_from_lower (lowest + 0) lowest high (omega arith) rises
second_rises lowest (p ∷ low) high rises =
    rises_from_lower (lowest + suc (length low)) (p + 1 + length low) high (omega (arith, rises.0)) (second_rises (p + 1) low high rises.1)

second_below : (bound : ℕ) (low high : List ℕ) → AllBelow bound (low ++ high) → AllBelow bound high
second_below bound [] high below = below
second_below bound (p ∷ low) high below = second_below bound low high below.1

member_above : (lowest : ℕ) (places : List ℕ) (q : ℕ) → RisesFrom lowest places → Contains places q → lowest ≤ q
member_above lowest [] q rises (k, within, is) = absurd (omega (arith, within))
member_above lowest (p ∷ places) q rises (zero, within, is) = omega (arith, rises.0, is)
member_above lowest (p ∷ places) q rises (suc k, within, is) =
    omega (arith, rises.0, member_above (p + 1) places q rises.1 (k, omega (arith, within), is))

-- where a place is in the second part, all of the first are below it
first_below : (lowest : ℕ) (low high : List ℕ) (q : ℕ) → RisesFrom lowest (low ++ high) → Contains (low ++ high) q → (Contains low q → ⊥) → AllBelow q low
first_below lowest [] high q rises has not_low = tt
first_below lowest (p ∷ low) high q rises (zero, within, is) not_low = absurd (not_low (zero, omega arith, is))
first_below lowest (p ∷ low) high q rises (suc k, within, is) not_low =
    let there : Contains (low ++ high) q = (k, omega (arith, within), is) in (
      omega (arith, member_above (p + 1) (low ++ high) q rises.1 there),
      first_below (p + 1) low high q rises.1 there (λ (j, inside, at). not_low (suc j, omega (arith, inside), at)),
    )

-- and what is no lower is in the second part
in_second : (low high : List ℕ) (q : ℕ) → AllBelow q low → Contains (low ++ high) q → Contains high q
in_second [] high q below has = has
in_second (p ∷ low) high q below (zero, within, is) = absurd (omega (arith, below.0, is))
in_second (p ∷ low) high q below (suc k, within, is) = in_second low high q below.1 (k, omega (arith, within), is)

-- places that rise from a bound on, counted from there
record Lowered (bound more : ℕ) (places : List ℕ) : Type 0 where
  high : List ℕ
  are : places ≡ raised bound high
  rise : RisesFrom 0 high
  below : AllBelow more high

lowered : (bound more : ℕ) (places : List ℕ) → RisesFrom bound places → AllBelow (bound + more) places → Lowered bound more places
lowered bound more places rises below =
    let it = parted bound more bound places rises below in by it.low it.high it.both it.low_below it.high_rise it.high_below
  where
    by : (low high : List ℕ) → places ≡ low ++ raised bound high → AllBelow bound low → RisesFrom 0 high → AllBelow more high → Lowered bound more places
    by [] high both low_below rise high_below = record { high = high; are = both; rise = rise; below = high_below }
    by (x ∷ low) high both low_below rise high_below =
        absurd (omega (arith, (subst (RisesFrom bound) both rises).0, low_below.0))

-- ---- what holds of items

all_first : (P : ℕ → Type 0) (xs ys : List ℕ) → AllByRecursion P (xs ++ ys) → AllByRecursion P ys
all_first P [] ys all = all
all_first P (x ∷ xs) ys all = all_first P xs ys all.1

one_of : (P : ℕ → Type 0) (items places : List ℕ) (q : ℕ) → AllByRecursion P (at_places items places) → Contains places q → P (slice_index items q)
one_of P items [] q all (k, within, is) = absurd (omega (arith, within))
one_of P items (p ∷ places) q all (zero, within, is) = subst (λ x. P (slice_index items x)) is all.0
one_of P items (p ∷ places) q all (suc k, within, is) = one_of P items places q all.1 (k, omega (arith, within), is)

-- ---- the complete law, of what came later

pub shifted : (P : ℕ → Type 0) (most_strays most_missing from : ℕ) (garbage old new came rest : List ℕ)
    → CompleteLaw most_strays most_missing garbage (old ++ new) (came ++ rest)
    → most_strays + length old ≤ length came → most_missing ≤ length old + from
    → AllByRecursion P came → (P (slice_index new from) → ⊥)
    → CompleteLaw (length came) from came new (came ++ rest)
shifted P most_strays most_missing from garbage old new came rest (places, half, none) many few all not_there = (
  after.high,
  record {
    strays = came;
    stray_places = all_places came;
    taken = rest;
    parts = refl;
    few_strays = omega arith;
    strays_picked = all_picked came;
    taken_picked = record {
      rising = after.rise;
      in_list = after.below;
      the_items = it.rest_is ∙ (ap (at_places (old ++ new)) after.are ∙ sym (items_after old new after.high));
    };
  },
  none_missing,
)
  where
    parts : Between half.strays half.taken came rest
    parts = between half.strays half.taken came rest half.parts (omega (arith, half.few_strays, many))

    it : Split (old ++ new) places parts.middle rest
    it = split (old ++ new) places parts.middle rest (sym parts.more_is ∙ half.taken_picked.the_items)

    long : length old ≤ length it.low
    long =
        omega (
          arith,
          many,
          half.few_strays,
          ap length parts.front_is,
          length-append half.strays parts.middle,
          ap length it.front_is,
          length-map it.low (λ place. slice_index (old ++ new) place),
        )

    rising : RisesFrom 0 (it.low ++ it.high)
    rising = subst (RisesFrom 0) it.both half.taken_picked.rising

    after : Lowered (length old) (length new) it.high
    after =
        lowered (length old) (length new) it.high
        (rises_from_lower (length old) (0 + length it.low) it.high (omega (arith, long)) (second_rises 0 it.low it.high rising))
        (second_below (length old + length new) it.low it.high
        (subst (AllBelow (length old + length new)) it.both (subst (λ n. AllBelow n places) (length-append old new) half.taken_picked.in_list)))

    not_before : Contains it.low (length old + from) → ⊥
    not_before has =
        not_there
        (subst P (get_or-append-add old new from 0)
        (one_of P (old ++ new) it.low (length old + from)
        (subst (AllByRecursion P) it.front_is (all_first P half.strays parts.middle (subst (AllByRecursion P) parts.front_is all))) has))

    there : (i : ℕ) → most_missing ≤ i → i < length old + length new → Contains (it.low ++ it.high) i
    there i late within = subst (λ ps. Contains ps i) it.both (none i late (omega (arith, within, length-append old new)))

    none_missing : NoneMissingFrom from (length new) after.high
    none_missing i late within =
        let first = first_below 0 it.low it.high (length old + from) rising (there (length old + from) few (omega (arith, late, within))) not_before in
        let low = below_higher (length old + from) (length old + i) it.low (omega (arith, late)) first in
        let high = in_second it.low it.high (length old + i) low (there (length old + i) (omega (arith, few, late)) (omega (arith, within))) in
        member_is_raised (length old) i [] after.high tt (subst (λ ps. Contains ps (length old + i)) after.are high)
