-- Rising places of which none is missing from a bound on end with every number from that bound on.
use Rattle.std.proofs.Common.{◌≡◌, ◌≢◌, ℕ, zero, suc, ◌+◌, ◌-◌, ◌<◌, ◌≤◌, inl, inr, List, [], ◌∷◌, ◌++◌, take, length, slice_index, Contains, refl, sym, ◌∙◌, ap, subst, arith}
use Rattle.std.specs.List.{fold, range_with_len}
use Rattle.std.proofs.lemmas.Bool.{cases_lt}
use Rattle.stab_core.specs.Picks.{RisesFrom, AllBelow}
use Rattle.stab_core.proofs.ForCallers.{IsAt, member_is_at, at_is_member, rises_above, at_places}
use Rattle.stab_treecore.specs.TreeLaw.{NoneMissingBefore}
use Rattle.stab_settings.specs.Refreshes.{reached}

-- no place is missing from the first bound up to the second
abbrev pub AllBetween : ℕ → ℕ → List ℕ → Type 0
AllBetween from bound places = (i : ℕ) → from ≤ i → i < bound → Contains places i

-- just behind the last place, or this number where there is none
abbrev pub end_of : ℕ → List ℕ → ℕ
end_of start = fold (λ before place. place + 1) start

-- a member that is not the first one is one of the others
in_rest_at : (i p k : ℕ) (ps : List ℕ) → i ≢ p → IsAt (p ∷ ps) i k → Contains ps i
in_rest_at i p zero ps other here = absurd (other (sym here.is_there))
in_rest_at i p (suc k) ps other here =
    at_is_member ps i k (record { within = omega (arith, here.within); is_there = here.is_there })

in_rest : (i p : ℕ) (ps : List ℕ) → i ≢ p → Contains (p ∷ ps) i → Contains ps i
in_rest i p ps other member = let (k, here) = member_is_at (p ∷ ps) i member in in_rest_at i p k ps other here

-- a member of the others is a member
in_all : (i p : ℕ) (ps : List ℕ) → Contains ps i → Contains (p ∷ ps) i
in_all i p ps member =
    let (k, here) = member_is_at ps i member in
    at_is_member (p ∷ ps) i (suc k) (record { within = omega (arith, here.within); is_there = here.is_there })

-- where none is missing, rising places begin with the one from which they rise
first_is_lowest : (low bound p : ℕ) (ps : List ℕ) → RisesFrom low (p ∷ ps) → AllBelow bound (p ∷ ps) → AllBetween low bound (p ∷ ps) → p ≡ low
first_is_lowest low bound p ps rises below all =
    elim (cases_lt low p) [
      | inl lower ↦
          let (k, here) = member_is_at ps low (in_rest low p ps (λ same. omega arith) (all low (omega arith) (omega (arith, below.0)))) in
          absurd (omega (arith, here.is_there, rises_above (p + 1) ps k rises.1 here.within))
      | inr not_lower ↦ omega (arith, rises.0)
    ]

-- rising places of which none is missing are every number from where they rise
pub every_number : (low bound : ℕ) (ps : List ℕ) → RisesFrom low ps → AllBelow bound ps → AllBetween low bound ps → ps ≡ range_with_len low (bound - low)
every_number low bound [] rises below all =
    elim (cases_lt low bound) [
      | inl lower ↦ let (k, within, is) = all low (omega arith) lower in absurd (omega (arith, within))
      | inr not_lower ↦ let none : 0 ≡ bound - low = omega arith in ap (range_with_len low) none
    ]
every_number low bound (p ∷ ps) rises below all =
    let here = first_is_lowest low bound p ps rises below all in
    let rest : ps ≡ range_with_len (p + 1) (bound - (p + 1)) =
    every_number (p + 1) bound ps rises.1 below.1 (λ i higher lower. in_rest i p ps (λ same. omega arith) (all i (omega (arith, rises.0)) lower)) in
    let one_more : suc (bound - (p + 1)) ≡ bound - p = omega (arith, below.0) in
    ap (λ more. p ∷ more) rest ∙ (ap (range_with_len p) one_more ∙ ap (λ lowest. range_with_len lowest (bound - lowest)) here)

-- they end with every number from a bound on, where none is missing from it on
pub ends_with_all : (low from bound : ℕ) (ps : List ℕ) → RisesFrom low ps → AllBelow bound ps → low ≤ from → AllBetween from bound ps
    → (before : List ℕ) × (ps ≡ before ++ range_with_len from (bound - from))
ends_with_all low from bound [] rises below lower all = ([], every_number from bound [] tt tt all)
ends_with_all low from bound (p ∷ ps) rises below lower all =
    elim (cases_lt p from) [
      | inl before ↦
          let rest = ends_with_all (p + 1) from bound ps rises.1 below.1 (omega arith) (λ i higher within. in_rest i p ps (λ same. omega arith) (all i higher within)) in
          (p ∷ rest.0, ap (λ more. p ∷ more) rest.1)
      | inr not_before ↦ ([], every_number from bound (p ∷ ps) (omega arith, rises.1) below all)
    ]

-- rising places end no lower than where they rise from
end_is_higher : (low : ℕ) (ps : List ℕ) → RisesFrom low ps → low ≤ end_of low ps
end_is_higher low [] rises = omega arith
end_is_higher low (p ∷ ps) rises = omega (arith, rises.0, end_is_higher (p + 1) ps rises.1)

-- they are below their end
pub below_end : (start low : ℕ) (ps : List ℕ) → RisesFrom low ps → AllBelow (end_of start ps) ps
below_end start low [] rises = tt
below_end start low (p ∷ ps) rises = (omega (arith, end_is_higher (p + 1) ps rises.1), below_end (p + 1) (p + 1) ps rises.1)

-- places below a bound end no higher
pub end_within : (bound start : ℕ) (ps : List ℕ) → start ≤ bound → AllBelow bound ps → end_of start ps ≤ bound
end_within bound start [] room below = room
end_within bound start (p ∷ ps) room below = end_within bound (p + 1) ps (omega (arith, below.0)) below.1

-- the place before the end is the last one
last_there : (q p : ℕ) (ps : List ℕ) → end_of (p + 1) ps ≡ suc q → Contains (p ∷ ps) q
last_there q p [] last = at_is_member (p ∷ []) q 0 (record { within = omega arith; is_there = omega (arith, last) })
last_there q p (r ∷ rs) last = in_all q p (r ∷ rs) (last_there q r rs last)

-- what lies before the end is there, where none is missing before each that is there
until_last : (most_missing q : ℕ) (ps : List ℕ) → NoneMissingBefore most_missing ps → Contains ps q → AllBetween most_missing (suc q) ps
until_last most_missing q ps none there i from before =
    elim (cases_lt i q) [
      | inl lower ↦ none i q from lower there
      | inr not_lower ↦ let same : q ≡ i = omega (arith, before) in subst (Contains ps) same there
    ]

pub none_missing_until_end : (most_missing : ℕ) (ps : List ℕ) → NoneMissingBefore most_missing ps → AllBetween most_missing (reached ps) ps
none_missing_until_end most_missing [] none i from before = absurd (omega arith)
none_missing_until_end most_missing (p ∷ ps) none i from before =
    let not_first : end_of (p + 1) ps ≡ suc (end_of (p + 1) ps - 1) = omega (arith, before) in
    let last = last_there (end_of (p + 1) ps - 1) p ps not_first in
    until_last most_missing (end_of (p + 1) ps - 1) (p ∷ ps) none last i from (omega (arith, before))

-- ---- every number

-- the numbers from a first one on, parted
pub range_parted : (from many more : ℕ) → range_with_len from (many + more) ≡ range_with_len from many ++ range_with_len (from + many) more
range_parted from zero more =
    let all : 0 + more ≡ more = omega arith in
    let here : from ≡ from + 0 = omega arith in
    ap (range_with_len from) all ∙ ap (λ low. range_with_len low more) here
range_parted from (suc many) more =
    let one_less : suc many + more ≡ suc (many + more) = omega arith in
    let later : from + 1 + many ≡ from + suc many = omega arith in
    ap (range_with_len from) one_less
    ∙ ap (λ rest. from ∷ rest) (range_parted (from + 1) many more ∙ ap (λ low. range_with_len (from + 1) many ++ range_with_len low more) later)

-- the items one place later, in a list with one more entry before it
range_later : (x : ℕ) (xs : List ℕ) (from later many : ℕ) → later ≡ suc from
    → at_places (x ∷ xs) (range_with_len later many) ≡ at_places xs (range_with_len from many)
range_later x xs from later zero is = refl
range_later x xs from later (suc many) is =
    ap (λ place. slice_index (x ∷ xs) place ∷ at_places (x ∷ xs) (range_with_len (later + 1) many)) is
    ∙ ap (λ rest. slice_index xs from ∷ rest) (range_later x xs (from + 1) (later + 1) many (omega (arith, is)))

-- the items at the first places are the first items
pub first_items : (xs : List ℕ) (many : ℕ) → many ≤ length xs → at_places xs (range_with_len 0 many) ≡ take many xs
first_items xs zero room = refl
first_items [] (suc many) room = absurd (omega arith)
first_items (x ∷ xs) (suc many) room = ap (λ rest. x ∷ rest) (range_later x xs 0 1 many refl ∙ first_items xs many (omega arith))
