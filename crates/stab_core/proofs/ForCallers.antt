-- For the crates above, and for this one: facts on lists of places, on picks and on prefixes. A
-- place is a number that counts entries of a list from 0. `Picks`, `RisesFrom` and `AllBelow` are
-- defined in specs/Picks.antt.
use Rattle.std.proofs.Common.{◌≡◌, ℕ, zero, suc, ◌+◌, ◌-◌, ◌<◌, ◌≤◌, inl, inr, List, [], ◌∷◌, ◌++◌, map, length, get_or, slice_get, slice_index, Some, Contains, refl, sym, ◌∙◌, ap, subst, add-one, append_assoc, arith}
use mathlib.Core.List.{IsPrefix}
use Rattle.std.proofs.lemmas.Bool.{cases_lt}
use Rattle.std.proofs.lemmas.List.{append-nil, get_or_append_left, get_or-append-add, get_or_default, get_or-map, length-append, length-map, map-append}
use Rattle.std.proofs.lemmas.List.Elements.{Contains-append_right}
use Rattle.std.proofs.lemmas.Option.{same_Some, none-some}
use Rattle.stab_core.specs.Picks.{RisesFrom, AllBelow, Picks}

-- ---- rising places

-- places that rise from a height rise from every lower one
pub rises_from_lower : (low high : ℕ) (ps : List ℕ) → low ≤ high → RisesFrom high ps → RisesFrom low ps
rises_from_lower low high [] lower rises = tt
rises_from_lower low high (p ∷ ps) lower rises = (omega (arith, rises.0), rises.1)

-- no place is lower than where they rise from
pub rises_above : (low : ℕ) (ps : List ℕ) (i : ℕ) → RisesFrom low ps → i < length ps → low ≤ get_or ps i 0
rises_above low [] i rises here = absurd (omega arith)
rises_above low (p ∷ ps) zero rises here = rises.0
rises_above low (p ∷ ps) (suc i) rises here = omega (arith, rises.0, rises_above (p + 1) ps i rises.1 (omega arith))

-- a later place is higher
pub later_is_higher : (low : ℕ) (ps : List ℕ) (i j : ℕ) → RisesFrom low ps → i < j → j < length ps
    → get_or ps i 0 < get_or ps j 0
later_is_higher low [] i j rises before here = absurd (omega arith)
later_is_higher low (p ∷ ps) i zero rises before here = absurd (omega arith)
later_is_higher low (p ∷ ps) zero (suc j) rises before here =
    omega (arith, rises_above (p + 1) ps j rises.1 (omega arith))
later_is_higher low (p ∷ ps) (suc i) (suc j) rises before here =
    later_is_higher (p + 1) ps i j rises.1 (omega arith) (omega arith)

-- a lower place is earlier
pub lower_is_earlier : (low : ℕ) (ps : List ℕ) (i j : ℕ) → RisesFrom low ps → i < length ps → j < length ps
    → get_or ps i 0 < get_or ps j 0 → i < j
lower_is_earlier low ps i j rises i_within j_within lower =
    elim (cases_lt i j) [
      | inl earlier ↦ earlier
      | inr not_earlier ↦
          elim (cases_lt j i) [
            | inl later ↦ absurd (omega (arith, later_is_higher low ps j i rises later i_within))
            | inr not_later ↦
                let same : i ≡ j = omega arith in absurd (omega (arith, ap (λ k. get_or ps k 0) same))
          ]
    ]

-- a place above all others may come last
pub rises_push : (low p : ℕ) (ps : List ℕ) → low ≤ p → AllBelow p ps → RisesFrom low ps → RisesFrom low (ps ++ p ∷ [])
rises_push low p [] lower below rises = (lower, tt)
rises_push low p (q ∷ ps) lower below rises =
    (rises.0, rises_push (q + 1) p ps (omega (arith, below.0)) below.1 rises.1)

-- low places that rise, and then high places that rise, rise
pub joined_rise : (low middle : ℕ) (ps qs : List ℕ) → RisesFrom low ps → AllBelow middle ps → low ≤ middle
    → RisesFrom middle qs → RisesFrom low (ps ++ qs)
joined_rise low middle [] qs rises below room higher = rises_from_lower low middle qs room higher
joined_rise low middle (p ∷ ps) qs rises below room higher =
    (rises.0, joined_rise (p + 1) middle ps qs rises.1 below.1 (omega (arith, below.0)) higher)

-- ---- places below a bound

-- each place is below the bound of all
pub below_bound : (bound : ℕ) (ps : List ℕ) (i : ℕ) → AllBelow bound ps → i < length ps → get_or ps i 0 < bound
below_bound bound [] i below here = absurd (omega arith)
below_bound bound (p ∷ ps) zero below here = below.0
below_bound bound (p ∷ ps) (suc i) below here = below_bound bound ps i below.1 (omega arith)

-- places below a bound are below every higher one
pub below_higher : (low high : ℕ) (ps : List ℕ) → low ≤ high → AllBelow low ps → AllBelow high ps
below_higher low high [] higher below = tt
below_higher low high (p ∷ ps) higher below = (omega (arith, below.0), below_higher low high ps higher below.1)

-- one more place below the bound
pub below_push : (bound p : ℕ) (ps : List ℕ) → AllBelow bound ps → p < bound → AllBelow bound (ps ++ p ∷ [])
below_push bound p [] below one_below = (one_below, tt)
below_push bound p (q ∷ ps) below one_below = (below.0, below_push bound p ps below.1 one_below)

-- places below a bound, and more places below it
pub joined_below : (bound : ℕ) (ps qs : List ℕ) → AllBelow bound ps → AllBelow bound qs → AllBelow bound (ps ++ qs)
joined_below bound [] qs below more = more
joined_below bound (p ∷ ps) qs below more = (below.0, joined_below bound ps qs below.1 more)

-- there are no more rising places than there is room for between where they rise from and their
-- bound
pub few_rising : (low bound : ℕ) (ps : List ℕ) → RisesFrom low ps → AllBelow bound ps → low ≤ bound
    → low + length ps ≤ bound
few_rising low bound [] rises below room = omega arith
few_rising low bound (p ∷ ps) rises below room =
    omega (arith, rises.0, few_rising (p + 1) bound ps rises.1 below.1 (omega (arith, below.0)))

-- functions that agree below a bound have the same values at places below it
pub map_below : {A : Type 0} (f g : ℕ → A) (bound : ℕ) (ps : List ℕ) → ((p : ℕ) → p < bound → f p ≡ g p)
    → AllBelow bound ps → map f ps ≡ map g ps
map_below f g bound [] agree below = refl
map_below f g bound (p ∷ ps) agree below =
    rw (agree p below.0) (ap (λ rest. g p ∷ rest) (map_below f g bound ps agree below.1))

-- ---- members of a list of places

-- an entry of a list, and its place
pub record IsAt (xs : List ℕ) (x k : ℕ) : Type 0 where
  pub within : k < length xs
  pub is_there : get_or xs k 0 ≡ x

-- each member has a place
pub member_is_at : (xs : List ℕ) (x : ℕ) → Contains xs x → (k : ℕ) × IsAt xs x k
member_is_at xs x (k, within, is) = (k, record { within = within; is_there = get_or_default xs k 0 x within ∙ is })

-- what has a place is a member
pub at_is_member : (xs : List ℕ) (x k : ℕ) → IsAt xs x k → Contains xs x
at_is_member xs x k here = (k, here.within, get_or_default xs k x 0 here.within ∙ here.is_there)

-- a member of places below a bound is below it
pub member_is_below : (bound : ℕ) (ps : List ℕ) (p : ℕ) → AllBelow bound ps → Contains ps p → p < bound
member_is_below bound ps p below member =
    let (k, here) = member_is_at ps p member in
    omega (arith, below_bound bound ps k below here.within, here.is_there)

-- ---- places moved up

-- each place moved up by the same number
abbrev pub raised : ℕ → List ℕ → List ℕ
raised by places = map (λ place. by + place) places

-- raised places rise from that much higher
pub raised_rise : (by low : ℕ) (ps : List ℕ) → RisesFrom low ps → RisesFrom (by + low) (raised by ps)
raised_rise by low [] rises = tt
raised_rise by low (p ∷ ps) rises =
    let higher = raised_rise by (p + 1) ps rises.1 in
    (omega (arith, rises.0), rises_from_lower (by + p + 1) (by + (p + 1)) (raised by ps) (omega arith) higher)

-- raised places are below the raised bound
pub raised_below : (by bound : ℕ) (ps : List ℕ) → AllBelow bound ps → AllBelow (by + bound) (raised by ps)
raised_below by bound [] below = tt
raised_below by bound (p ∷ ps) below = (omega (arith, below.0), raised_below by bound ps below.1)

-- a raised place is among the low ones and the raised
pub raised_is_member : (by : ℕ) (low high : List ℕ) (m : ℕ) → Contains high m
    → Contains (low ++ raised by high) (by + m)
raised_is_member by low high m member =
    let (k, here) = member_is_at high m member in
    Contains-append_right low (raised by high) (by + m)
    (at_is_member (raised by high) (by + m) k (record {
      within = omega (arith, here.within, length-map high (λ place. by + place));
      is_there = get_or-map (λ place. by + place) high k 0 0 here.within ∙ ap (λ place. by + place) here.is_there;
    }))

-- a high place among the low ones and the raised is one of the raised
pub member_is_raised : (by m : ℕ) (low high : List ℕ) → AllBelow by low → Contains (low ++ raised by high) (by + m)
    → Contains high m
member_is_raised by m [] high below (k, within, is) =
    let as_many : k < length high = omega (arith, length-map high (λ place. by + place)) in
    let there : get_or (raised by high) k (by + m) ≡ by + get_or high k 0 =
    get_or-map (λ place. by + place) high k 0 (by + m) as_many in
    at_is_member high m k (record { within = as_many; is_there = omega arith })
member_is_raised by m (p ∷ ps) high below (zero, within, is) = absurd (omega (arith, below.0))
member_is_raised by m (p ∷ ps) high below (suc k, within, is) =
    member_is_raised by m ps high below.1 (k, omega arith, is)

-- ---- rising places, parted at a bound

-- first the places below the bound, then those from the bound on, counted from it
pub record Parted (bound more lowest : ℕ) (places : List ℕ) : Type 0 where
  pub low : List ℕ
  pub high : List ℕ
  pub both : places ≡ low ++ raised bound high
  pub low_rise : RisesFrom lowest low
  pub low_below : AllBelow bound low
  pub high_rise : RisesFrom 0 high
  pub high_below : AllBelow more high

-- places that rise from a bound on are the raised ones of some places
lowered : (bound more from : ℕ) (ps : List ℕ) → RisesFrom (bound + from) ps → AllBelow (bound + more) ps
    → (high : List ℕ) × (ps ≡ raised bound high) × RisesFrom from high × AllBelow more high
lowered bound more from [] rises below = ([], refl, tt, tt)
lowered bound more from (p ∷ ps) rises below =
    let high_enough : bound + from ≤ p = rises.0 in
    let low_enough : p < bound + more = below.0 in
    let later = rises_from_lower (bound + (p - bound + 1)) (p + 1) ps (omega arith) rises.1 in
    let rest = lowered bound more (p - bound + 1) ps later below.1 in
    let here : p ≡ bound + (p - bound) = omega arith in (
      (p - bound) ∷ rest.0,
      ap (λ x. x ∷ ps) here ∙ ap (λ xs. (bound + (p - bound)) ∷ xs) rest.1,
      (omega arith, rest.2),
      (omega arith, rest.3),
    )

-- rising places can be parted at any bound
pub parted : (bound more lowest : ℕ) (ps : List ℕ) → RisesFrom lowest ps → AllBelow (bound + more) ps
    → Parted bound more lowest ps
parted bound more lowest [] rises below =
    record { low = []; high = []; both = refl; low_rise = tt; low_below = tt; high_rise = tt; high_below = tt }
parted bound more lowest (p ∷ ps) rises below =
    elim (cases_lt p bound) [
      | inl lower ↦
          let rest = parted bound more (p + 1) ps rises.1 below.1 in
          record {
            low = p ∷ rest.low;
            high = rest.high;
            both = ap (λ xs. p ∷ xs) rest.both;
            low_rise = (rises.0, rest.low_rise);
            low_below = (lower, rest.low_below);
            high_rise = rest.high_rise;
            high_below = rest.high_below;
          }
      | inr higher ↦
          let all = lowered bound more 0 (p ∷ ps) (omega arith, rises.1) below in
          record {
            low = [];
            high = all.0;
            both = all.1;
            low_rise = tt;
            low_below = tt;
            high_rise = all.2;
            high_below = all.3;
          }
    ]

-- ---- the items at places

-- the items of a list at these places
abbrev pub at_places : List ℕ → List ℕ → List ℕ
at_places items places = map (λ place. slice_index items place) places

-- the items at places in the front
pub items_in_front : (front rest places : List ℕ) → AllBelow (length front) places
    → at_places front places ≡ at_places (front ++ rest) places
items_in_front front rest places here =
    map_below (slice_index front) (slice_index (front ++ rest)) (length front) places
    (λ place in_front. sym (get_or_append_left front rest 0 place in_front)) here

-- the items at raised places are those after the front
pub items_after : (front items places : List ℕ)
    → at_places items places ≡ at_places (front ++ items) (raised (length front) places)
items_after front items [] = refl
items_after front items (p ∷ ps) =
    ap (λ x. x ∷ at_places items ps) (sym (get_or-append-add front items p 0))
    ∙ ap (λ more. get_or (front ++ items) (length front + p) 0 ∷ more) (items_after front items ps)

-- the items of two lists, one after the other, at parted places: some of the first, then some of
-- the second
pub items_parted : (front back low high : List ℕ) → AllBelow (length front) low
    → at_places (front ++ back) (low ++ raised (length front) high) ≡ at_places front low ++ at_places back high
items_parted front back low high below =
    map-append (λ place. slice_index (front ++ back) place) low (raised (length front) high)
    ∙ (ap (λ xs. xs ++ at_places (front ++ back) (raised (length front) high)) (sym (items_in_front front back low below))
    ∙ ap (λ ys. at_places front low ++ ys) (sym (items_after front back high)))

-- a place among places of places is the place at one of them
pub member_is_chosen : (ps qs : List ℕ) (x : ℕ) → Contains (at_places ps qs) x
    → (k : ℕ) × (k < length qs) × (get_or ps (get_or qs k 0) 0 ≡ x)
member_is_chosen ps qs x (k, within, is) =
    let as_many : k < length qs = omega (arith, length-map qs (λ place. slice_index ps place)) in
    (k, as_many, sym (get_or-map (λ place. slice_index ps place) qs k 0 x as_many) ∙ is)

-- the place at a member is among the places of places
pub chosen_is_member : (ps qs : List ℕ) (q : ℕ) → Contains qs q → Contains (at_places ps qs) (get_or ps q 0)
chosen_is_member ps qs q member =
    let (k, here) = member_is_at qs q member in
    at_is_member (at_places ps qs) (get_or ps q 0) k (record {
      within = omega (arith, here.within, length-map qs (λ place. slice_index ps place));
      is_there =
          get_or-map (λ place. slice_index ps place) qs k 0 0 here.within ∙ ap (λ place. get_or ps place 0) here.is_there;
    })

-- ---- picks from picks: places of places

-- rising places of rising places rise
chosen_rise : (low from : ℕ) (ps qs : List ℕ) → RisesFrom 0 ps → RisesFrom from qs → AllBelow (length ps) qs
    → ((q : ℕ) → from ≤ q → q < length ps → low ≤ get_or ps q 0)
    → RisesFrom low (at_places ps qs)
chosen_rise low from ps [] rise again here above = tt
chosen_rise low from ps (q ∷ qs) rise again here above = (
  above q again.0 here.0,
  chosen_rise (get_or ps q 0 + 1) (q + 1) ps qs rise again.1 here.1
      (λ later after there. rw add-one (later_is_higher 0 ps q later rise (omega arith) there)),
)

-- places of places are below the bound of the places
chosen_below : (bound : ℕ) (ps qs : List ℕ) → AllBelow bound ps → AllBelow (length ps) qs
    → AllBelow bound (at_places ps qs)
chosen_below bound ps [] below here = tt
chosen_below bound ps (q ∷ qs) below here = (below_bound bound ps q below here.0, chosen_below bound ps qs below here.1)

-- the items at places of places are the items of the items
chosen_items : (items ps qs : List ℕ) → AllBelow (length ps) qs
    → at_places (at_places items ps) qs ≡ at_places items (at_places ps qs)
chosen_items items ps [] here = refl
chosen_items items ps (q ∷ qs) here =
    let first : get_or (at_places items ps) q 0 ≡ get_or items (get_or ps q 0) 0 =
    get_or-map (λ place. slice_index items place) ps q 0 0 here.0 in
    ap (λ x. x ∷ at_places (at_places items ps) qs) first
    ∙ ap (λ rest. get_or items (get_or ps q 0) 0 ∷ rest) (chosen_items items ps qs here.1)

-- as many are picked as there are places
pub length_picked : (items places picked : List ℕ) → Picks items places picked → length picked ≡ length places
length_picked items places picked picks =
    ap length picks.the_items ∙ length-map places (λ place. slice_index items place)

-- no more are picked than there are items
pub few_picked : (items places picked : List ℕ) → Picks items places picked → length picked ≤ length items
few_picked items places picked picks =
    omega (arith, length_picked items places picked picks, few_rising 0 (length items) places picks.rising picks.in_list (omega arith))

-- what is picked is in the list
pub picked_is_member : (items places picked : List ℕ) (x : ℕ) → Picks items places picked → Contains picked x
    → Contains items x
picked_is_member items places picked x picks member =
    let (k, within, is) =
    member_is_chosen items places x (subst (λ (xs : List ℕ). Contains xs x) picks.the_items member) in
    let in_list : get_or places k 0 < length items = below_bound (length items) places k picks.in_list within in
    at_is_member items x (get_or places k 0) (record { within = in_list; is_there = is })

-- what is picked from a picked list is picked from the whole
pub picks_chosen : (items ps picked qs chosen : List ℕ) → Picks items ps picked → Picks picked qs chosen
    → Picks items (at_places ps qs) chosen
picks_chosen items ps picked qs chosen first second =
    let here : AllBelow (length ps) qs =
    subst (λ n. AllBelow n qs) (length_picked items ps picked first) second.in_list in
    record {
      rising = chosen_rise 0 0 ps qs first.rising second.rising here (λ q from there. omega arith);
      in_list = chosen_below (length items) ps qs first.in_list here;
      the_items =
          second.the_items ∙ (ap (λ list. at_places list qs) first.the_items ∙ chosen_items items ps qs here);
    }

-- ---- picks from two lists, one after the other

-- what is picked from the front is picked from the whole at the same places
pub picks_of_prefix : (front rest places picked : List ℕ) → Picks front places picked
    → Picks (front ++ rest) places picked
picks_of_prefix front rest places picked picks =
    let longer : length front ≤ length (front ++ rest) = omega (arith, length-append front rest) in
    record {
      rising = picks.rising;
      in_list = below_higher (length front) (length (front ++ rest)) places longer picks.in_list;
      the_items = picks.the_items ∙ items_in_front front rest places picks.in_list;
    }

-- picks from one list, and then picks from another, are picks from both, one after the other
pub picks_joined : (front back ps qs picked more : List ℕ) → Picks front ps picked → Picks back qs more
    → Picks (front ++ back) (ps ++ raised (length front) qs) (picked ++ more)
picks_joined front back ps qs picked more first second =
    let size = length front in
    let whole : length (front ++ back) ≡ size + length back = length-append front back in
    record {
      rising =
          joined_rise 0 size ps (raised size qs) first.rising first.in_list (omega arith)
          (rises_from_lower size (size + 0) (raised size qs) (omega arith) (raised_rise size 0 qs second.rising));
      in_list =
          joined_below (length (front ++ back)) ps (raised size qs)
          (below_higher size (length (front ++ back)) ps (omega arith) first.in_list)
          (subst (λ n. AllBelow n (raised size qs)) (sym whole) (raised_below size (length back) qs second.in_list));
      the_items =
          ap (λ xs. xs ++ more) (first.the_items ∙ items_in_front front back ps first.in_list)
          ∙ (ap (λ ys. at_places (front ++ back) ps ++ ys) (second.the_items ∙ items_after front back qs)
          ∙ sym (map-append (λ place. slice_index (front ++ back) place) ps (raised size qs)));
    }

-- ---- prefixes: IsPrefix front whole gives the rest of the whole

-- a list begins with itself
pub prefix_of_itself : {A : Type 0} (xs : List A) → IsPrefix xs xs
prefix_of_itself xs = ([], append-nil xs)

-- a list begins with the front of its front
pub prefix_of_prefix : {A : Type 0} (xs ys zs : List A) → IsPrefix xs ys → IsPrefix ys zs → IsPrefix xs zs
prefix_of_prefix xs ys zs (rest, front) (more, whole) =
    (rest ++ more, sym (append_assoc xs rest more) ∙ (ap (λ list. list ++ more) front ∙ whole))

-- a list that grew at its end begins with what it was
pub prefix_of_grown : {A : Type 0} (xs : List A) (x : A) → IsPrefix xs (xs ++ x ∷ [])
prefix_of_grown xs x = (x ∷ [], refl)

-- the entry after a front is the first of the rest
slice_get-front : {A : Type 0} (xs rest : List A) → slice_get (xs ++ rest) (length xs) ≡ slice_get rest 0
slice_get-front [] rest = refl
slice_get-front (x ∷ xs) rest = slice_get-front xs rest

-- a rest that has a first entry
rest_begins : {A : Type 0} (xs rest : List A) (x : A) → slice_get rest 0 ≡ Some x → IsPrefix (xs ++ x ∷ []) (xs ++ rest)
rest_begins xs [] x first = absurd (none-some x first)
rest_begins xs (y ∷ rest) x first =
    (rest, append_assoc xs (x ∷ []) rest ∙ ap (λ z. xs ++ z ∷ rest) (sym (same_Some y x first)))

-- a front with the entry that comes next is a front
pub prefix_with_next : {A : Type 0} (xs whole : List A) (x : A) → IsPrefix xs whole → slice_get whole (length xs) ≡ Some x
    → IsPrefix (xs ++ x ∷ []) whole
prefix_with_next xs whole x (rest, is) next =
    let first : slice_get rest 0 ≡ Some x =
    sym (slice_get-front xs rest) ∙ (ap (λ list. slice_get list (length xs)) is ∙ next) in
    let (more, grown) = rest_begins xs rest x first in
    (more, grown ∙ is)
