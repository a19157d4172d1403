-- What an agent received ends with the round and what came since, and all before is behind it.
use Rattle.std.proofs.Common.{◌≡◌, ℕ, zero, suc, ◌+◌, ◌-◌, ◌<◌, ◌≤◌, true, List, [], ◌∷◌, ◌++◌, drop, take, length, map, slice_index, Option, Some, None, get_or, refl, sym, ap, subst, ◌∙◌, append_assoc, arith}
use Rattle.std.specs.Prelude.{IfSome}
use Rattle.std.specs.List.{AllByRecursion, fold, range_with_len}
use Rattle.std.proofs.lemmas.List.{map-append, length-map, drop_at, length-append, length-take}
use Rattle.std.proofs.lemmas.List.FromFn.{length-range_with_len}
use Rattle.std.proofs.lemmas.List.Sums.{fold-append}
use Rattle.stab_core.proofs.ForCallers.{at_places}
use Rattle.stab_core.specs.Picks.{AllBelow, RisesFrom}
use Rattle.stab_treecore.specs.TreeLaw.{HalfTreeLawAt}
use Rattle.stab_settings.proofs.Suffixes.{AllBetween, ends_with_all}
use Rattle.stab_settings.proofs.Overwritten.{items_between, first_items_end}
use Rattle.rignolda_agent.specs.BodySpelling.{Body}
use Rattle.rignolda_agent.specs.Agents.{Agent, Settings, hears, hears_all, tell, tell_all}
use Rattle.rignolda_agent.specs.Items.{Reading, SaysBehind, hears_items, hears_read}
use Rattle.rignolda_agent.specs.Rounds.{is_behind, IsReady, IsRound}
use Rattle.rignolda_agent.proofs.Rounds.{files_right, ready_after, table_tells}

-- ---- lists

-- what holds of all items of a list holds of those at places in it
one_of : (P : ℕ → Type 0) (items : List ℕ) (i : ℕ) → AllByRecursion P items → i < length items → P (slice_index items i)
one_of P [] i all within = absurd (omega (arith, within))
one_of P (x ∷ xs) zero all within = all.0
one_of P (x ∷ xs) (suc i) all within = one_of P xs i all.1 (omega (arith, within))

all_picked : (P : ℕ → Type 0) (items places : List ℕ) → AllByRecursion P items → AllBelow (length items) places → AllByRecursion P (at_places items places)
all_picked P items [] all below = tt
all_picked P items (p ∷ ps) all below = (one_of P items p all below.0, all_picked P items ps all below.1)

all_both : (P : ℕ → Type 0) (xs ys : List ℕ) → AllByRecursion P xs → AllByRecursion P ys → AllByRecursion P (xs ++ ys)
all_both P [] ys all more = more
all_both P (x ∷ xs) ys all more = (all.0, all_both P xs ys all.1 more)

rises_no_lower : (low : ℕ) (xs : List ℕ) (from : ℕ) (rest : List ℕ) → RisesFrom low (xs ++ from ∷ rest) → low ≤ from
rises_no_lower low [] from rest rises = rises.0
rises_no_lower low (x ∷ xs) from rest rises = omega (arith, rises.0, rises_no_lower (x + 1) xs from rest rises.1)

-- rising places before a place are below it
below_next : (low : ℕ) (xs : List ℕ) (from : ℕ) (rest : List ℕ) → RisesFrom low (xs ++ from ∷ rest) → AllBelow from xs
below_next low [] from rest rises = tt
below_next low (x ∷ xs) from rest rises =
    (omega (arith, rises_no_lower (x + 1) xs from rest rises.1), below_next (x + 1) xs from rest rises.1)

-- ---- what was received before a place was published before it, or is a stray

-- it ends with the published items from a place on, and before that are strays and earlier items
record EndsWith (garbage published received : List ℕ) (from bound : ℕ) : Type 0 where
  pub strays : List ℕ
  pub stray_places : List ℕ
  pub places : List ℕ
  pub are : received ≡ (at_places garbage stray_places ++ at_places published places) ++ items_between published from bound
  pub strays_in : AllBelow (length garbage) stray_places
  pub earlier : AllBelow from places

received_end : (most_strays from more : ℕ) (garbage published received places : List ℕ) → HalfTreeLawAt most_strays garbage published received places
    → AllBelow (from + suc more) places → AllBetween from (from + suc more) places → EndsWith garbage published received from (from + suc more)
received_end most_strays from more garbage published received places half below all =
    let ends = ends_with_all 0 from (from + suc more) places half.taken_picked.rising below (omega arith) all in
    let many : from + suc more - from ≡ suc more = omega arith in
    let taken : half.taken ≡ at_places published ends.0 ++ items_between published from (from + suc more) =
    half.taken_picked.the_items ∙ (ap (at_places published) ends.1 ∙ map-append (λ i. slice_index published i) ends.0 (range_with_len from (from + suc more - from))) in
    let front = at_places garbage half.stray_places in
    record {
      strays = half.strays;
      stray_places = half.stray_places;
      places = ends.0;
      are =
          half.parts
          ∙ (ap (λ xs. xs ++ half.taken) half.strays_picked.the_items
          ∙ (ap (λ xs. front ++ xs) taken ∙ sym (append_assoc front (at_places published ends.0) (items_between published from (from + suc more)))));
      strays_in = half.strays_picked.in_list;
      earlier = below_next 0 ends.0 from (range_with_len (from + 1) more)
          (subst (RisesFrom 0) (ends.1 ∙ ap (λ n. ends.0 ++ range_with_len from n) many) half.taken_picked.rising);
    }

-- ---- items as bodies

said_is_heard : (bodies : List Body) (a : Agent) → fold hears_read a (map Some bodies) ≡ hears_all a bodies
said_is_heard [] a = refl
said_is_heard (b ∷ bodies) a = said_is_heard bodies (hears a b)

-- how many places there are from a place on
many_places : (items : List ℕ) (from many : ℕ) → length (at_places items (range_with_len from many)) ≡ many
many_places items from many = length-map (range_with_len from many) _ ∙ length-range_with_len from many

-- the items from a place on are read as the bodies from there on
read_from : (reading : Reading) (front back : List ℕ) (first round : List Body) → map reading (front ++ back) ≡ map Some (first ++ round) → length front ≡ length first
    → map reading back ≡ map Some round
read_from reading front back first round alike long =
    let left : drop (length first) (map reading (front ++ back)) ≡ map reading back =
    ap (drop (length first)) (map-append reading front back) ∙ drop_at (map reading front) (map reading back) (length first) (length-map front reading ∙ long) in
    let right : drop (length first) (map Some (first ++ round)) ≡ map Some round =
    ap (drop (length first)) (map-append Some first round) ∙ drop_at (map Some first) (map Some round) (length first) (length-map first Some) in
    sym left ∙ ap (drop (length first)) alike ∙ right

-- what is read as these bodies says what is behind a number, as they do
read_behind : (reading : Reading) (n : ℕ) (items : List ℕ) (first rest : List Body) (p : ℕ) → map reading items ≡ map Some (first ++ rest)
    → AllByRecursion (λ b. is_behind n b.number ≡ true) first → p < length first → SaysBehind reading n (slice_index items p)
read_behind reading n items [] rest p alike all within = absurd (omega (arith, within))
read_behind reading n [] (b ∷ first) rest p alike all within = let short = ap length alike in cc
read_behind reading n (x ∷ items) (b ∷ first) rest zero alike all within =
    subst (λ o. IfSome o (λ body. is_behind n body.number ≡ true)) (sym (ap (λ os. get_or os 0 None) alike)) all.0
read_behind reading n (x ∷ items) (b ∷ first) rest (suc p) alike all within =
    read_behind reading n items first rest p (ap (drop 1) alike) all.1 (omega (arith, within))

picked_behind : (reading : Reading) (n : ℕ) (items places : List ℕ) (first rest : List Body) → map reading items ≡ map Some (first ++ rest)
    → AllByRecursion (λ b. is_behind n b.number ≡ true) first → AllBelow (length first) places → AllByRecursion (SaysBehind reading n) (at_places items places)
picked_behind reading n items [] first rest alike all below = tt
picked_behind reading n items (p ∷ ps) first rest alike all below =
    (read_behind reading n items first rest p alike all below.0, picked_behind reading n items ps first rest alike all below.1)

ready_item : (n : ℕ) (a : Agent) (said : Option Body) → IsReady n a.taker → IfSome said (λ b. is_behind n b.number ≡ true) → IsReady n (hears_read a said).taker
ready_item n a None ready behind = ready
ready_item n a (Some b) ready behind = ready_after n a b ready behind

ready_items : (reading : Reading) (n : ℕ) (a : Agent) (items : List ℕ) → IsReady n a.taker → AllByRecursion (SaysBehind reading n) items
    → IsReady n (hears_items reading a items).taker
ready_items reading n a [] ready all = ready
ready_items reading n a (x ∷ items) ready all =
    ready_items reading n (hears_read a (reading x)) items (ready_item n a (reading x) ready all.0) all.1

-- ---- the promise

-- what a round makes of settings does not depend on what was before it
round_tells : (at_root : Settings) (first round later : List Body) (table : Body) → IsRound round table later
    → tell_all at_root (first ++ round) ≡ tell_all at_root (table ∷ later)
round_tells at_root first round later table is =
    fold-append tell at_root first round
    ∙ ap (tell_all (tell_all at_root first)) is.is
    ∙ fold-append tell (tell_all at_root first) is.before (table ∷ later)
    ∙ ap (λ t. tell_all t later) (table_tells (tell_all (tell_all at_root first) is.before) at_root table is.is_table)

has_one : (round later : List Body) (table : Body) → IsRound round table later → 0 < length round
has_one round later table is = omega (arith, ap length is.is, length-append is.before (table ∷ later))

take_take : (items : List ℕ) (p bound : ℕ) → p < bound → bound ≤ length items → slice_index (take bound items) p ≡ slice_index items p
take_take [] p zero lt within = absurd (omega (arith, lt))
take_take [] p (suc bound) lt within = absurd (omega (arith, within))
take_take (x ∷ xs) zero zero lt within = absurd (omega (arith, lt))
take_take (x ∷ xs) (suc p) zero lt within = absurd (omega (arith, lt))
take_take (x ∷ xs) zero (suc bound) lt within = refl
take_take (x ∷ xs) (suc p) (suc bound) lt within = take_take xs p bound (omega (arith, lt)) (omega (arith, within))

picked_of_front : (items places : List ℕ) (from bound : ℕ) → from ≤ bound → bound ≤ length items → AllBelow from places
    → at_places (take bound items) places ≡ at_places items places
picked_of_front items [] from bound lower within below = refl
picked_of_front items (p ∷ ps) from bound lower within below =
    ap (λ x. x ∷ at_places (take bound items) ps) (take_take items p bound (omega (arith, below.0, lower)) within)
    ∙ ap (λ xs. slice_index items p ∷ xs) (picked_of_front items ps from bound lower within below.1)

pub promise : (reading : Reading) (most_strays most_missing bound : ℕ) (garbage published received places : List ℕ) (bodies first round later : List Body) (table : Body) (agent : Agent)
    (at_root : Settings)
    → HalfTreeLawAt most_strays garbage published received places → AllBelow bound places → AllBetween most_missing bound places → bound ≤ length published
    → map reading (take bound published) ≡ map Some bodies → bodies ≡ first ++ round → IsRound round table later → most_missing ≤ length first → IsReady table.number agent.taker
    → AllByRecursion (SaysBehind reading table.number) garbage → AllByRecursion (λ b. is_behind table.number b.number ≡ true) first
    → (hears_items reading agent received).files ≡ tell_all at_root bodies
promise reading most_strays most_missing bound garbage published received places bodies first round later table agent at_root half below all within alike parts is late ready strays_behind first_behind =
    let from = length first in
    let more = length round - 1 in
    let read_all : map reading (take bound published) ≡ map Some (first ++ round) = alike ∙ ap (map Some) parts in
    let counts : bound ≡ from + suc more =
    omega (arith, sym (length-map (take bound published) reading) ∙ ap length read_all ∙ length-map (first ++ round) Some, length-take bound published, within, length-append first round, has_one round later table is) in
    let below_it : AllBelow (from + suc more) places = subst (λ b. AllBelow b places) counts below in
    let end = received_end most_strays from more garbage published received places half below_it (λ i higher lower. all i (omega (arith, higher, late)) (omega (arith, lower, counts))) in
    let before = at_places garbage end.stray_places ++ at_places published end.places in
    let back = items_between published from (from + suc more) in
    let whole : take (from + suc more) published ≡ at_places published (range_with_len 0 from) ++ back =
    first_items_end published from (from + suc more) (omega arith) (omega (arith, within, counts)) in
    let read_whole : map reading (at_places published (range_with_len 0 from) ++ back) ≡ map Some (first ++ round) =
    ap (map reading) (sym whole ∙ ap (λ b. take b published) (sym counts)) ∙ read_all in
    let tail : map reading back ≡ map Some round = read_from reading (at_places published (range_with_len 0 from)) back first round read_whole (many_places published 0 from) in
    let begun = hears_items reading agent before in
    let earlier : AllByRecursion (SaysBehind reading table.number) (at_places published end.places) =
    subst (AllByRecursion (SaysBehind reading table.number)) (picked_of_front published end.places from bound (omega (arith, counts)) within end.earlier)
    (picked_behind reading table.number (take bound published) end.places first round read_all first_behind end.earlier) in
    let ready_there = ready_items reading table.number agent before ready
    (all_both (SaysBehind reading table.number) (at_places garbage end.stray_places) (at_places published end.places)
    (all_picked (SaysBehind reading table.number) garbage end.stray_places strays_behind end.strays_in) earlier) in
    ap (λ items. (hears_items reading agent items).files) end.are
    ∙ ap (λ items. (fold hears_read agent items).files) (map-append reading before back)
    ∙ ap (λ a. a.files) (fold-append hears_read agent (map reading before) (map reading back))
    ∙ ap (λ items. (fold hears_read begun items).files) tail
    ∙ ap (λ a. a.files) (said_is_heard round begun)
    ∙ files_right begun round later table at_root is ready_there
    ∙ sym (ap (tell_all at_root) parts ∙ round_tells at_root first round later table is)
