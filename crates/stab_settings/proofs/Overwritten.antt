-- What was set last counts: once a key was set, the table before does not matter to it.
use Rattle.std.proofs.Common.{◌≡◌, ◌⊎◌, ℕ, zero, suc, ◌+◌, ◌-◌, ◌<◌, ◌≤◌, inl, inr, Bool, true, false, ◌==◌, if◌then◌else◌, List, [], ◌∷◌, ◌++◌, take, length, slice_index, get_or, refl, sym, ◌∙◌, ap, arith}
use Rattle.std.specs.List.{fold, range_with_len}
use Rattle.std.proofs.lemmas.List.Sums.{fold-append}
use Rattle.std.proofs.lemmas.List.FromFn.{get_or-map-range_with_len, length-map-range_with_len}
use Rattle.std.proofs.lemmas.List.{map-append}
use Rattle.std.proofs.lemmas.Bool.{eq-eqb}
use Rattle.stab_core.proofs.ForCallers.{at_places}
use Rattle.stab_settings.specs.Tables.{Setting, Table, Reading, set_key, apply_item, apply_items}
use Rattle.stab_settings.specs.Refreshes.{Sets, IsSetBetween}
use Rattle.stab_settings.proofs.Suffixes.{range_parted, first_items}

-- the first of two values, where the test is true
chosen : {A : Type 0} (b : Bool) (x y z : A) → b ≡ true → (if b then x else y) ≡ (if b then x else z)
chosen true x y z is = refl
chosen false x y z is = let never : false ≡ true = is in cc

-- two tables have the same beside a key, or one of these settings is of it
abbrev SameOrSet : Table → Table → List Setting → ℕ → Type 0
SameOrSet t u settings key = (t key ≡ u key) ⊎ Sets settings key

-- what is the same beside a key stays the same
kept_same : (key : ℕ) (t u : Table) (s : Setting) → t key ≡ u key → set_key t s key ≡ set_key u s key
kept_same key t u s same = ap (λ value. if key == s.key then s.value else value) same

-- beside the key that was set it is the same
set_same : (key : ℕ) (t u : Table) (s : Setting) → s.key ≡ key → set_key t s key ≡ set_key u s key
set_same key t u s is = chosen (key == s.key) s.value (t key) (u key) (eq-eqb key s.key (sym is))

-- a setting that is not the first one of a list is one of the others
set_later : (key : ℕ) (t u : Table) (s setting : Setting) (settings : List Setting) (k : ℕ) → k < length (s ∷ settings) → get_or (s ∷ settings) k setting ≡ setting
    → setting.key ≡ key → SameOrSet (set_key t s) (set_key u s) settings key
set_later key t u s setting settings zero within is sets = inl (set_same key t u s (ap (λ x. x.key) is ∙ sets))
set_later key t u s setting settings (suc k) within is sets = inr (setting, (k, omega (arith, within), is), sets)

-- after settings of which one sets a key, the same is beside it, whatever the tables were before
pub settings_same : (key : ℕ) (settings : List Setting) (t u : Table) → SameOrSet t u settings key → fold set_key t settings key ≡ fold set_key u settings key
settings_same key [] t u (inl same) = same
settings_same key [] t u (inr (setting, (k, within, is), sets)) = absurd (omega (arith, within))
settings_same key (s ∷ settings) t u (inl same) = settings_same key settings (set_key t s) (set_key u s) (inl (kept_same key t u s same))
settings_same key (s ∷ settings) t u (inr (setting, (k, within, is), sets)) =
    settings_same key settings (set_key t s) (set_key u s) (set_later key t u s setting settings k within is sets)

-- one of the items sets the key
abbrev pub SetByOne : Reading → List ℕ → ℕ → Type 0
SetByOne reading items key = (k : ℕ) × (k < length items) × Sets (reading (get_or items k 0)) key

-- after items of which one sets a key, the same is beside it, whatever the tables were before
pub items_same : (reading : Reading) (key : ℕ) (items : List ℕ) (t u : Table) → (t key ≡ u key) ⊎ SetByOne reading items key
    → apply_items reading t items key ≡ apply_items reading u items key
items_same reading key [] t u (inl same) = same
items_same reading key [] t u (inr (k, within, sets)) = absurd (omega (arith, within))
items_same reading key (item ∷ items) t u (inl same) =
    items_same reading key items (apply_item reading t item) (apply_item reading u item) (inl (settings_same key (reading item) t u (inl same)))
items_same reading key (item ∷ items) t u (inr (zero, within, sets)) =
    items_same reading key items (apply_item reading t item) (apply_item reading u item) (inl (settings_same key (reading item) t u (inr sets)))
items_same reading key (item ∷ items) t u (inr (suc k, within, sets)) =
    items_same reading key items (apply_item reading t item) (apply_item reading u item) (inr (k, omega (arith, within), sets))

-- the items of a list from one place up to another
abbrev pub items_between : List ℕ → ℕ → ℕ → List ℕ
items_between items from bound = at_places items (range_with_len from (bound - from))

-- a key that is set between two places is set by one of the items from an earlier place up to a later one
pub set_by_one : (reading : Reading) (items : List ℕ) (first after key from bound : ℕ) → IsSetBetween reading items first after key → from ≤ first → after ≤ bound
    → SetByOne reading (items_between items from bound) key
set_by_one reading items first after key from bound is earlier later =
    let place = is.place in
    let there : get_or (items_between items from bound) (place - from) 0 ≡ slice_index items place =
    get_or-map-range_with_len (λ i. slice_index items i) from (bound - from) (place - from) place 0 (omega (arith, is.before_end, is.from_first)) (omega (arith, is.from_first)) in (
      place - from,
      omega (arith, is.before_end, is.from_first, length-map-range_with_len (λ i. slice_index items i) from (bound - from)),
      rw (there) is.sets,
    )

-- two lists that end with the same items, of which one sets the key
pub ends_same : (reading : Reading) (key : ℕ) (before other last : List ℕ) (t u : Table) → SetByOne reading last key
    → apply_items reading t (before ++ last) key ≡ apply_items reading u (other ++ last) key
ends_same reading key before other last t u set =
    ap (λ table. table key) (fold-append (apply_item reading) t before last)
    ∙ (items_same reading key last (apply_items reading t before) (apply_items reading u other) (inr set)
    ∙ sym (ap (λ table. table key) (fold-append (apply_item reading) u other last)))

-- the first items of a list end with those from one place on
pub first_items_end : (items : List ℕ) (from bound : ℕ) → from ≤ bound → bound ≤ length items
    → take bound items ≡ at_places items (range_with_len 0 from) ++ items_between items from bound
first_items_end items from bound lower within =
    let both : bound ≡ from + (bound - from) = omega arith in
    let start : 0 + from ≡ from = omega arith in
    sym (first_items items bound within)
    ∙ (ap (λ many. at_places items (range_with_len 0 many)) both
    ∙ (ap (at_places items) (range_parted 0 from (bound - from))
    ∙ (map-append (λ i. slice_index items i) (range_with_len 0 from) (range_with_len (0 + from) (bound - from))
    ∙ ap (λ low. at_places items (range_with_len 0 from) ++ at_places items (range_with_len low (bound - from))) start)))
