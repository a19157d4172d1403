-- Which body comes next, by cases.
use Rattle.std.proofs.Common.{◌≡◌, ◌≤◌, ◌∙◌, ℕ, suc, ◌<◌, Bool, true, false, Option, Some, None, refl, sym, ap, subst, arith, max, min, nat_lt, lt-ltb, le-ltb}
use Rattle.std.proofs.lemmas.Bool.{lt-leb}
use Rattle.std.specs.Prelude.{if◌then◌else◌, ◌&&◌, ◌||◌, ◌==◌, nat_le, not}
use Rattle.rignolda_agent.specs.declared.publisher.Next.{Next}
use Rattle.rignolda_agent.specs.declared.publisher.Next.TheVariants.{Nothing, Harmless, Changes, Whole}
use Rattle.rignolda_agent.specs.Publishers.{Publisher, is_in_a_round, waits, is_table_due, round_goes_on, is_table_next, next, most_harmless, round_of}
use Rattle.rignolda_agent.specs.Runs.{IsNoShorter, asked_for}

-- in a round, another one that is asked for changes nothing, if it is no shorter
pub asked_in : (p : Publisher) (asked : Option ℕ) (n h : ℕ) → p.left ≡ suc n → n ≤ h → h ≤ most_harmless → IsNoShorter h asked → asked_for p asked ≡ p
asked_in p None n h left within few longer = refl
asked_in p (Some harmless) n h left within few longer =
    ap (λ b. if b then record p { left = min p.left (round_of harmless) } else record p { left = round_of harmless; rounds_turn = false }) (lt-ltb 0 p.left (omega arith))
    ∙ ap (λ l. record p { left = l }) (let same : min p.left (round_of harmless) ≡ p.left = omega arith in same)

begun_turn : (b : Bool) (p q : Publisher) → p.rounds_turn ≡ false → q.rounds_turn ≡ false → (if b then p else q).rounds_turn ≡ false
begun_turn true p q here there = here
begun_turn false p q here there = there

-- a round that is asked for lets changes go first
pub asked_turn : (p : Publisher) (asked : Option ℕ) → p.rounds_turn ≡ false → (asked_for p asked).rounds_turn ≡ false
asked_turn p None turn = turn
asked_turn p (Some harmless) turn = begun_turn (is_in_a_round p) _ _ turn refl

-- ---- tests

by_tests : (P : Next → Type 0) (w h t g : Bool) → w ≡ true
    → (h ≡ false → t ≡ true → P Whole) → (h ≡ false → t ≡ false → g ≡ true → P Harmless)
    → (h ≡ true → P Changes) → (t ≡ false → g ≡ false → P Changes)
    → P (if w then (if h then Changes else if t then Whole else if g then Harmless else Changes) else Nothing)
by_tests P true true t g is whole harmless held changes = held refl
by_tests P true false true g is whole harmless held changes = whole refl refl
by_tests P true false false true is whole harmless held changes = harmless refl refl refl
by_tests P true false false false is whole harmless held changes = changes refl refl
by_tests P false h t g is whole harmless held changes = absurd (cc)

last_no : (f d g o : Bool) → g ≡ true → (f || (d || (g && o))) ≡ false → o ≡ false
last_no false false true o is lacks = lacks
last_no true d g o is lacks = absurd (cc)
last_no false true g o is lacks = absurd (cc)
last_no false false false o is lacks = absurd (cc)

turn_no : (i t z : Bool) → i ≡ true → (i && (t || z)) ≡ false → t ≡ false
turn_no true true z is lacks = lacks
turn_no true false z is lacks = refl
turn_no false t z is lacks = absurd (cc)

turn_yes : (i t z : Bool) → z ≡ false → (i && (t || z)) ≡ true → t ≡ true
turn_yes true true z is holds = refl
turn_yes true false z is holds = absurd (cc)
turn_yes false t z is holds = absurd (cc)

waits_in : (c f i : Bool) → i ≡ true → (c || (not false && (f || i))) ≡ true
waits_in true f i is = refl
waits_in false true i is = refl
waits_in false false i is = is

waits_more : (c o : Bool) → c ≡ true → (c || o) ≡ true
waits_more true o is = refl
waits_more false o is = absurd (cc)

-- ---- in a round

pub in_a_round : (P : Next → Type 0) (p : Publisher) (changes limit n : ℕ) → p.left ≡ suc n → p.held ≡ false
    → P Whole → (0 < n → P Harmless) → (p.rounds_turn ≡ false → P Changes)
    → P (next p changes limit)
in_a_round P p changes limit n left held whole harmless changed =
    let inside = lt-ltb 0 p.left (omega arith) in
    let waiting : waits p changes ≡ true =
    subst (λ h. (nat_lt 0 changes || (not h && (p.table_first || is_in_a_round p))) ≡ true) (sym held) (waits_in (nat_lt 0 changes) p.table_first (is_in_a_round p) inside) in
    by_tests P (waits p changes) p.held (is_table_next p changes limit) (round_goes_on p changes) waiting
    (λ _ _. whole)
    (λ _ lacks holds. harmless (has_more (last_no p.table_first (is_table_due p limit) (round_goes_on p changes) (p.left == 1) holds lacks)))
    (λ holds. absurd (cc))
    (λ _ lacks. changed (turn_no (is_in_a_round p) p.rounds_turn (changes == 0) inside lacks))
  where
    has_more : (p.left == 1) ≡ false → 0 < n
    has_more lacks = grind (arith, left, lacks)

neither : (a b : Bool) → a ≡ false → b ≡ false → (a || b) ≡ false
neither true b first second = first
neither false b first second = second

and_not : (a b : Bool) → b ≡ false → (a && b) ≡ false
and_not true b second = second
and_not false b second = refl

pub not_one : (left n : ℕ) → left ≡ suc (suc n) → (left == 1) ≡ false
not_one left n is = grind (arith, is)

not_due : (limit items bytes table_bytes : ℕ) → items ≡ 0 → bytes ≡ 0
    → (nat_le (max limit 1) items || (nat_lt table_bytes bytes && (nat_le 64 items || nat_lt 1048576 bytes))) ≡ false
not_due limit items bytes table_bytes none empty =
    neither (nat_le (max limit 1) items) _ (lt-leb (max limit 1) items (omega arith))
    (ap (λ b. b && (nat_le 64 items || nat_lt 1048576 bytes)) (le-ltb table_bytes bytes (omega arith)))

-- right after a table
pub after_a_table : (P : Next → Type 0) (p : Publisher) (changes limit n : ℕ) → p.left ≡ suc (suc n) → p.held ≡ false
    → p.table_first ≡ false → p.items ≡ 0 → p.bytes ≡ 0
    → P Harmless → (p.rounds_turn ≡ false → P Changes) → P (next p changes limit)
after_a_table P p changes limit n left held first items bytes harmless changed =
    let inside = lt-ltb 0 p.left (omega arith) in
    let waiting : waits p changes ≡ true =
    subst (λ h. (nat_lt 0 changes || (not h && (p.table_first || is_in_a_round p))) ≡ true) (sym held) (waits_in (nat_lt 0 changes) p.table_first (is_in_a_round p) inside) in
    let early : is_table_next p changes limit ≡ false =
    neither p.table_first _ first (neither (is_table_due p limit) _ (not_due limit p.items p.bytes p.table_bytes items bytes) (and_not (round_goes_on p changes) (p.left == 1) (not_one p.left n left))) in
    by_tests P (waits p changes) p.held (is_table_next p changes limit) (round_goes_on p changes) waiting
    (λ _ is. absurd (cc)) (λ _ _ _. harmless) (λ is. absurd (cc))
    (λ _ lacks. changed (turn_no (is_in_a_round p) p.rounds_turn (changes == 0) inside lacks))

-- ---- while changes wait

pub with_changes : (P : Next → Type 0) (p : Publisher) (changes limit : ℕ) → 0 < changes
    → P Whole → (p.rounds_turn ≡ true → P Harmless) → P Changes → P (next p changes limit)
with_changes P p changes limit some whole harmless changed =
    let waiting = waits_more (nat_lt 0 changes) (not p.held && (p.table_first || is_in_a_round p)) (lt-ltb 0 changes some) in
    by_tests P (waits p changes) p.held (is_table_next p changes limit) (round_goes_on p changes) waiting
    (λ _ _. whole)
    (λ _ _ holds. harmless (turn_yes (is_in_a_round p) p.rounds_turn (changes == 0) none holds))
    (λ _. changed)
    (λ _ _. changed)
  where
    none : (changes == 0) ≡ false
    none = grind (arith, some)
