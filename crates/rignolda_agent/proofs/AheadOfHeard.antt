-- The table of a root that goes on above what it heard is ahead of all that.
use Rattle.std.proofs.Common.{◌≡◌, ◌⊎◌, ℕ, ◌<◌, ◌≤◌, true, inl, inr, List, [], ◌∷◌, ◌++◌, sym, ap, subst, ◌∙◌, arith}
use Rattle.std.specs.Prelude.{not}
use Rattle.std.specs.List.{AllByRecursion}
use Rattle.std.proofs.lemmas.Bool.{and_from, and_parts, cases_lt, true≢false}
use Rattle.rignolda_agent.specs.BodySpelling.{Body}
use Rattle.rignolda_agent.specs.Numbers.{ahead, circle, is_newer, next}
use Rattle.rignolda_agent.specs.Rounds.{IsRun, IsWithin, is_behind}
use Rattle.rignolda_agent.proofs.Above.{ahead_back, newer_by, not_newer_by, same_place}
use Rattle.rignolda_agent.proofs.Places.{ahead_by}

-- the lower of two numbers within half of the circle is behind the other
lower_is_behind : (low x y : ℕ) → low < circle → IsWithin low x → IsWithin low y → ahead low x < ahead low y → is_behind y x ≡ true
lower_is_behind low x y low_in (x_in, x_one, x_near) (y_in, y_one, y_near) less =
    let by = ahead_by low x y low_in x_in y_in less in
    let back = ahead_back x y x_in y_in (omega (arith, by, less)) in
    and_from (is_newer x y) _
    (newer_by x y (λ none. omega (arith, none, y_one)) (omega (arith, by, less)) (omega (arith, by, y_near)))
    (ap not (not_newer_by y x (λ none. omega (arith, none, y_one)) (omega (arith, back, by, y_near))))

-- and whichever is behind is lower
behind_is_lower : (low x y : ℕ) → low < circle → IsWithin low x → IsWithin low y → is_behind y x ≡ true → ahead low x < ahead low y
behind_is_lower low x y low_in x_within y_within behind = by (cases_lt (ahead low x) (ahead low y)) (cases_lt (ahead low y) (ahead low x))
  where
    parts : (is_newer x y ≡ true) × (not (is_newer y x) ≡ true)
    parts = and_parts (is_newer x y) (not (is_newer y x)) behind

    by : (ahead low x < ahead low y) ⊎ (ahead low y ≤ ahead low x) → (ahead low y < ahead low x) ⊎ (ahead low x ≤ ahead low y) → ahead low x < ahead low y
    by (inl lower) other = lower
    by (inr not_lower) (inl higher) =
        let back = and_parts (is_newer y x) (not (is_newer x y)) (lower_is_behind low y x low_in y_within x_within higher) in
        absurd (true≢false (sym parts.1 ∙ ap not back.0))
    by (inr not_lower) (inr not_higher) =
        let alike : x ≡ y = same_place low x y low_in x_within.0 y_within.0 (omega (arith, not_lower, not_higher)) in
        absurd (true≢false (sym (subst (λ n. not (is_newer y n) ≡ true) alike parts.1) ∙ ap not (subst (λ n. is_newer n y ≡ true) alike parts.0)))

-- what is behind one number is behind another one that this is behind
all_on : (low b next_one : ℕ) (ns : List ℕ) → low < circle → IsWithin low b → IsWithin low next_one → is_behind next_one b ≡ true
    → AllByRecursion (IsWithin low) ns → AllByRecursion (λ n. is_behind b n ≡ true) ns → AllByRecursion (λ n. is_behind next_one n ≡ true) ns
all_on low b next_one [] low_in b_within one_within on within all = tt
all_on low b next_one (n ∷ ns) low_in b_within one_within on within all =
    let lower = behind_is_lower low n b low_in within.0 b_within all.0 in
    let higher = behind_is_lower low b next_one low_in b_within one_within on in (
      lower_is_behind low n next_one low_in within.0 one_within (omega (arith, lower, higher)),
      all_on low b next_one ns low_in b_within one_within on within.1 all.1,
    )

-- behind the last body of a run are all of it, and all that is behind where it begins
run_ahead : (low b : ℕ) (ns : List ℕ) (before : List Body) (table : Body) → low < circle → IsWithin low b → AllByRecursion (IsWithin low) ns
    → AllByRecursion (λ body. IsWithin low body.number) (before ++ table ∷ []) → AllByRecursion (λ n. is_behind b n ≡ true) ns → IsRun b (before ++ table ∷ [])
    → AllByRecursion (λ n. is_behind table.number n ≡ true) (b ∷ ns) × AllByRecursion (λ body. is_behind table.number body.number ≡ true) before
run_ahead low b ns [] table low_in b_within within bodies behind run =
    ((run.1, all_on low b table.number ns low_in b_within bodies.0 run.1 within behind), tt)
run_ahead low b ns (c ∷ before) table low_in b_within within bodies behind run =
    let all = all_on low b c.number ns low_in b_within bodies.0 run.1 within behind in
    let rest = run_ahead low c.number (b ∷ ns) before table low_in bodies.0 (b_within, within) bodies.1 (run.1, all) run.2 in
    (rest.0.1, (rest.0.0, rest.1))

-- a run that begins above what was heard
pub table_ahead : (low from above : ℕ) (heard : List ℕ) (before : List Body) (table : Body) → low < circle → AllByRecursion (IsWithin low) (from ∷ heard)
    → AllByRecursion (λ body. IsWithin low body.number) (before ++ table ∷ []) → AllByRecursion (λ n. is_behind (next above) n ≡ true) (from ∷ heard) → IsRun above (before ++ table ∷ [])
    → AllByRecursion (λ n. is_behind table.number n ≡ true) (from ∷ heard) × AllByRecursion (λ body. is_behind table.number body.number ≡ true) before
table_ahead low from above heard [] table low_in within bodies behind run =
    (subst (λ number. AllByRecursion (λ n. is_behind number n ≡ true) (from ∷ heard)) run.0 behind, tt)
table_ahead low from above heard (c ∷ before) table low_in within bodies behind run =
    let first = subst (λ number. AllByRecursion (λ n. is_behind number n ≡ true) (from ∷ heard)) run.0 behind in
    let rest = run_ahead low c.number (from ∷ heard) before table low_in bodies.0 within bodies.1 first run.2 in
    (rest.0.1, (rest.0.0, rest.1))
