-- A round ends.
use Rattle.std.proofs.Common.{◌≡◌, ℕ, zero, suc, ◌+◌, ◌-◌, ◌*◌, ◌<◌, ◌≤◌, true, false, List, [], ◌∷◌, length, refl, sym, ◌∙◌, ap, subst, arith, max, lt-ltb, le-ltb}
use Rattle.std.specs.Prelude.{if◌then◌else◌, ◌==◌}
use Rattle.rignolda_agent.specs.declared.publisher.Next.{Next}
use Rattle.rignolda_agent.specs.declared.publisher.Next.TheVariants.{Nothing, Harmless, Changes, Whole}
use Rattle.rignolda_agent.specs.Publishers.{Publisher, after_body, next, taken, most_harmless}
use Rattle.rignolda_agent.specs.Runs.{Root, Call, before, body, after_call, until_over, count_harmless, IsRound, LetGoOn}
use Rattle.rignolda_agent.proofs.Chosen.{asked_in, in_a_round, after_a_table, not_one}

-- exactly so many harmless bodies and then the table, and no more bodies than this
record Ends (harmless most : ℕ) (bodies : List Next) : Type 0 where
  pub round : IsRound harmless bodies
  pub short : length bodies ≤ most

-- the root after this body
abbrev pub root_after : Next → Root → ℕ → Root
root_after k r bytes = record { publisher = after_body k r.publisher bytes; changes = r.changes - taken k r.changes }

until_is : (r : Root) (c : Call) (cs : List Call) (n : ℕ) → r.publisher.left ≡ suc n
    → until_over r (c ∷ cs) ≡ body r c ∷ until_over (after_call r c) cs
until_is r c cs n left = ap (λ b. if b then body r c ∷ until_over (after_call r c) cs else []) (lt-ltb 0 r.publisher.left (omega arith))

is_over : (r : Root) (cs : List Call) → r.publisher.left ≡ 0 → until_over r cs ≡ []
is_over r [] left = refl
is_over r (c ∷ cs) left = ap (λ b. if b then body r c ∷ until_over (after_call r c) cs else []) (le-ltb 0 r.publisher.left (omega arith))

with_table : (most : ℕ) (rest : List Next) → rest ≡ [] → 1 ≤ most → Ends 0 most (Whole ∷ rest)
with_table most rest none le = subst (λ bodies. Ends 0 most (Whole ∷ bodies)) (sym none) (record {
  round = record { front = []; table_last = refl; all_harmless = refl };
  short = le;
})

other : (k : Next) (n most : ℕ) (rest : List Next) → count_harmless (k ∷ []) ≡ 0 → Ends n most rest → Ends n (suc most) (k ∷ rest)
other k n most rest none ends = record {
  round = record {
    front = k ∷ ends.round.front;
    table_last = ap (λ bodies. k ∷ bodies) ends.round.table_last;
    all_harmless = not_counted k ends.round.front none ∙ ends.round.all_harmless;
  };
  short = let short = ends.short in omega arith;
}
  where
    not_counted : (k : Next) (bodies : List Next) → count_harmless (k ∷ []) ≡ 0 → count_harmless (k ∷ bodies) ≡ count_harmless bodies
    not_counted Nothing bodies none = refl
    not_counted Harmless bodies none = absurd (omega arith)
    not_counted Changes bodies none = refl
    not_counted Whole bodies none = refl

one_harmless : (n most : ℕ) (rest : List Next) → Ends n most rest → Ends (suc n) (suc most) (Harmless ∷ rest)
one_harmless n most rest ends = record {
  round = record {
    front = Harmless ∷ ends.round.front;
    table_last = ap (λ bodies. Harmless ∷ bodies) ends.round.table_last;
    all_harmless = ap suc ends.round.all_harmless;
  };
  short = let short = ends.short in omega arith;
}

no_more : (n most more : ℕ) (bodies : List Next) → Ends n most bodies → most ≤ more → Ends n more bodies
no_more n most more bodies ends le = record { round = ends.round; short = let short = ends.short in omega arith }

-- what the next body is in a round, and then what comes after it
goes_on : (n most : ℕ) (r : Root) (c : Call) (cs : List Call) → r.publisher.left ≡ suc n
    → (let b = before r c in Ends n most (next b.publisher b.changes c.limit ∷ until_over (root_after (next b.publisher b.changes c.limit) b c.bytes) cs))
    → Ends n most (until_over r (c ∷ cs))
goes_on n most r c cs left ends = subst (λ bodies. Ends n most bodies) (sym (until_is r c cs n left)) ends

one_less : (x m : ℕ) → x ≡ suc (suc m) → x - 1 ≡ suc m
one_less x m is = omega arith

table_ends : (left : ℕ) → left ≡ 1 → (if left == 1 then 0 else left) ≡ 0
table_ends left is = ap (λ x. if x == 1 then 0 else x) is

table_leaves : (left m : ℕ) → left ≡ suc (suc m) → (if left == 1 then 0 else left) ≡ suc (suc m)
table_leaves left m is = ap (λ b. if b then 0 else left) (not_one left m is) ∙ is

-- no round is asked for that has fewer harmless bodies than this
module _ (h : ℕ) (few : h ≤ most_harmless) where
  abbrev Rest : ℕ → Type 0
  Rest n = (r : Root) (cs : List Call) → r.publisher.left ≡ suc n → n ≤ h → LetGoOn h cs → 4 * n + 2 ≤ length cs → Ends n (4 * n + 2) (until_over r cs)

  -- what is left after a harmless body
  behind_harmless : (n : ℕ) (rest : (m : ℕ) → n ≡ suc m → Rest m) (b : Root) (bytes : ℕ) (cs : List Call)
      → b.publisher.left ≡ suc n → 0 < n → n ≤ h → LetGoOn h cs → 4 * n ≤ length cs + 2
      → Ends n (4 * n - 1) (Harmless ∷ until_over (root_after Harmless b bytes) cs)
  behind_harmless zero rest b bytes cs left some within go le = absurd (omega arith)
  behind_harmless (suc m) rest b bytes cs left some within go le =
      no_more _ (suc (4 * m + 2)) _ _
      (one_harmless m (4 * m + 2) _
      (rest m refl (root_after Harmless b bytes) cs (one_less b.publisher.left m left) (omega arith) go (omega arith)))
      (omega arith)

  -- right after an early table, where changes may have the turn, and then this holds
  behind_table : (m most : ℕ) (rest : (k : ℕ) → suc m ≡ suc k → Rest k) (r : Root) (cs : List Call) → r.publisher.left ≡ suc (suc m)
      → r.publisher.table_first ≡ false → r.publisher.items ≡ 0 → r.publisher.bytes ≡ 0
      → suc m ≤ h → LetGoOn h cs → 4 * suc m ≤ suc (suc most) → suc most ≤ length cs
      → (r.publisher.rounds_turn ≡ false → (b : Root) (later : List Call) → b.publisher.left ≡ suc (suc m) → b.publisher.rounds_turn ≡ true
      → LetGoOn h later → most ≤ length later → Ends (suc m) most (until_over b later))
      → Ends (suc m) (suc most) (until_over r cs)
  behind_table m most rest r [] left first items bytes within go short le onward = absurd (omega arith)
  behind_table m most rest r (c ∷ cs) left first items bytes within go short le onward =
      let same = asked_in r.publisher c.asked (suc m) h left within few go.1 in
      let b : Root = before r c in
      let its = ap (λ (p : Publisher). p.left) same ∙ left in
      goes_on (suc m) (suc most) r c cs left
      (after_a_table (λ k. Ends (suc m) (suc most) (k ∷ until_over (root_after k b c.bytes) cs)) b.publisher b.changes c.limit m
      its go.0
      (ap (λ (p : Publisher). p.table_first) same ∙ first)
      (ap (λ (p : Publisher). p.items) same ∙ items) (ap (λ (p : Publisher). p.bytes) same ∙ bytes)
      (no_more _ (4 * suc m - 1) _ _ (behind_harmless (suc m) rest b c.bytes cs its (omega arith) within go.2 (omega arith)) (omega arith))
      (λ lacks. other Changes (suc m) most _ refl
      (onward (sym (ap (λ (p : Publisher). p.rounds_turn) same) ∙ lacks) (root_after Changes b c.bytes) cs its refl go.2 (omega arith))))

  -- where it is the round's turn
  its_turn : (n : ℕ) (rest : (m : ℕ) → n ≡ suc m → Rest m) (r : Root) (cs : List Call) → r.publisher.left ≡ suc n
      → r.publisher.rounds_turn ≡ true → n ≤ h → LetGoOn h cs → max 1 (4 * n) ≤ length cs → Ends n (max 1 (4 * n)) (until_over r cs)
  its_turn n rest r [] left turn within go le = absurd (omega arith)
  its_turn zero rest r (c ∷ cs) left turn within go le =
      let same = asked_in r.publisher c.asked zero h left within few go.1 in
      let b : Root = before r c in
      let its = ap (λ (p : Publisher). p.left) same ∙ left in
      let turn_here = ap (λ (p : Publisher). p.rounds_turn) same ∙ turn in
      goes_on zero 1 r c cs left
      (in_a_round (λ k. Ends zero 1 (k ∷ until_over (root_after k b c.bytes) cs)) b.publisher b.changes c.limit zero
      its go.0
      (with_table 1 _ (is_over (root_after Whole b c.bytes) cs (table_ends b.publisher.left its)) (omega arith))
      (λ some. absurd (omega arith))
      (λ lacks. absurd (cc)))
  its_turn (suc m) rest r (c ∷ cs) left turn within go le =
      let same = asked_in r.publisher c.asked (suc m) h left within few go.1 in
      let b : Root = before r c in
      let its = ap (λ (p : Publisher). p.left) same ∙ left in
      let turn_here = ap (λ (p : Publisher). p.rounds_turn) same ∙ turn in
      let most : ℕ = 4 * m + 2 in
      goes_on (suc m) (max 1 (4 * suc m)) r c cs left
      (in_a_round (λ k. Ends (suc m) (max 1 (4 * suc m)) (k ∷ until_over (root_after k b c.bytes) cs)) b.publisher b.changes c.limit (suc m)
      its go.0
      (no_more _ (suc (suc most)) _ _
      (other Whole (suc m) (suc most) _ refl
      (behind_table m most rest (root_after Whole b c.bytes) cs (table_leaves b.publisher.left m its) refl refl refl within go.2 (omega arith) (omega arith)
      (λ lacks. absurd (cc))))
      (omega arith))
      (λ some. no_more _ (4 * suc m - 1) _ _ (behind_harmless (suc m) rest b c.bytes cs its some within go.2 (omega arith)) (omega arith))
      (λ lacks. absurd (cc)))

  -- what is left after a table
  behind_any_table : (n : ℕ) (rest : (m : ℕ) → n ≡ suc m → Rest m) (b : Root) (bytes : ℕ) (cs : List Call)
      → b.publisher.left ≡ suc n → n ≤ h → LetGoOn h cs → 4 * n + 1 ≤ length cs
      → Ends n (4 * n + 2) (Whole ∷ until_over (root_after Whole b bytes) cs)
  behind_any_table zero rest b bytes cs left within go le =
      with_table 2 _ (is_over (root_after Whole b bytes) cs (table_ends b.publisher.left left)) (omega arith)
  behind_any_table (suc m) rest b bytes cs left within go le =
      no_more _ (suc (suc (4 * suc m))) _ _
      (other Whole (suc m) (suc (4 * suc m)) _ refl
      (behind_table m (4 * suc m) rest (root_after Whole b bytes) cs (table_leaves b.publisher.left m left) refl refl refl within go (omega arith) (omega arith)
      (λ _ r later its turn on many. no_more _ (max 1 (4 * suc m)) _ _ (its_turn (suc m) rest r later its turn within on (omega arith)) (omega arith))))
      (omega arith)

  -- from any state of a round
  from_any : (n : ℕ) (rest : (m : ℕ) → n ≡ suc m → Rest m) → Rest n
  from_any n rest r [] left within go le = absurd (omega arith)
  from_any n rest r (c ∷ cs) left within go le =
      let same = asked_in r.publisher c.asked n h left within few go.1 in
      let b : Root = before r c in
      let its = ap (λ (p : Publisher). p.left) same ∙ left in
      goes_on n (4 * n + 2) r c cs left
      (in_a_round (λ k. Ends n (4 * n + 2) (k ∷ until_over (root_after k b c.bytes) cs)) b.publisher b.changes c.limit n
      its go.0
      (behind_any_table n rest b c.bytes cs its within go.2 (omega arith))
      (λ some. no_more n (4 * n - 1) _ _ (behind_harmless n rest b c.bytes cs its some within go.2 (omega arith)) (omega arith))
      (λ lacks. no_more n (suc (max 1 (4 * n))) _ _
      (other Changes n (max 1 (4 * n)) _ refl (its_turn n rest (root_after Changes b c.bytes) cs its refl within go.2 (omega arith)))
      (omega arith)))

  ends : (n : ℕ) → Rest n
  ends zero = from_any zero (λ m is. absurd (omega arith))
  ends (suc n) = from_any (suc n) (λ m is. subst Rest (let same : n ≡ m = omega arith in same) (ends n))

pub round_ends : (r : Root) (n : ℕ) (cs : List Call) → r.publisher.left ≡ suc n → n ≤ most_harmless → LetGoOn n cs → 4 * n + 2 ≤ length cs
    → IsRound n (until_over r cs) × (length (until_over r cs) ≤ 4 * n + 2)
round_ends r n cs left few go le = let through = ends n few n r cs left (omega arith) go le in (through.round, through.short)
