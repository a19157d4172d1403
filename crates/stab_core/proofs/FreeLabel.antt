-- Some item number up to 2c + 1 has a label that is nowhere in a lawful start.
use Rattle.std.proofs.Common.{◌≡◌, ◌≢◌, ℕ, zero, suc, ◌+◌, ◌*◌, ◌<◌, ◌≤◌, cond, eqb, ◌⊎◌, inl, inr, List, [], ◌∷◌, map, length, arith, eqb-true, length-append}
use Rattle.std.proofs.lemmas.Bool.{cond_both, cases_Bool, eqb-false}
use Rattle.std.proofs.lemmas.List.{length-map}
use Rattle.stab_frames.specs.Parameters.{Parameters, AreLawful}
use Rattle.stab_core.specs.declared.start.Start.{Start}
use Rattle.stab_core.specs.Replay.{IsLawful}
use Rattle.stab_core.proofs.Labels.{item_label, labels_differ}
use Rattle.stab_core.proofs.Circle.{circle, Absent}

-- the entries that are not this one
abbrev others : ℕ → List ℕ → List ℕ
others x [] = []
others x (y ∷ ys) = cond (eqb y x) (others x ys) (y ∷ others x ys)

-- there are no more of them than there were
others_no_more : (x : ℕ) (ys : List ℕ) → length (others x ys) ≤ length ys
others_no_more x [] = omega arith
others_no_more x (y ∷ ys) =
    let fewer : length (others x ys) ≤ length ys = others_no_more x ys in
    cond_both (eqb y x) (others x ys) (y ∷ others x ys) (λ kept. length kept ≤ length (y ∷ ys))
    (λ same. omega arith) (λ other. omega arith)

-- an entry that is nowhere, or there are fewer others
absent_or_fewer : (x : ℕ) (ys : List ℕ) → Absent x ys ⊎ (length (others x ys) < length ys)
absent_or_fewer x [] = inl tt
absent_or_fewer x (y ∷ ys) =
    let no_more : length (others x ys) ≤ length ys = others_no_more x ys in
    elim (cases_Bool (eqb y x)) [
      | inl same ↦ inr (rw same (omega arith))
      | inr other ↦ elim (absent_or_fewer x ys) [
        | inl absent ↦ inl (eqb-false y x other, absent)
        | inr fewer ↦ inr (rw other (omega arith))
      ]
    ]

-- what is nowhere among the others of x, and is not x, is nowhere
absent_from_others : (x label : ℕ) (ys : List ℕ) → label ≢ x → Absent label (others x ys) → Absent label ys
absent_from_others x label [] differs absent = tt
absent_from_others x label (y ∷ ys) differs absent =
    elim (cases_Bool (eqb y x)) [
      | inl same ↦ let y_is_x : y ≡ x = eqb-true y x same in
          ((λ e. differs (cc)), absent_from_others x label ys differs (rw same at absent))
      | inr other ↦ let apart = rw other at absent in (apart.0, absent_from_others x label ys differs apart.1)
    ]

-- of n + 1 numbers that differ pairwise one is nowhere in a list of n entries
pub one_is_free : (number : ℕ → ℕ) (n : ℕ) (used : List ℕ)
    → ((i k : ℕ) → i < k → k ≤ n → number i ≢ number k) → length used ≤ n → (j : ℕ) × (j ≤ n) × Absent (number j) used
one_is_free number zero [] differ few = (0, omega arith, tt)
one_is_free number zero (x ∷ used) differ few = absurd (omega arith)
one_is_free number (suc n) used differ few =
    elim (absent_or_fewer (number (suc n)) used) [
      | inl absent ↦ (suc n, omega arith, absent)
      | inr fewer ↦
          let last : ℕ = number (suc n) in
          let fewer_differ = λ (i k : ℕ) (before : i < k) (in_list : k ≤ n). differ i k before (omega arith) in
          let (j, within, absent) = one_is_free number n (others last used) fewer_differ (omega arith) in
          let differs : number j ≢ last = differ j (suc n) (omega arith) (omega arith) in
          (j, omega arith, absent_from_others last (number j) used differs absent)
    ]

-- Item number j is free: it is one of the first items, whose labels all differ, and its label is
-- nowhere in the start.
pub record IsFree (p : Parameters) (start : Start) (j : ℕ) : Type 0 where
  pub some_labels : 2 ≤ p.labels
  pub few : j < p.labels
  pub absent : Absent (item_label p start j) (circle start.acks start.recv_label (map (λ f. f.label) start.frames))

-- a start holds at most 2c + 1 labels
few_in_start : (p : Parameters) (start : Start) → IsLawful p start
    → length (circle start.acks start.recv_label (map (λ f. f.label) start.frames)) ≤ 2 * p.capacity + 1
few_in_start p start lawful = simp (length-append, length-map) (omega arith)

-- so one of the first 2c + 2 items has a label that is nowhere in the start
pub free_label : (p : Parameters) (start : Start) → AreLawful p → IsLawful p start
    → (j : ℕ) × (j ≤ 2 * p.capacity + 1) × IsFree p start j
free_label p start parameters lawful =
    let used : List ℕ = circle start.acks start.recv_label (map (λ f. f.label) start.frames) in
    let most : ℕ = 2 * p.capacity + 1 in
    let differ = λ (i k : ℕ) (before : i < k) (in_list : k ≤ most). labels_differ p start i k before (omega arith) in
    let (j, within, absent) = one_is_free (item_label p start) most used differ (few_in_start p start lawful) in
    (j, within, record { some_labels = omega arith; few = omega arith; absent = absent })
