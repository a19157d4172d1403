-- The labels that the sender gives its items, one after the other.
use Rattle.std.proofs.Common.{◌≡◌, ◌≢◌, ℕ, zero, suc, ◌+◌, ◌<◌, ◌≤◌, max, leb, ◌⊎◌, inl, inr, ⊎_elim, refl, sym, ◌∙◌, ap, arith, add-one, leb-true, leb-false}
use Rattle.std.proofs.lemmas.Bool.{cond_both}
use Rattle.stab_frames.specs.Parameters.{Parameters, next}
use Rattle.stab_core.specs.declared.start.Start.{Start}

-- the label of item number i
abbrev pub item_label : Parameters → Start → ℕ → ℕ
item_label p start zero = start.send_label
item_label p start (suc i) = next p (item_label p start i)

-- The labels count on from the first one; past the last label, or past a first one that is none,
-- they start again at 0.
abbrev Counted : ℕ → ℕ → ℕ → ℕ → Type 0
Counted labels first i label =
    ((label ≡ first + i) × (first + i < max labels (first + 1))) ⊎ (label + max labels (first + 1) ≡ first + i)

-- the next label counts on
counted_next : (p : Parameters) (first i label : ℕ) → suc i < p.labels → Counted p.labels first i label
    → Counted p.labels first (suc i) (next p label)
counted_next p first i label few counted =
    cond_both (leb p.labels (label + 1)) 0 (label + 1) (Counted p.labels first (suc i))
    (λ turned. let past : p.labels ≤ label + 1 = leb-true _ _ turned in
    ⊎_elim (λ straight. inr (omega arith)) (λ again. absurd (omega arith)) counted)
    (λ not_yet. let below : label + 1 < p.labels = leb-false _ _ not_yet in
    ⊎_elim (λ straight. inl (omega arith)) (λ again. inr (omega arith)) counted)

-- the labels of the first items count on
counted_label : (p : Parameters) (start : Start) (i : ℕ) → i < p.labels
    → Counted p.labels start.send_label i (item_label p start i)
counted_label p start zero few = inl (omega arith)
counted_label p start (suc i) few =
    counted_next p start.send_label i (item_label p start i) few (counted_label p start i (omega arith))

-- no two of the first items have one label, as long as there are no more of them than labels
pub labels_differ : (p : Parameters) (start : Start) (i k : ℕ) → i < k → k < p.labels
    → item_label p start i ≢ item_label p start k
labels_differ p start i k before few same =
    let one : Counted p.labels start.send_label i (item_label p start i) = counted_label p start i (omega arith) in
    let other : Counted p.labels start.send_label k (item_label p start k) = counted_label p start k few in
    omega arith

-- the labels after the first one are those of a start that begins with the second
item_label-later : (p : Parameters) (start : Start) (i : ℕ)
    → item_label p start (suc i) ≡ item_label p (record start { send_label = next p start.send_label }) i
item_label-later p start zero = refl
item_label-later p start (suc i) = ap (next p) (item_label-later p start i)

-- no two items have one label that are nearer to each other than there are labels
pub near_labels_differ : (p : Parameters) (start : Start) (i k : ℕ) → i < k → k < p.labels + i
    → item_label p start i ≢ item_label p start k
near_labels_differ p start zero k before near same = labels_differ p start 0 k before (omega arith) same
near_labels_differ p start (suc i) zero before near same = absurd (omega arith)
near_labels_differ p start (suc i) (suc k) before near same =
    let later : Start = record start { send_label = next p start.send_label } in
    near_labels_differ p later i k (omega arith) (omega arith)
    (sym (item_label-later p start i) ∙ same ∙ item_label-later p start k)

-- the next label is another one
pub next_differs : (p : Parameters) (label : ℕ) → 2 ≤ p.labels → next p label ≢ label
next_differs p label some_labels =
    cond_both (leb p.labels (label + 1)) 0 (label + 1) (λ after. after ≢ label)
    (λ turned. let past : p.labels ≤ label + 1 = leb-true _ _ turned in omega arith)
    (λ not_yet. omega arith)

-- the label after an item's label is that of the next item
pub item_label-more : (p : Parameters) (start : Start) (i : ℕ)
    → item_label p start (i + 1) ≡ next p (item_label p start i)
item_label-more p start i = rw (add-one i)
