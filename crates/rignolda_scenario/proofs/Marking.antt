-- Where the count of each node begins, step by step.
use Rattle.std.proofs.Common.{◌≡◌, ℕ, zero, suc, ◌<◌, ◌≤◌, List, [], ◌∷◌, ◌++◌, length, take, drop, get_or, Option, Some, slice_get, slice_set, true, false, if◌then◌else◌, inl, inr, refl, ap, sym, subst, ◌∙◌, append_assoc, arith}
use Rattle.std.proofs.lemmas.Bool.{cases_lt}
use Rattle.std.proofs.lemmas.List.{drop-append-le, drop_all, take_all}
use Rattle.std.proofs.lemmas.Grind.{flat_map-append}
use Rattle.std.proofs.lemmas.Option.{none-some, same_Some}
use Rattle.std.specs.List.{flat_map}
use mathlib.Core.List.{IsPrefix}
use Rattle.stab_core.specs.Texts.{newline, number_entry, numbers_line}
use Rattle.stab_job.specs.JobValues.{JobValue}
use Rattle.stab_treecore.specs.declared.change.Change.TheVariants.{Act, Publish, Restart, Strike}
use Rattle.stab_treecore.specs.WholeTree.{WholeTree}
use Rattle.stab_treecore.proofs.Grown.{front_and_rest}
use Rattle.rignolda_scenario.specs.Counts.{state_after}
use Rattle.rignolda_scenario.specs.LastFault.{hits, is_fault, last_fault}
use Rattle.rignolda_scenario.specs.Marks.{AreMarks, IsMarkAfter, IsMarkOf}
use Rattle.rignolda_scenario.specs.declared.mark.Mark.{Mark}
use Rattle.rignolda_scenario.specs.declared.step.Step.{Step}
use Rattle.rignolda_scenario.specs.declared.step.Step.TheVariants.{One, ReadingRounds, Rounds}
use Rattle.rignolda_scenario.proofs.Playing.{last_more}

-- the marks after the first `i` steps
abbrev pub MarkedBy : JobValue → List Step → ℕ → List Mark → Type 0
MarkedBy j steps i marks =
    (node : ℕ) (mark : Mark) → slice_get marks node ≡ Some mark
    → (mark.step ≡ last_fault j.tree.parents node (take i steps)) × IsMarkOf (state_after j (take mark.step steps)) node mark

-- and after one more
pub marked_more : (j : JobValue) (steps : List Step) (i : ℕ) (step : Step) (s : WholeTree) (old new : List Mark) → i < length steps
    → step ≡ get_or steps i step → s ≡ state_after j (take (suc i) steps) → MarkedBy j steps i old
    → ((node : ℕ) (mark : Mark) → slice_get new node ≡ Some mark
    → (before : Mark) × (slice_get old node ≡ Some before) × IsMarkAfter j.tree.parents s (suc i) step node before mark)
    → MarkedBy j steps (suc i) new
marked_more j steps i step s old new within is after so_far next node mark there =
    let (before, was, how) = next node mark there in
    let ps = j.tree.parents in
    elim how [
      | inl hit ↦
          let last : last_fault ps node (take (suc i) steps) ≡ suc i =
          last_more ps node steps i step within is ∙ ap (λ b. if b then suc i else last_fault ps node (take i steps)) hit.0 in
          let at : s ≡ state_after j (take mark.step steps) = after ∙ ap (λ n. state_after j (take n steps)) (sym hit.1) in
          (hit.1 ∙ sym last, subst (λ t. IsMarkOf t node mark) at hit.2)
      | inr spared ↦
          let last : last_fault ps node (take (suc i) steps) ≡ last_fault ps node (take i steps) =
          last_more ps node steps i step within is ∙ ap (λ b. if b then suc i else last_fault ps node (take i steps)) spared.0 in
          let kept = so_far node before was in
          subst (λ m. (m.step ≡ last_fault ps node (take (suc i) steps)) × IsMarkOf (state_after j (take m.step steps)) node m) (sym spared.1)
          (kept.0 ∙ sym last, kept.1)
    ]

-- after all steps they are those of the last faults
pub all_marked : (j : JobValue) (steps : List Step) (i : ℕ) (marks : List Mark) → length steps ≤ i → MarkedBy j steps i marks → AreMarks j steps marks
all_marked j steps i marks all marked node mark there =
    let here = marked node mark there in
    let last : mark.step ≡ last_fault j.tree.parents node steps =
    here.0 ∙ ap (λ ss. last_fault j.tree.parents node ss) (take_all i steps all) in
    (last, subst (λ n. IsMarkOf (state_after j (take n steps)) node mark) last here.1)

-- the items that are held, and then a list from a place on, of which `xs` is a front
pub held_and_rest : (held xs list : List ℕ) (offered from : ℕ) → IsPrefix xs list → ((offered ≤ length xs) → from ≡ offered)
    → ((length xs ≤ offered) → from ≡ length xs) → held ++ drop from list ≡ (held ++ drop offered xs) ++ drop (length xs) list
held_and_rest held xs list offered from front few many =
    let rest = drop (length xs) list in
    let from_is : (from ≤ length xs) × (drop from xs ≡ drop offered xs) =
    elim (cases_lt offered (length xs)) [
      | inl less ↦
          let same : from ≡ offered = few (omega (arith, less)) in
          (omega (arith, same, less), ap (λ n. drop n xs) same)
      | inr more ↦
          let same : from ≡ length xs = many more in
          (omega (arith, same), ap (λ n. drop n xs) same ∙ (drop_all (length xs) xs (omega arith) ∙ sym (drop_all offered xs more)))
    ] in
    let parts : drop from list ≡ drop offered xs ++ rest =
    ap (λ ys. drop from ys) (front_and_rest xs list front) ∙ (drop-append-le from xs rest from_is.0 ∙ ap (λ ys. ys ++ rest) from_is.1) in
    ap (λ ys. held ++ ys) parts ∙ sym (append_assoc held (drop offered xs) rest)

-- ---- lists of marks

-- what is no fault hits no node
pub hits_none : (ps : List (Option ℕ)) (node : ℕ) (step : Step) → is_fault step ≡ false → hits ps node step ≡ false
hits_none ps node (One (Act e)) none = refl
hits_none ps node (One (Publish items)) none = refl
hits_none ps node (One (Strike child start)) none = (let never : true ≡ false = none in cc)
hits_none ps node (One (Restart other list)) none = (let never : true ≡ false = none in cc)
hits_none ps node (Rounds count) none = refl
hits_none ps node (ReadingRounds count) none = refl

pub got_there : {X : Type 0} (xs : List X) (i : ℕ) (y : X) → i < length xs → slice_get (slice_set xs i y) i ≡ Some y
got_there [] i y within = absurd (omega (arith, within))
got_there (x ∷ xs) zero y within = refl
got_there (x ∷ xs) (suc i) y within = got_there xs i y (omega (arith, within))

pub got_elsewhere : {X : Type 0} (xs : List X) (i k : ℕ) (y : X) → (k ≡ i → ⊥) → slice_get (slice_set xs i y) k ≡ slice_get xs k
got_elsewhere [] i k y other = refl
got_elsewhere (x ∷ xs) zero zero y other = absurd (other refl)
got_elsewhere (x ∷ xs) zero (suc k) y other = refl
got_elsewhere (x ∷ xs) (suc i) zero y other = refl
got_elsewhere (x ∷ xs) (suc i) (suc k) y other = got_elsewhere xs i k y (λ same. other (ap suc same))

pub got_pushed : {X : Type 0} (P : ℕ → X → Type 0) (xs : List X) (last : X) → ((k : ℕ) (y : X) → slice_get xs k ≡ Some y → P k y)
    → P (length xs) last → (k : ℕ) (y : X) → slice_get (xs ++ last ∷ []) k ≡ Some y → P k y
got_pushed P [] last all here zero y there = subst (P 0) (same_Some last y there) here
got_pushed P [] last all here (suc k) y there = absurd (none-some y there)
got_pushed P (x ∷ xs) last all here zero y there = all zero y there
got_pushed P (x ∷ xs) last all here (suc k) y there = got_pushed (λ n z. P (suc n) z) xs last (λ n z. all (suc n) z) here k y there

-- ---- lines

-- a line of two lists
pub line_of_two : (label first second : List ℕ) → (label ++ flat_map number_entry first) ++ numbers_line [] second ≡ numbers_line label (first ++ second)
unfolding numbers_line
line_of_two label first second =
    sym (append_assoc (label ++ flat_map number_entry first) (flat_map number_entry second) newline)
    ∙ ap (λ xs. xs ++ newline)
    (append_assoc label (flat_map number_entry first) (flat_map number_entry second)
    ∙ ap (λ xs. label ++ xs) (sym (flat_map-append number_entry first second)))
