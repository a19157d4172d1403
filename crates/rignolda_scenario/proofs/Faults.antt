-- A step that is no fault is the last fault of no node.
use Rattle.std.proofs.Common.{◌≡◌, ℕ, zero, suc, ◌<◌, List, [], ◌∷◌, ◌+◌, ◌≤◌, length, take, get_or, Option, Bool, true, false, if◌then◌else◌, add-one, refl, sym, ◌∙◌, ap, arith}
use Rattle.stab_treecore.specs.declared.change.Change.TheVariants.{Act, Publish, Strike, Restart}
use Rattle.rignolda_scenario.specs.LastFault.{hits, is_fault, last_after, last_fault}
use Rattle.rignolda_scenario.specs.declared.step.Step.{Step}
use Rattle.rignolda_scenario.specs.declared.step.Step.TheVariants.{One, Rounds, ReadingRounds}

-- it hits no node
no_hit : (ps : List (Option ℕ)) (node : ℕ) (s : Step) → is_fault s ≡ false → hits ps node s ≡ false
no_hit ps node (One (Act e)) not = refl
no_hit ps node (One (Publish items)) not = refl
no_hit ps node (One (Strike child start)) not = absurd (cc)
no_hit ps node (One (Restart other list)) not = absurd (cc)
no_hit ps node (Rounds count) not = refl
no_hit ps node (ReadingRounds count) not = refl

-- so one more leaves the last fault as it was
pub one_more_spares : (ps : List (Option ℕ)) (node count last : ℕ) (steps : List Step) (i : ℕ) (s : Step) → i < length steps → s ≡ get_or steps i s → is_fault s ≡ false
    → last_after ps node count last (take (suc i) steps) ≡ last_after ps node count last (take i steps)
one_more_spares ps node count last [] i s within is not = absurd (omega arith)
one_more_spares ps node count last (x ∷ xs) zero s within is not = rw (no_hit ps node x (ap is_fault (sym is) ∙ not)) refl
one_more_spares ps node count last (x ∷ xs) (suc i) s within is not =
    one_more_spares ps node (suc count) (if hits ps node x then suc count else last) xs i s (omega (arith, within)) is not

-- and the last fault of each node is still within those up to the last of any
pub next_within : (b : Bool) (last number i now : ℕ) (steps : List Step) (s : Step) → is_fault s ≡ b → i < length steps → s ≡ get_or steps i s → now ≡ (if b then number else last) → number ≡ i + 1 → last ≤ i
    → ((ps : List (Option ℕ)) (node : ℕ) → last_fault ps node (take last steps) ≡ last_fault ps node (take i steps))
    → (now ≤ i + 1) × ((ps : List (Option ℕ)) (node : ℕ) → last_fault ps node (take now steps) ≡ last_fault ps node (take (i + 1) steps))
next_within true last number i now steps s is inside at made counted few same =
    (omega (arith, made, counted), λ ps node. ap (λ n. last_fault ps node (take n steps)) (made ∙ counted))
next_within false last number i now steps s is inside at made counted few same = (
  omega (arith, made, few),
  λ ps node. ap (λ n. last_fault ps node (take n steps)) made
      ∙ (same ps node ∙ (sym (one_more_spares ps node 0 0 steps i s inside at is) ∙ ap (λ n. last_fault ps node (take n steps)) (sym (add-one i)))),
)
