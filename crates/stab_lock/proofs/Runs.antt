-- Runs that are added to others: what they mean, and that neighbours differ as before.
use Rattle.std.proofs.Common.{◌≡◌, ℕ, ◌+◌, ◌-◌, ◌<◌, ◌≤◌, List, [], ◌∷◌, ◌++◌, length, replicate}
use Rattle.std.proofs.Common.{slice_get, refl, sym, subst, ap, ◌∙◌}
use Rattle.std.proofs.lemmas.List.{append_assoc, append-nil, length-append, length-replicate}
use Rattle.stab_lock.specs.declared.run.Run.{Run}
use Rattle.stab_lock.specs.CodesInside.{expand, AreRuns}
use Rattle.stab_lock.specs.History.{IsLast}
use Rattle.stab_lock.proofs.Places.{last_of_second, last_of_run}
use Rattle.stab_lock.proofs.Places.{slice_get-append_left, slice_get-append_right}

-- the events of two lists of runs are those of the first, and then those of the second
pub expand-append : (xs ys : List Run) → expand (xs ++ ys) ≡ expand xs ++ expand ys
expand-append [] ys = refl
expand-append (x ∷ xs) ys =
    ap (λ events. replicate x.count x.event ++ events) (expand-append xs ys)
    ∙ sym (append_assoc (replicate x.count x.event) (expand xs) (expand ys))

-- one more run adds its own events
pub expand_more : (xs : List Run) (x : Run)
    → expand (xs ++ x ∷ []) ≡ expand xs ++ replicate x.count x.event
expand_more xs x =
    expand-append xs (x ∷ []) ∙ ap (λ events. expand xs ++ events) (append-nil (replicate x.count x.event))

-- one more run adds as many events as it counts
pub count_more : (xs : List Run) (x : Run) → length (expand (xs ++ x ∷ [])) ≡ length (expand xs) + x.count
count_more xs x =
    ap length (expand_more xs x)
    ∙ (length-append (expand xs) (replicate x.count x.event)
    ∙ ap (λ n. length (expand xs) + n) (length-replicate x.count x.event))

-- a place in the first runs
pub in_first : (xs ys : List Run) (place : ℕ) → place < length (expand xs)
    → slice_get (expand (xs ++ ys)) place ≡ slice_get (expand xs) place
in_first xs ys place inside =
    ap (λ events. slice_get events place) (expand-append xs ys)
    ∙ slice_get-append_left (expand xs) (expand ys) place inside

-- a place past the first runs is in the others
pub past_first : (xs ys : List Run) (place : ℕ) → length (expand xs) ≤ place
    → slice_get (expand ys) (place - length (expand xs)) ≡ slice_get (expand (xs ++ ys)) place
past_first xs ys place past =
    sym (slice_get-append_right (expand xs) (expand ys) place past)
    ∙ ap (λ events. slice_get events place) (sym (expand-append xs ys))

-- a run that is not empty, and of whose event the others do not end, may follow them
pub runs_more : (xs : List Run) (x : Run) → AreRuns xs → (IsLast x.event (expand xs) → ⊥)
    → 1 ≤ x.count → AreRuns (xs ++ x ∷ [])
runs_more [] x runs differs some = some
runs_more (y ∷ []) x runs differs some = (
  runs,
  (λ same.
      differs (subst (IsLast x.event) (sym (append-nil (replicate y.count y.event)))
      (subst (λ e. IsLast e (replicate y.count y.event)) same (last_of_run [] y.count y.event runs)))),
  some,
)
runs_more (y ∷ z ∷ xs) x runs differs some = (
  runs.0,
  runs.1,
  runs_more (z ∷ xs) x runs.2 (λ last.
      differs (last_of_second (replicate y.count y.event) (expand (z ∷ xs)) x.event last)) some,
)
