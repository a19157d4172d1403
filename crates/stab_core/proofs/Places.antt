-- Lists of places that never fall, and lists of places where some are missing and others repeated.
use Rattle.std.proofs.Common.{ℕ, ◌+◌, ◌≤◌, List, [], ◌∷◌, ◌++◌, arith}
use Rattle.stab_core.specs.Picks.{AllBelow}
use Rattle.stab_core.proofs.InOrder.{InOrder, nothing, skip, repeat}

-- the places never fall, and the first is no lower than this one
abbrev pub NeverFalls : ℕ → List ℕ → Type 0
NeverFalls lowest [] = Unit {0}
NeverFalls lowest (v ∷ vs) = (lowest ≤ v) × NeverFalls v vs

-- a lower place may be named as the lowest
pub NeverFalls-lower : (low high : ℕ) (vs : List ℕ) → low ≤ high → NeverFalls high vs → NeverFalls low vs
NeverFalls-lower low high [] lower never_falls = tt
NeverFalls-lower low high (v ∷ vs) lower never_falls = (omega arith, never_falls.1)

-- places that never fall do not where some are missing and others repeated
pub NeverFalls-in_order : (low : ℕ) {vs ws : List ℕ} → InOrder vs ws → NeverFalls low vs → NeverFalls low ws
NeverFalls-in_order low nothing never_falls = tt
NeverFalls-in_order low (skip {x = v} {ys = ws} in_order) never_falls =
    NeverFalls-lower low v ws never_falls.0 (NeverFalls-in_order v in_order never_falls.1)
NeverFalls-in_order low (repeat {x = v} in_order) never_falls =
    (never_falls.0, NeverFalls-in_order v in_order (omega arith, never_falls.1))

-- a place that is no lower than all others may come last
pub NeverFalls-push : (low v : ℕ) (vs : List ℕ) → low ≤ v → AllBelow (v + 1) vs → NeverFalls low vs
    → NeverFalls low (vs ++ v ∷ [])
NeverFalls-push low v [] lower below never_falls = (lower, tt)
NeverFalls-push low v (w ∷ vs) lower below never_falls =
    (never_falls.0, NeverFalls-push w v vs (omega (arith, below.0)) below.1 never_falls.1)

-- places below a bound are below it where some are missing and others repeated
pub AllBelow-in_order : (bound : ℕ) {vs ws : List ℕ} → InOrder vs ws → AllBelow bound vs → AllBelow bound ws
AllBelow-in_order bound nothing below = tt
AllBelow-in_order bound (skip in_order) below = AllBelow-in_order bound in_order below.1
AllBelow-in_order bound (repeat in_order) below = (below.0, AllBelow-in_order bound in_order below)
