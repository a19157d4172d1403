-- Links by their setups: as many as there are starts, each with the parameters and the start at its
-- own place.
use Rattle.std.proofs.Common.{◌≡◌, ℕ, zero, suc, ◌<◌, List, [], ◌∷◌, length, get_or, All, refl, ap, sym, ◌∙◌, subst, arith}
use Rattle.std.proofs.lemmas.List.Elements.{All-cons, All-head, All-nil, All-tail}
use Rattle.stab_frames.specs.Parameters.{Parameters}
use Rattle.stab_core.specs.declared.start.Start.{Start}
use Rattle.stab_core.specs.LinkSetup.{CanBegin, LinkSetup, setup, setups}

-- there are as many links as starts
pub as_many_setups : (params : List Parameters) (starts : List Start) → length params ≡ length starts → length (setups params starts) ≡ length starts
as_many_setups [] [] same = refl
as_many_setups [] (start ∷ starts) same = absurd (omega arith)
as_many_setups (p ∷ params) [] same = absurd (omega arith)
as_many_setups (p ∷ params) (start ∷ starts) same = ap suc (as_many_setups params starts (omega arith))

-- a link has the parameters and the start at its own place
pub setup_at : (params : List Parameters) (starts : List Start) (i : ℕ) (p : Parameters) (start : Start) → i < length params → i < length starts
    → p ≡ get_or params i p → start ≡ get_or starts i start → setup p start ≡ get_or (setups params starts) i (setup p start)
setup_at [] starts i p start in_params in_starts has_params begins = absurd (omega arith)
setup_at (q ∷ params) [] i p start in_params in_starts has_params begins = absurd (omega arith)
setup_at (q ∷ params) (s ∷ starts) zero p start in_params in_starts has_params begins = ap (λ x. setup x start) has_params ∙ ap (λ x. setup q x) begins
setup_at (q ∷ params) (s ∷ starts) (suc i) p start in_params in_starts has_params begins =
    setup_at params starts i p start (omega arith) (omega arith) has_params begins

-- and where all can begin, it can
pub can_begin_at : (params : List Parameters) (starts : List Start) (i : ℕ) (p : Parameters) (start : Start) → i < length params → i < length starts
    → p ≡ get_or params i p → start ≡ get_or starts i start → All CanBegin (setups params starts) → CanBegin (setup p start)
can_begin_at [] starts i p start in_params in_starts has_params begins all = absurd (omega arith)
can_begin_at (q ∷ params) [] i p start in_params in_starts has_params begins all = absurd (omega arith)
can_begin_at (q ∷ params) (s ∷ starts) zero p start in_params in_starts has_params begins all =
    subst (λ x. CanBegin (setup p x)) (sym begins)
    (subst (λ x. CanBegin (setup x s)) (sym has_params) (All-head CanBegin (setup q s) (setups params starts) all))
can_begin_at (q ∷ params) (s ∷ starts) (suc i) p start in_params in_starts has_params begins all =
    can_begin_at params starts i p start (omega arith) (omega arith) has_params begins (All-tail CanBegin (setup q s) (setups params starts) all)

-- what holds of all parameters holds of those of all links
pub all_have : (P : Parameters → Type 0) (params : List Parameters) (starts : List Start) → All P params
    → All (λ (link : LinkSetup). P link.params) (setups params starts)
all_have P [] starts all = All-nil (λ (link : LinkSetup). P link.params)
all_have P (p ∷ params) [] all = All-nil (λ (link : LinkSetup). P link.params)
all_have P (p ∷ params) (start ∷ starts) all =
    All-cons (λ (link : LinkSetup). P link.params) (setup p start) (setups params starts) (All-head P p params all)
    (all_have P params starts (All-tail P p params all))
