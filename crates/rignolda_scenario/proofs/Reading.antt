-- The reading rounds of all links, one link after the other.
use Rattle.std.proofs.Common.{◌≡◌, ℕ, zero, suc, ◌<◌, List, [], ◌∷◌, ◌++◌, length, drop, get_or, slice_get, Some, None, ap, sym, ◌∙◌, arith}
use Rattle.stab_frames.specs.Parameters.{Parameters}
use Rattle.stab_rounds.specs.TreePlayed.{reading_round_on}
use Rattle.rignolda_scenario.specs.Played.{reading_round_of}

-- that of the next link comes first
pub reading_next : (children : List ℕ) (params : List Parameters) (k child : ℕ) (own : Parameters) → slice_get children k ≡ Some child
    → k < length params → own ≡ get_or params k own
    → reading_round_of (drop k children) (drop k params)
    ≡ reading_round_on own.capacity child [] ++ reading_round_of (drop (suc k) children) (drop (suc k) params)
reading_next [] params k child own is_child within is = (let never : None ≡ Some child = is_child in cc)
reading_next (x ∷ xs) [] k child own is_child within is = absurd (omega arith)
reading_next (x ∷ xs) (p ∷ ps) zero child own is_child within is =
    let here : x ≡ child = (let same : Some x ≡ Some child = is_child in cc) in
    ap (λ w. reading_round_on p.capacity w [] ++ reading_round_of xs ps) here
    ∙ ap (λ (q : Parameters). reading_round_on q.capacity child [] ++ reading_round_of xs ps) (sym is)
reading_next (x ∷ xs) (p ∷ ps) (suc k) child own is_child within is =
    reading_next xs ps k child own is_child (omega (arith, within)) is
