-- Where the maker begins an item is delivered twice.
use Rattle.std.proofs.Common.{◌≡◌, ℕ, ◌+◌, ◌<◌, ◌≤◌, List, [], ◌∷◌, ◌++◌, length, fold, ap, arith, length-append}
use Rattle.stab_core.specs.LinkLaw.{HalfLaw}
use Rattle.stab_core.proofs.ForCallers.{few_picked}
use Rattle.stab_line.specs.MakerBegins.{maker_step, clean_link, late_acts}

-- more delivered items than the start's frames and the offered list have break the half law
too_many_break : (most_strays : ℕ) (start_items offered : List ℕ) (acked : ℕ) (delivered : List ℕ)
    → length start_items + length offered < length delivered → HalfLaw most_strays start_items offered acked delivered → ⊥
too_many_break most_strays start_items offered acked delivered more (places, half) =
    let strays : length half.strays ≤ length start_items =
    few_picked start_items half.stray_places half.strays half.strays_picked in
    let taken : length half.taken ≤ length offered = few_picked offered places half.taken half.taken_picked in
    let whole : length delivered ≡ length (half.strays ++ half.taken) = ap length half.parts in
    omega (arith, length-append half.strays half.taken)

pub maker_breaks : let s = fold maker_step clean_link late_acts in HalfLaw 1 [] s.offered s.acked s.delivered → ⊥
maker_breaks = too_many_break 1 [] (10 ∷ 11 ∷ []) 1 (10 ∷ 11 ∷ 10 ∷ []) (omega arith)
