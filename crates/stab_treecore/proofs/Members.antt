-- How many places lie before a high one, where none is missing before the last.
use Rattle.std.proofs.Common.{ℕ, zero, suc, ◌+◌, ◌-◌, ◌<◌, ◌≤◌, List, arith}
use Rattle.std.specs.Prelude.{Contains}
use Rattle.stab_core.specs.LinkLaw.{NoneMissingFrom}
use Rattle.stab_core.specs.Picks.{RisesFrom}
use Rattle.stab_core.proofs.ForCallers.{IsAt, member_is_at, lower_is_earlier}
use Rattle.stab_treecore.specs.TreeLaw.{NoneMissingBefore}

-- Where none is missing before the last place, `count` places lie before one that is at least
-- `count` above the first `most_missing` ones.
pub enough_before : (most_missing count i q m : ℕ) (ps : List ℕ) → NoneMissingBefore most_missing ps → RisesFrom 0 ps → Contains ps q
    → most_missing + count ≤ i → i < q → IsAt ps i m → count ≤ m
enough_before most_missing zero i q m ps none_missing rises last high before here = omega arith
enough_before most_missing (suc count) i q m ps none_missing rises last high before here =
    let (k, there) = member_is_at ps (i - 1) (none_missing (i - 1) q (omega arith) (omega arith) last) in
    let counted : count ≤ k = enough_before most_missing count (i - 1) q k ps none_missing rises last (omega arith) (omega arith) there in
    let earlier : k < m = lower_is_earlier 0 ps k m rises there.within here.within (omega (arith, there.is_there, here.is_there)) in
    omega arith

-- The same, where none is missing up to a bound.
pub enough_up_to : (most_missing count bound i m : ℕ) (ps : List ℕ) → NoneMissingFrom most_missing bound ps → RisesFrom 0 ps
    → most_missing + count ≤ i → i < bound → IsAt ps i m → count ≤ m
enough_up_to most_missing zero bound i m ps none_missing rises high below here = omega arith
enough_up_to most_missing (suc count) bound i m ps none_missing rises high below here =
    let (k, there) = member_is_at ps (i - 1) (none_missing (i - 1) (omega arith) (omega arith)) in
    let counted : count ≤ k = enough_up_to most_missing count bound (i - 1) k ps none_missing rises (omega arith) (omega arith) there in
    let earlier : k < m = lower_is_earlier 0 ps k m rises there.within here.within (omega (arith, there.is_there, here.is_there)) in
    omega arith
