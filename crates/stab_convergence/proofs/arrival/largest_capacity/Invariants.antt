use Rattle.std.proofs.Common.{◌≡◌, ℕ, ◌<◌, ◌≤◌, drop, map, max, slice_index_or}
use Rattle.stab_frames.specs.Parameters.{Parameters}
use Rattle.stab_convergence.specs.Greatest.{greatest}
use Rattle.stab_convergence.proofs.arrival.largest_capacity.Given as goal

-- none of the links so far is larger; and the greatest so far, or of those to come, is that of all
abbrev pub invariant-loop-own : goal.invariant-loop-own
invariant-loop-own l =
    ((k : ℕ) (other : Parameters) → k < l.own-index → (slice_index_or l.params k other).capacity ≤ l.largest)
    × (max l.largest (greatest (map (λ (p : Parameters). p.capacity) (drop l.own-index l.params)))
    ≡ greatest (map (λ (p : Parameters). p.capacity) l.params))
