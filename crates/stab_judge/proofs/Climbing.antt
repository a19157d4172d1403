-- Sums along a path, from a node upwards, and the most that one link of it adds.
use Rattle.std.proofs.Common.{◌≡◌, ℕ, zero, suc, ◌+◌, ◌-◌, ◌*◌, ◌≤◌, max, List, Option, Some, None, ap, sym, ◌∙◌, subst, arith}
use Rattle.std.proofs.Math.Nat.{le-max_right, max-eq_left}
use Rattle.std.specs.Option.{option_map_or}
use Rattle.stab_tree.specs.Nodes.{parent_at}
use Rattle.stab_treecore.specs.Paths.{sum_above}
use Rattle.stab_treecore.specs.SharperLaw.{peak_above}

-- the sum so far, and what is still above
abbrev pub Climbing : List (Option ℕ) → (ℕ → ℕ) → ℕ → ℕ → ℕ → ℕ → Type 0
Climbing parents number left at sum total = sum + sum_above parents number left at ≡ total

-- one node further up
pub climbed : (parents : List (Option ℕ)) (number : ℕ → ℕ) (left more at up sum total : ℕ) → left ≡ suc more
    → parent_at parents at ≡ Some up → Climbing parents number left at sum total → Climbing parents number more up (sum + number at) total
climbed parents number left more at up sum total one is_child so_far =
    let here : sum + sum_above parents number (suc more) at ≡ total =
    subst (λ (n : ℕ). sum + sum_above parents number n at ≡ total) one so_far in
    omega (arith, here, ap (λ o. option_map_or (sum_above parents number more) o 0) is_child)

-- what is added so far, and the most that one of these links or one above adds to it
abbrev pub PeakClimbing : List (Option ℕ) → (ℕ → ℕ) → ℕ → ℕ → ℕ → ℕ → ℕ → Type 0
PeakClimbing parents capacity left at paid more total =
    max (peak_above parents capacity left at) (paid + more + sum_above parents (λ w. capacity w + 1) left at) ≡ total

-- at the node itself nothing is added
pub not_climbed : (parents : List (Option ℕ)) (capacity : ℕ → ℕ) (count node : ℕ)
    → PeakClimbing parents capacity count node 0 0 (peak_above parents capacity count node)
not_climbed parents capacity count node = max-eq_left (omega (arith, no_more count))
  where
    no_more : (count : ℕ) → sum_above parents (λ w. capacity w + 1) count node ≤ peak_above parents capacity count node
    no_more zero = omega arith
    no_more (suc count) =
        omega (
          arith,
          le-max_right (option_map_or (peak_above parents capacity count) (parent_at parents node) 0)
              (option_map_or (sum_above parents (λ w. capacity w + 1) count) (parent_at parents node) 0 + (2 * capacity node + 1)),
        )

-- one node further up
pub peak_climbed : (parents : List (Option ℕ)) (capacity : ℕ → ℕ) (left rest at up paid more total : ℕ) → left ≡ suc rest
    → parent_at parents at ≡ Some up → PeakClimbing parents capacity left at paid more total
    → PeakClimbing parents capacity rest up (paid + (capacity at + 1)) (max more (capacity at - paid)) total
peak_climbed parents capacity left rest at up paid more total one is_child so_far =
    let c : ℕ = capacity at in
    let peak : ℕ = peak_above parents capacity rest up in
    let sum : ℕ = sum_above parents (λ w. capacity w + 1) rest up in
    let here : max (max peak (sum + (2 * c + 1))) (paid + more + (c + 1 + sum)) ≡ total =
    subst (λ (o : Option ℕ). max (max (option_map_or (peak_above parents capacity rest) o 0)
    (option_map_or (sum_above parents (λ w. capacity w + 1) rest) o 0 + (2 * c + 1)))
    (paid + more + (c + 1 + option_map_or (sum_above parents (λ w. capacity w + 1) rest) o 0)) ≡ total) is_child
    (subst (λ (n : ℕ). PeakClimbing parents capacity n at paid more total) one so_far) in
    omega (arith, here)
