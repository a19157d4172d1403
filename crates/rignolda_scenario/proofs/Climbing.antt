-- Looking for a node on a path, one node further up each time.
use Rattle.std.proofs.Common.{◌≡◌, ℕ, suc, ◌==◌, List, Option, Some, true, false, if◌then◌else◌, ap, ◌∙◌}
use Rattle.std.specs.Option.{option_map_or}
use Rattle.stab_tree.specs.Nodes.{parent_at}
use Rattle.rignolda_scenario.specs.LastFault.{is_within}

-- another node is not this one, so it is looked for above
pub further_up : (ps : List (Option ℕ)) (count other at above : ℕ) → (at == other) ≡ false → parent_at ps at ≡ Some above
    → is_within ps (suc count) other at ≡ is_within ps count other above
further_up ps count other at above not is =
    ap (λ b. if b then true else option_map_or (is_within ps count other) (parent_at ps at) false) not
    ∙ ap (λ o. option_map_or (is_within ps count other) o false) is
