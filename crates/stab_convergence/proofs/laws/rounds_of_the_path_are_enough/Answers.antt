use Rattle.std.proofs.Common.{◌+◌, ◌*◌, ap, arith}
use Rattle.std.specs.Option.{option_map_or}
use Rattle.stab_rounds.specs.Kinds.{plain, reading}
use Rattle.stab_rounds.specs.TreeReadingRounds.{reading_rounds_below}
use Rattle.stab_rounds.specs.TreeRounds.{rounds_below}
use Rattle.stab_convergence.proofs.FromStart.{from_start}
use Rattle.stab_convergence.proofs.laws.rounds_of_the_path_are_enough.Goals as goal

pub returns-clause-plain : goal.returns-clause-plain
returns-clause-plain c net changes later capacity rounds node parent is is_child spare is_open few are_rounds enough =
    from_start net is c.link_law_from_any_state.ensures c.sharper_link_law_from_any_state.ensures c.links_pass_on_exactly.ensures plain (2 * capacity + 1)
    changes later rounds node parent is_child spare is_open few are_rounds
    (omega (arith, enough, ap (λ o. option_map_or (rounds_below net capacity) o 0) is_child))

pub returns-clause-reading : goal.returns-clause-reading
returns-clause-reading c net changes later rounds node parent is is_child spare is_open are_rounds enough =
    from_start net is c.link_law_from_any_state.ensures c.sharper_link_law_from_any_state.ensures c.links_pass_on_exactly.ensures reading 1
    changes later rounds node parent is_child spare is_open (λ w above on leads. omega arith) are_rounds
    (omega (arith, enough, ap (λ o. option_map_or (reading_rounds_below net) o 0) is_child))
