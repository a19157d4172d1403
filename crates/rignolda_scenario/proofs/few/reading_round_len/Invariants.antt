use Rattle.std.proofs.Common.{◌≡◌, ◌≤◌, ◌+◌, ◌*◌, drop}
use Rattle.rignolda_scenario.proofs.Lengths.{reading_sum}
use Rattle.rignolda_scenario.proofs.few.reading_round_len.Given as goal

-- the acts so far and those of the remaining links are all of them, and at most 133 for each link
abbrev pub invariant-loop-own : goal.invariant-loop-own
invariant-loop-own l =
    (l.acts + reading_sum (drop l.own-index l.job.params) ≡ reading_sum l.job.params)
    × (l.acts ≤ 133 * l.own-index)
