-- A run of one round, for an example. Agents 0 and 1 have each other as candidates, at cost 1, and
-- as parents, but have heard no name yet. Each of them learns what the other said at first, which
-- does not have its own name.
use Rattle.std.specs.Prelude.{ℕ, ◌==◌, if◌then◌else◌, false, [], ◌∷◌, Some}
use Rattle.rignolda_ways.specs.Nets.{Net}
use Rattle.rignolda_ways.specs.Turns.{State}
use Rattle.rignolda_ways.specs.Runs.{Round}
use Rattle.rignolda_ways.specs.TwoRounds.{learns}

abbrev pub two : Net
two = record {
  agents = 2;
  is_root = λ v. false;
  candidates = λ v. record { agent = if v == 0 then 1 else 0; cost = 1 } ∷ [];
  none = 128;
}

abbrev pub unheard : State
unheard = λ v. Some (record { place = 0; way = record { cost = 0; names = [] } })

abbrev pub each_other : ℕ → ℕ
each_other i = if i == 1 then 1 else 0

-- both learn what the other said before
abbrev pub crossed : Round
crossed = record {
  first = [];
  second = learns 0 0 1 (1 ∷ []) ∷ learns 1 0 1 (0 ∷ []) ∷ [];
}
