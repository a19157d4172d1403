-- A run of two rounds, for an example. Agent 0 is the root; 1 and 2 have each other and the root as
-- candidates, at cost 1. At first agent 1 has the parent 2 and has heard cost 0 of it, which nobody
-- said, so it says 1. In the first round it learns that the root says 0, which is no better, and
-- then that 2 says 128. In the second one it takes the root.
use Rattle.std.specs.Prelude.{ℕ, ◌==◌, if◌then◌else◌, false, List, [], ◌∷◌, Some, None}
use Rattle.rignolda_ways.specs.Nets.{Net}
use Rattle.rignolda_ways.specs.Turns.{State, Turn}
use Rattle.rignolda_ways.specs.Runs.{Round}

abbrev pub three : Net
three = record {
  agents = 3;
  is_root = λ v. v == 0;
  candidates = λ v. record { agent = if v == 1 then 2 else 1; cost = 1 }
      ∷ record { agent = 0; cost = 1 } ∷ [];
  none = 128;
}

abbrev pub forged : State
forged = λ v. if v == 1 then Some (record { place = 0; way = record { cost = 0; names = [] } })
    else None

-- the agent learns that the candidate at this place said this
abbrev pub learns : ℕ → ℕ → ℕ → List ℕ → Turn
learns agent place cost names = record {
  agent = agent;
  place = place;
  way = record { cost = cost; names = names };
  is_sole = false;
  has_children = false;
  was_in_circle = false;
  head_is_smaller = false;
}

-- agent 1 learns of the root and then of 2, and 2 of 1 and then of the root
abbrev pub asks : ℕ → List ℕ → ℕ → List ℕ → Round
asks cost names other others = record {
  first = [];
  second = learns 1 1 0 (0 ∷ []) ∷ learns 1 0 cost names ∷ learns 2 0 other others
      ∷ learns 2 1 0 (0 ∷ []) ∷ [];
}

abbrev pub unlucky : Round
unlucky = asks 128 (2 ∷ []) 1 (1 ∷ [])

abbrev pub second : Round
second = asks 1 (0 ∷ 2 ∷ []) 1 (0 ∷ 1 ∷ [])
