-- Rings of parents: whoever follows parents comes back to where it began. What is learned may be
-- old, so a ring may be there for a while.
-- Example: Agents 1 and 2 have each other as their parents, and neither has heard its own name. One
-- of them takes the way that its parent says, and so says both names. The other one learns that way
-- and leaves its parent.
-- Source: the names of a way are this project's.
use Rattle.std.specs.Prelude.{◌≡◌, ℕ, suc, ◌≤◌, ◌<◌, false, List, [], ◌∷◌, Some}
use Rattle.rignolda_ways.specs.Nets.{Candidate, Net, IsAt}
use Rattle.rignolda_ways.specs.Turns.{Heard, State, Turn, after_turn}
use Rattle.rignolda_ways.specs.Runs.{Round, after_first, after_round}

-- the agent is no root, and has the other as its parent
abbrev pub HasParent : Net → State → ℕ → ℕ → Type 0
HasParent net s v u = (heard : Heard) × (c : Candidate) × (v < net.agents)
    × (net.is_root v ≡ false) × (s v ≡ Some heard) × IsAt net v heard.place c × (c.agent ≡ u)

-- so many steps, each from an agent to its parent, lead back to where they began
abbrev pub IsRing : Net → (ℕ → ℕ) → ℕ → State → Type 0
IsRing net ring steps s = (1 ≤ steps) × (ring steps ≡ ring 0)
    × ((i : ℕ) → i < steps → HasParent net s (ring i) (ring (suc i)))

-- this holds before these turns and after each of them
abbrev pub StaysInTurns : Net → (State → Type 0) → State → List Turn → Type 0
StaysInTurns net holds s [] = holds s
StaysInTurns net holds s (turn ∷ turns) = holds s
    × StaysInTurns net holds (after_turn net s turn) turns

-- and so in all turns of these rounds
abbrev pub Stays : Net → (State → Type 0) → State → List Round → Type 0
Stays net holds s [] = holds s
Stays net holds s (round ∷ rounds) = StaysInTurns net holds s round.first
    × StaysInTurns net holds (after_first net s round) round.second
    × Stays net holds (after_round net s round) rounds
