-- Runs over messages that take their time, come in any order, twice or never. A round has two
-- parts. In the first one an agent may learn what was said in this round or the one before; in the
-- second one all that is learned was said in this round, and each agent learns of each of its
-- candidates. So a round takes as long as a message may be under way, and then until all have asked
-- all.
-- Example: Each agent asks each candidate once a second, and each question and its answer take a
-- second at most. Then three seconds are a round: in the first one all earlier answers come.
-- Source: A. Uresin and M. Dubois, Parallel Asynchronous Algorithms for Discrete Data, in the
-- Journal of the ACM; their pseudocycles are these rounds.
use Rattle.std.specs.Prelude.{◌≡◌, ℕ, ◌+◌, ◌<◌, ◌⊎◌, false, List, [], ◌∷◌, ◌++◌, fold, ⊤}
use Rattle.std.specs.Prelude.{Option, Some, None}
use Rattle.rignolda_ways.specs.Nets.{Candidate, Net, IsAt, IsDistance}
use Rattle.rignolda_ways.specs.Turns.{Way, Said, Heard, State, Turn, says, after_turn, after_turns}

-- the agent said this way at one of these moments
abbrev pub WasSaid : List Said → ℕ → Way → Type 0
WasSaid [] u way = ⊥
WasSaid (said ∷ moments) u way = (said u ≡ way) ⊎ WasSaid moments u way

-- what is learned is what a candidate said at one of these moments
abbrev pub IsTurn : Net → List Said → Turn → Type 0
IsTurn net moments turn = (c : Candidate) × IsAt net turn.agent turn.place c
    × WasSaid moments c.agent turn.way

-- so in all these turns, at one of these moments or since
abbrev pub AreTurns : Net → List Said → State → List Turn → Type 0
AreTurns net moments s [] = ⊤
AreTurns net moments s (turn ∷ turns) = IsTurn net (says net s ∷ moments) turn
    × AreTurns net (says net s ∷ moments) (after_turn net s turn) turns

-- the moments of these turns
abbrev pub moments : Net → State → List Turn → List Said
moments net s [] = says net s ∷ []
moments net s (turn ∷ turns) = says net s ∷ moments net (after_turn net s turn) turns

-- the agent learns of the candidate at this place
abbrev pub Learns : List Turn → ℕ → ℕ → Type 0
Learns [] v place = ⊥
Learns (turn ∷ turns) v place =
    ((turn.agent ≡ v) × (turn.place ≡ place)) ⊎ Learns turns v place

-- each agent, but for roots, learns of each candidate
abbrev pub AllLearn : Net → List Turn → Type 0
AllLearn net turns = (v place : ℕ) → v < net.agents → net.is_root v ≡ false
    → (c : Candidate) → IsAt net v place c → Learns turns v place

pub record Round : Type 0 where
  pub first : List Turn
  pub second : List Turn

abbrev pub after_first : Net → State → Round → State
after_first net s round = after_turns net s round.first

abbrev pub after_round : Net → State → Round → State
after_round net s round = after_turns net (after_first net s round) round.second

abbrev pub round_moments : Net → State → Round → List Said
round_moments net s round =
    moments net s round.first ++ moments net (after_first net s round) round.second

-- a round after these moments
pub record IsRound (net : Net) (before : List Said) (s : State) (round : Round) : Type 0 where
  pub first : AreTurns net before s round.first
  pub second : AreTurns net (moments net s round.first) (after_first net s round) round.second
  pub all : AllLearn net round.second

abbrev pub after_rounds : Net → State → List Round → State
after_rounds net = fold (after_round net)

-- rounds, and then turns of one that may not be over
abbrev pub IsRun : Net → List Said → State → List Round → List Turn → Type 0
IsRun net before s [] further = AreTurns net before s further
IsRun net before s (round ∷ rounds) further = IsRound net before s round
    × IsRun net (round_moments net s round) (after_round net s round) rounds further

abbrev pub after_run : Net → State → List Round → List Turn → State
after_run net s rounds further = after_turns net (after_rounds net s rounds) further

-- it has a parent, over which a path is as long as its distance
abbrev pub IsOnShortest : Net → State → ℕ → ℕ → Type 0
IsOnShortest net s v distance = (heard : Heard) × (c : Candidate) × (rest : ℕ)
    × (s v ≡ Some heard) × IsAt net v heard.place c × IsDistance net c.agent rest
    × (rest + c.cost ≡ distance)

-- the place of its parent, if it has one
abbrev pub parent_place : Option Heard → Option ℕ
parent_place None = None
parent_place (Some heard) = Some heard.place
