-- Agents, whom each may have as its parent, and how far each is from a root.
-- Example: Agent 0 is the root; 1 and 2 have the candidates 0 at cost 1 and each other at cost 3.
-- Then both have distance 1. Without a root they have none, and are as far from one as you like.
-- Source: D. Bertsekas and J. Tsitsiklis, Parallel and Distributed Computation, chapter 4; the lack
-- of a root is this project's.
use Rattle.std.specs.Prelude.{◌≡◌, ℕ, zero, suc, ◌+◌, ◌≤◌, ◌<◌, Bool, IsTrue, Some, slice_get}
use Rattle.std.specs.Prelude.{List, [], ◌∷◌, ◌++◌, Contains}

-- whom an agent may have as its parent, and what it costs to come there
pub record Candidate : Type 0 where
  pub agent : ℕ
  pub cost : ℕ

-- agents, which of them are roots, the candidates of each, and the cost from which on a way is none
pub record Net : Type 0 where
  pub agents : ℕ
  pub is_root : ℕ → Bool
  pub candidates : ℕ → List Candidate
  pub none : ℕ

-- this one has this place in the agent's list
abbrev pub IsAt : Net → ℕ → ℕ → Candidate → Type 0
IsAt net v place c = slice_get (net.candidates v) place ≡ Some c

-- each candidate is an agent, and no way is free
abbrev pub IsNet : Net → Type 0
IsNet net = (v place : ℕ) → v < net.agents → (c : Candidate) → IsAt net v place c
    → (c.agent < net.agents) × (1 ≤ c.cost)

-- a path from the agent to a root, over so many agents, and what it costs
abbrev pub Path : Net → ℕ → ℕ → ℕ → Type 0
Path net zero v cost = IsTrue (net.is_root v) × (cost ≡ 0)
Path net (suc hops) v cost = (place : ℕ) × (c : Candidate) × (rest : ℕ) × IsAt net v place c
    × Path net hops c.agent rest × (cost ≡ rest + c.cost)

-- no root is nearer than this
abbrev pub IsFar : Net → ℕ → ℕ → Type 0
IsFar net far v = (hops cost : ℕ) → Path net hops v cost → far ≤ cost

-- the cost of a shortest path
abbrev pub IsDistance : Net → ℕ → ℕ → Type 0
IsDistance net v distance = ((hops : ℕ) × Path net hops v distance) × IsFar net distance v

-- the names of a way to the agent, over so many others: each is a candidate of the next, and none
-- comes twice
abbrev pub AreNames : Net → ℕ → ℕ → List ℕ → Type 0
AreNames net zero v names = names ≡ v ∷ []
AreNames net (suc hops) v names = (place : ℕ) × (c : Candidate) × (before : List ℕ)
    × IsAt net v place c × AreNames net hops c.agent before × (Contains before v → ⊥)
    × (names ≡ before ++ v ∷ [])
