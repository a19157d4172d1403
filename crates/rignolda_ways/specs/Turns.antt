-- What agents say and learn. Each keeps the way that its parent said last, and says that way,
-- longer by itself. In a turn it learns what one candidate has said at some time, and answers that.
-- Example: Agent 1 has the candidates 0, a root, and 2, each at cost 1, and no parent. It learns
-- that 2 said cost 4 and the names 0, 2: now 2 is its parent, and it says 5 and 0, 2, 1. It learns
-- that 0 said cost 0 and the name 0: now 0 is its parent, and it says 1 and 0, 1.
-- Source: D. Bertsekas and J. Tsitsiklis, Parallel and Distributed Computation, chapter 6; parents
-- and names are this project's.
use Rattle.std.specs.Prelude.{◌≡◌, ℕ, ◌+◌, ◌<◌, Bool, false, ◌==◌, if◌then◌else◌, List, [], ◌∷◌}
use Rattle.std.specs.Prelude.{◌++◌, length, fold, Option, Some, None, is_some, slice_get}
use Rattle.std.specs.List.{list_any}
use Rattle.rignolda_ways.specs.declared.asked.Asked.{Asked}
use Rattle.rignolda_ways.specs.declared.asked.Answer.{Answer}
use Rattle.rignolda_ways.specs.declared.asked.Answer.TheVariants.{Takes, Keeps, Leaves}
use Rattle.rignolda_ways.specs.Nets.{Candidate, Net, IsAt}
use Rattle.rignolda_ways.specs.Answers.{over, answer_of}

-- what an agent says: what it costs to come to a root, and the names from there to itself
pub record Way : Type 0 where
  pub cost : ℕ
  pub names : List ℕ

-- what all agents say at one moment
abbrev pub Said : Type 0
Said = ℕ → Way

-- the place of a parent in the list, and what it said last
pub record Heard : Type 0 where
  pub place : ℕ
  pub way : Way

-- what each agent has heard of its parent, if it has one
abbrev pub State : Type 0
State = ℕ → Option Heard

-- beyond the list a way costs too much
abbrev pub price_of : ℕ → Option Candidate → ℕ
price_of none None = none + none
price_of none (Some c) = c.cost

abbrev pub price_at : Net → ℕ → ℕ → ℕ
price_at net v place = price_of net.none (slice_get (net.candidates v) place)

-- what an agent says that is no root
abbrev pub told : Net → ℕ → Option Heard → Way
told net v None = record { cost = net.none; names = v ∷ [] }
told net v (Some heard) = record {
  cost = over net.none heard.way.cost (price_at net v heard.place);
  names = heard.way.names ++ v ∷ [];
}

abbrev pub says : Net → State → Said
says net s v = if net.is_root v then record { cost = 0; names = v ∷ [] } else told net v (s v)

-- An agent learns the way that the candidate at this place has said. The flags may be any.
pub record Turn : Type 0 where
  pub agent : ℕ
  pub place : ℕ
  pub way : Way
  pub is_sole : Bool
  pub has_children : Bool
  pub was_in_circle : Bool
  pub head_is_smaller : Bool

abbrev pub is_place : ℕ → Option Heard → Bool
is_place place None = false
is_place place (Some heard) = heard.place == place

abbrev pub asked : Net → State → Turn → Asked
asked net s turn = record {
  said = turn.way.cost;
  price = price_at net turn.agent turn.place;
  names = length turn.way.names;
  has_own_name = list_any (λ name. name == turn.agent) turn.way.names;
  own = (says net s turn.agent).cost;
  has_parent = is_some (s turn.agent);
  is_parent = is_place turn.place (s turn.agent);
  is_sole = turn.is_sole;
  has_children = turn.has_children;
  was_in_circle = turn.was_in_circle;
  head_is_smaller = turn.head_is_smaller;
}

abbrev pub after_answer : Answer → Heard → Option Heard → Option Heard
after_answer Takes new old = Some new
after_answer (Keeps why) new old = old
after_answer (Leaves why) new old = None

abbrev pub after_turn : Net → State → Turn → State
after_turn net s turn = λ v. if v == turn.agent
    then after_answer (answer_of net.none (asked net s turn))
    (record { place = turn.place; way = turn.way }) (s v) else s v

abbrev pub after_turns : Net → State → List Turn → State
after_turns net = fold (after_turn net)

-- whoever is no root has its parent in its list, or has none
abbrev pub HavePlaces : Net → State → Type 0
HavePlaces net s = (v : ℕ) → v < net.agents → net.is_root v ≡ false → (heard : Heard)
    → s v ≡ Some heard → (c : Candidate) × IsAt net v heard.place c
