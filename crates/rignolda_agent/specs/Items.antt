-- Items as agents read them, and what an agent comes to by items. An item stands for all that a
-- frame carries, its body too: so two bodies are never one item.
-- Source: this project's own.
use Rattle.std.specs.Prelude.{◌≡◌, ℕ, true, List, map, Option, Some, None, IfSome}
use Rattle.std.specs.List.{fold}
use Rattle.rignolda_agent.specs.BodySpelling.{Body}
use Rattle.rignolda_agent.specs.Agents.{Agent, hears}
use Rattle.rignolda_agent.specs.Rounds.{is_behind}

-- what an item says, if its body fits it and says anything
abbrev pub Reading : Type 0
Reading = ℕ → Option Body

-- what says nothing changes nothing
abbrev pub hears_read : Agent → Option Body → Agent
hears_read a (Some b) = hears a b
hears_read a None = a

abbrev pub hears_items : Reading → Agent → List ℕ → Agent
hears_items reading agent items = fold hears_read agent (map reading items)

-- the number of the item's body is behind this one, if it says anything
abbrev pub SaysBehind : Reading → ℕ → ℕ → Type 0
SaysBehind reading number item = IfSome (reading item) (λ b. is_behind number b.number ≡ true)
