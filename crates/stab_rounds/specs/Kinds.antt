-- The two kinds of rounds of a link, and after how many of them an item is acknowledged.
-- Example: Of a link of capacity 2 five plain rounds acknowledge an item, or one reading round.
-- Source: this project's own.
use Rattle.std.specs.Prelude.{ℕ, ◌+◌, ◌*◌, List}
use Rattle.stab_core.specs.declared.act.LinkAct.{LinkAct}
use Rattle.stab_rounds.specs.declared.round.Awaited.TheVariants as next
use Rattle.stab_rounds.specs.ReadingRounds.{offer, reading_from}
use Rattle.stab_rounds.specs.Rounds.{rounds_from}

-- a plain round is any round
pub data Kind : Type 0 where
  plain : Kind
  reading : Kind

-- the rounds of this kind that these acts complete on a link of capacity `c`
abbrev pub rounds_among : Kind → ℕ → List LinkAct → ℕ
rounds_among plain c acts = rounds_from next.Offer acts
rounds_among reading c acts = reading_from c offer acts

-- from any state this number of them acknowledges an item
abbrev pub rounds_an_item : Kind → ℕ → ℕ
rounds_an_item plain c = 2 * c + 1
rounds_an_item reading c = 1
