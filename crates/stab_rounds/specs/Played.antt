-- Events that are rounds of a link and nothing else.
-- Source: this project's own.
use Rattle.std.specs.Prelude.{ℕ, zero, suc, List, [], ◌∷◌, ◌++◌, replicate, false}
use Rattle.stab_core.specs.declared.event.Event.{Event}
use Rattle.stab_core.specs.declared.event.Event.TheVariants.{Offer, SendFrame, RecvFrame}
use Rattle.stab_core.specs.declared.event.Event.TheVariants.{SendAck, RecvAck}

-- one round, in which this item is offered
abbrev pub round_with : ℕ → List Event
round_with item =
    Offer item ∷ SendFrame ∷ RecvFrame false ∷ SendAck ∷ RecvAck false ∷ []

-- `rounds` rounds, each of which offers this item
abbrev pub rounds_with : ℕ → ℕ → List Event
rounds_with item zero = []
rounds_with item (suc rounds) = round_with item ++ rounds_with item rounds

-- one reading round of a link of this capacity, in which this item is offered
abbrev pub reading_round_with : ℕ → ℕ → List Event
reading_round_with c item =
    Offer item ∷ (replicate c (RecvFrame false) ++ (SendFrame ∷ RecvFrame false
    ∷ (replicate c (RecvAck false) ++ (SendAck ∷ RecvAck false ∷ []))))
