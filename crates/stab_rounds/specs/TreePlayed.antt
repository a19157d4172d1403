-- A schedule that is made of rounds and nothing else: in each, every link has its own round, in
-- file order. Source: this project's own.
use Rattle.std.specs.Prelude.{ℕ, zero, suc, ◌+◌, List, [], ◌∷◌, ◌++◌, Option, Some, None, false}
use Rattle.std.specs.Prelude.{replicate}
use Rattle.stab_core.specs.declared.act.LinkAct.{LinkAct}
use Rattle.stab_core.specs.declared.act.LinkAct.TheVariants.{Offer, SendFrame, RecvFrame, SendAck}
use Rattle.stab_core.specs.declared.act.LinkAct.TheVariants.{RecvAck}
use Rattle.stab_treecore.specs.declared.event.TreeEvent.{TreeEvent}

-- an act on the link into this node
abbrev pub act_on : ℕ → LinkAct → TreeEvent
act_on child a = record { child = child; act = a }

-- a round of the link into this node, and then these events
abbrev pub round_on : ℕ → List TreeEvent → List TreeEvent
round_on child rest =
    act_on child Offer ∷ act_on child SendFrame ∷ act_on child (RecvFrame false)
    ∷ act_on child SendAck ∷ act_on child (RecvAck false) ∷ rest

-- a round of each link into these nodes, the first of which has this number
abbrev pub round_from : ℕ → List (Option ℕ) → List TreeEvent
round_from node [] = []
round_from node (None ∷ parents) = round_from (node + 1) parents
round_from node (Some parent ∷ parents) = round_on node (round_from (node + 1) parents)

-- `rounds` rounds of all links
abbrev pub play : List (Option ℕ) → ℕ → List TreeEvent
play parents zero = []
play parents (suc rounds) = round_from 0 parents ++ play parents rounds

-- a reading round of the link into this node, which takes `c` messages before it sends, and
-- then these events
abbrev pub reading_round_on : ℕ → ℕ → List TreeEvent → List TreeEvent
reading_round_on c child rest =
    act_on child Offer ∷ (replicate c (act_on child (RecvFrame false))
    ++ act_on child SendFrame ∷ act_on child (RecvFrame false)
    ∷ (replicate c (act_on child (RecvAck false))
    ++ act_on child SendAck ∷ act_on child (RecvAck false) ∷ rest))

-- one of each link into these nodes, the first of which has this number
abbrev pub reading_round_from : ℕ → ℕ → List (Option ℕ) → List TreeEvent
reading_round_from c node [] = []
reading_round_from c node (None ∷ parents) = reading_round_from c (node + 1) parents
reading_round_from c node (Some parent ∷ parents) =
    reading_round_on c node (reading_round_from c (node + 1) parents)

-- `rounds` reading rounds of all links
abbrev pub play_reads : ℕ → List (Option ℕ) → ℕ → List TreeEvent
play_reads c parents zero = []
play_reads c parents (suc rounds) = reading_round_from c 0 parents ++ play_reads c parents rounds
