-- A chain r, a, b of clean links of capacity 1 with four labels, where r publishes 7 and 8; and two
-- faults: the link into b is struck, and a restarts.
-- Source: this project's own.
use Rattle.std.specs.Prelude.{ℕ, List, [], ◌∷◌, ◌++◌, None, Some, false}
use Rattle.stab_core.specs.CounterExamples.{four_labels}
use Rattle.stab_core.specs.declared.act.LinkAct.{LinkAct}
use Rattle.stab_core.specs.declared.act.LinkAct.TheVariants as act
use Rattle.stab_core.specs.declared.start.Start.{Start}
use Rattle.stab_core.specs.Link.{LinkValue, link_at}
use Rattle.stab_core.specs.Replay.{clean_start, initial}
use Rattle.stab_treecore.specs.WholeTree.{WholeTree}
use Rattle.stab_treecore.specs.Changes.{Act, Change, Restart, Strike}

abbrev pub clean_link : LinkValue
clean_link = link_at four_labels (initial clean_start)

abbrev pub chain : WholeTree
chain =
    record {
      published = 7 ∷ 8 ∷ [];
      openings = [] ∷ [] ∷ [] ∷ [];
      parents = None ∷ Some 0 ∷ Some 1 ∷ [];
      links = None ∷ Some clean_link ∷ Some clean_link ∷ [];
    }

abbrev pub on : ℕ → LinkAct → Change
on child its_act = Act (record { child = child; act = its_act })

-- the item that comes next is offered to a node, sent, received and acknowledged
abbrev pub round_into : ℕ → List Change
round_into child =
    on child act.Offer ∷ on child act.SendFrame ∷ on child (act.RecvFrame false)
    ∷ on child act.SendAck ∷ on child (act.RecvAck false) ∷ []

abbrev pub struck_start : Start
struck_start =
    record {
      frames = record { label = 2; item = 99 } ∷ [];
      acks = 0 ∷ [];
      send_label = 0;
      recv_label = 1;
    }

-- a receives 7; the sender of r holds 8, and that of a holds 7; then the link into b is struck
abbrev pub a_strike : List Change
a_strike = round_into 1 ++ on 1 act.Offer ∷ on 2 act.Offer ∷ Strike 2 struck_start ∷ []

-- b receives the stray 99; the acknowledgement of the strike counts for 7; then 8 goes down to b
abbrev pub after_the_strike : List Change
after_the_strike =
    on 2 (act.RecvFrame false) ∷ on 2 (act.RecvAck false) ∷ on 1 act.SendFrame
    ∷ on 1 (act.RecvFrame false) ∷ on 2 act.Offer ∷ on 2 act.SendFrame
    ∷ on 2 (act.RecvFrame false) ∷ []

-- a and b receive 7; the sender of r holds 8; then a restarts with the list 50
abbrev pub before_the_restart : List Change
before_the_restart = round_into 1 ++ round_into 2 ++ on 1 act.Offer ∷ Restart 1 (50 ∷ []) ∷ []

-- 50 goes down to b, and 8 to a
abbrev pub after_a_restart : List Change
after_a_restart =
    on 1 act.SendFrame ∷ on 1 (act.RecvFrame false) ∷ on 2 act.Offer ∷ on 2 act.SendFrame
    ∷ on 2 (act.RecvFrame false) ∷ []
