-- How many acts rounds of all links are.
use Rattle.std.proofs.Common.{◌≡◌, ℕ, suc, zero, ◌+◌, ◌*◌, List, [], ◌∷◌, ◌++◌, Option, Some, None, false, length, replicate, refl, sym, zero-mul, suc-mul, arith}
use Rattle.std.proofs.lemmas.List.{length-append, length-map, length-replicate}
use Rattle.stab_core.specs.declared.act.LinkAct.TheVariants.{SendFrame, RecvFrame, SendAck, RecvAck}
use Rattle.stab_treecore.specs.declared.change.Change.TheVariants.{Act}
use Rattle.stab_frames.specs.Parameters.{Parameters}
use Rattle.stab_rounds.specs.TreePlayed.{act_on, reading_round_on, round_from}
use Rattle.stab_tree.specs.Links.{links_from}
use Rattle.stab_treecore.specs.declared.event.TreeEvent.{TreeEvent}
use Rattle.rignolda_scenario.specs.Played.{acts, reading_round_of, repeated}

-- a round is five acts on each link
pub round_acts : (w v : ℕ) (parents : List (Option ℕ)) → length (round_from w parents) ≡ 5 * length (links_from v parents)
round_acts w v [] = refl
round_acts w v (None ∷ parents) = round_acts (w + 1) (suc v) parents
round_acts w v (Some p ∷ parents) = omega (arith, round_acts (w + 1) (suc v) parents)

-- how many acts a reading round of links of these parameters is
abbrev pub reading_sum : List Parameters → ℕ
reading_sum [] = 0
reading_sum (own ∷ params) = 5 + 2 * own.capacity + reading_sum params

one_reading : (child c : ℕ) → length (reading_round_on c child []) ≡ 5 + 2 * c
one_reading child c =
    let frames = replicate c (act_on child (RecvFrame false)) in
    let acks = replicate c (act_on child (RecvAck false)) in
    let last = act_on child SendAck ∷ act_on child (RecvAck false) ∷ [] in
    omega (
      arith,
      length-append frames (act_on child SendFrame ∷ act_on child (RecvFrame false) ∷ (acks ++ last)),
      length-append acks last,
      length-replicate c (act_on child (RecvFrame false)),
      length-replicate c (act_on child (RecvAck false)),
    )

pub reading_acts : (children : List ℕ) (params : List Parameters) → length children ≡ length params
    → length (reading_round_of children params) ≡ reading_sum params
reading_acts [] [] same = refl
reading_acts [] (own ∷ params) same = absurd (omega (arith, same))
reading_acts (child ∷ children) [] same = absurd (omega (arith, same))
reading_acts (child ∷ children) (own ∷ params) same =
    omega (
      arith,
      length-append (reading_round_on own.capacity child []) (reading_round_of children params),
      one_reading child own.capacity,
      reading_acts children params (omega (arith, same)),
    )

-- these acts so many times
pub repeated_acts : (times : ℕ) (events : List TreeEvent) → length (repeated times events) ≡ times * length events
repeated_acts zero events = sym (zero-mul (length events))
repeated_acts (suc times) events =
    omega (
      arith,
      length-append (acts events) (repeated times events),
      length-map events Act,
      repeated_acts times events,
      suc-mul times (length events),
    )
