-- Scripts: what a link is to lose and to repeat, as four lists of acts, and how its ends take them.
-- Source: this project's profile.
use Rattle.std.specs.Prelude.{ℕ, zero, suc, nat_lt, Bool, ◌||◌, if◌then◌else◌, Result, Ok, Err}
use Rattle.std.specs.Prelude.{List, [], ◌∷◌, drop, length, slice_get, unwrap_or}
use Rattle.stab_acts.specs.declared.act.OutAct.{OutAct}
use Rattle.stab_acts.specs.declared.act.OutAct.TheVariants.{Pass}
use Rattle.stab_acts.specs.declared.act.InAct.{InAct}
use Rattle.stab_acts.specs.declared.act.InAct.TheVariants.{Take}
use Rattle.stab_acts.specs.declared.fault.ScriptFault.{ScriptFault}
use Rattle.stab_acts.specs.declared.fault.ScriptFault.TheVariants.{TooLong}

-- the acts for what goes out, and for what comes in, of either direction of a link
pub record Acts : Type 0 where
  pub frames_out : List OutAct
  pub frames_in : List InAct
  pub acks_out : List OutAct
  pub acks_in : List InAct

abbrev pub acts : List OutAct → List InAct → List OutAct → List InAct → Acts
acts frames_out frames_in acks_out acks_in =
    record {
      frames_out = frames_out;
      frames_in = frames_in;
      acks_out = acks_out;
      acks_in = acks_in;
    }

-- no acts at all
abbrev pub no_acts : Acts
no_acts = acts [] [] [] []

-- the most acts that a list of a script may have
abbrev pub most_acts : ℕ
most_acts = 100000

-- a list of more acts than that
abbrev pub is_long : {A : Type 0} → List A → Bool
is_long acts = nat_lt most_acts (length acts)

-- the script of these acts, if no list is too long
abbrev pub script_of : Acts → Result Acts ScriptFault
script_of script =
    if is_long script.frames_out || (is_long script.frames_in
    || (is_long script.acks_out || is_long script.acks_in))
    then Err TooLong
    else Ok script

-- the acts that one end of a link has still to take: for what it sends, and for what it receives
pub record ActsRemaining : Type 0 where
  pub outs : List OutAct
  pub ins : List InAct

-- the sender sends frames and receives acknowledgements
abbrev pub sender_half : Acts → ActsRemaining
sender_half script = record { outs = script.frames_out; ins = script.acks_in }

-- the receiver sends acknowledgements and receives frames
abbrev pub receiver_half : Acts → ActsRemaining
receiver_half script = record { outs = script.acks_out; ins = script.frames_in }

-- the act for what goes out next: past the end it passes
abbrev pub out_act : List OutAct → OutAct
out_act [] = Pass
out_act (act ∷ acts) = act

-- the act for what comes in next: past the end it is taken
abbrev pub in_act : List InAct → InAct
in_act [] = Take
in_act (act ∷ acts) = act

-- the acts at a place of a list: past the end what goes out passes, and what comes in is taken
abbrev pub nth_out : List OutAct → ℕ → OutAct
nth_out acts n = unwrap_or (slice_get acts n) Pass

abbrev pub nth_in : List InAct → ℕ → InAct
nth_in acts n = unwrap_or (slice_get acts n) Take

-- what remains once an act was taken
abbrev pub after_out : ActsRemaining → ActsRemaining
after_out half = record half { outs = drop 1 half.outs }

abbrev pub after_in : ActsRemaining → ActsRemaining
after_in half = record half { ins = drop 1 half.ins }

-- what remains once this many acts were taken
abbrev pub after_outs : ℕ → ActsRemaining → ActsRemaining
after_outs zero half = half
after_outs (suc n) half = after_outs n (after_out half)

abbrev pub after_ins : ℕ → ActsRemaining → ActsRemaining
after_ins zero half = half
after_ins (suc n) half = after_ins n (after_in half)

-- an act is taken for what goes out, or for what comes in
pub data Taking : Type 0 where
  an_out : Taking
  an_in : Taking

-- what remains once acts were taken in this order
abbrev pub after_takings : List Taking → ActsRemaining → ActsRemaining
after_takings [] half = half
after_takings (an_out ∷ takings) half = after_takings takings (after_out half)
after_takings (an_in ∷ takings) half = after_takings takings (after_in half)

-- how many of them are for what goes out, and for what comes in
abbrev pub outs_among : List Taking → ℕ
outs_among [] = 0
outs_among (an_out ∷ takings) = suc (outs_among takings)
outs_among (an_in ∷ takings) = outs_among takings

abbrev pub ins_among : List Taking → ℕ
ins_among [] = 0
ins_among (an_out ∷ takings) = ins_among takings
ins_among (an_in ∷ takings) = suc (ins_among takings)
