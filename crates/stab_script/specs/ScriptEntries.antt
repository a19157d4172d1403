-- Script entries: what a JSON value says as a script of one link.
-- Source: this project's profile. An entry has texts of letters, an act each, or the numbers of a
-- draw.
use Rattle.std.specs.Prelude.{ℕ, ◌==◌, codes, List, [], ◌∷◌, if◌then◌else◌, Option, Some, None}
use Rattle.std.specs.Prelude.{Bool, true, false}
use Rattle.serde_json.specs.Data.{Data, null, boolean, number, string, array, object}
use Rattle.serde_json.specs.Find.{get, as_str}
use Rattle.stab_json.specs.Values.{◌>>=◌, most_u16, most_u32, whole, capped, pair}
use Rattle.stab_acts.specs.declared.act.OutAct.{OutAct}
use Rattle.stab_acts.specs.declared.act.OutAct.TheVariants.{Pass, Drop, Evict}
use Rattle.stab_acts.specs.declared.act.InAct.{InAct}
use Rattle.stab_acts.specs.declared.act.InAct.TheVariants.{Take, Keep}
use Rattle.stab_script.specs.declared.script_entry.ScriptEntry.{ScriptEntry}
use Rattle.stab_script.specs.declared.script_entry.ScriptEntry.TheVariants.{Lists, Draw}

-- the letters of acts, by their codes
abbrev pub letter_P : ℕ
letter_P = 80

abbrev pub letter_D : ℕ
letter_D = 68

abbrev pub letter_E : ℕ
letter_E = 69

abbrev pub letter_T : ℕ
letter_T = 84

abbrev pub letter_K : ℕ
letter_K = 75

-- P passes, D drops, E evicts
abbrev pub out_letter : ℕ → Option OutAct
out_letter letter =
    if letter == letter_P then Some Pass
    else (if letter == letter_D then Some Drop
    else (if letter == letter_E then Some Evict else None))

-- T takes, K keeps
abbrev pub in_letter : ℕ → Option InAct
in_letter letter =
    if letter == letter_T then Some Take
    else (if letter == letter_K then Some Keep else None)

-- the acts of these letters, if each of them names one
abbrev pub letters : {A : Type 0} → (ℕ → Option A) → List ℕ → Option (List A)
letters act_of [] = Some []
letters act_of (letter ∷ text) =
    act_of letter >>= (λ act. letters act_of text >>= (λ acts. Some (act ∷ acts)))

-- the acts of a text of letters, or of nothing at all, which means no acts
abbrev pub letters_or_absent : {A : Type 0} → (ℕ → Option A) → Option Data → Option (List A)
letters_or_absent act_of None = Some []
letters_or_absent act_of (Some d) = as_str d >>= letters act_of

-- the four lists of an object whose members are texts of letters
abbrev pub lists : Data → Option ScriptEntry
lists d = do
  frames_out ← letters_or_absent out_letter (get (codes "frames_out") d)
  frames_in ← letters_or_absent in_letter (get (codes "frames_in") d)
  acks_out ← letters_or_absent out_letter (get (codes "acks_out") d)
  acks_in ← letters_or_absent in_letter (get (codes "acks_in") d)
  Some (Lists frames_out frames_in acks_out acks_in)

-- the draw of an object with a seed: a number too large for its place is taken as the largest there
abbrev pub draw : Data → Data → Option ScriptEntry
draw seed d = do
  parts ← pair seed
  state ← whole parts.0
  stream ← whole parts.1
  len ← get (codes "length") d >>= capped most_u32
  loss ← get (codes "loss") d >>= capped most_u16
  repeat ← get (codes "repeat") d >>= capped most_u16
  Some (Draw state stream len loss repeat)

-- an object with a seed is drawn; one without has letters
abbrev pub draw_or_lists : Option Data → Data → Option ScriptEntry
draw_or_lists (Some seed) d = draw seed d
draw_or_lists None d = lists d

-- what an entry says; null has no acts
abbrev pub script_entry : Data → Option ScriptEntry
script_entry null = Some (Lists [] [] [] [])
script_entry (object ms) = draw_or_lists (get (codes "seed") (object ms)) (object ms)
script_entry _ = None

-- an object: any other value takes no memory as a script entry
abbrev pub is_object : Data → Bool
is_object (object ms) = true
is_object _ = false
