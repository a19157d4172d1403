-- Draws: the acts that a random script makes of the words of a generator.
-- Source: this project's profile, over the streams of `rand_core`; `from_seed` takes one of PCG32.
use Rattle.std.specs.Prelude.{ℕ, zero, suc, ◌%◌, nat_lt, ◌||◌, if◌then◌else◌}
use Rattle.std.specs.Prelude.{List, [], ◌∷◌, map, Option, Some, None, Result, Ok}
use Rattle.rand_core.specs.Stream.{Stream, next_u32}
use Rattle.rand_core.specs.Steps.{stream_of, steps_u32}
use Rattle.rand_pcg.specs.Lcg.{started, increment_of}
use Rattle.rand_pcg.specs.Pcg.{multiplier_64, pcg32}
use Rattle.stab_json.specs.Checks.{◌>>◌}
use Rattle.stab_acts.specs.declared.act.OutAct.{OutAct}
use Rattle.stab_acts.specs.declared.act.OutAct.TheVariants.{Pass, Drop}
use Rattle.stab_acts.specs.declared.act.InAct.{InAct}
use Rattle.stab_acts.specs.declared.act.InAct.TheVariants.{Take, Keep}
use Rattle.stab_acts.specs.declared.fault.ScriptFault.{ScriptFault}
use Rattle.stab_acts.specs.declared.fault.ScriptFault.TheVariants.{TooLong, RateOutOfRange}
use Rattle.stab_acts.specs.Scripts.{Acts, acts, most_acts}

-- the next n words of 32 bits, and the stream that they leave
unfoldable pub words : ℕ → Stream → List ℕ
words zero s = []
words (suc n) s = (next_u32 s).0 ∷ words n (next_u32 s).1

unfoldable pub after_words : ℕ → Stream → Stream
after_words zero s = s
after_words (suc n) s = after_words n (next_u32 s).1

-- a rate is a number of words in a thousand, so the largest is this
abbrev pub most_rate : ℕ
most_rate = 1000

-- what goes out is dropped at this rate, and never evicts
abbrev pub out_of_word : ℕ → ℕ → OutAct
out_of_word loss word = if nat_lt (word % most_rate) loss then Drop else Pass

-- what comes in is kept at this rate
abbrev pub in_of_word : ℕ → ℕ → InAct
in_of_word repeat word = if nat_lt (word % most_rate) repeat then Keep else Take

-- the stream after the first, the second and the third list of that length
unfoldable pub after_lists : ℕ → ℕ → Stream → Stream
after_lists zero len s = s
after_lists (suc lists) len s = after_lists lists len (after_words len s)

-- the four lists, one after the other, a word an act
unfoldable pub drawn : ℕ → ℕ → ℕ → Stream → Acts
drawn len loss repeat s =
    acts (map (out_of_word loss) (words len s))
    (map (in_of_word repeat) (words len (after_lists 1 len s)))
    (map (out_of_word loss) (words len (after_lists 2 len s)))
    (map (in_of_word repeat) (words len (after_lists 3 len s)))

-- the first check that the numbers of a draw fail
abbrev pub draw_fault : ℕ → ℕ → ℕ → Option ScriptFault
draw_fault len loss repeat =
    if nat_lt most_acts len then Some TooLong
    else (if nat_lt most_rate loss || nat_lt most_rate repeat then Some RateOutOfRange else None)

-- the script that a draw makes of a stream, or the first check that its numbers fail
abbrev pub draw_script : ℕ → ℕ → ℕ → Stream → Result Acts ScriptFault
draw_script len loss repeat s = do
  draw_fault len loss repeat
  Ok (drawn len loss repeat s)

-- the words of PCG32 from a state, on a stream
abbrev pub pcg32_words : ℕ → ℕ → Stream
pcg32_words state stream =
    stream_of (steps_u32 pcg32) (started 64 multiplier_64 state (increment_of 64 stream))
