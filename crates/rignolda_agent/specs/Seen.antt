-- What a function of the code returned, as the definitions see it.
use Rattle.std.specs.Prelude.{◌≡◌, ◌<◌, ℕ, List, [], ◌∷◌, get_or, length, Result, Ok, Err}
use Rattle.std.specs.Option.{option_map}
use Rattle.rignolda_agent.specs.declared.body.Entry.{Entry}
use Rattle.rignolda_agent.specs.declared.body.Head.{Head}
use Rattle.rignolda_agent.specs.declared.fault.Fault.{Fault}
use Rattle.rignolda_agent.specs.Reading.{entry_at}
use Rattle.rignolda_agent.specs.BodySpelling.{Body, Setting}

-- each is a byte
abbrev pub AreBytes : List ℕ → Type 0
AreBytes bytes = (i : ℕ) → get_or bytes i 0 < 256

-- what was returned, seen by view, is what reading gives
abbrev pub Reads : {X Y : Type 0} → (X → Y) → Result X Fault → Result Y Fault → Type 0
Reads view (Ok x) read = read ≡ Ok (view x)
Reads view (Err fault) read = read ≡ Err fault

-- the setting of an entry, wherever its bytes lie
abbrev pub setting_of : Entry → Setting
setting_of e = record { key = e.key.now; value = option_map (λ value. value.now) e.value }

-- the bytes after what was read
abbrev pub rest_of : {A : Type 0} → Result (A × List ℕ) Fault → Result (List ℕ) Fault
rest_of (Ok x) = Ok x.1
rest_of (Err fault) = Err fault

-- how many settings were read
abbrev pub count_of : Result (List Setting) Fault → Result ℕ Fault
count_of (Ok settings) = Ok (length settings)
count_of (Err fault) = Err fault

-- the head of what was read
abbrev pub head_of : Result Body Fault → Result Head Fault
head_of (Ok b) = Ok (record { kind = b.kind; number = b.number; count = length b.settings })
head_of (Err fault) = Err fault

-- the key of the entry that was read, and the bytes after it
abbrev pub key_and_rest : Result (Setting × List ℕ) Fault → Result (List ℕ × List ℕ) Fault
key_and_rest (Ok x) = Ok (x.0.key, x.1)
key_and_rest (Err fault) = Err fault

-- the bytes are the entries of these settings, one after the other
abbrev pub AreEntries : List Setting → List ℕ → Type 0
AreEntries [] bytes = bytes ≡ []
AreEntries (s ∷ ss) bytes =
    (rest : List ℕ) × (entry_at bytes ≡ Ok (s, rest)) × AreEntries ss rest
