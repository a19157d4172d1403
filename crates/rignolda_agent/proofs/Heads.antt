-- What is seen of a body without its settings.
use Rattle.std.proofs.Common.{◌≡◌, ℕ, zero, suc, Bool, true, false, List, [], ◌∷◌, length, Result, Ok, Err, refl, ap, sym, ◌∙◌}
use Rattle.std.specs.Prelude.{◌==◌, if◌then◌else◌}
use Rattle.rignolda_agent.specs.declared.body.Kind.{Kind}
use Rattle.rignolda_agent.specs.declared.fault.Fault.{Fault}
use Rattle.rignolda_agent.specs.declared.fault.Fault.TheVariants.{Trailing}
use Rattle.rignolda_agent.specs.BodySpelling.{Setting}
use Rattle.rignolda_agent.specs.Reading.{◌>>=◌, next_at, entries_at}
use Rattle.rignolda_agent.specs.Seen.{count_of, head_of, rest_of}
use Rattle.rignolda_agent.proofs.Steps.{bind_ok, same}

-- as many settings are read as entries are to be
pub counted : (kind : Kind) (before : List ℕ) (count : ℕ) (bytes : List ℕ) (x : List Setting × List ℕ)
    → entries_at kind before count bytes ≡ Ok x → length x.0 ≡ count
unfolding entries_at
counted kind before zero bytes x is = ap (λ (y : List Setting × List ℕ). length y.0) (sym (same ([], bytes) x is))
counted kind before (suc count) bytes x is =
    let (first, _, others_read) = bind_ok (next_at kind before bytes) _ x is in
    let (others, others_are, whole) = bind_ok (entries_at kind first.0.key count first.1) _ x others_read in
    ap (λ (y : List Setting × List ℕ). length y.0) (sym (same (first.0 ∷ others.0, others.1) x whole))
    ∙ ap suc (counted kind first.0.key count first.1 others others_are)

if_ended : (ended : Bool) (settings : List Setting) (count : ℕ) → length settings ≡ count
    → count_of (if ended then Ok settings else Err Trailing) ≡ (if ended then Ok count else Err Trailing)
if_ended true settings count is = ap (λ n. Ok n) is
if_ended false settings count is = refl

all_read : (count : ℕ) (read : Result (List Setting × List ℕ) Fault)
    → ((x : List Setting × List ℕ) → read ≡ Ok x → length x.0 ≡ count)
    → count_of (read >>= λ x. if length x.1 == 0 then Ok x.0 else Err Trailing)
    ≡ (rest_of read >>= λ rest. if length rest == 0 then Ok count else Err Trailing)
all_read count (Ok x) each = if_ended (length x.1 == 0) x.0 count (each x refl)
all_read count (Err fault) each = refl

-- the count of what all of the bytes say, by the rest alone
pub settled : (kind : Kind) (before : List ℕ) (count : ℕ) (bytes : List ℕ)
    → count_of (entries_at kind before count bytes >>= λ x. if length x.1 == 0 then Ok x.0 else Err Trailing)
    ≡ (rest_of (entries_at kind before count bytes) >>= λ rest. if length rest == 0 then Ok count else Err Trailing)
settled kind before count bytes = all_read count (entries_at kind before count bytes) (counted kind before count bytes)

-- the head of a body, by the count of its settings alone
pub headed : (kind : Kind) (number : ℕ) (read : Result (List Setting) Fault)
    → head_of (read >>= λ settings. Ok (record { kind = kind; number = number; settings = settings }))
    ≡ (count_of read >>= λ count. Ok (record { kind = kind; number = number; count = count }))
headed kind number (Ok settings) = refl
headed kind number (Err fault) = refl
