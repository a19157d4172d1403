-- Reading entries one after the other, as a loop does.
use Rattle.std.proofs.Common.{◌≡◌, ℕ, suc, ◌-◌, ◌+◌, ◌≤◌, ◌<◌, List, ◌∷◌, Result, Ok, Err, refl, ap, ◌∙◌, arith}
use Rattle.rignolda_agent.specs.declared.body.Kind.{Kind}
use Rattle.rignolda_agent.specs.declared.fault.Fault.{Fault}
use Rattle.rignolda_agent.specs.BodySpelling.{Setting}
use Rattle.rignolda_agent.specs.Reading.{◌>>=◌, next_at, entries_at}
use Rattle.rignolda_agent.specs.Seen.{key_and_rest, rest_of}

-- the rest does not depend on what was read before
after_first : (first : Setting) (others : Result (List Setting × List ℕ) Fault)
    → rest_of (others >>= λ x. Ok (first ∷ x.0, x.1)) ≡ rest_of others
after_first first (Ok x) = refl
after_first first (Err fault) = refl

after_next : (kind : Kind) (count : ℕ) (next : Result (Setting × List ℕ) Fault) (key rest : List ℕ)
    → key_and_rest next ≡ Ok (key, rest)
    → rest_of (next >>= λ first. entries_at kind first.0.key count first.1 >>= λ others. Ok (first.0 ∷ others.0, others.1))
    ≡ rest_of (entries_at kind key count rest)
after_next kind count (Ok x) key rest is =
    let same : (x.0.key, x.1) ≡ (key, rest) = cc in
    after_first x.0 (entries_at kind x.0.key count x.1)
    ∙ ap (λ (seen : List ℕ × List ℕ). rest_of (entries_at kind seen.0 count seen.1)) same
after_next kind count (Err fault) key rest is = absurd cc

no_next : (kind : Kind) (count : ℕ) (next : Result (Setting × List ℕ) Fault) (fault : Fault)
    → key_and_rest next ≡ Err fault
    → rest_of (next >>= λ first. entries_at kind first.0.key count first.1 >>= λ others. Ok (first.0 ∷ others.0, others.1))
    ≡ Err fault
no_next kind count (Ok x) fault is = absurd cc
no_next kind count (Err other) fault is = let same : other ≡ fault = cc in ap (λ f. Err f) same

pub goes_on : (kind : Kind) (before : List ℕ) (count i : ℕ) (bytes key rest : List ℕ) → i < count
    → key_and_rest (next_at kind before bytes) ≡ Ok (key, rest)
    → rest_of (entries_at kind before (count - i) bytes) ≡ rest_of (entries_at kind key (count - (i + 1)) rest)
unfolding entries_at
goes_on kind before count i bytes key rest within is =
    let more : count - i ≡ suc (count - (i + 1)) = omega arith in
    ap (λ n. rest_of (entries_at kind before n bytes)) more
    ∙ after_next kind (count - (i + 1)) (next_at kind before bytes) key rest is

pub stops : (kind : Kind) (before : List ℕ) (count i : ℕ) (bytes : List ℕ) (fault : Fault) → i < count
    → key_and_rest (next_at kind before bytes) ≡ Err fault
    → rest_of (entries_at kind before (count - i) bytes) ≡ Err fault
unfolding entries_at
stops kind before count i bytes fault within is =
    let more : count - i ≡ suc (count - (i + 1)) = omega arith in
    ap (λ n. rest_of (entries_at kind before n bytes)) more
    ∙ no_next kind (count - (i + 1)) (next_at kind before bytes) fault is

pub ends : (kind : Kind) (before : List ℕ) (count i : ℕ) (bytes : List ℕ) → count ≤ i
    → rest_of (entries_at kind before (count - i) bytes) ≡ Ok bytes
unfolding entries_at
ends kind before count i bytes all =
    let none : count - i ≡ 0 = omega arith in
    ap (λ n. rest_of (entries_at kind before n bytes)) none
