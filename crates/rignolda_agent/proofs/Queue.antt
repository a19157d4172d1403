-- Every change is published.
use Rattle.std.proofs.Common.{◌≡◌, ℕ, zero, suc, ◌-◌, ◌*◌, ◌<◌, ◌≤◌, Bool, false, List, [], ◌∷◌, length, refl, ◌∙◌, ap, arith, inl, inr, min, lt-ltb, le-ltb}
use Rattle.std.specs.Prelude.{if◌then◌else◌, nat_lt}
use Rattle.std.proofs.lemmas.Bool.{cases_lt}
use Rattle.rignolda_agent.specs.declared.publisher.Next.{Next}
use Rattle.rignolda_agent.specs.declared.publisher.Next.TheVariants.{Harmless, Changes, Whole}
use Rattle.rignolda_agent.specs.Publishers.{taken, most_changes}
use Rattle.rignolda_agent.specs.Runs.{Root, Call, before, still_waits}
use Rattle.rignolda_agent.proofs.Chosen.{asked_turn, with_changes}
use Rattle.rignolda_agent.proofs.RootRounds.{root_after}

-- whether the change still waits after this body and these calls
abbrev waits_after : Next → Root → ℕ → ℕ → List Call → Bool
waits_after k b bytes place cs =
    if nat_lt place (taken k b.changes) then false
    else still_waits (root_after k b bytes) (place - taken k b.changes) cs

-- it is gone after so many bodies
abbrev Gone : ℕ → ℕ → Type 0
Gone k most = (r : Root) (place : ℕ) (cs : List Call) → place < r.changes → place < most_changes * k → most ≤ length cs → still_waits r place cs ≡ false

taken_at_once : (k : Next) (b : Root) (bytes place : ℕ) (cs : List Call) → place < taken k b.changes → waits_after k b bytes place cs ≡ false
taken_at_once k b bytes place cs lt =
    ap (λ t. if t then false else still_waits (root_after k b bytes) (place - taken k b.changes) cs) (lt-ltb place (taken k b.changes) lt)

taken_later : (k : Next) (b : Root) (bytes place : ℕ) (cs : List Call) → taken k b.changes ≤ place
    → still_waits (root_after k b bytes) (place - taken k b.changes) cs ≡ false → waits_after k b bytes place cs ≡ false
taken_later k b bytes place cs le rest =
    ap (λ t. if t then false else still_waits (root_after k b bytes) (place - taken k b.changes) cs) (le-ltb place (taken k b.changes) le) ∙ rest

-- a body of changes takes it, or so many of those before it
by_changes : (k most : ℕ) (rest : Gone k most) (b : Root) (bytes place : ℕ) (cs : List Call) → place < b.changes → place < most_changes * suc k
    → most ≤ length cs → waits_after Changes b bytes place cs ≡ false
by_changes k most rest b bytes place cs here within le =
    elim (cases_lt place (min b.changes most_changes)) [
      | inl lt ↦ taken_at_once Changes b bytes place cs lt
      | inr ge ↦
          taken_later Changes b bytes place cs ge
          (rest (root_after Changes b bytes) (place - min b.changes most_changes) cs (omega arith) (omega arith) le)
    ]

-- where it is the turn of changes
turn_of_changes : (k most : ℕ) (rest : Gone k most) (r : Root) (place : ℕ) (cs : List Call) → place < r.changes → place < most_changes * suc k
    → suc most ≤ length cs → r.publisher.rounds_turn ≡ false → still_waits r place cs ≡ false
turn_of_changes k most rest r place [] here within le turn = absurd (omega arith)
turn_of_changes k most rest r place (c ∷ cs) here within le turn =
    let b : Root = before r c in
    let turn_here = asked_turn r.publisher c.asked turn in
    with_changes (λ x. waits_after x b c.bytes place cs ≡ false) b.publisher b.changes c.limit (omega arith)
    (taken_at_once Whole b c.bytes place cs (omega arith))
    (λ is. absurd (cc))
    (by_changes k most rest b c.bytes place cs (omega arith) within (omega arith))

one_more : (k most : ℕ) (rest : Gone k most) → Gone (suc k) (suc (suc most))
one_more k most rest r place [] here within le = absurd (omega arith)
one_more k most rest r place (c ∷ cs) here within le =
    let b : Root = before r c in
    with_changes (λ x. waits_after x b c.bytes place cs ≡ false) b.publisher b.changes c.limit (omega arith)
    (taken_at_once Whole b c.bytes place cs (omega arith))
    (λ is. taken_later Harmless b c.bytes place cs (omega arith)
    (turn_of_changes k most rest (root_after Harmless b c.bytes) (place - 0) cs (omega arith) (omega arith) (omega arith) refl))
    (by_changes k most rest b c.bytes place cs (omega arith) within (omega arith))

pub all_published : (k : ℕ) → Gone k (2 * k)
all_published zero r place cs here within le = absurd (omega arith)
all_published (suc k) r place cs here within le = one_more k (2 * k) (all_published k) r place cs here within (omega arith)
