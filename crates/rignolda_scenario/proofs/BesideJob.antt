-- The steps of a scenario are a member beside those of a job.
use Rattle.std.proofs.Common.{◌≡◌, ◌≢◌, ℕ, List, Bool, true, false, codes, get_or, sym, ap, ◌∙◌, arith}
use Rattle.std.specs.Bool.{MatchBool}
use Rattle.std.specs.Str.{bytes_eq}
use Rattle.std.proofs.lemmas.Bool.{false≢true}
use Rattle.std.proofs.lemmas.Slice.Eq.{bytes_eq-Decides}
use Rattle.stab_job.specs.Parts.{IsBeside, the_schedule}

-- texts that differ at one place
apart : (i : ℕ) (a b : List ℕ) → (get_or a i 0 ≡ get_or b i 0 → ⊥) → a ≢ b
apart i a b differ = λ same. differ (ap (λ s. get_or s i 0) same)

-- no member of a job has their name
steps_are_beside : IsBeside (codes "steps")
steps_are_beside = (
  apart 1 (codes "steps") the_schedule (λ e. omega (arith, e)),
  apart 0 (codes "steps") (codes "version") (λ e. omega (arith, e)),
  apart 0 (codes "steps") (codes "capacity") (λ e. omega (arith, e)),
  apart 0 (codes "steps") (codes "labels") (λ e. omega (arith, e)),
  apart 0 (codes "steps") (codes "tree") (λ e. omega (arith, e)),
  apart 0 (codes "steps") (codes "turns") (λ e. omega (arith, e)),
  apart 0 (codes "steps") (codes "items") (λ e. omega (arith, e)),
  apart 2 (codes "steps") (codes "starts") (λ e. omega (arith, e)),
  apart 1 (codes "steps") (codes "scripts") (λ e. omega (arith, e)),
  apart 0 (codes "steps") (codes "links") (λ e. omega (arith, e)),
  apart 0 (codes "steps") (codes "h") (λ e. omega (arith, e)),
  apart 0 (codes "steps") (codes "openings") (λ e. omega (arith, e)),
)

-- a name is theirs, or another one
pub named_steps : (name : List ℕ) (is_it : Bool) → is_it ≡ bytes_eq name (codes "steps") → MatchBool is_it ((name ≡ codes "steps") × IsBeside name) (name ≢ codes "steps")
named_steps name true is =
    let same : name ≡ codes "steps" = (bytes_eq-Decides name (codes "steps")).0 (sym is) in
    (same, rw same steps_are_beside)
named_steps name false is = λ same. false≢true (is ∙ (bytes_eq-Decides name (codes "steps")).1 same)
