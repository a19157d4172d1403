-- The member with the lists of logs is none of a job, and the members that logs have beside it.
use Rattle.std.proofs.Common.{◌≡◌, ◌≢◌, ℕ, List, Bool, true, false, Option, Some, None, codes, refl, sym, ap, ◌∙◌, subst, Result, Ok, Err, MatchResult, IfSome, length}
use Rattle.std.proofs.lemmas.Slice.Eq.{bytes_eq-Decides}
use Rattle.std.specs.Str.{bytes_eq}
use Rattle.std.specs.Bool.{MatchBool}
use Rattle.stab_job.specs.Parts.{IsBeside, the_schedule}
use Rattle.stab_job.proofs.Parts.{ne}
use Rattle.serde_json.specs.Data.{Data}
use Rattle.rignolda_since.specs.Logs.{HasLogs, from_of, has_places, received_of, the_lists}

-- no member of a job is called so
pub beside_a_job : IsBeside the_lists
beside_a_job = (
  ne the_lists the_schedule refl,
  ne the_lists (codes "version") refl,
  ne the_lists (codes "capacity") refl,
  ne the_lists (codes "labels") refl,
  ne the_lists (codes "tree") refl,
  ne the_lists (codes "turns") refl,
  ne the_lists (codes "items") refl,
  ne the_lists (codes "starts") refl,
  ne the_lists (codes "scripts") refl,
  ne the_lists (codes "links") refl,
  ne the_lists (codes "h") refl,
  ne the_lists (codes "openings") refl,
)

-- a name is the member's, which is none of a job, or another one
pub by_case : (is : Bool) (name : List ℕ) → bytes_eq name the_lists ≡ is → MatchBool is ((name ≡ the_lists) × IsBeside name) (name ≢ the_lists)
by_case true name is = let named = (bytes_eq-Decides name the_lists).0 is in (named, subst IsBeside (sym named) beside_a_job)
by_case false name is = ne name the_lists is

-- the places are among the other members
pub same_from : (d others : Data) (received : Option (List (List ℕ))) → HasLogs d others received → (from_of others ≡ from_of d) × (has_places others ≡ has_places d)
same_from d others received has = rw (has.0 (codes "from") (ne (codes "from") the_schedule refl) (λ _. ne (codes "from") the_lists refl)) (refl, refl)

-- so are the lists where they were not read
pub same_received : (d others : Data) → HasLogs d others None → received_of others ≡ received_of d
same_received d others has = rw (has.0 the_lists (ne the_lists the_schedule refl) (λ some. absurd (cc))) refl

-- what the checks find, by what is checked
pub as_checked : {A F : Type 0} (memory : F) (whole found : Result A F) → whole ≡ found → MatchResult found (λ its. whole ≡ Ok its) (λ fault. fault ≢ memory → whole ≡ Err fault)
as_checked memory whole (Ok its) is = is
as_checked memory whole (Err fault) is = λ _. is
