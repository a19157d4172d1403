-- Bodies that are read from items whose numbers are near.
use Rattle.std.proofs.Common.{◌≡◌, ℕ, true, Bool, false, not, ◌&&◌, List, [], ◌∷◌, ◌++◌, length, map, slice_index, Some, None, drop, get_or, refl, sym, ap, subst}
use Rattle.std.specs.Prelude.{IfSome}
use Rattle.std.specs.List.{AllByRecursion}
use Rattle.rignolda_agent.specs.BodySpelling.{Body}
use Rattle.rignolda_agent.specs.Items.{Reading, SaysBehind}
use Rattle.rignolda_agent.specs.Numbers.{is_newer}
use Rattle.rignolda_agent.specs.Reports.{AreAllNear, Publication, all_heard, bodies_of}
use Rattle.rignolda_agent.specs.Rounds.{IsNear, is_behind}
use Rattle.rignolda_convergence.specs.AgentTrees.{AllSayNear}
use Rattle.std.proofs.lemmas.Bool.{true≢false}

-- ---- what holds of two lists

pub all_front : {A : Type 0} (P : A → Type 0) (xs ys : List A) → AllByRecursion P (xs ++ ys) → AllByRecursion P xs
all_front P [] ys all = tt
all_front P (x ∷ xs) ys all = (all.0, all_front P xs ys all.1)

pub all_back : {A : Type 0} (P : A → Type 0) (xs ys : List A) → AllByRecursion P (xs ++ ys) → AllByRecursion P ys
all_back P [] ys all = all
all_back P (x ∷ xs) ys all = all_back P xs ys all.1

-- ---- bodies

-- what items say that are read as these bodies
pub bodies_near : (reading : Reading) (low : ℕ) (items : List ℕ) (bodies : List Body) → map reading items ≡ map Some bodies → AllSayNear reading low items
    → AllByRecursion (λ b. IsNear low b.number) bodies
bodies_near reading low items [] alike all = tt
bodies_near reading low [] (b ∷ bodies) alike all = let short = ap length alike in cc
bodies_near reading low (x ∷ items) (b ∷ bodies) alike all = (
  subst (λ o. IfSome o (λ body. IsNear low body.number)) (ap (λ os. get_or os 0 None) alike) all.0,
  bodies_near reading low items bodies (ap (drop 1) alike) all.1,
)

-- of a root's publications
pub publications_near : (low : ℕ) (ps : List Publication) → AllByRecursion (IsNear low) (all_heard ps) → AllByRecursion (λ b. IsNear low b.number) (bodies_of ps) → AreAllNear low ps
publications_near low [] heard bodies = tt
publications_near low (p ∷ ps) heard bodies = (
  (all_front (IsNear low) p.heard (all_heard ps) heard, bodies.0),
  publications_near low ps (all_back (IsNear low) p.heard (all_heard ps) heard) bodies.1,
)

pub bodies_both : (ps qs : List Publication) → bodies_of (ps ++ qs) ≡ bodies_of ps ++ bodies_of qs
bodies_both [] qs = refl
bodies_both (p ∷ ps) qs = ap (λ bs. p.body ∷ bs) (bodies_both ps qs)

-- what is read as these bodies is read so at each place
pub read_at : (reading : Reading) (items : List ℕ) (before later : List Body) (b : Body) → map reading items ≡ map Some (before ++ b ∷ later)
    → reading (slice_index items (length before)) ≡ Some b
read_at reading [] [] later b alike = let short = ap length alike in cc
read_at reading [] (x ∷ before) later b alike = let short = ap length alike in cc
read_at reading (y ∷ items) [] later b alike = ap (λ os. get_or os 0 None) alike
read_at reading (y ∷ items) (x ∷ before) later b alike = read_at reading items before later b (ap (drop 1) alike)

-- no number is behind itself
never_both : (b : Bool) → (b && not b) ≡ true → ⊥
never_both true both = true≢false (sym both)
never_both false both = true≢false (sym both)

pub not_behind_itself : (reading : Reading) (item : ℕ) (b : Body) → reading item ≡ Some b → SaysBehind reading b.number item → ⊥
not_behind_itself reading item b is behind =
    never_both (is_newer b.number b.number) (subst (λ o. IfSome o (λ body. is_behind b.number body.number ≡ true)) is behind)
