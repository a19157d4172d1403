-- What an agent's list gains says numbers that are near, if what was there and is published does.
use Rattle.std.proofs.Common.{ℕ, zero, suc, ◌<◌, List, [], ◌∷◌, ◌++◌, length, map, slice_index, Option, Some, None, sym, subst, arith}
use Rattle.std.specs.Prelude.{IfSome}
use Rattle.std.specs.List.{AllByRecursion}
use Rattle.stab_core.proofs.ForCallers.{at_places}
use Rattle.stab_core.specs.Picks.{AllBelow}
use Rattle.stab_treecore.specs.TreeLaw.{HalfTreeLawAt}
use Rattle.rignolda_agent.specs.BodySpelling.{Body}
use Rattle.rignolda_agent.specs.Items.{Reading}
use Rattle.rignolda_agent.specs.Rounds.{AllNear, IsNear}
use Rattle.rignolda_convergence.specs.AgentTrees.{AllSayNear, SaysNear}

-- of items that say what is near those at places do
near_at : (reading : Reading) (low : ℕ) (items places : List ℕ) → AllSayNear reading low items → AllBelow (length items) places → AllSayNear reading low (at_places items places)
near_at reading low items [] near below = tt
near_at reading low items (p ∷ ps) near below = (one items p near below.0, near_at reading low items ps near below.1)
  where
    one : (items : List ℕ) (i : ℕ) → AllSayNear reading low items → i < length items → SaysNear reading low (slice_index items i)
    one [] i near within = absurd (omega (arith, within))
    one (x ∷ xs) zero near within = near.0
    one (x ∷ xs) (suc i) near within = one xs i near.1 (omega (arith, within))

-- and so do two lists, one behind the other
pub near_behind : (reading : Reading) (low : ℕ) (xs ys : List ℕ) → AllSayNear reading low xs → AllSayNear reading low ys → AllSayNear reading low (xs ++ ys)
near_behind reading low [] ys near more = more
near_behind reading low (x ∷ xs) ys near more = (near.0, near_behind reading low xs ys near.1 more)

-- what was received says what is near
pub received_near : (reading : Reading) (low most_strays : ℕ) (garbage published received places : List ℕ)
    → HalfTreeLawAt most_strays garbage published received places
    → AllSayNear reading low garbage → AllSayNear reading low published → AllSayNear reading low received
received_near reading low most_strays garbage published received places half old new =
    let strays : AllSayNear reading low half.strays =
    subst (AllByRecursion (SaysNear reading low)) (sym half.strays_picked.the_items) (near_at reading low garbage half.stray_places old half.strays_picked.in_list) in
    let taken : AllSayNear reading low half.taken =
    subst (AllByRecursion (SaysNear reading low)) (sym half.taken_picked.the_items) (near_at reading low published places new half.taken_picked.in_list) in
    subst (AllByRecursion (SaysNear reading low)) (sym half.parts) (near_behind reading low half.strays half.taken strays taken)

-- a body that may come, and the others
near_first : (low : ℕ) (said : Option Body) (rest : List (Option Body)) → IfSome said (λ b. IsNear low b.number) → AllNear low rest → AllNear low (said ∷ rest)
near_first low None rest first all = all
near_first low (Some b) rest first all = (first, all)

-- so the bodies that come are near
pub bodies_near : (reading : Reading) (low : ℕ) (items : List ℕ) → AllSayNear reading low items → AllNear low (map reading items)
bodies_near reading low [] all = tt
bodies_near reading low (x ∷ items) all = near_first low (reading x) (map reading items) all.0 (bodies_near reading low items all.1)
