-- A queue of bounded capacity: its entries, the front first, and how many it may hold.
-- `without` is a list without the entry at a place, and `turned` a list whose first entries went to
-- the back.
-- Source: the bounded FIFO queue of one direction of a link in this project's profile.
use Rattle.std.specs.Prelude.{ℕ, zero, suc, List, [], ◌∷◌, ◌++◌, take, drop, refl}
use Rattle.std.specs.Coded.{Coded, code_by, coded×, coded_list, coded_ℕ}

pub record Queue (X : Type 0) : Type 0 where
  pub entries : List X
  pub capacity : ℕ

module _ {X : Type 0} where
  -- the queue of these entries
  abbrev pub queue : List X → ℕ → Queue X
  queue xs n = record { entries = xs; capacity = n }

  -- how a proof tells two queues apart
  abbrev pub queue_code : Coded X → Coded (Queue X)
  queue_code c =
      code_by (List X × ℕ) (coded× (coded_list c) coded_ℕ)
      (λ q. (q.entries, q.capacity)) (λ p. queue p.0 p.1) (λ _. refl)

  -- the entries with the first n at the back, in their order
  abbrev pub turned : ℕ → List X → List X
  turned n xs = drop n xs ++ take n xs

  -- the entries without the one at place i, where there is one; the order of the others stays
  abbrev pub without : ℕ → List X → List X
  without i [] = []
  without zero (x ∷ xs) = xs
  without (suc i) (x ∷ xs) = x ∷ without i xs
