-- Of each kind of rounds: how many more are needed to acknowledge the item that waits, what one
-- round does, and how many frames it takes where there is nothing left to offer.
use Rattle.std.proofs.Common.{◌≡◌, ◌⊎◌, inl, inr, ℕ, suc, ◌+◌, ◌-◌, ◌*◌, ◌<◌, ◌≤◌, List, length, Some, arith, ap, ◌∙◌, mul-suc, mul-add}
use Rattle.std.proofs.lemmas.Bool.{cases_lt}
use Rattle.stab_frames.specs.Parameters.{Parameters}
use Rattle.stab_core.specs.LinkState.{LinkState}
use Rattle.stab_tree.specs.Nodes.{parent_at}
use Rattle.stab_treecore.specs.declared.event.TreeEvent.{TreeEvent}
use Rattle.stab_treecore.specs.TreeReplay.{tree_replay}
use Rattle.stab_treecore.specs.WholeTree.{WholeTree, received}
use Rattle.stab_rounds.specs.declared.round.Awaited.TheVariants as next
use Rattle.stab_rounds.specs.Kinds.{Kind, plain, reading, rounds_among, rounds_an_item}
use Rattle.stab_rounds.specs.ReadingRounds.{offer}
use Rattle.stab_rounds.specs.Rounds.{IsWithin}
use Rattle.stab_rounds.specs.TreeRounds.{acts_on}
use Rattle.stab_rounds.proofs.Coming.{to_come, few_idle, few_coming, few_before_it}
use Rattle.stab_rounds.proofs.Drains.{Drained, Flushed}
use Rattle.stab_rounds.proofs.Levels.{idle, outward, arrived, Level, Holding, any_level, level_positive}
use Rattle.stab_rounds.proofs.ReadTrees.{read_progress, flush_many, reading_takes, round_takes}
use Rattle.stab_rounds.proofs.TreeSteps.{At, Fixed, IsSound, OpenAt, progress}

-- `k` rounds more are enough
abbrev pub Needs : Kind → Parameters → ℕ → LinkState → Type 0
Needs plain p k s = Level p k s
Needs reading p k s = 1 ≤ k

pub needs_any : (kind : Kind) (p : Parameters) (k : ℕ) (s : LinkState) → IsWithin p s → rounds_an_item kind p.capacity ≤ k → Needs kind p k s
needs_any plain p k s within enough = any_level p k s within enough
needs_any reading p k s within enough = enough

pub needs_one : (kind : Kind) (p : Parameters) (k : ℕ) (s : LinkState) → Needs kind p k s → 1 ≤ k
needs_one plain p k s level = level_positive p.capacity k level
needs_one reading p k s some = some

-- where no item waits, as many as for any item
pub needs_all : (kind : Kind) (p : Parameters) (k : ℕ) (s : LinkState) → length s.offered ≡ s.acked → Needs kind p k s
    → rounds_an_item kind p.capacity ≤ k
needs_all plain p k s none (idle _ enough) = enough
needs_all plain p k s none (outward before holds _ enough) = absurd (omega arith)
needs_all plain p k s none (arrived here) = absurd (let holds = here.holds in omega arith)
needs_all reading p k s none some = some

-- ---- what the items to come cost, at r rounds for each

-- one time more, and more times
pub one_more : (r x : ℕ) → r * (x + 1) ≡ r * x + r
one_more r x = ap (λ n. r * n) (let e : x + 1 ≡ suc x = omega arith in e) ∙ mul-suc r x

pub times : (r x y : ℕ) → x ≤ y → r * x ≤ r * y
times r x y less =
    let (d, is) : (d : ℕ) × (y ≡ x + d) = (y - x, omega arith) in
    omega (arith, ap (λ n. r * n) is, mul-add r x d)

-- where no item waits, r rounds for each frame at most
pub cost_idle : (r c : ℕ) (s : LinkState) → length s.frames ≤ c → length s.offered ≡ s.acked → r * to_come s ≤ r * c
cost_idle r c s few none = times r (to_come s) c (omega (arith, few_idle s none))

-- where one waits, besides these as many as it still needs
pub cost_held : (kind : Kind) (r : ℕ) (p : Parameters) (k : ℕ) (s : LinkState) → IsWithin p s → 1 ≤ p.capacity → Holding s
    → rounds_an_item kind p.capacity ≤ r → Needs kind p k s → r * to_come s ≤ k + (r - rounds_an_item kind p.capacity) + r * p.capacity
cost_held plain r p k s within some holds enough (idle none _) = absurd (omega arith)
cost_held plain r p k s within some holds enough (arrived here) =
    omega (arith, times r (to_come s) p.capacity (omega (arith, few_before_it s 0 holds here.all_frames)))
cost_held plain r p k s within some holds enough (outward before _ later few) =
    elim (cases_lt before p.capacity) [
      | inl fewer ↦ omega (arith, times r (to_come s) p.capacity (omega (arith, few_before_it s before holds later)))
      | inr more ↦
          let frames = within.frames in
          omega (arith, times r (to_come s) (p.capacity + 1) (omega (arith, few_coming s holds)), one_more r p.capacity)
    ]
cost_held reading r p k s within some holds enough needs =
    let frames = within.frames in
    omega (arith, times r (to_come s) (p.capacity + 1) (omega (arith, few_coming s holds)), one_more r p.capacity)

-- ---- frames that are left, where there is nothing left to offer

-- so many a round takes at least
abbrev pub taken_by : Kind → ℕ → ℕ
taken_by plain c = 1
taken_by reading c = c

-- so many rounds take all
abbrev pub rounds_to_take : Kind → ℕ → ℕ
rounds_to_take plain c = c
rounds_to_take reading c = 1

pub record Taking (kind : Kind) (c : ℕ) : Type 0 where
  pub one_less : c + 1 ≤ taken_by kind c + rounds_to_take kind c
  pub some_taken : 1 ≤ taken_by kind c
  pub some_rounds : 1 ≤ rounds_to_take kind c
  pub few_rounds : rounds_to_take kind c ≤ c
  pub fewer : rounds_to_take kind c ≤ rounds_an_item kind c

pub taking : (kind : Kind) (c : ℕ) → 1 ≤ c → Taking kind c
taking plain c some =
    record { one_less = omega arith; some_taken = omega arith; some_rounds = some; few_rounds = omega arith; fewer = omega arith }
taking reading c some =
    record { one_less = omega arith; some_taken = some; some_rounds = omega arith; few_rounds = some; fewer = omega arith }

-- ---- a part of a schedule that has a round

module _ (fixed : Fixed) (w u : ℕ) (p : Parameters) (is_child : parent_at fixed.parents w ≡ Some u) (some : 1 ≤ p.capacity)
    (part : List TreeEvent) (t : WholeTree) (s : LinkState) (sound : IsSound fixed t) (is_open : OpenAt (tree_replay t part) w)
    (there : At t w p s) where
  -- an item more is acknowledged, or one round fewer is needed
  pub goes_on_by : (kind : Kind) (k : ℕ) → 1 ≤ rounds_among kind p.capacity (acts_on w part) → Needs kind p (suc k) s → s.acked < length (received t u)
      → (later : LinkState) × At (tree_replay t part) w p later × ((s.acked + 1 ≤ later.acked) ⊎ ((later.acked ≡ s.acked) × Needs kind p k later))
  goes_on_by plain k one level available = progress fixed w u p is_child part t next.Offer s k sound is_open there (inr level) available one
  goes_on_by reading k one needs available =
      let (later, found, more) = read_progress fixed w u p is_child some part t offer s sound is_open there tt available one in
      (later, found, inl more)

  pub takes_by : (kind : Kind) → 1 ≤ rounds_among kind p.capacity (acts_on w part) → Drained t fixed.parents u → s.acked ≡ length (received t u)
      → Flushed fixed w u p is_child (tree_replay t part) s.acked (length s.frames - taken_by kind p.capacity)
  takes_by plain one above all = flush_many fixed w u p is_child some part 1 t s sound is_open there above all (round_takes next.Offer (acts_on w part) tt one)
  takes_by reading one above all =
      flush_many fixed w u p is_child some part p.capacity t s sound is_open there above all (reading_takes p.capacity offer (acts_on w part) one)
