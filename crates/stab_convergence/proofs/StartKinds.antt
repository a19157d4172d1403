-- What a link does to the list that passes it, by what its start is.
use Rattle.std.proofs.Common.{◌≡◌, ℕ, zero, suc, ◌+◌, ◌*◌, ◌<◌, ◌≤◌, ◌==◌, nat_lt, if◌then◌else◌, List, [], ◌∷◌, ◌++◌, map, length, Contains, refl, ◌∙◌, ap, arith, append_assoc, subst, eq-eqb}
use Rattle.std.specs.List.{range_with_len}
use Rattle.std.proofs.lemmas.Bool.{le-ltb, lt-ltb, ne_eqb}
use Rattle.std.proofs.lemmas.List.{length-map}
use Rattle.std.proofs.lemmas.List.FromFn.{length-range_with_len}
use Rattle.stab_frames.specs.Parameters.{Parameters, AreLawful}
use Rattle.stab_core.specs.declared.act.LinkAct.{LinkAct}
use Rattle.stab_core.specs.declared.start.Start.{Start}
use Rattle.stab_core.specs.Link.{LinkValue}
use Rattle.stab_core.specs.LinkSetup.{CanBegin, setup}
use Rattle.stab_core.specs.Replay.{start_items}
use Rattle.stab_core.specs.CounterExamples.{counted_frames}
use Rattle.stab_core.proofs.WorstStart.{counted_items, range_bounds}
use Rattle.stab_treecore.specs.TreeReplay.{opened}
use Rattle.stab_convergence.proofs.FedLink.{fed_replay, lossy_start, lossy_acts, strayed_start, strays_taken, clean_rounds, Passed, after_lossy, after_strayed}

pub data Kind : Type 0 where
  -- c + 1 items are lost
  lossy : Kind
  -- 2c + 1 items are lost, and there are c strays
  worst : Kind
  -- there are c strays
  strayed : Kind

abbrev pub start_of : Kind → ℕ → Parameters → Start
start_of lossy stray p = lossy_start p.capacity 0 stray
start_of worst stray p = lossy_start p.capacity p.capacity stray
start_of strayed stray p = strayed_start p.capacity stray

abbrev pub lost_by : Kind → ℕ → ℕ
lost_by lossy c = c + 1
lost_by worst c = 2 * c + 1
lost_by strayed c = 0

abbrev pub strays_of : Kind → ℕ → ℕ
strays_of lossy c = 0
strays_of worst c = c
strays_of strayed c = c

abbrev pub acts_of : Kind → ℕ → ℕ → List LinkAct
acts_of lossy c more = lossy_acts c 0 more
acts_of worst c more = lossy_acts c c more
acts_of strayed c more = strays_taken c ++ clean_rounds more

-- the kind of a link at a depth, where one is chosen: those above it lose items, and those below it
-- deliver strays
abbrev pub kind_at : ℕ → ℕ → Kind
kind_at chosen depth = if nat_lt depth chosen then lossy else if depth == chosen then worst else strayed

pub kind_above : (chosen depth : ℕ) → depth < chosen → kind_at chosen depth ≡ lossy
kind_above chosen depth above = rw (lt-ltb depth chosen above) refl

pub kind_chosen : (chosen depth : ℕ) → depth ≡ chosen → kind_at chosen depth ≡ worst
kind_chosen chosen depth same = rw (le-ltb depth chosen (omega (arith, same)), eq-eqb depth chosen same) refl

pub kind_below : (chosen depth : ℕ) → chosen < depth → kind_at chosen depth ≡ strayed
kind_below chosen depth below =
    rw (le-ltb depth chosen (omega (arith, below)), ne_eqb depth chosen (λ same. omega (arith, same, below))) refl

-- ---- what is delivered

-- a list of `n` items and then `m` items
record Halves (n m : ℕ) (xs : List ℕ) : Type 0 where
  first : List ℕ
  second : List ℕ
  parts : xs ≡ first ++ second
  size : length first ≡ n
  rest : length second ≡ m

halves : (n m : ℕ) (xs : List ℕ) → length xs ≡ n + m → Halves n m xs
halves zero m xs is = record { first = []; second = xs; parts = refl; size = refl; rest = omega (arith, is) }
halves (suc n) m [] is = absurd (omega (arith, is))
halves (suc n) m (x ∷ xs) is =
    let later = halves n m xs (omega (arith, is)) in
    record { first = x ∷ later.first; second = later.second; parts = ap (λ l. x ∷ l) later.parts; size = ap suc later.size; rest = later.rest }

-- what a link has delivered whose state is known
delivers : (p : Parameters) (xs offered delivered : List ℕ) (link : LinkValue) → Passed p xs offered delivered link → link.state.delivered ≡ delivered
delivers p xs offered delivered link passed = ap (λ l. l.state.delivered) passed.is

lossy_passes : (p : Parameters) (strays stray : ℕ) → AreLawful p → strays ≤ p.capacity → (lost rest : List ℕ)
    → length lost ≡ p.capacity + (strays + 1)
    → (fed_replay (lost ++ rest) (opened (setup p (lossy_start p.capacity strays stray))) (lossy_acts p.capacity strays (length rest))).state.delivered
    ≡ range_with_len stray strays ++ rest
lossy_passes p strays stray lawful few lost rest size =
    let one = halves p.capacity (strays + 1) lost size in
    let two = halves strays 1 one.second one.rest in
    let parts : lost ++ rest ≡ one.first ++ (two.first ++ (two.second ++ rest)) =
    ap (λ l. l ++ rest) (one.parts ∙ ap (λ l. one.first ++ l) two.parts)
    ∙ append_assoc one.first (two.first ++ two.second) rest ∙ ap (λ l. one.first ++ l) (append_assoc two.first two.second rest) in
    let xs : List ℕ = one.first ++ (two.first ++ (two.second ++ rest)) in
    let start : LinkValue = opened (setup p (lossy_start p.capacity strays stray)) in
    ap (λ l. (fed_replay l start (lossy_acts p.capacity strays (length rest))).state.delivered) parts
    ∙ delivers p xs xs (range_with_len stray strays ++ rest) (fed_replay xs start (lossy_acts p.capacity strays (length rest)))
    (after_lossy p strays stray one.first two.first two.second rest lawful few one.size two.size two.rest)

strayed_passes : (p : Parameters) (strays stray : ℕ) → AreLawful p → (lost rest : List ℕ) → length lost ≡ 0
    → (fed_replay (lost ++ rest) (opened (setup p (strayed_start strays stray))) (strays_taken strays ++ clean_rounds (length rest))).state.delivered
    ≡ range_with_len stray strays ++ rest
strayed_passes p strays stray lawful [] rest size =
    delivers p rest rest (range_with_len stray strays ++ rest)
    (fed_replay rest (opened (setup p (strayed_start strays stray))) (strays_taken strays ++ clean_rounds (length rest)))
    (after_strayed p strays stray rest lawful)
strayed_passes p strays stray lawful (x ∷ lost) rest size = absurd (omega (arith, size))

-- the first items are lost, and the rest is delivered after the strays
pub passes : (kind : Kind) (p : Parameters) (stray : ℕ) → AreLawful p → (lost rest : List ℕ) → length lost ≡ lost_by kind p.capacity
    → (fed_replay (lost ++ rest) (opened (setup p (start_of kind stray p))) (acts_of kind p.capacity (length rest))).state.delivered
    ≡ range_with_len stray (strays_of kind p.capacity) ++ rest
passes lossy p stray lawful lost rest size = lossy_passes p 0 stray lawful (omega arith) lost rest (omega (arith, size))
passes worst p stray lawful lost rest size = lossy_passes p p.capacity stray lawful (omega arith) lost rest (omega (arith, size))
passes strayed p stray lawful lost rest size = strayed_passes p p.capacity stray lawful lost rest size

-- ---- the starts

few_frames : (label item count : ℕ) → length (map (λ f. f.item) (counted_frames label item count)) ≡ count
few_frames label item count = ap length (counted_items label item count) ∙ length-range_with_len item count

-- they are lawful
pub can_begin : (kind : Kind) (p : Parameters) (stray : ℕ) → AreLawful p → CanBegin (setup p (start_of kind stray p))
can_begin lossy p stray lawful = (lawful, record { frames = omega arith; acks = omega (arith, length-range_with_len 0 p.capacity) })
can_begin worst p stray lawful = (
  lawful,
  record {
    frames = omega (arith, length-map (start_of worst stray p).frames (λ f. f.item), few_frames (p.capacity + 1) stray p.capacity);
    acks = omega (arith, length-range_with_len 0 p.capacity);
  },
)
can_begin strayed p stray lawful = (
  lawful,
  record {
    frames = omega (arith, length-map (start_of strayed stray p).frames (λ f. f.item), few_frames 1 stray p.capacity);
    acks = omega arith;
  },
)

-- and the items in them are no lower than the first stray
counted_apart : (label item count x : ℕ) → Contains (map (λ f. f.item) (counted_frames label item count)) x → item ≤ x
counted_apart label item count x member =
    (range_bounds item count x (subst (λ xs. Contains xs x) (counted_items label item count) member)).0

pub apart : (kind : Kind) (p : Parameters) (stray x : ℕ) → Contains (start_items (start_of kind stray p)) x → stray ≤ x
apart lossy p stray x (k, within, is) = absurd (omega (arith, within))
apart worst p stray x member = counted_apart (p.capacity + 1) stray p.capacity x member
apart strayed p stray x member = counted_apart 1 stray p.capacity x member
