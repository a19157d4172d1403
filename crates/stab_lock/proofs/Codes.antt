-- Codes that are added to others, and the numbers that they leave out.
use Rattle.std.proofs.Common.{◌≡◌, ℕ, zero, suc, ◌+◌, ◌-◌, ◌/◌, ◌%◌, ◌<◌, ◌≤◌, List, [], ◌∷◌, ◌++◌, length}
use Rattle.std.proofs.Common.{Bool, true, false, if◌then◌else◌, ◌==◌, take, drop, get_or, set, slice_get, refl, sym, ap, ◌∙◌, arith}
use Rattle.std.proofs.lemmas.Bool.{ne_eqb}
use Rattle.std.proofs.Math.Seq.{drop-cons, get_or-append_seam}
use Rattle.std.proofs.lemmas.List.{append-nil, append_assoc, length-append, take-append-drop, get_or_append_left, get_or-append-add}
use Rattle.std.proofs.lemmas.List.{length-set, set-get_or, take-set-le}
use Rattle.stab_core.specs.declared.event.Event.{Event}
use Rattle.stab_core.specs.declared.event.Event.TheVariants as event
use Rattle.stab_lock.specs.declared.kind.Kind.{Kind}
use Rattle.stab_lock.specs.declared.kind.Kind.TheVariants as kind
use Rattle.stab_lock.specs.declared.run.Run.{Run}
use Rattle.stab_lock.specs.declared.part.Part.{Part}
use Rattle.stab_lock.specs.CodesInside.{all_parts, IsJoined, part_of, count_at, count_left, event_left, event_of, kind_numbers, kind_of}
use Rattle.stab_lock.specs.CodesInside.{numbers_in, numbers_of, run_at, unpack, value_at, wide_at, wide_left, expand}
use Rattle.stab_lock.proofs.Runs.{in_first, past_first}

-- the numbers of two lists of codes are those of the first, and then those of the second
pub numbers_in-append : (xs ys : List Part) → numbers_in (xs ++ ys) ≡ numbers_in xs + numbers_in ys
numbers_in-append [] ys = omega arith
numbers_in-append (x ∷ xs) ys = omega (arith, numbers_in-append xs ys)

-- the parts of two lists of codes are those of the first, and then those of the second
pub all_parts-append : (xs ys : List (List Part)) → all_parts (xs ++ ys) ≡ all_parts xs ++ all_parts ys
all_parts-append [] ys = refl
all_parts-append (x ∷ xs) ys =
    ap (λ parts. x ++ parts) (all_parts-append xs ys) ∙ sym (append_assoc x (all_parts xs) (all_parts ys))

-- the first codes and the others have all parts
pub first_and_others : (n : ℕ) (xs : List (List Part)) → all_parts (take n xs) ++ all_parts (drop n xs) ≡ all_parts xs
first_and_others n xs =
    sym (all_parts-append (take n xs) (drop n xs)) ∙ ap all_parts (take-append-drop n xs)

-- and so have their numbers
pub first_numbers : (n : ℕ) (xs : List (List Part))
    → numbers_in (all_parts (take n xs)) + numbers_in (all_parts (drop n xs)) ≡ numbers_in (all_parts xs)
first_numbers n xs =
    sym (numbers_in-append (all_parts (take n xs)) (all_parts (drop n xs))) ∙ ap numbers_in (first_and_others n xs)

-- the runs of two lists of codes are those of the first, and then those of the second
pub unpack-append : (numbers : List ℕ) (i : ℕ) (xs ys : List Part)
    → unpack numbers i (xs ++ ys) ≡ unpack numbers i xs ++ unpack numbers (i + numbers_in xs) ys
unpack-append numbers i [] ys = ap (λ k. unpack numbers k ys) (omega arith)
unpack-append numbers i (x ∷ xs) ys =
    let same : i + numbers_of x + numbers_in xs ≡ i + (numbers_of x + numbers_in xs) = omega arith in
    ap (λ runs. run_at numbers i x ∷ runs) (unpack-append numbers (i + numbers_of x) xs ys
    ∙ ap (λ k. unpack numbers (i + numbers_of x) xs ++ unpack numbers k ys) same)

-- further numbers change no two numbers, no item and no place that are there
wide_stays : (numbers more : List ℕ) (i : ℕ) → i + 2 ≤ length numbers → wide_at (numbers ++ more) i ≡ wide_at numbers i
wide_stays numbers more i within =
    rw (
      get_or_append_left numbers more 0 i (omega (arith, within)),
      get_or_append_left numbers more 0 (i + 1) (omega (arith, within)),
    ) refl

value_stays : (numbers more : List ℕ) (i : ℕ) (k : Kind) → i + kind_numbers k ≤ length numbers
    → value_at (numbers ++ more) i k ≡ value_at numbers i k
value_stays numbers more i kind.Offer within = get_or_append_left numbers more 0 i (omega (arith, within))
value_stays numbers more i kind.SendFrame within = refl
value_stays numbers more i kind.TakeFrame within = refl
value_stays numbers more i kind.KeepFrame within = refl
value_stays numbers more i kind.SendAck within = refl
value_stays numbers more i kind.TakeAck within = refl
value_stays numbers more i kind.KeepAck within = refl
value_stays numbers more i kind.LoseFrame within = get_or_append_left numbers more 0 i (omega (arith, within))
value_stays numbers more i kind.LoseAck within = get_or_append_left numbers more 0 i (omega (arith, within))
value_stays numbers more i kind.Close within = refl
value_stays numbers more i kind.WideOffer within = wide_stays numbers more i within

-- and no count of a part that has its own
count_stays : (numbers more : List ℕ) (i count : ℕ) (wide : Bool) → i + (if wide then 4 else 0) ≤ length numbers
    → (if wide then count_at (numbers ++ more) i else count) ≡ (if wide then count_at numbers i else count)
count_stays numbers more i count true within =
    rw (
      wide_stays numbers more i (omega (arith, within)),
      wide_stays numbers more (i + 2) (omega (arith, within)),
    ) refl
count_stays numbers more i count false within = refl

-- a part takes the numbers of its event, and those of its count
numbers_apart : (p : Part) (wide : Bool)
    → (if wide then kind_numbers p.kind + 4 else kind_numbers p.kind) ≡ kind_numbers p.kind + (if wide then 4 else 0)
numbers_apart p true = refl
numbers_apart p false = omega arith

-- runs are equal where their events and their counts are
same_run : (one other : Run) → one.event ≡ other.event → one.count ≡ other.count → one ≡ other
same_run one other events counts =
    ap (λ e. record one { event = e }) events ∙ ap (λ n. record other { count = n }) counts

-- further numbers change no run that has its own
run_stays : (numbers more : List ℕ) (i : ℕ) (p : Part) → i + numbers_of p ≤ length numbers
    → run_at (numbers ++ more) i p ≡ run_at numbers i p
run_stays numbers more i p within =
    let apart : numbers_of p ≡ kind_numbers p.kind + (if p.count == 0 then 4 else 0) = numbers_apart p (p.count == 0) in
    same_run (run_at (numbers ++ more) i p) (run_at numbers i p)
    (ap (event_of p.kind) (value_stays numbers more i p.kind (omega (arith, apart, within))))
    (count_stays numbers more (i + kind_numbers p.kind) p.count (p.count == 0) (omega (arith, apart, within)))

-- further numbers change no run of codes that have their own
pub unpack_stays : (numbers more : List ℕ) (i : ℕ) (xs : List Part) → i + numbers_in xs ≤ length numbers
    → unpack (numbers ++ more) i xs ≡ unpack numbers i xs
unpack_stays numbers more i [] within = refl
unpack_stays numbers more i (x ∷ xs) within =
    rw (
      run_stays numbers more i x (omega (arith, within)),
      unpack_stays numbers more (i + numbers_of x) xs (omega (arith, within)),
    ) refl

-- the numbers of an event are as many as its kind has
offer_numbers : (item : ℕ) (narrow : Bool) → length (if narrow then item ∷ [] else wide_left item)
    ≡ kind_numbers (if narrow then kind.Offer else kind.WideOffer)
offer_numbers item true = refl
offer_numbers item false = refl

event_numbers : (e : Event) → length (event_left e) ≡ kind_numbers (kind_of e)
event_numbers (event.Offer item) = offer_numbers item (item / 65536 == 0)
event_numbers event.SendFrame = refl
event_numbers (event.RecvFrame false) = refl
event_numbers (event.RecvFrame true) = refl
event_numbers event.SendAck = refl
event_numbers (event.RecvAck false) = refl
event_numbers (event.RecvAck true) = refl
event_numbers (event.LoseFrame place) = refl
event_numbers (event.LoseAck place) = refl
event_numbers event.Close = refl

-- the lower half of a count is in the first two numbers that are added for it
low_found : (numbers : List ℕ) (low high : ℕ) → wide_at (numbers ++ (wide_left low ++ wide_left high)) (length numbers) ≡ low
low_found numbers low high =
    rw (
      get_or-append_seam numbers (low % 65536) (low / 65536 ∷ wide_left high) 0,
      get_or-append-add numbers (wide_left low ++ wide_left high) 1 0,
    )
    (omega arith)

-- and the upper half in the other two
high_found : (numbers : List ℕ) (low high : ℕ) → wide_at (numbers ++ (wide_left low ++ wide_left high)) (length numbers + 2) ≡ high
high_found numbers low high =
    let last : length numbers + 2 + 1 ≡ length numbers + 3 = omega arith in
    rw (
      last,
      get_or-append-add numbers (wide_left low ++ wide_left high) 2 0,
      get_or-append-add numbers (wide_left low ++ wide_left high) 3 0,
    )
    (omega arith)

-- a count is in its code, or in the four numbers that are added for it
count_found : (numbers : List ℕ) (n : ℕ) (small : Bool) → (n / 12 == 0) ≡ small → 1 ≤ n
    → (if (if small then n else 0) == 0
    then count_at (numbers ++ (if small then [] else wide_left (n % 4294967296) ++ wide_left (n / 4294967296))) (length numbers)
    else (if small then n else 0)) ≡ n
count_found numbers n true is some =
    ap (λ b. if b then count_at (numbers ++ []) (length numbers) else n)
    (ne_eqb n 0 (λ same. omega (arith, same, some)))
count_found numbers n false is some =
    omega (
      arith,
      low_found numbers (n % 4294967296) (n / 4294967296),
      high_found numbers (n % 4294967296) (n / 4294967296),
    )

count_numbers : (n : ℕ) (small : Bool) → (n / 12 == 0) ≡ small → 1 ≤ n
    → length (if small then [] else wide_left (n % 4294967296) ++ wide_left (n / 4294967296))
    ≡ (if (if small then n else 0) == 0 then 4 else 0)
count_numbers n true is some =
    ap (λ b. if b then 4 else 0) (sym (ne_eqb n 0 (λ same. omega (arith, same, some))))
count_numbers n false is some = refl

module _ (numbers with_event : List ℕ) (run : Run) (are : with_event ≡ numbers ++ event_left run.event) (some : 1 ≤ run.count) where
  -- the numbers of an event come first
  event_added : length with_event ≡ length numbers + kind_numbers (kind_of run.event)
  event_added =
      ap length are
      ∙ (length-append numbers (event_left run.event)
      ∙ ap (λ n. length numbers + n) (event_numbers run.event))

  -- a code takes the numbers that are added for its run
  pub numbers_added : length (with_event ++ count_left run.count) ≡ length numbers + numbers_of (part_of run)
  numbers_added =
      omega (
        arith,
        length-append with_event (count_left run.count),
        event_added,
        count_numbers run.count (run.count / 12 == 0) refl some,
        numbers_apart (part_of run) ((part_of run).count == 0),
      )

  -- a run is in its part and the numbers that are added for it, where its event is
  pub run_found : event_of (kind_of run.event) (value_at with_event (length numbers) (kind_of run.event)) ≡ run.event
      → run_at (with_event ++ count_left run.count) (length numbers) (part_of run) ≡ run
  run_found found =
      same_run (run_at (with_event ++ count_left run.count) (length numbers) (part_of run)) run
      (ap (event_of (kind_of run.event))
      (value_stays with_event (count_left run.count) (length numbers) (kind_of run.event) (omega (arith, event_added)))
      ∙ found)
      (ap (λ i. if (part_of run).count == 0 then count_at (with_event ++ count_left run.count) i else (part_of run).count)
      (sym event_added)
      ∙ count_found with_event run.count (run.count / 12 == 0) refl some)

module _ (numbers : List ℕ) (n : ℕ) (xs : List (List Part)) (i : ℕ) (code : List Part) (within : i < length xs)
    (at : code ≡ get_or xs i code) where
  -- the parts that are left are those of this code and of the codes after it
  parts_left : all_parts (drop i xs) ≡ code ++ all_parts (drop (i + 1) xs)
  parts_left =
      let next : i + 1 ≡ suc i = omega arith in
      rw next
      (ap all_parts (drop-cons xs i code within) ∙ ap (λ c. c ++ all_parts (drop (suc i) xs)) (sym at))

  -- and so are their runs
  runs_left : unpack numbers n (all_parts (drop i xs))
      ≡ unpack numbers n code ++ unpack numbers (n + numbers_in code) (all_parts (drop (i + 1) xs))
  runs_left = ap (unpack numbers n) parts_left ∙ unpack-append numbers n code (all_parts (drop (i + 1) xs))

  -- what is at a place in this code
  pub place_in_code : (place : ℕ) → place < length (expand (unpack numbers n code))
      → slice_get (expand (unpack numbers n (all_parts (drop i xs)))) place ≡ slice_get (expand (unpack numbers n code)) place
  place_in_code place inside =
      ap (λ runs. slice_get (expand runs) place) runs_left
      ∙ in_first (unpack numbers n code) (unpack numbers (n + numbers_in code) (all_parts (drop (i + 1) xs))) place inside

  -- what is at a place past it is in the codes after it
  pub place_past_code : (place : ℕ) → length (expand (unpack numbers n code)) ≤ place
      → slice_get (expand (unpack numbers (n + numbers_in code) (all_parts (drop (i + 1) xs)))) (place - length (expand (unpack numbers n code)))
      ≡ slice_get (expand (unpack numbers n (all_parts (drop i xs)))) place
  place_past_code place past =
      past_first (unpack numbers n code) (unpack numbers (n + numbers_in code) (all_parts (drop (i + 1) xs))) place past
      ∙ sym (ap (λ runs. slice_get (expand runs) place) runs_left)

  -- the numbers of this code are there, and those of the codes after it
  pub numbers_left : n + numbers_in (all_parts (drop i xs)) ≤ length numbers
      → n + numbers_in code + numbers_in (all_parts (drop (i + 1) xs)) ≤ length numbers
  numbers_left all =
      omega (arith, ap numbers_in parts_left, numbers_in-append code (all_parts (drop (i + 1) xs)), all)

-- a part that is added to the last code is the last one of all
joined_last : (xs : List (List Part)) (i : ℕ) (last : List Part) (part : Part) → i + 1 ≡ length xs
    → last ≡ get_or xs i last → all_parts (set xs i (last ++ part ∷ [])) ≡ all_parts xs ++ part ∷ []
joined_last [] i last part end at = absurd (omega (arith, end))
joined_last (x ∷ []) zero last part end at =
    append-nil (last ++ part ∷ []) ∙ ap (λ c. c ++ part ∷ []) (at ∙ sym (append-nil x))
joined_last (x ∷ []) (suc i) last part end at = absurd (omega (arith, end))
joined_last (x ∷ y ∷ ys) zero last part end at = absurd (omega (arith, end))
joined_last (x ∷ y ∷ ys) (suc i) last part end at =
    ap (λ parts. x ++ parts) (joined_last (y ∷ ys) i last part (omega (arith, end)) at)
    ∙ sym (append_assoc x (all_parts (y ∷ ys)) (part ∷ []))

-- the last code with one more part, or as it was
pub last_joined : (xs : List (List Part)) (i : ℕ) (last more : List Part) (part : Part) (did : Bool) → i + 1 ≡ length xs
    → last ≡ get_or xs i last → more ≡ (if did then last ++ part ∷ [] else last)
    → IsJoined xs part (set xs i more) did
last_joined xs i last more part true end at is = (
  ap (λ c. all_parts (set xs i c)) is ∙ joined_last xs i last part end at,
  length-set xs i more,
  λ n within. take-set-le n xs i more (omega (arith, end)),
)
last_joined xs i last more part false end at is =
    ap (set xs i) (is ∙ at) ∙ set-get_or xs i last
