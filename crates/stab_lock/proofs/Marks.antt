-- The marks after one more run, in a code of its own or as the second of the last code.
use Rattle.std.proofs.Common.{◌≡◌, ℕ, ◌+◌, ◌-◌, ◌*◌, ◌%◌, ◌<◌, ◌≤◌, List, [], ◌∷◌, ◌++◌}
use Rattle.std.proofs.Common.{length, take, get_or, refl, sym, subst, ap, ◌∙◌, arith, below_more}
use Rattle.std.proofs.Common.{drop, slice_get, slice_index, Option, Bool, true, false, ◌==◌, if◌then◌else◌, replicate, rules}
use Rattle.std.proofs.lemmas.List.{get_or_default, take_all, length-drop, length-append, take-append-le, append_assoc, get_or_append_left}
use Rattle.std.proofs.Math.Seq.{get_or-append_seam}
use Rattle.stab_core.specs.declared.event.Event.{Event}
use Rattle.stab_lock.specs.declared.run.Run.{Run}
use Rattle.stab_lock.specs.declared.part.Part.{Part}
use Rattle.stab_lock.specs.CodesInside.{all_parts, part_of, count_left, event_left, event_of, expand, kind_of}
use Rattle.stab_lock.specs.CodesInside.{numbers_in, run_at, unpack, value_at, AreRuns}
use Rattle.stab_lock.specs.HistoryInside.{AreMarks, ArePacked, events_before, numbers_before}
use Rattle.stab_lock.specs.History.{IsLast}
use Rattle.stab_lock.proofs.Runs.{runs_more, count_more, expand_more, past_first}
use Rattle.stab_lock.proofs.Codes.{first_and_others, first_numbers, numbers_in-append, numbers_added, run_found, unpack-append, unpack_stays}

module _ (old new : ℕ → ℕ) (codes : ℕ) (same : (n : ℕ) → n ≤ codes → new n ≡ old n) where
  -- within a block the marks stay
  marks_stay : (marks : List ℕ) → AreMarks old codes marks → (codes % 256 ≡ 0 → ⊥)
      → AreMarks new (codes + 1) marks
  marks_stay marks marked inside = (
    omega (arith, marked.0),
    λ k within. marked.1 k within ∙ sym (same (k * 256) (omega (arith, marked.0))),
  )

  -- a new block has a mark of its own
  marks_grow : (marks : List ℕ) → AreMarks old codes marks → codes % 256 ≡ 0
      → AreMarks new (codes + 1) (marks ++ old codes ∷ [])
  marks_grow marks marked full = (
    omega (arith, length-append marks (old codes ∷ []), marked.0),
    λ k within. by_place k (omega (arith, length-append marks (old codes ∷ []))),
  )
    where
      before : (k : ℕ) → k < length marks → get_or (marks ++ old codes ∷ []) k 0 ≡ new (k * 256)
      before k within =
          get_or_append_left marks (old codes ∷ []) 0 k within
          ∙ (marked.1 k within ∙ sym (same (k * 256) (omega (arith, marked.0))))

      last : get_or (marks ++ old codes ∷ []) (length marks) 0 ≡ new (length marks * 256)
      last =
          let whole : codes ≡ length marks * 256 = omega (arith, marked.0) in
          get_or-append_seam marks (old codes) [] 0
          ∙ (ap old whole ∙ sym (same (length marks * 256) (omega (arith, whole))))

      by_place : (k : ℕ) → k < length marks + 1 → get_or (marks ++ old codes ∷ []) k 0 ≡ new (k * 256)
      by_place = below_more (λ k. get_or (marks ++ old codes ∷ []) k 0 ≡ new (k * 256)) (length marks) before last

  -- the marks after one more code
  marks_more : (marks : List ℕ) (starts : Bool) → (codes % 256 == 0) ≡ starts → AreMarks old codes marks
      → AreMarks new (codes + 1) (if starts then marks ++ old codes ∷ [] else marks)
  marks_more marks true full marked = marks_grow marks marked (search rules)
  marks_more marks false inside marked = marks_stay marks marked (search rules)

-- marks stay where the codes before the last one do
marks_same : (old new : ℕ → ℕ) (codes : ℕ) (marks : List ℕ) → ((n : ℕ) → n < codes → new n ≡ old n)
    → AreMarks old codes marks → AreMarks new codes marks
marks_same old new codes marks same marked = (
  marked.0,
  λ k within. marked.1 k within ∙ sym (same (k * 256) (omega (arith, marked.0))),
)

-- all events, and all numbers, are those before the end
all_events_before : (numbers : List ℕ) (codes : List (List Part))
    → events_before numbers codes (length codes) ≡ length (expand (unpack numbers 0 (all_parts codes)))
all_events_before numbers codes =
    ap (λ xs. length (expand (unpack numbers 0 (all_parts xs)))) (take_all (length codes) codes (omega arith))

all_numbers_before : (codes : List (List Part)) → numbers_before codes (length codes) ≡ numbers_in (all_parts codes)
all_numbers_before codes = ap (λ xs. numbers_in (all_parts xs)) (take_all (length codes) codes (omega arith))

module _ (xs ys : List (List Part)) (numbers with_event marks starts : List ℕ) (count : ℕ) (run : Run)
    (packed : ArePacked xs numbers marks starts count) (are : with_event ≡ numbers ++ event_left run.event)
    (found : event_of (kind_of run.event) (value_at with_event (length numbers) (kind_of run.event)) ≡ run.event)
    (some : 1 ≤ run.count) (added : all_parts ys ≡ all_parts xs ++ part_of run ∷ []) where
  -- all numbers after one more run
  abbrev pub after : List ℕ
  after = with_event ++ count_left run.count

  -- the numbers of a run are added to the others
  after_is : after ≡ numbers ++ (event_left run.event ++ count_left run.count)
  after_is =
      ap (λ ns. ns ++ count_left run.count) are
      ∙ append_assoc numbers (event_left run.event) (count_left run.count)

  -- the first codes mean what they meant, where they are the same
  first_stay : (n : ℕ) → take n ys ≡ take n xs
      → unpack after 0 (all_parts (take n ys)) ≡ unpack numbers 0 (all_parts (take n xs))
  first_stay n same =
      ap (λ codes. unpack after 0 (all_parts codes)) same
      ∙ (ap (λ ns. unpack ns 0 (all_parts (take n xs))) after_is
      ∙ unpack_stays numbers (event_left run.event ++ count_left run.count) 0 (all_parts (take n xs))
      (omega (arith, first_numbers n xs, packed.all_numbers)))

  -- the runs of the codes after one more
  unpacked_more : unpack after 0 (all_parts ys) ≡ unpack numbers 0 (all_parts xs) ++ run ∷ []
  unpacked_more =
      let place : 0 + numbers_in (all_parts xs) ≡ length numbers = omega (arith, packed.all_numbers) in
      let others : unpack after 0 (all_parts xs) ≡ unpack numbers 0 (all_parts xs) =
      ap (λ ns. unpack ns 0 (all_parts xs)) after_is
      ∙ unpack_stays numbers (event_left run.event ++ count_left run.count) 0 (all_parts xs) (omega (arith, packed.all_numbers))
      in
      ap (unpack after 0) added
      ∙ (unpack-append after 0 (all_parts xs) (part_of run ∷ [])
      ∙ (ap (λ runs. runs ++ unpack after (0 + numbers_in (all_parts xs)) (part_of run ∷ [])) others
      ∙ (ap (λ i. unpack numbers 0 (all_parts xs) ++ run_at after i (part_of run) ∷ []) place
      ∙ ap (λ r. unpack numbers 0 (all_parts xs) ++ r ∷ []) (run_found numbers with_event run are some found))))

  -- what the codes mean after one more run
  pub events_more : expand (unpack after 0 (all_parts ys))
      ≡ expand (unpack numbers 0 (all_parts xs)) ++ replicate run.count run.event
  events_more = ap expand unpacked_more ∙ expand_more (unpack numbers 0 (all_parts xs)) run

  -- their marks of events, and of numbers, are those of the codes before them
  events_same : (n : ℕ) → take n ys ≡ take n xs → events_before after ys n ≡ events_before numbers xs n
  events_same n same = ap (λ runs. length (expand runs)) (first_stay n same)

  numbers_same : (n : ℕ) → take n ys ≡ take n xs → numbers_before ys n ≡ numbers_before xs n
  numbers_same n same = ap (λ codes. numbers_in (all_parts codes)) same

  -- runs stay packed where one is added of whose event they do not end, with such marks
  packed_with : (more_marks more_starts : List ℕ) → (IsLast run.event (expand (unpack numbers 0 (all_parts xs))) → ⊥)
      → AreMarks (events_before after ys) (length ys) more_marks
      → AreMarks (numbers_before ys) (length ys) more_starts
      → ArePacked ys after more_marks more_starts (count + run.count)
  packed_with more_marks more_starts differs are_marked are_started = record {
    runs =
        subst AreRuns (sym unpacked_more) (runs_more (unpack numbers 0 (all_parts xs)) run packed.runs differs some);
    all_numbers =
        omega (
          arith,
          ap numbers_in added,
          numbers_in-append (all_parts xs) (part_of run ∷ []),
          packed.all_numbers,
          numbers_added numbers with_event run are some,
        );
    marked = are_marked;
    started = are_started;
    counted =
        ap (λ n. n + run.count) packed.counted
        ∙ (sym (count_more (unpack numbers 0 (all_parts xs)) run) ∙ sym (ap (λ runs. length (expand runs)) unpacked_more));
  }

  -- so it is where the run has a code of its own, with new marks where that begins a block
  pub packed_more : ys ≡ xs ++ (part_of run ∷ []) ∷ []
      → (IsLast run.event (expand (unpack numbers 0 (all_parts xs))) → ⊥)
      → ArePacked ys after
      (if length xs % 256 == 0 then marks ++ count ∷ [] else marks)
      (if length xs % 256 == 0 then starts ++ length numbers ∷ [] else starts) (count + run.count)
  packed_more own differs =
      let longer : length ys ≡ length xs + 1 = ap length own ∙ length-append xs ((part_of run ∷ []) ∷ []) in
      let events : events_before numbers xs (length xs) ≡ count =
      all_events_before numbers xs ∙ sym packed.counted
      in
      let all : numbers_before xs (length xs) ≡ length numbers = all_numbers_before xs ∙ packed.all_numbers in
      let same : (n : ℕ) → n ≤ length xs → take n ys ≡ take n xs =
      λ n within. ap (take n) own ∙ take-append-le n xs ((part_of run ∷ []) ∷ []) within
      in
      packed_with (if length xs % 256 == 0 then marks ++ count ∷ [] else marks)
      (if length xs % 256 == 0 then starts ++ length numbers ∷ [] else starts) differs
      (rw (longer, ← events)
      (marks_more (events_before numbers xs) (events_before after ys) (length xs)
      (λ n within. events_same n (same n within)) marks (length xs % 256 == 0) refl packed.marked))
      (rw (longer, ← all)
      (marks_more (numbers_before xs) (numbers_before ys) (length xs)
      (λ n within. numbers_same n (same n within)) starts (length xs % 256 == 0) refl packed.started))

  -- and where it joined the last code, with the marks that are there
  pub packed_joined : length ys ≡ length xs → ((n : ℕ) → n < length xs → take n ys ≡ take n xs)
      → (IsLast run.event (expand (unpack numbers 0 (all_parts xs))) → ⊥)
      → ArePacked ys after marks starts (count + run.count)
  packed_joined long same differs =
      packed_with marks starts differs
      (rw long
      (marks_same (events_before numbers xs) (events_before after ys) (length xs) marks
      (λ n within. events_same n (same n within)) packed.marked))
      (rw long
      (marks_same (numbers_before xs) (numbers_before ys) (length xs) starts
      (λ n within. numbers_same n (same n within)) packed.started))

-- the codes from a block on
module _ (xs ys : List (List Part)) (numbers all_numbers marks starts : List ℕ) (count block start : ℕ) (same : ys ≡ xs)
    (also : all_numbers ≡ numbers) (packed : ArePacked xs numbers marks starts count) (within : block < length marks)
    (started : start ≡ get_or starts block start) where
  -- their numbers come after those of the codes before them
  start_is : start ≡ numbers_in (all_parts (take (block * 256) xs))
  start_is =
      let inside : block < length starts = omega (arith, within, packed.marked.0, packed.started.0) in
      started ∙ (get_or_default starts block start 0 inside ∙ packed.started.1 block inside)

  -- they are all codes that are left
  block_is : take (length ys - block * 256) (drop (block * 256) ys) ≡ drop (block * 256) xs
  block_is =
      rw same
      (take_all (length xs - block * 256) (drop (block * 256) xs) (omega (arith, length-drop (block * 256) xs)))

  -- their numbers are there
  pub numbers_in_block : start + numbers_in (all_parts (take (length ys - block * 256) (drop (block * 256) ys))) ≤ length all_numbers
  numbers_in_block =
      rw (block_is, also)
      (omega (
        arith,
        start_is,
        packed.all_numbers,
        first_numbers (block * 256) xs,
      ))

  -- what is at a place is in them where they begin at the place or before it
  pub found_in_block : (place mark : ℕ) (found : Option Event) → mark ≡ get_or marks block mark
      → slice_index marks block ≤ place
      → found ≡ slice_get (expand (unpack all_numbers start (all_parts (take (length ys - block * 256) (drop (block * 256) ys))))) (place - mark)
      → found ≡ slice_get (expand (unpack numbers 0 (all_parts xs))) place
  found_in_block place mark found marked begins finds =
      let first : List Part = all_parts (take (block * 256) xs) in
      let before : slice_index marks block ≡ length (expand (unpack numbers 0 first)) =
      packed.marked.1 block within
      in
      let at : mark ≡ length (expand (unpack numbers 0 first)) =
      marked ∙ (get_or_default marks block mark 0 within ∙ before)
      in
      let from : start ≡ 0 + numbers_in first = omega (arith, start_is) in
      let past : length (expand (unpack numbers 0 first)) ≤ place = omega (arith, before, begins) in
      let whole : unpack numbers 0 first ++ unpack numbers (0 + numbers_in first) (all_parts (drop (block * 256) xs)) ≡ unpack numbers 0 (all_parts xs) =
      sym (unpack-append numbers 0 first (all_parts (drop (block * 256) xs)))
      ∙ ap (unpack numbers 0) (first_and_others (block * 256) xs)
      in
      finds
      ∙ (rw (block_is, also, at, from)
      (past_first (unpack numbers 0 first) (unpack numbers (0 + numbers_in first) (all_parts (drop (block * 256) xs))) place past
      ∙ ap (λ runs. slice_get (expand runs) place) whole))
