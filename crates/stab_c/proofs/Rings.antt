-- What the buffer of a node holds after an item was added to its list.
use Rattle.std.proofs.Common.{◌≡◌, ◌≢◌, ℕ, suc, ◌+◌, ◌-◌, ◌*◌, ◌/◌, ◌%◌, ◌<◌, ◌≤◌, inl, inr}
use Rattle.std.proofs.Common.{List, [], ◌∷◌, ◌++◌, length, set, slice_get, None, refl, sym, ◌∙◌, ap, subst, arith, length-set, mul-le-mul_left, mul-suc, eq-or-lt_of_le, le-leb, lt-ltb, le-ltb}
use Rattle.std.proofs.lemmas.Bool.{cases_lt, lt-leb}
use Rattle.std.proofs.lemmas.List.{length_push}
use Rattle.std.proofs.lemmas.Option.{slice_get_past}
use Rattle.stab_c.specs.declared.node.Node.{Node}
use Rattle.stab_c.specs.NodeList.{IsList, first_kept, item_kept}
use Rattle.stab_c.proofs.Lists.{get_written, get_unwritten, get_before, get_added}

-- two places that are less apart than the ring has places do not lie at the same one
pub places_apart : (n i j : ℕ) → i < j → j < i + n → i % n ≢ j % n
places_apart n i j before close same =
    let some : 0 < n = omega arith in
    elim (cases_lt (i / n) (j / n)) [
      | inl rounds ↦
          let more : n * suc (i / n) ≤ n * (j / n) = mul-le-mul_left n rounds in
          absurd (omega (arith, more, mul-suc n (i / n)))
      | inr rounds ↦
          let fewer : n * (j / n) ≤ n * (i / n) = mul-le-mul_left n rounds in
          absurd (omega (arith, fewer))
    ]

-- an item at a place from which on the node keeps its list
pub kept_here : (node : Node) (buffer : List ℕ) (place : ℕ) → first_kept node (length buffer) ≤ place
    → place < node.length → item_kept node buffer place ≡ slice_get buffer (place % length buffer)
kept_here node buffer place within below =
    rw (le-leb (first_kept node (length buffer)) place within, lt-ltb place node.length below) refl

-- there is no item past the list's end
pub none_past : (node : Node) (buffer : List ℕ) (place : ℕ) → first_kept node (length buffer) ≤ place
    → node.length ≤ place → item_kept node buffer place ≡ None
none_past node buffer place within past =
    rw (le-leb (first_kept node (length buffer)) place within, le-ltb place node.length past) refl

-- no item before those is kept
pub none_before : (node : Node) (buffer : List ℕ) (place : ℕ) → place < first_kept node (length buffer)
    → item_kept node buffer place ≡ None
none_before node buffer place left =
    rw (lt-leb (first_kept node (length buffer)) place left) refl

module _ (before after : Node) (buffer items : List ℕ) (item : ℕ)
    (room : before.length - before.forgotten < length buffer) (longer : after.length ≡ before.length + 1)
    (same : after.forgotten ≡ before.forgotten) (is_list : IsList before buffer items) where
  abbrev ring : List ℕ
  ring = set buffer (before.length % length buffer) item

  sized : length ring ≡ length buffer
  sized = length-set buffer (before.length % length buffer) item

  -- an item of before lies where it did
  stays : (place : ℕ) → first_kept after (length ring) ≤ place → place < before.length
      → slice_get (items ++ item ∷ []) place ≡ item_kept after ring place
  stays place within below =
      let (counted, kept) = is_list in
      let within_before : first_kept before (length buffer) ≤ place = omega (arith, sized) in
      get_before items item place (omega (arith, counted))
      ∙ kept place within_before
      ∙ kept_here before buffer place within_before below
      ∙ sym (get_unwritten buffer (before.length % length buffer) (place % length buffer) item
      (λ met. places_apart (length buffer) place before.length below (omega arith) (sym met)))
      ∙ ap (λ size. slice_get ring (place % size)) (sym sized)
      ∙ sym (kept_here after ring place within (omega arith))

  -- the item that was added is at the list's end
  comes : first_kept after (length ring) ≤ before.length
      → slice_get (items ++ item ∷ []) before.length ≡ item_kept after ring before.length
  comes within =
      let (counted, kept) = is_list in
      ap (λ place. slice_get (items ++ item ∷ []) place) (sym counted)
      ∙ get_added items item
      ∙ sym (get_written buffer (before.length % length buffer) item (omega arith))
      ∙ ap (λ size. slice_get ring (before.length % size)) (sym sized)
      ∙ sym (kept_here after ring before.length within (omega arith))

  past : (place : ℕ) → first_kept after (length ring) ≤ place → before.length < place
      → slice_get (items ++ item ∷ []) place ≡ item_kept after ring place
  past place within beyond =
      let (counted, kept) = is_list in
      slice_get_past (items ++ item ∷ []) place (omega (arith, length_push items item, counted))
      ∙ sym (none_past after ring place within (omega arith))

  -- so an item that was added is the last of the list, and the others are as they were
  pub list_added : IsList after ring (items ++ item ∷ [])
  list_added =
      let (counted, kept) = is_list in (
        omega (arith, length_push items item, counted),
        λ place within. elim (cases_lt place before.length) [
          | inl below ↦ stays place within below
          | inr from ↦ elim (eq-or-lt_of_le from) [
            | inl here ↦
                subst (λ p. slice_get (items ++ item ∷ []) p ≡ item_kept after ring p) here
                (comes (omega (arith, here)))
            | inr beyond ↦ past place within beyond
          ]
        ],
      )

-- the same of a length and a buffer that are so
pub list_put : (before : Node) (longer : ℕ) (buffer written items : List ℕ) (item : ℕ)
    → before.length - before.forgotten < length buffer
    → written ≡ set buffer (before.length % length buffer) item → longer ≡ before.length + 1
    → IsList before buffer items → IsList (record before { length = longer }) written (items ++ item ∷ [])
list_put before longer buffer written items item room is counted is_list =
    let after : Node = record before { length = longer } in
    subst (λ ring. IsList after ring (items ++ item ∷ [])) (sym is)
    (list_added before after buffer items item room counted refl is_list)
