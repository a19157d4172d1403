-- What a node keeps when it forgets, and that every node has a list.
use Rattle.std.proofs.Common.{◌≡◌, ℕ, zero, suc, ◌%◌, ◌<◌, ◌≤◌, ◌&&◌, not, Bool, inl, inr, nat_le}
use Rattle.std.proofs.Common.{List, [], ◌∷◌, ◌++◌, length, get_or, slice_get, Some, Contains, refl, sym, ◌∙◌, ap, arith, le-leb, lt-ltb, le-ltb}
use Rattle.std.proofs.lemmas.Bool.{cases_lt, lt-leb}
use Rattle.std.proofs.lemmas.List.{length_push}
use Rattle.std.proofs.lemmas.Option.{slice_get-get_or, slice_get_past}
use Rattle.stab_c.specs.declared.child.Child.{Child}
use Rattle.stab_c.specs.declared.node.Node.{Node}
use Rattle.stab_c.specs.NodeList.{IsList, first_kept, item_kept, is_left_behind, needs_from, all_need_from, after_forgetting}
use Rattle.stab_c.proofs.Lists.{get_added, get_before}
use Rattle.stab_c.proofs.Rings.{kept_here, none_past}

-- ---- a list of `n` items

abbrev items_of : (ℕ → ℕ) → ℕ → List ℕ
items_of f zero = []
items_of f (suc n) = items_of f n ++ f n ∷ []

items_length : (f : ℕ → ℕ) (n : ℕ) → length (items_of f n) ≡ n
items_length f zero = refl
items_length f (suc n) = let before = items_length f n in omega (arith, length_push (items_of f n) (f n), before)

items_get : (f : ℕ → ℕ) (n i : ℕ) → i < n → slice_get (items_of f n) i ≡ Some (f i)
items_get f zero i here = absurd (omega arith)
items_get f (suc n) i here =
    let sized = items_length f n in
    elim (cases_lt i n) [
      | inl before ↦ get_before (items_of f n) (f n) i (omega (arith, sized)) ∙ items_get f n i before
      | inr from ↦
          let same : i ≡ n = omega arith in
          ap (λ k. slice_get (items_of f n ++ f n ∷ []) k) (same ∙ sym sized)
          ∙ get_added (items_of f n) (f n)
          ∙ ap (λ k. Some (f k)) (sym same)
    ]

module _ (node : Node) (buffer : List ℕ) where
  abbrev item : ℕ → ℕ
  item place = get_or buffer (place % length buffer) 0

  kept_item : (place : ℕ) → first_kept node (length buffer) ≤ place → place < node.length
      → slice_get (items_of item node.length) place ≡ item_kept node buffer place
  kept_item place within below =
      let some : 0 < length buffer = omega arith in
      items_get item node.length place below
      ∙ sym (slice_get-get_or buffer (place % length buffer) 0 (omega arith))
      ∙ sym (kept_here node buffer place within below)

  -- every node has a list
  pub has_list : (items : List ℕ) × IsList node buffer items
  has_list =
      let sized = items_length item node.length in (
        items_of item node.length,
        (
          sized,
          λ place within. elim (cases_lt place node.length) [
            | inl below ↦ kept_item place within below
            | inr past ↦
                slice_get_past (items_of item node.length) place (omega (arith, sized))
                ∙ sym (none_past node buffer place within past)
          ],
        ),
      )

-- ---- what children need

needs_no_more : (node : Node) (child : Child) (place : ℕ) → needs_from node child place ≤ place
needs_no_more node child place =
    elim (cases_lt child.offered node.forgotten) [
      | inl behind ↦ rw (lt-ltb child.offered node.forgotten behind) (omega arith)
      | inr kept ↦ rw (le-ltb child.offered node.forgotten kept) (omega arith)
    ]

all_need_no_more : (node : Node) (children : List Child) (place : ℕ) → all_need_from node children place ≤ place
all_need_no_more node [] place = omega arith
all_need_no_more node (child ∷ children) place =
    let first = needs_no_more node child place in
    let rest = all_need_no_more node children (needs_from node child place) in
    omega (arith, first, rest)

-- one of them that needs what is kept still has it
one_needs : (node : Node) (child : Child) (place : ℕ) → node.forgotten ≤ child.offered
    → needs_from node child place ≤ child.offered
one_needs node child place kept = rw (le-ltb child.offered node.forgotten kept) (omega arith)

each_needs : (node : Node) (children : List Child) (child : Child) (place k : ℕ) → k < length children
    → get_or children k child ≡ child → node.forgotten ≤ child.offered → all_need_from node children place ≤ child.offered
each_needs node [] child place k within is_there kept = absurd (omega arith)
each_needs node (first ∷ children) child place zero within is_there kept =
    let same : first.offered ≡ child.offered = ap (λ (c : Child). c.offered) is_there in
    let its = one_needs node first place (omega (arith, same)) in
    let rest = all_need_no_more node children (needs_from node first place) in
    omega (arith, same, its, rest)
each_needs node (first ∷ children) child place (suc k) within is_there kept =
    each_needs node children child (needs_from node first place) k (omega arith) is_there kept

-- the test gives the same where the place is so low
same_test : (offered kept later : ℕ) → kept ≤ later → (offered < later → offered < kept) → nat_le later offered ≡ nat_le kept offered
same_test offered kept later more back =
    elim (cases_lt offered kept) [
      | inl behind ↦ lt-leb later offered (omega arith) ∙ sym (lt-leb kept offered behind)
      | inr there ↦
          elim (cases_lt offered later) [
            | inl behind ↦ let again = back behind in absurd (omega (arith, again))
            | inr still ↦ le-leb later offered still ∙ sym (le-leb kept offered there)
          ]
    ]

-- so forgetting what is before that place leaves none of them behind that was not so before
pub none_left_behind : (node : Node) (children : List Child) (child : Child) (place size : ℕ) → Contains children child
    → is_left_behind (after_forgetting node (all_need_from node children place)) child size ≡ is_left_behind node child size
none_left_behind node children child place size (k, within, is_there) =
    let needed : ℕ = all_need_from node children place in
    ap (λ (from : Bool). not (from && nat_le child.offered node.length))
    (same_test child.offered (first_kept node size) (first_kept (after_forgetting node needed) size) (omega arith)
    (λ behind. elim (cases_lt child.offered node.forgotten) [
      | inl before ↦ omega (arith, before)
      | inr kept ↦ let low = each_needs node children child place k within is_there kept in omega (arith, low, behind)
    ]))
