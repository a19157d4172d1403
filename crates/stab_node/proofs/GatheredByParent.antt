-- What is gathered by link so far, and what is still to come.
use Rattle.std.proofs.Common.{◌≡◌, ◌==◌, ◌<◌, ◌≤◌, ◌+◌, ℕ, suc, Bool, true, false, List, [], ◌∷◌, ◌++◌, length, get_or, set, drop, map, Option, Some, None, if◌then◌else◌, refl, ap, sym, ◌∙◌, append_assoc, arith, inl, inr}
use Rattle.std.proofs.lemmas.Bool.{cases_eq, eq-eqb, ne_eqb}
use Rattle.std.proofs.lemmas.List.{drop_all, append-nil, length-append, length-map, length-set, get_or-map, get_or-set_same, get_or-set_other, nil_from_length}
use Rattle.std.proofs.lemmas.List.FromFn.{fill_by_all}
use Rattle.stab_tree.proofs.ForCallers.{links_counted_anywhere}
use Rattle.stab_tree.specs.Links.{links_from, links_of}
use Rattle.stab_node.proofs.ByParent.{as_many_to_children, by_parent_at, length-by_parent}
use Rattle.stab_node.proofs.Scattered.{next_parent}
use Rattle.stab_node.specs.Scattering.{by_parent, child_counts, to_children}

-- the length of a choice of a list with one more entry
length_chosen : {A : Type 0} (b : Bool) (x : A) (xs : List A) → length (if b then x ∷ xs else xs) ≡ (if b then suc (length xs) else length xs)
length_chosen true x xs = refl
length_chosen false x xs = refl

-- where a list had one more entry, and was one longer, it is as long as wanted
same_after : {A : Type 0} (b : Bool) (old : List A) (x : A) (new : List A) (n : ℕ) → old ≡ (if b then x ∷ new else new)
    → length old ≡ (if b then suc n else n) → length new ≡ n
same_after true old x new n was counted = omega (arith, ap length was, counted)
same_after false old x new n was counted = omega (arith, ap length was, counted)

-- The rows hold what the other nodes are still to take from them, and the entries so far, with those, are scattered as all rows were.
pub record GatheredSoFar {A : Type 0} (parents : List (Option ℕ)) (all rows : List (List A)) (entries : List A) (i : ℕ) : Type 0 where
  pub all_number : length all ≡ length parents
  pub number : length rows ≡ length parents
  pub counts : (node : ℕ) → node < length parents
      → length (get_or rows node []) ≡ length (to_children node (drop i parents) (links_of (drop i parents)))
  pub links : length entries + length (links_of (drop i parents)) ≡ length (links_of parents)
  pub each : (more : List A) → ((node : ℕ) → node < length parents → to_children node (drop i parents) more ≡ get_or rows node [])
      → (node : ℕ) → node < length parents → to_children node parents (entries ++ more) ≡ get_or all node []

-- before the first node nothing is taken
pub none_gathered : {A : Type 0} (parents : List (Option ℕ)) (all : List (List A)) → map (λ row. length row) all ≡ child_counts parents
    → GatheredSoFar parents all all [] 0
none_gathered parents all counted =
    let number : length all ≡ length parents =
    sym (length-map all (λ row. length row))
    ∙ (ap length counted ∙ (length-map (by_parent parents (links_of parents)) (λ row. length row) ∙ length-by_parent parents (links_of parents))) in
    record {
      all_number = number;
      number = number;
      counts = λ node within.
          sym (get_or-map (λ row. length row) all node [] 0 (omega arith))
          ∙ (ap (λ counts. get_or counts node 0) counted
          ∙ (get_or-map (λ row. length row) (by_parent parents (links_of parents)) node [] 0 (omega (arith, length-by_parent parents (links_of parents)))
          ∙ ap (λ row. length row) (by_parent_at parents (links_of parents) node within)));
      links = omega arith;
      each = λ more fits node within. fits node within;
    }

module _ {A : Type 0} (parents : List (Option ℕ)) (all rows : List (List A)) (entries : List A) (i : ℕ)
    (so_far : GatheredSoFar parents all rows entries i) (in_list : i < length parents) where
  -- nothing belongs to a link into the root
  pub root_gathered : get_or parents i None ≡ None → GatheredSoFar parents all rows entries (i + 1)
  root_gathered is_root =
      let next = next_parent parents i None in_list is_root in
      let same_links : length (links_of (drop i parents)) ≡ length (links_of (drop (i + 1) parents)) =
      ap (λ rest. length (links_of rest)) next ∙ links_counted_anywhere (drop (i + 1) parents) 1 0 in
      record {
        all_number = so_far.all_number;
        number = so_far.number;
        counts = λ node within.
            so_far.counts node within
            ∙ (ap (λ rest. length (to_children node rest (links_of rest))) next
            ∙ as_many_to_children node (drop (i + 1) parents) (links_from 1 (drop (i + 1) parents)) (links_of (drop (i + 1) parents))
            (links_counted_anywhere (drop (i + 1) parents) 1 0));
        links = omega (arith, so_far.links, same_links);
        each = λ more fits. so_far.each more (λ node within. ap (λ rest. to_children node rest more) next ∙ fits node within);
      }

  -- how many the row of a node still holds, where the next node is a child
  counts_at_child : (parent : ℕ) → get_or parents i None ≡ Some parent → (node : ℕ) → node < length parents
      → length (get_or rows node []) ≡ (if parent == node then suc (length (to_children node (drop (i + 1) parents) (links_of (drop (i + 1) parents)))) else length (to_children node (drop (i + 1) parents) (links_of (drop (i + 1) parents))))
  counts_at_child parent is_child node within =
      let next = next_parent parents i (Some parent) in_list is_child in
      so_far.counts node within
      ∙ (ap (λ rest. length (to_children node rest (links_of rest))) next
      ∙ (length_chosen (parent == node) 0 (to_children node (drop (i + 1) parents) (links_from 1 (drop (i + 1) parents)))
      ∙ ap (λ n. if parent == node then suc n else n)
      (as_many_to_children node (drop (i + 1) parents) (links_from 1 (drop (i + 1) parents)) (links_of (drop (i + 1) parents))
      (links_counted_anywhere (drop (i + 1) parents) 1 0))))

  -- the parent of a child still has something for it
  pub some_for_child : (parent : ℕ) → get_or parents i None ≡ Some parent → parent < length parents → 0 < length (get_or rows parent [])
  some_for_child parent is_child known =
      let count = counts_at_child parent is_child parent known in
      let here : (parent == parent) ≡ true = eq-eqb parent parent refl in
      omega (arith, rw here at count)

  module _ (parent : ℕ) (is_child : get_or parents i None ≡ Some parent) (known : parent < length parents)
      (x : A) (rest : List A) (takes : get_or rows parent [] ≡ x ∷ rest) where
    -- what the row of a node held is what it holds now, after the child's where the node is its parent
    row_after : (node : ℕ) → get_or rows node [] ≡ (if parent == node then x ∷ get_or (set rows parent rest) node [] else get_or (set rows parent rest) node [])
    row_after node =
        elim (cases_eq node parent) [
          | inl same ↦
              rw (same, eq-eqb parent parent refl, get_or-set_same rows parent rest [] (omega (arith, so_far.number))) takes
          | inr apart ↦
              rw (ne_eqb parent node (λ same. apart (sym same)), get_or-set_other rows parent node rest [] apart) refl
        ]

    -- a child takes the first of its parent's row
    pub child_gathered : GatheredSoFar parents all (set rows parent rest) (entries ++ x ∷ []) (i + 1)
    child_gathered =
        let next = next_parent parents i (Some parent) in_list is_child in
        let links_left : length (links_of (drop i parents)) ≡ suc (length (links_of (drop (i + 1) parents))) =
        ap (λ rest. length (links_of rest)) next ∙ ap (λ n. suc n) (links_counted_anywhere (drop (i + 1) parents) 1 0) in
        record {
          all_number = so_far.all_number;
          number = length-set rows parent rest ∙ so_far.number;
          counts = λ node within.
              same_after (parent == node) (get_or rows node []) x (get_or (set rows parent rest) node [])
              (length (to_children node (drop (i + 1) parents) (links_of (drop (i + 1) parents)))) (row_after node)
              (counts_at_child parent is_child node within);
          links = omega (arith, so_far.links, links_left, length-append entries (x ∷ []));
          each = λ more fits node within.
              ap (λ front. to_children node parents front) (append_assoc entries (x ∷ []) more)
              ∙ so_far.each (x ∷ more)
              (λ other inside.
              ap (λ rest. to_children other rest (x ∷ more)) next
              ∙ (ap (λ row. if parent == other then x ∷ row else row) (fits other inside) ∙ sym (row_after other)))
              node within;
        }

-- after the last node everything is gathered, one for each link
pub all_gathered : {A : Type 0} (parents : List (Option ℕ)) (all rows : List (List A)) (entries : List A) (i : ℕ)
    → GatheredSoFar parents all rows entries i → length parents ≤ i
    → (length entries ≡ length (links_of parents)) × (by_parent parents entries ≡ all)
all_gathered parents all rows entries i so_far past =
    let no_more : drop i parents ≡ [] = drop_all i parents past in
    let no_links : length (links_of (drop i parents)) ≡ 0 = ap (λ rest. length (links_of rest)) no_more in (
      omega (arith, so_far.links, no_links),
      sym
          (fill_by_all (λ node. to_children node parents entries) all (length parents) [] so_far.all_number
          (λ node within.
          sym (so_far.each []
          (λ other inside.
          ap (λ rest. to_children other rest []) no_more
          ∙ sym (nil_from_length (get_or rows other []) (so_far.counts other inside ∙ ap (λ rest. length (to_children other rest (links_of rest))) no_more)))
          node within)
          ∙ ap (λ front. to_children node parents front) (append-nil entries))),
    )
