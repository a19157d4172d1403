-- What the checks of a list of entries have shown once each has passed: its nodes form a tree.
use Rattle.std.proofs.Common.{◌≡◌, ℕ, zero, suc, ◌<◌, ◌≤◌, true, false, List, [], ◌∷◌, length, Option, Some, None, is_none, option_map, inl, inr, refl, sym, ap, ◌∙◌, arith}
use Rattle.std.proofs.lemmas.Bool.{cases_lt}
use Rattle.std.proofs.lemmas.List.{length-map}
use Rattle.std.proofs.lemmas.List.Quantifiers.{position-Some}
use Rattle.std.specs.List.{count_by, list_all}
use Rattle.std.specs.Str.{bytes_eq}
use Rattle.stab_tree.specs.Parents.{parent_of, parents_of, root_count, have_depths}
use Rattle.stab_tree.specs.Entry.{Entry, names_of}
use Rattle.stab_tree.specs.IsTree.{IsTree}
use Rattle.stab_tree.specs.Name.{is_name, has_same_name}
use Rattle.stab_tree.specs.Nodes.{most_nodes, parent_at, root_of, place_of}
use Rattle.stab_tree.specs.Steps.{ancestor, depth_at}
use Rattle.stab_tree.proofs.Depths.{have_depths-at}
use Rattle.stab_tree.proofs.OwnNames.{own_names}
use Rattle.stab_tree.proofs.Roots.{count-zero, root-none, root-alone}
use Rattle.stab_tree.proofs.Steps.{option_cases, ancestor-suc, ancestor-none, steps_end}

-- ---- parents

-- the parents of one entry and more, taken apart
pub record FirstParent (names : List (List ℕ)) (e : Entry) (es : List Entry) (ps : List (Option ℕ)) : Type 0 where
  pub first : Option ℕ
  pub others : List (Option ℕ)
  pub first_is : parent_of names e ≡ Some first
  pub others_are : parents_of names es ≡ Some others
  pub all_are : ps ≡ first ∷ others

-- parents of one entry and more that were found can be taken apart
pub first_parent : (names : List (List ℕ)) (e : Entry) (es : List Entry) (ps : List (Option ℕ)) → parents_of names (e ∷ es) ≡ Some ps → FirstParent names e es ps
first_parent names e es ps found =
    elim (option_cases (parent_of names e)) [
      | inl none ↦ (let no : None ≡ Some ps = rw none at found in cc)
      | inr (p, one) ↦ (let rest : option_map (λ qs. p ∷ qs) (parents_of names es) ≡ Some ps = rw one at found in
          elim (option_cases (parents_of names es)) [
            | inl none ↦ (let no : None ≡ Some ps = rw none at rest in cc)
            | inr (qs, more) ↦ (let all : Some (p ∷ qs) ≡ Some ps = rw more at rest in
                record { first = p; others = qs; first_is = one; others_are = more; all_are = cc })
          ])
    ]

-- where parents are found, there are as many as entries
pub length-parents_of : (names : List (List ℕ)) (es : List Entry) (ps : List (Option ℕ)) → parents_of names es ≡ Some ps → length ps ≡ length es
length-parents_of names [] ps found = let none : ps ≡ [] = cc in rw none refl
length-parents_of names (e ∷ es) ps found =
    let h = first_parent names e es ps found in
    rw h.all_are (ap suc (length-parents_of names es h.others h.others_are))

-- the parent that an entry names is a node
parent_known : (names : List (List ℕ)) (e : Entry) (p : ℕ) → parent_of names e ≡ Some (Some p) → p < length names
parent_known names e p found =
    elim (option_cases e.parent) [
      | inl none ↦ (let no : Some None ≡ Some (Some p) = rw none at found in cc)
      | inr (s, named) ↦ (let placed : option_map (λ place. Some place) (place_of names s) ≡ Some (Some p) = rw named at found in
          elim (option_cases (place_of names s)) [
            | inl none ↦ (let no : None ≡ Some (Some p) = rw none at placed in cc)
            | inr (q, at) ↦ (let same : Some (Some q) ≡ Some (Some p) = rw at at placed in
                let is_parent : q ≡ p = cc in rw is_parent at (position-Some (λ u. bytes_eq u s) names q [] at).0)
          ])
    ]

-- each parent that is found is a node
parents_known : (names : List (List ℕ)) (es : List Entry) (ps : List (Option ℕ)) → parents_of names es ≡ Some ps → (w p : ℕ) → parent_at ps w ≡ Some p → p < length names
parents_known names [] ps found w p e = let none : ps ≡ [] = cc in let no : None ≡ Some p = rw none at e in cc
parents_known names (e ∷ es) ps found zero p h =
    let f = first_parent names e es ps found in
    let one : f.first ≡ Some p = rw f.all_are at h in
    parent_known names e p (f.first_is ∙ ap Some one)
parents_known names (e ∷ es) ps found (suc w) p h =
    let f = first_parent names e es ps found in
    parents_known names es f.others f.others_are w p (rw f.all_are at h)

-- each parent is one of the nodes
parents_inside : (es : List Entry) (ps : List (Option ℕ)) → parents_of (names_of es) es ≡ Some ps → (w p : ℕ) → parent_at ps w ≡ Some p → p < length ps
parents_inside es ps found w p e = omega (arith, parents_known (names_of es) es ps found w p e, length-map es (λ (e : Entry). e.name), length-parents_of (names_of es) es ps found)

-- ---- the root and the steps to it

-- parent steps lead from nodes to nodes
ancestor_inside : (ps : List (Option ℕ)) (k w r : ℕ) → ((v p : ℕ) → parent_at ps v ≡ Some p → p < length ps) → w < length ps → ancestor ps k w ≡ Some r → r < length ps
ancestor_inside ps zero w r known within leads = let same : w ≡ r = cc in rw same at within
ancestor_inside ps (suc k) w r known within leads =
    elim (option_cases (parent_at ps w)) [
      | inl e ↦ (let no = ancestor-none ps k w e in cc)
      | inr (p, e) ↦ ancestor_inside ps k p r known (known w p e) (sym (ancestor-suc ps k w p e) ∙ leads)
    ]

-- where one node has no parent, the first without one is a node
pub root_inside : (ps : List (Option ℕ)) → count_by is_none ps ≡ 1 → root_of ps < length ps
root_inside ps one = elim (cases_lt (root_of ps) (length ps)) [ inl h ↦ h | inr h ↦ absurd (omega (arith, count-zero ps h)) ]

-- a node with a depth reaches the root
pub reaches_root : (ps : List (Option ℕ)) → ((v p : ℕ) → parent_at ps v ≡ Some p → p < length ps) → count_by is_none ps ≡ 1 → (w k : ℕ) → w < length ps → depth_at ps w ≡ Some k → ancestor ps k w ≡ Some (root_of ps)
reaches_root ps known one w k within deep =
    let walk = steps_end ps (length ps) w k deep in
    let root = root-alone ps walk.0 one (ancestor_inside ps k w walk.0 known within walk.1) walk.2 in
    walk.1 ∙ ap Some root

-- ---- the tree

-- the checks of a list of entries have passed, but for the last
pub record Passed (es : List Entry) (ps : List (Option ℕ)) : Type 0 where
  pub few : length es ≤ most_nodes
  pub lawful : list_all is_name (names_of es) ≡ true
  pub own : has_same_name (names_of es) ≡ false
  pub found : parents_of (names_of es) es ≡ Some ps
  pub one : root_count ps ≡ 1

-- where they have passed, there are no more parents than nodes may be, and each is one of the nodes
pub few_parents : {es : List Entry} {ps : List (Option ℕ)} → Passed es ps → length ps ≤ most_nodes
few_parents {es} {ps} passed = omega (arith, passed.few, length-parents_of (names_of es) es ps passed.found)

pub known_parents : {es : List Entry} {ps : List (Option ℕ)} → Passed es ps → (w p : ℕ) → parent_at ps w ≡ Some p → p < length ps
known_parents {es} {ps} passed = parents_inside es ps passed.found

-- where the last check has passed too, the nodes are a tree
pub IsTree-from_checks : (es : List Entry) (ps : List (Option ℕ)) → Passed es ps → have_depths ps ≡ true → IsTree (record { names = names_of es; parents = ps })
IsTree-from_checks es ps passed deep =
    let same_length = length-parents_of (names_of es) es ps passed.found in
    let inside = root_inside ps passed.one in
    let known = known_parents passed in
    record {
      rooted =
          record {
            some_node = omega arith;
            known_parents = known;
            root_is_node = inside;
            root_has_none = root-none ps inside;
            one_root = λ w within none. root-alone ps w passed.one within none;
            reaches_root = λ w within. let h = have_depths-at ps deep w within in (h.0, reaches_root ps known passed.one w h.0 within h.1);
          };
      named = length-map es (λ (e : Entry). e.name) ∙ sym same_length;
      lawful_names = passed.lawful;
      own_names = own_names (names_of es) passed.own;
      few_nodes = few_parents passed;
    }
