-- The links of a tree, by place.
use Rattle.std.proofs.Common.{◌≡◌, ℕ, zero, suc, ◌+◌, ◌-◌, ◌<◌, ◌≤◌, eqb, List, [], ◌∷◌, length, get_or, Option, Some, None, IsSome, slice_get, ◌⊎◌, inl, inr, ⊎_elim, refl, sym, ap, ◌∙◌, arith}
use Rattle.std.proofs.lemmas.Bool.{cases_lt, eq-eqb, ne_eqb}
use Rattle.std.proofs.lemmas.Option.{slice_get-get_or, slice_get_within, get_or_from_slice_get}
use Rattle.stab_tree.specs.Links.{links_from, links_of, link_place_of, HasLinks}
use Rattle.stab_tree.specs.Nodes.{parent_at, root_of}
use Rattle.stab_tree.specs.Parents.{root_count}
use Rattle.stab_tree.proofs.Places.{position-is, position-none}
use Rattle.stab_tree.proofs.Checked.{root_inside}
use Rattle.stab_tree.proofs.Roots.{count-cons, count-none_before, root-none, root-alone}
use Rattle.stab_tree.proofs.Steps.{child_is_node, option_cases, some_value}

-- there are as many links as nodes with a parent
pub length-links_from : (w : ℕ) (ps : List (Option ℕ)) → length (links_from w ps) + root_count ps ≡ length ps
length-links_from w [] = refl
length-links_from w (None ∷ ps) = omega (arith, count-cons None ps, length-links_from (suc w) ps)
length-links_from w (Some p ∷ ps) = omega (arith, count-cons (Some p) ps, length-links_from (suc w) ps)

-- the links before the root are at the places of their children
link_before : (w : ℕ) (ps : List (Option ℕ)) (k : ℕ) → k < root_of ps → k < length ps → slice_get (links_from w ps) k ≡ Some (w + k)
link_before w [] k before within = absurd (omega arith)
link_before w (None ∷ ps) k before within = absurd (omega arith)
link_before w (Some p ∷ ps) zero before within = ap Some (omega arith)
link_before w (Some p ∷ ps) (suc k) before within = link_before (suc w) ps k (omega arith) (omega arith) ∙ ap Some (omega arith)

-- the links after the root are one place earlier than their children
link_after : (w : ℕ) (ps : List (Option ℕ)) (k : ℕ) → root_count ps ≡ 1 → root_of ps ≤ k → k + 1 < length ps → slice_get (links_from w ps) k ≡ Some (w + k + 1)
link_after w [] k one after within = absurd (omega arith)
link_after w (None ∷ ps) k one after within =
    let past = count-none_before ps (omega (arith, count-cons None ps)) in
    link_before (suc w) ps k (omega arith) (omega arith) ∙ ap Some (omega arith)
link_after w (Some p ∷ ps) zero one after within = absurd (omega arith)
link_after w (Some p ∷ ps) (suc k) one after within =
    link_after (suc w) ps k (omega (arith, count-cons (Some p) ps)) (omega arith) (omega arith) ∙ ap Some (omega arith)

-- the link at place k leads into w
pub record LinkInto (ps : List (Option ℕ)) (k w : ℕ) : Type 0 where
  pub at : slice_get (links_of ps) k ≡ Some w
  pub place : link_place_of ps w ≡ Some k
  pub inside : w < length ps
  pub child : IsSome (parent_at ps w)

module _ (ps : List (Option ℕ)) (one : root_count ps ≡ 1) where
  -- a node that is not the root has a parent
  has_parent : (w : ℕ) → w < length ps → (w ≡ root_of ps → ⊥) → IsSome (parent_at ps w)
  has_parent w within apart =
      elim (option_cases (parent_at ps w)) [
        | inl none ↦ absurd (apart (root-alone ps w one within none))
        | inr (p, some) ↦ rw some refl
      ]

  -- the child that names the link at place j
  link_child : (j : ℕ) → j < length (links_of ps)
      → ((j < root_of ps) × (get_or (links_of ps) j 0 ≡ j)) ⊎ ((root_of ps ≤ j) × (get_or (links_of ps) j 0 ≡ j + 1))
  link_child j within =
      let number = length-links_from 0 ps in
      elim (cases_lt j (root_of ps)) [
        | inl before ↦ inl (before, omega (arith, get_or_from_slice_get (links_of ps) j (0 + j) 0 (link_before 0 ps j before (omega arith))))
        | inr after ↦ inr (after, omega (arith, get_or_from_slice_get (links_of ps) j (0 + j + 1) 0 (link_after 0 ps j one after (omega arith))))
      ]

  -- two places hold two children
  link_apart : (j k : ℕ) → j < k → k < length (links_of ps) → get_or (links_of ps) j 0 ≡ get_or (links_of ps) k 0 → ⊥
  link_apart j k before within same =
      ⊎_elim (λ a. ⊎_elim (λ b. omega arith) (λ b. omega arith) (link_child k within))
      (λ a. ⊎_elim (λ b. omega arith) (λ b. omega arith) (link_child k within)) (link_child j (omega arith))

  -- a link by its place and its child
  link_into : (k w : ℕ) → k < length (links_of ps) → w < length ps → (w ≡ root_of ps → ⊥) → get_or (links_of ps) k 0 ≡ w → LinkInto ps k w
  link_into k w within inside apart named = record {
    at = slice_get-get_or (links_of ps) k 0 within ∙ ap Some named;
    place =
        position-is (λ child. eqb child w) (links_of ps) k 0 within (eq-eqb _ _ named)
        (λ j before. ne_eqb _ _ (λ same. link_apart j k before within (same ∙ sym named)));
    inside = inside;
    child = has_parent w inside apart;
  }

  -- before the root a link is at the place of its child
  pub link_before_root : (k : ℕ) → k < root_of ps → LinkInto ps k k
  link_before_root k before =
      let number = length-links_from 0 ps in
      let root = root_inside ps one in
      link_into k k (omega arith) (omega arith) (λ same. omega arith) (⊎_elim (λ h. h.1) (λ h. absurd (omega arith)) (link_child k (omega arith)))

  -- after the root a link is one place earlier
  pub link_after_root : (k : ℕ) → root_of ps ≤ k → k + 1 < length ps → LinkInto ps k (k + 1)
  link_after_root k after within =
      let number = length-links_from 0 ps in
      link_into k (k + 1) (omega arith) within (λ same. omega arith) (⊎_elim (λ h. absurd (omega arith)) (λ h. h.1) (link_child k (omega arith)))

  -- the root and a number of no node have no link
  pub link_none : (w : ℕ) → (w ≡ root_of ps) ⊎ (length ps ≤ w) → link_place_of ps w ≡ None
  link_none w root_or_past =
      let number = length-links_from 0 ps in
      position-none (λ child. eqb child w) (links_of ps) 0
      (λ j within. ne_eqb _ _ (λ same.
      ⊎_elim (λ a. ⊎_elim (λ b. omega arith) (λ b. omega arith) root_or_past)
      (λ a. ⊎_elim (λ b. omega arith) (λ b. omega arith) root_or_past) (link_child j within)))

  -- the link at a place
  link_of_place : (k : ℕ) → k < length (links_of ps) → LinkInto ps k (get_or (links_of ps) k 0)
  link_of_place k within =
      let number = length-links_from 0 ps in
      ⊎_elim (λ h. rw h.1 (link_before_root k h.0)) (λ h. rw h.1 (link_after_root k h.0 (omega arith))) (link_child k within)

  -- the link into a child
  link_of_child : (w p : ℕ) → parent_at ps w ≡ Some p → (k : ℕ) × LinkInto ps k w
  link_of_child w p e =
      let number = length-links_from 0 ps in
      let inside = child_is_node ps w p e in
      let apart : w ≡ root_of ps → ⊥ =
      λ same. let none = root-none ps (root_inside ps one) in let here : parent_at ps (root_of ps) ≡ Some p = rw same at e in let no : None ≡ Some p = sym none ∙ here in cc in
      elim (cases_lt w (root_of ps)) [
        | inl before ↦ (w, link_before_root w before)
        | inr after ↦ (let next : w - 1 + 1 ≡ w = omega (arith, apart) in
            let link = link_after_root (w - 1) (omega (arith, apart)) (omega arith) in (w - 1, rw next at link))
      ]

  pub tree_links : HasLinks ps
  tree_links = record {
    number = omega (arith, length-links_from 0 ps);
    of_place = λ k w at.
        let named = get_or_from_slice_get (links_of ps) k w 0 at in
        let link = rw named at (link_of_place k (slice_get_within (links_of ps) k w at)) in
        (link.place, some_value (parent_at ps w) link.child, link.inside);
    of_child = λ w p e. let link = link_of_child w p e in (link.0, link.1.place, link.1.at);
    in_order = λ j k v w before first second.
        let within = slice_get_within (links_of ps) k w second in
        let one_is = get_or_from_slice_get (links_of ps) j v 0 first in
        let other_is = get_or_from_slice_get (links_of ps) k w 0 second in
        ⊎_elim (λ a. ⊎_elim (λ b. omega arith) (λ b. omega arith) (link_child k within))
        (λ a. ⊎_elim (λ b. omega arith) (λ b. omega arith) (link_child k within)) (link_child j (omega arith));
  }
