-- The links that have begun so far, and those that are still to begin; which start is refused.
use Rattle.std.proofs.Common.{◌≡◌, ◌≢◌, ℕ, zero, suc, ◌+◌, ◌<◌, ◌≤◌, List, [], ◌∷◌, ◌++◌, length, get_or, take, drop, map, Option, Some, None, All, refl, ap, sym, ◌∙◌, subst, arith, append_assoc, inl, inr}
use Rattle.std.proofs.lemmas.List.{drop_more, drop_all, append-nil}
use Rattle.std.proofs.lemmas.List.Elements.{All-head, All-tail}
use Rattle.stab_frames.specs.Parameters.{Parameters}
use Rattle.stab_core.specs.declared.start.Start.{Start}
use Rattle.stab_core.specs.declared.start.StartFault.{StartFault}
use Rattle.stab_core.specs.declared.start.StartFault.TheVariants.{TooManyFrames, TooManyAcks, Memory}
use Rattle.stab_core.specs.Link.{LinkValue, IsReason}
use Rattle.stab_core.specs.LinkSetup.{CanBegin, LinkSetup, setup, setups}
use Rattle.stab_tree.proofs.ForCallers.{links_counted_anywhere}
use Rattle.stab_tree.specs.Links.{links_of}
use Rattle.stab_tree.specs.ByChild.{by_child}
use Rattle.stab_treecore.specs.Refusals.{IsFirstFault, IsOpeningReason}
use Rattle.stab_treecore.specs.TreeReplay.{opened}

-- a link begins with the parameters and the start at its own place
pub opened_at : (params : List Parameters) (starts : List Start) (i : ℕ) (p : Parameters) (start : Start) → i < length params → i < length starts
    → p ≡ get_or params i p → start ≡ get_or starts i start → opened (setup p start) ≡ get_or (map opened (setups params starts)) i (opened (setup p start))
opened_at [] starts i p start in_params in_starts has_params begins = absurd (omega arith)
opened_at (q ∷ params) [] i p start in_params in_starts has_params begins = absurd (omega arith)
opened_at (q ∷ params) (s ∷ starts) zero p start in_params in_starts has_params begins =
    ap (λ x. opened (setup x start)) has_params ∙ ap (λ x. opened (setup q x)) begins
opened_at (q ∷ params) (s ∷ starts) (suc i) p start in_params in_starts has_params begins =
    opened_at params starts i p start (omega arith) (omega arith) has_params begins

-- The links of the first i nodes are in the list; the links of the others are still to begin.
pub record OpenedSoFar (parents : List (Option ℕ)) (all : List LinkValue) (links : List (Option LinkValue)) (begun i : ℕ) : Type 0 where
  pub to_begin : links ++ by_child (drop i parents) (drop begun all) ≡ by_child parents all
  pub as_many : begun + length (links_of (drop i parents)) ≡ length all

module _ (parents : List (Option ℕ)) (all : List LinkValue) (links : List (Option LinkValue)) (begun i : ℕ)
    (so_far : OpenedSoFar parents all links begun i) (in_list : i < length parents) where
  -- the parent of the next node
  next_parent : (parent : Option ℕ) → get_or parents i None ≡ parent → drop i parents ≡ parent ∷ drop (i + 1) parents
  next_parent parent is = drop_more parents i None in_list ∙ ap (λ x. x ∷ drop (i + 1) parents) is

  -- where the next node is the root, it has no link
  pub opened_root : get_or parents i None ≡ None → OpenedSoFar parents all (links ++ None ∷ []) begun (i + 1)
  opened_root root =
      let next = next_parent None root in
      record {
        to_begin =
            append_assoc links (None ∷ []) (by_child (drop (i + 1) parents) (drop begun all))
            ∙ (ap (λ rest. links ++ by_child rest (drop begun all)) (sym next) ∙ so_far.to_begin);
        as_many =
            ap (λ n. begun + n) (links_counted_anywhere (drop (i + 1) parents) 0 1 ∙ ap (λ rest. length (links_of rest)) (sym next)) ∙ so_far.as_many;
      }

  -- where the next node has a parent, its link is still to begin
  pub link_left : (parent : ℕ) → get_or parents i None ≡ Some parent → begun < length all
  link_left parent child =
      let next = next_parent (Some parent) child in
      omega (arith, so_far.as_many, ap (λ rest. length (links_of rest)) next)

  -- and it begins
  pub opened_child : (parent : ℕ) (link : LinkValue) → get_or parents i None ≡ Some parent → link ≡ get_or all begun link
      → OpenedSoFar parents all (links ++ Some link ∷ []) (begun + 1) (i + 1)
  opened_child parent link child read =
      let next = next_parent (Some parent) child in
      let here : begun < length all = link_left parent child in
      let next_link : drop begun all ≡ link ∷ drop (begun + 1) all = drop_more all begun link here ∙ ap (λ x. x ∷ drop (begun + 1) all) (sym read) in
      record {
        to_begin =
            append_assoc links (Some link ∷ []) (by_child (drop (i + 1) parents) (drop (begun + 1) all))
            ∙ (ap (λ rest. links ++ by_child rest (link ∷ drop (begun + 1) all)) (sym next)
            ∙ (ap (λ rest. links ++ by_child (drop i parents) rest) (sym next_link) ∙ so_far.to_begin));
        as_many =
            omega (arith, so_far.as_many, ap (λ rest. length (links_of rest)) next, links_counted_anywhere (drop (i + 1) parents) 0 1);
      }

-- nothing has begun yet
pub opened_none : (parents : List (Option ℕ)) (all : List LinkValue) → length all ≡ length (links_of parents) → OpenedSoFar parents all [] 0 0
opened_none parents all same = record { to_begin = refl; as_many = omega arith }

-- after the last node every link has begun
pub opened_all : (parents : List (Option ℕ)) (all : List LinkValue) (links : List (Option LinkValue)) (begun i : ℕ)
    → OpenedSoFar parents all links begun i → length parents ≤ i → links ≡ by_child parents all
opened_all parents all links begun i so_far past =
    let none : drop i parents ≡ [] = drop_all i parents past in
    let no_more : links ++ by_child (drop i parents) (drop begun all) ≡ links =
    ap (λ rest. links ++ by_child rest (drop begun all)) none ∙ append-nil links in
    sym no_more ∙ so_far.to_begin

-- after links that can begin, the first that is refused is refused for its own fault
pub first_fault : (links : List LinkSetup) (i : ℕ) (link : LinkSetup) (fault : StartFault) → i < length links → link ≡ get_or links i link
    → All CanBegin (take i links) → IsReason link.params link.start fault → IsFirstFault links fault
first_fault [] i link fault in_list here begin reason = absurd (omega arith)
first_fault (l ∷ links) zero link fault in_list here begin reason = inl (subst (λ x. IsReason x.params x.start fault) here reason)
first_fault (l ∷ links) (suc i) link fault in_list here begin reason =
    inr (All-head CanBegin l (take i links) begin, first_fault links i link fault (omega arith) here (All-tail CanBegin l (take i links) begin) reason)

-- the first fault among the starts is why the links cannot begin
pub opening_reason : (links : List LinkSetup) (fault : StartFault) → fault ≢ Memory → IsFirstFault links fault → IsOpeningReason links fault
opening_reason links TooManyFrames named first = first
opening_reason links TooManyAcks named first = first
opening_reason links Memory named first = absurd (named refl)

-- a link refuses a lawful start for memory alone
pub lawful_refused : (links : List LinkSetup) (link : LinkSetup) (fault : StartFault) → All CanBegin links
    → CanBegin link → IsReason link.params link.start fault → IsOpeningReason links fault
lawful_refused links link TooManyFrames all begins reason = absurd (omega (arith, begins.1.frames))
lawful_refused links link TooManyAcks all begins reason = absurd (omega (arith, begins.1.acks, reason.1))
lawful_refused links link Memory all begins reason = all
