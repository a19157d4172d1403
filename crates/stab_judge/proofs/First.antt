-- A part is broken first, where the nodes before it obey, and the parts of its node that are looked
-- at before it are whole.
use Rattle.std.proofs.Common.{◌≡◌, ℕ, zero, suc, ◌<◌, ◌≤◌, inl, inr, List, ◌++◌, Option, Some, None, IsSome, MatchOption, refl, sym, ◌∙◌, ap, subst, arith}
use Rattle.std.proofs.lemmas.Bool.{cases_lt}
use Rattle.std.proofs.lemmas.List.{append_cancel_left}
use Rattle.std.proofs.lemmas.Option.{none-some, same_Some}
use Rattle.stab_tree.specs.IsTree.{IsRooted}
use Rattle.stab_tree.specs.Nodes.{parent_at, root_of}
use Rattle.stab_tree.specs.NodeOpenings.{opening_at}
use Rattle.stab_treecore.specs.Network.{Network}
use Rattle.stab_treecore.specs.NodeLaws.{capacity_into, garbage_into}
use Rattle.stab_judge.specs.Judged.{SharperLawBelow}
use Rattle.stab_judge.specs.JudgeInside.{AreWholeBefore}
use Rattle.stab_judge.specs.Obeys.{IsBroken, IsFirst, IsFirstBroken, LinkObeys, NodeObeys, RootObeys, place_of, turn_of}
use Rattle.stab_report.specs.EndedNodes.{HandsOn}
use Rattle.stab_report.specs.Reports.{OnePerNode, ReportValue, acked_at, received_at}
use Rattle.stab_judge.specs.declared.broken.Broken.{Broken}
use Rattle.stab_judge.specs.declared.broken.Broken.TheVariants as broken

-- there is a value, or none
none_is_no_value : {A : Type 0} (o : Option A) → IsSome o → o ≡ None → ⊥
none_is_no_value (Some x) some none = absurd cc
none_is_no_value None some none = absurd cc

-- what there is, where there is a value
value_there : {A : Type 0} (o : Option A) → IsSome o → (x : A) × (o ≡ Some x)
value_there (Some x) some = (x, refl)
value_there None some = absurd cc

-- a link that obeys has no other count and no other delivered items
same_law : (net : Network) (r : ReportValue) (child parent acked : ℕ) (delivered : List ℕ) → LinkObeys net r child parent
    → acked_at r child ≡ Some acked → received_at r child ≡ opening_at net.openings.lists child ++ delivered
    → SharperLawBelow (capacity_into net child) (garbage_into net child) (received_at r parent) acked delivered
same_law net r child parent acked delivered link counted has =
    subst (λ n. SharperLawBelow (capacity_into net child) (garbage_into net child) (received_at r parent) n delivered)
    (same_Some link.acked acked (sym link.counted ∙ counted))
    (subst (λ xs. SharperLawBelow (capacity_into net child) (garbage_into net child) (received_at r parent) link.acked xs)
    (append_cancel_left (opening_at net.openings.lists child) link.delivered delivered (sym link.has ∙ has)) link.law)

-- so where a link obeys, its law is not broken
pub law_unbroken : (net : Network) (r : ReportValue) (child parent : ℕ) → parent_at net.tree.parents child ≡ Some parent
    → LinkObeys net r child parent → ¬ IsBroken net r (broken.LinkLaw child)
law_unbroken net r child parent is_child link = λ (above, acked, delivered, is_above, counted, has, unlawful).
    unlawful
    (same_law net r child above acked delivered (subst (LinkObeys net r child) (same_Some parent above (sym is_child ∙ is_above)) link) counted has)

-- a node with a count has one, and a node with its opening begins with it
pub counted_there : (net : Network) (r : ReportValue) (child acked : ℕ) → acked_at r child ≡ Some acked → ¬ IsBroken net r (broken.NoCount child)
counted_there net r child acked counted = λ wrong. none-some acked (sym wrong.1 ∙ counted)

pub opened_there : (net : Network) (r : ReportValue) (child : ℕ) (delivered : List ℕ)
    → received_at r child ≡ opening_at net.openings.lists child ++ delivered → ¬ IsBroken net r (broken.Opening child)
opened_there net r child delivered has = λ wrong. wrong.1 delivered has

module _ (net : Network) (r : ReportValue) (tree : IsRooted net.tree.parents) (entries : OnePerNode net.tree.parents r) where
  abbrev parents : List (Option ℕ)
  parents = net.tree.parents

  -- the root that obeys, and a child that obeys
  at_root : NodeObeys net r (root_of parents) → RootObeys net r (root_of parents)
  at_root obeys =
      let root = root_of parents in
      subst
      (λ up. MatchOption up (RootObeys net r root) (λ parent. LinkObeys net r root parent × HandsOn r root parent (received_at r parent)))
      tree.root_has_none obeys

  at_child : (child parent : ℕ) → parent_at parents child ≡ Some parent → NodeObeys net r child
      → LinkObeys net r child parent × HandsOn r child parent (received_at r parent)
  at_child child parent is_child obeys =
      subst (λ up. MatchOption up (RootObeys net r child) (λ p. LinkObeys net r child p × HandsOn r child p (received_at r p))) is_child obeys

  -- at a node that obeys no part is broken
  none_broken : (part : Broken) → NodeObeys net r (place_of net part) → ¬ IsBroken net r part
  none_broken broken.Entries obeys = λ wrong. wrong entries
  none_broken broken.Published obeys = λ wrong. wrong (at_root obeys).published
  none_broken broken.RootCount obeys = λ counted. none_is_no_value _ counted (at_root obeys).uncounted
  none_broken (broken.NoCount child) obeys = λ wrong.
      let up = value_there _ wrong.0 in
      let link = (at_child child up.0 up.1 obeys).0 in
      counted_there net r child link.acked link.counted wrong
  none_broken (broken.Opening child) obeys = λ wrong.
      let up = value_there _ wrong.0 in
      let link = (at_child child up.0 up.1 obeys).0 in
      opened_there net r child link.delivered link.has wrong
  none_broken (broken.LinkLaw child) obeys = λ wrong.
      law_unbroken net r child wrong.0 wrong.3 (at_child child wrong.0 wrong.3 obeys).0 wrong
  none_broken (broken.HandedOn child) obeys = λ (parent, is_child, ended, wrong).
      wrong ((at_child child parent is_child obeys).1 ended)

  -- no part of the root is one of a child
  not_the_root : (child : ℕ) → IsSome (parent_at parents child) → root_of parents ≡ child → ⊥
  not_the_root child is_child same = none_is_no_value _ is_child (ap (parent_at parents) (sym same) ∙ tree.root_has_none)

  -- of the root, a part of this turn and those before it
  first_at_root : (turn : ℕ) → turn ≤ 2 → (1 < turn → ¬ IsBroken net r broken.Published) → (earlier : Broken)
      → turn_of earlier < turn → ¬ IsBroken net r earlier
  first_at_root turn most published broken.Entries less = λ wrong. wrong entries
  first_at_root turn most published broken.Published less = published less
  first_at_root turn most published broken.RootCount less = λ _. absurd (omega (arith, most, less))
  first_at_root turn most published (broken.NoCount child) less = λ _. absurd (omega (arith, most, less))
  first_at_root turn most published (broken.Opening child) less = λ _. absurd (omega (arith, most, less))
  first_at_root turn most published (broken.LinkLaw child) less = λ _. absurd (omega (arith, most, less))
  first_at_root turn most published (broken.HandedOn child) less = λ _. absurd (omega (arith, most, less))

  -- of a child, a part of this turn and those before it
  first_at_child : (child turn : ℕ) → IsSome (parent_at parents child) → turn ≤ 6 → (3 < turn → ¬ IsBroken net r (broken.NoCount child))
      → (4 < turn → ¬ IsBroken net r (broken.Opening child)) → (5 < turn → ¬ IsBroken net r (broken.LinkLaw child)) → (earlier : Broken)
      → place_of net earlier ≡ child → turn_of earlier < turn → ¬ IsBroken net r earlier
  first_at_child child turn is_child most counted opened lawful broken.Entries same less = λ wrong. wrong entries
  first_at_child child turn is_child most counted opened lawful broken.Published same less = λ _. not_the_root child is_child same
  first_at_child child turn is_child most counted opened lawful broken.RootCount same less = λ _. not_the_root child is_child same
  first_at_child child turn is_child most counted opened lawful (broken.NoCount other) same less =
      subst (λ node. ¬ IsBroken net r (broken.NoCount node)) (sym same) (counted less)
  first_at_child child turn is_child most counted opened lawful (broken.Opening other) same less =
      subst (λ node. ¬ IsBroken net r (broken.Opening node)) (sym same) (opened less)
  first_at_child child turn is_child most counted opened lawful (broken.LinkLaw other) same less =
      subst (λ node. ¬ IsBroken net r (broken.LinkLaw node)) (sym same) (lawful less)
  first_at_child child turn is_child most counted opened lawful (broken.HandedOn other) same less = λ _. absurd (omega (arith, most, less))

  -- nothing is broken at the same node before this part
  first_here : (part : Broken) → IsBroken net r part → AreWholeBefore net r part → (earlier : Broken) → place_of net earlier ≡ place_of net part
      → turn_of earlier < turn_of part → ¬ IsBroken net r earlier
  first_here broken.Entries wrong whole earlier same less = λ _. absurd (omega (arith, less))
  first_here broken.Published wrong whole earlier same less = first_at_root 1 (omega arith) (λ late. absurd (omega (arith, late))) earlier less
  first_here broken.RootCount wrong whole earlier same less = first_at_root 2 (omega arith) (λ _. whole) earlier less
  first_here (broken.NoCount child) wrong whole earlier same less =
      first_at_child child 3 wrong.0 (omega arith) (λ late. absurd (omega (arith, late))) (λ late. absurd (omega (arith, late)))
      (λ late. absurd (omega (arith, late))) earlier same less
  first_here (broken.Opening child) wrong whole earlier same less =
      first_at_child child 4 wrong.0 (omega arith) (λ _. whole) (λ late. absurd (omega (arith, late))) (λ late. absurd (omega (arith, late)))
      earlier same less
  first_here (broken.LinkLaw child) wrong whole earlier same less =
      first_at_child child 5 (subst IsSome (sym wrong.3) refl) (omega arith) (λ _. whole.0) (λ _. whole.1) (λ late. absurd (omega (arith, late)))
      earlier same less
  first_here (broken.HandedOn child) wrong whole earlier same less =
      first_at_child child 6 (subst IsSome (sym wrong.1) refl) (omega arith) (λ _. whole.0) (λ _. whole.1) (λ _. whole.2) earlier same less

  -- so it is broken first
  pub broken_first : (part : Broken) → IsBroken net r part → IsFirst net r part → AreWholeBefore net r part → IsFirstBroken net r part
  broken_first part wrong before whole = record {
    broken = wrong;
    first = λ earlier is_before. elim is_before [
      | inl at_earlier ↦ none_broken earlier (before (place_of net earlier) at_earlier)
      | inr here ↦ first_here part wrong whole earlier here.0 here.1
    ];
  }

-- before the entries nothing is looked at
pub entries_first : (net : Network) (r : ReportValue) → IsBroken net r broken.Entries → IsFirstBroken net r broken.Entries
entries_first net r wrong = record {
  broken = wrong;
  first = λ earlier is_before. elim is_before [
    | inl at_earlier ↦ λ _. absurd (omega (arith, at_earlier))
    | inr here ↦ λ _. absurd (omega (arith, here.1))
  ];
}

-- a part, by its turn and its place
part_of : ℕ → ℕ → Broken
part_of zero place = broken.Entries
part_of (suc zero) place = broken.Published
part_of (suc (suc zero)) place = broken.RootCount
part_of (suc (suc (suc zero))) place = broken.NoCount place
part_of (suc (suc (suc (suc zero)))) place = broken.Opening place
part_of (suc (suc (suc (suc (suc zero))))) place = broken.LinkLaw place
part_of (suc (suc (suc (suc (suc (suc turn)))))) place = broken.HandedOn place

part_is : (net : Network) (part : Broken) → part_of (turn_of part) (place_of net part) ≡ part
unfolding part_of
part_is net broken.Entries = refl
part_is net broken.Published = refl
part_is net broken.RootCount = refl
part_is net (broken.NoCount child) = refl
part_is net (broken.Opening child) = refl
part_is net (broken.LinkLaw child) = refl
part_is net (broken.HandedOn child) = refl

-- one part at most is broken first
pub one_first : (net : Network) (r : ReportValue) (part other : Broken) → IsFirstBroken net r part → IsFirstBroken net r other → part ≡ other
one_first net r part other first second =
    let place : place_of net part ≡ place_of net other =
    no_less (place_of net part) (place_of net other) (λ less. second.first part (inl less) first.broken)
    (λ less. first.first other (inl less) second.broken) in
    let turn : turn_of part ≡ turn_of other =
    no_less (turn_of part) (turn_of other) (λ less. second.first part (inr (place, less)) first.broken)
    (λ less. first.first other (inr (sym place, less)) second.broken) in
    sym (part_is net part) ∙ rw (turn, place) (part_is net other)
  where
    no_less : (a b : ℕ) → (a < b → ⊥) → (b < a → ⊥) → a ≡ b
    no_less a b not_below not_above = elim (cases_lt a b) [
      | inl less ↦ absurd (not_below less)
      | inr more ↦ elim (cases_lt b a) [
        | inl less ↦ absurd (not_above less)
        | inr least ↦ omega (arith, more, least)
      ]
    ]
