-- What the openings of a tree keep.
-- Openings that fit a tree have at most `hold_at` items at each node.
use Rattle.std.proofs.Common.{◌≡◌, ◌≤◌, ◌+◌, ◌∷◌, ◌==◌, ℕ, zero, suc, [], List, Bool, true, false, not, nat_lt, if◌then◌else◌, ◌&&◌, ◌||◌, length, get_or, replicate, Option, Some, None, refl, ap, sym, ◌∙◌, subst, arith, is_some, eq-eqb}
use Rattle.std.proofs.lemmas.Bool.{eqb-true, lt-ltb, ltb-false}
use Rattle.std.proofs.lemmas.List.{length-replicate, nil_from_length}
use Rattle.std.proofs.lemmas.Option.{none-some}
use Rattle.std.specs.List.{list_any}
use Rattle.stab_tree.specs.Nodes.{parent_at}
use Rattle.stab_tree.specs.declared.opening_fault.OpeningFault.{OpeningFault}
use Rattle.stab_tree.specs.declared.opening_fault.OpeningFault.TheVariants as fault
use Rattle.stab_tree.specs.NodeOpenings.{OpeningsValue, FitTree, has_child, hold_at, is_inner, is_misplaced, lists_fault, opening_at}

-- what is not false
not_false : (b : Bool) → not b ≡ false → b ≡ true
not_false true is = refl
not_false false is = cc

-- a first check that does not fail, and the checks after it
passed : {F : Type 0} (b : Bool) (fault : F) (rest : Option F) → (if b then Some fault else rest) ≡ None → (b ≡ false) × (rest ≡ None)
passed true fault rest is = absurd (none-some fault (sym is))
passed false fault rest is = (refl, is)

-- of two tests of which one or the other would do, neither holds
neither : (a b : Bool) → (a || b) ≡ false → (a ≡ false) × (b ≡ false)
neither true b is = cc
neither false b is = (refl, is)

-- no more items than this, and none at a node that is no inner node
most_items : (inner : Bool) (hold items : ℕ) → (nat_lt 0 items && not inner) ≡ false → nat_lt hold items ≡ false → items ≤ (if inner then hold else 0)
most_items true hold items placed short = ltb-false hold items short
most_items false hold zero placed short = omega arith
most_items false hold (suc items) placed short = let never : true ≡ false = sym (ap (λ b. b && true) (lt-ltb 0 (suc items) (omega arith))) ∙ placed in cc

-- of lists that are placed and short, each is
each_opening : (parents : List (Option ℕ)) (hold node place : ℕ) (lists : List (List ℕ)) → is_misplaced parents node lists ≡ false
    → list_any (λ list. nat_lt hold (length list)) lists ≡ false → length (get_or lists place []) ≤ hold_at parents hold (node + place)
each_opening parents hold node place [] placed short = omega arith
each_opening parents hold node zero (list ∷ lists) placed short =
    let here : node ≡ node + zero = omega arith in
    let first = neither (nat_lt 0 (length list) && not (is_inner parents node)) (is_misplaced parents (node + 1) lists) placed in
    let few = neither (nat_lt hold (length list)) (list_any (λ l. nat_lt hold (length l)) lists) short in
    subst (λ w. length list ≤ hold_at parents hold w) here (most_items (is_inner parents node) hold (length list) first.0 few.0)
each_opening parents hold node (suc place) (list ∷ lists) placed short =
    let here : node + 1 + place ≡ node + suc place = omega arith in
    let first = neither (nat_lt 0 (length list) && not (is_inner parents node)) (is_misplaced parents (node + 1) lists) placed in
    let few = neither (nat_lt hold (length list)) (list_any (λ l. nat_lt hold (length l)) lists) short in
    subst (λ w. length (get_or lists place []) ≤ hold_at parents hold w) here (each_opening parents hold (node + 1) place lists first.1 few.1)

-- there is an opening for each node of a tree, and each is short enough
pub record AreOpenings (parents : List (Option ℕ)) (openings : OpeningsValue) : Type 0 where
  pub one_per_node : length openings.lists ≡ length parents
  pub short : (node : ℕ) → length (opening_at openings.lists node) ≤ hold_at parents openings.hold node

-- a test of two numbers that are the same
same_from_test : (a b : ℕ) → not (a == b) ≡ false → a ≡ b
same_from_test a b is = eqb-true a b (not_false (a == b) is)

test_of_same : (a b : ℕ) → a ≡ b → not (a == b) ≡ false
test_of_same a b is = ap not (eq-eqb a b is)

pub openings_fit : (parents : List (Option ℕ)) (openings : OpeningsValue) → FitTree parents openings → AreOpenings parents openings
openings_fit parents openings fit =
    let lists = openings.lists in
    let hold = openings.hold in
    let too_long = list_any (λ list. nat_lt hold (length list)) lists in
    let after_place : Option OpeningFault = if too_long then Some fault.OpeningTooLong else None in
    let after_count : Option OpeningFault = if is_misplaced parents 0 lists then Some fault.OpeningPlace else after_place in
    let (counted, passed_count) = passed (not (length lists == length parents)) fault.OpeningCount after_count fit in
    let (placed, passed_place) = passed (is_misplaced parents 0 lists) fault.OpeningPlace after_place passed_count in
    let (short, no_more) = passed too_long fault.OpeningTooLong None passed_place in
    record {
      one_per_node = same_from_test (length lists) (length parents) counted;
      short =
          λ node.
          let here : 0 + node ≡ node = omega arith in
          subst (λ w. length (opening_at lists node) ≤ hold_at parents hold w) here (each_opening parents hold 0 node lists placed short);
    }

pub one_per_node : (parents : List (Option ℕ)) (openings : OpeningsValue) → FitTree parents openings → length openings.lists ≡ length parents
one_per_node parents openings fit = (openings_fit parents openings fit).one_per_node

-- the root has no opening
pub none_at_root : (parents : List (Option ℕ)) (openings : OpeningsValue) (node : ℕ) → FitTree parents openings → parent_at parents node ≡ None
    → opening_at openings.lists node ≡ []
none_at_root parents openings node fit root =
    let few : length (opening_at openings.lists node) ≤ hold_at parents openings.hold node = (openings_fit parents openings fit).short node in
    let outer : hold_at parents openings.hold node ≡ 0 = ap (λ o. if is_some o && has_child parents node then openings.hold else 0) root in
    nil_from_length (opening_at openings.lists node) (omega (arith, few, outer))

-- empty lists are openings of a tree
none_misplaced : (parents : List (Option ℕ)) (node count : ℕ) → is_misplaced parents node (replicate count []) ≡ false
none_misplaced parents node zero = refl
none_misplaced parents node (suc count) = none_misplaced parents (node + 1) count

none_too_long : (count : ℕ) → list_any (λ (list : List ℕ). nat_lt 0 (length list)) (replicate count []) ≡ false
none_too_long zero = refl
none_too_long (suc count) = none_too_long count

pub empty_lists_fit : (parents : List (Option ℕ)) (count : ℕ) → count ≡ length parents → lists_fault parents 0 (replicate count []) ≡ None
empty_lists_fit parents count same =
    let counted : not (length (replicate {A = List ℕ} count []) == length parents) ≡ false =
    test_of_same (length (replicate {A = List ℕ} count [])) (length parents) (length-replicate {A = List ℕ} count [] ∙ same) in
    rw (counted, none_misplaced parents 0 count, none_too_long count) refl
