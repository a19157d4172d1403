-- The first start that no link can begin from, by the place of its link and by its child.
use Rattle.std.proofs.Common.{◌≡◌, ◌<◌, ◌+◌, ℕ, zero, suc, List, [], ◌∷◌, length, get_or, slice_get, take, Option, Some, None, refl, ap, sym, ◌∙◌, subst, arith, All}
use Rattle.std.proofs.lemmas.List.Elements.{All-head, All-tail}
use Rattle.std.proofs.lemmas.Option.{none-some, same_Some}
use Rattle.stab_core.specs.declared.start.Start.{Start}
use Rattle.stab_core.specs.declared.start.StartFault.{StartFault}
use Rattle.stab_core.specs.Link.{IsReason}
use Rattle.stab_core.specs.LinkSetup.{CanBegin, setup, setups}
use Rattle.stab_core.proofs.Setups.{as_many_setups, setup_at}
use Rattle.stab_core.specs.Replay.{IsLawful}
use Rattle.stab_frames.specs.Parameters.{Parameters}
use Rattle.stab_tree.specs.Links.{links_from, links_of}
use Rattle.stab_tree.specs.ByChild.{by_child}
use Rattle.stab_run.specs.Runs.{IsFirstUnlawful}

-- what there is of a link is what there is of the link into its child
at_child : {A : Type 0} (w : ℕ) (parents : List (Option ℕ)) (xs : List A) (k child : ℕ) (d : A) → k < length xs
    → slice_get (links_from w parents) k ≡ Some child
    → (i : ℕ) × (child ≡ w + i) × (get_or (by_child parents xs) i None ≡ Some (get_or xs k d))
at_child w [] xs k child d within is = absurd (none-some child is)
at_child w (None ∷ parents) xs k child d within is =
    let (i, place, found) = at_child (suc w) parents xs k child d within is in
    (suc i, omega (arith, place), found)
at_child w (Some q ∷ parents) [] k child d within is = absurd (omega arith)
at_child w (Some q ∷ parents) (x ∷ xs) zero child d within is =
    (0, omega (arith, same_Some w child is), refl)
at_child w (Some q ∷ parents) (x ∷ xs) (suc k) child d within is =
    let (i, place, found) = at_child (suc w) parents xs k child d (omega arith) is in
    (suc i, omega (arith, place), found)

-- what holds of the links before one holds of the links into the nodes before its child
before_child : {A : Type 0} (P : A → Type 0) (w : ℕ) (parents : List (Option ℕ)) (xs : List A) (k child : ℕ) → length xs ≡ length (links_from w parents)
    → slice_get (links_from w parents) k ≡ Some child → All P (take k xs)
    → (i : ℕ) (x : A) → w + i < child → get_or (by_child parents xs) i None ≡ Some x → P x
before_child P w [] xs k child counted is all i x before found = absurd (none-some child is)
before_child P w (None ∷ parents) xs k child counted is all zero x before found = absurd (none-some x found)
before_child P w (None ∷ parents) xs k child counted is all (suc i) x before found =
    before_child P (suc w) parents xs k child counted is all i x (omega (arith, before)) found
before_child P w (Some q ∷ parents) [] k child counted is all i x before found = absurd (omega arith)
before_child P w (Some q ∷ parents) (v ∷ vs) zero child counted is all i x before found = absurd (omega (arith, before, same_Some w child is))
before_child P w (Some q ∷ parents) (v ∷ vs) (suc k) child counted is all zero x before found =
    subst P (same_Some v x found) (All-head P v (take k vs) all)
before_child P w (Some q ∷ parents) (v ∷ vs) (suc k) child counted is all (suc i) x before found =
    before_child P (suc w) parents vs k child (omega arith) is (All-tail P v (take k vs) all) i x (omega (arith, before)) found

-- where the links before one can begin and this one cannot, its child is the first that is refused
pub first_unlawful : (params : List Parameters) (parents : List (Option ℕ)) (starts : List Start) (k child : ℕ) (p : Parameters) (start : Start)
    (fault : StartFault)
    → length params ≡ length (links_of parents) → length starts ≡ length (links_of parents)
    → k < length starts → slice_get (links_of parents) k ≡ Some child
    → p ≡ get_or params k p → start ≡ get_or starts k start
    → All CanBegin (take k (setups params starts)) → ¬ IsLawful p start → IsReason p start fault
    → IsFirstUnlawful parents (setups params starts) child fault
first_unlawful params parents starts k child p start fault counted begun within is read_p read so_far unlawful reason =
    let all = setups params starts in
    let link = setup p start in
    let as_many : length all ≡ length starts = as_many_setups params starts (counted ∙ sym begun) in
    let read_link : link ≡ get_or all k link = setup_at params starts k p start (omega (arith, within, counted, begun)) within read_p read in
    let (i, place, found) = at_child 0 parents all k child link (omega (arith, within, as_many)) is in
    let same : i ≡ child = omega (arith, place) in
    record {
      link = link;
      leads = ap (λ n. get_or (by_child parents all) n None) (sym same) ∙ (found ∙ ap Some (sym read_link));
      unlawful = unlawful;
      reason = reason;
      begins_before =
          λ earlier other before has.
          before_child CanBegin 0 parents all k child (as_many ∙ begun) is so_far earlier other (omega (arith, before)) has;
    }
