-- The sharper laws by those with fixed bounds: each item that may be a stray is taken for one, as
-- far as a stray more allows one more to be missing.
use Rattle.std.proofs.Common.{◌≡◌, ℕ, ◌+◌, ◌-◌, ◌<◌, ◌≤◌, min, ◌⊎◌, inl, inr, List, [], ◌++◌, length, take, drop, refl, sym, ◌∙◌, ap, subst, append_assoc, arith}
use Rattle.std.proofs.lemmas.Bool.{cases_lt}
use Rattle.std.proofs.lemmas.List.{append-nil, length-append, length-take-le, take-append-drop, take_at, drop_at, drop-drop, drop-append-le}
use mathlib.Core.List.{IsPrefix}
use Rattle.stab_core.specs.LinkLaw.{HalfLawAt, LinkLawWithin, NoneMissingFrom, SharperLinkLaw}
use Rattle.stab_core.specs.Picks.{Picks}
use Rattle.stab_core.proofs.ForCallers.{picks_of_prefix}
use Rattle.stab_treecore.specs.SharperLaw.{SharperTreeLaw}
use Rattle.stab_treecore.specs.TreeLaw.{HalfTreeLawAt, NoneMissingBefore, TreeLaw}
use Rattle.stab_judge.specs.Judged.{IsPicked}
use Rattle.stab_judge.proofs.Dropping.{none_before_dropped, none_from_dropped, picks_dropped}
use Rattle.stab_judge.proofs.Greedy.{front_of_front, front_picked, nothing_picked, picked_of_picked}
use Rattle.stab_judge.proofs.Splitting.{take_past}

-- what the code found: this many of the first received items are picked from the garbage, and no
-- more that may be strays
pub record Found (most : ℕ) (garbage received : List ℕ) (strays : ℕ) : Type 0 where
  pub few : strays ≤ most
  pub within : strays ≤ length received
  pub picked : IsPicked (take strays received) garbage
  pub all : (n : ℕ) → n ≤ most → n ≤ length received → IsPicked (take n received) garbage → n ≤ strays

-- this many may be strays, of the items of which so many are picked at most
pub found_strays : (most count : ℕ) (garbage received : List ℕ) → count ≤ length received → IsPicked (take count received) garbage
    → ((n : ℕ) → n ≤ length received → IsPicked (take n received) garbage → n ≤ count) → Found most garbage received (min most count)
found_strays most count garbage received within picked all = record {
  few = omega arith;
  within = omega arith;
  picked =
      picked_of_picked (take (min most count) received) (take count received) garbage
      (front_of_front (min most count) count received (omega arith)) picked;
  all = λ n few fits here. omega (arith, all n fits here);
}

-- the first of two parts
module _ (most : ℕ) (garbage received xs ys : List ℕ) (strays : ℕ) (found : Found most garbage received strays)
    (parts : received ≡ xs ++ ys) where
  size : length received ≡ length xs + length ys
  size = ap length parts ∙ length-append xs ys

  front_is : take (length xs) received ≡ xs
  front_is = ap (take (length xs)) parts ∙ take_at xs ys (length xs) refl

  rest_is : drop (length xs) received ≡ ys
  rest_is = ap (drop (length xs)) parts ∙ drop_at xs ys (length xs) refl

  -- if it is picked from the garbage it is no longer than was found
  pub no_longer : length xs ≤ most → IsPicked xs garbage → length xs ≤ strays
  no_longer few picked =
      found.all (length xs) few (omega (arith, size)) (subst (λ (zs : List ℕ). IsPicked zs garbage) (sym front_is) picked)

  -- and if it is no longer it is picked
  pub is_found : length xs ≤ strays → IsPicked xs garbage
  is_found short =
      subst (λ (zs : List ℕ). IsPicked zs garbage) front_is
      (picked_of_picked (take (length xs) received) (take strays received) garbage (front_of_front (length xs) strays received short) found.picked)

  -- what is behind more items than it has
  pub behind : (n : ℕ) → length xs ≤ n → drop n received ≡ drop (n - length xs) ys
  behind n longer =
      sym (ap (drop (n - length xs)) (sym rest_is) ∙ (drop-drop (n - length xs) (length xs) received ∙ ap (λ k. drop k received) (omega arith)))

-- the tree law of what is behind the first items, of which each is a stray
module _ (most without top : ℕ) (garbage published received : List ℕ) (strays front first : ℕ)
    (found : Found most garbage received strays) (front_is : front ≡ min strays (top - without))
    (first_is : first ≡ min top (without + strays)) (rest : List ℕ) (rest_is : rest ≡ drop front received) where
  pub sharper_from : TreeLaw (strays - front) first rest published rest → SharperTreeLaw most without top garbage published received
  sharper_from (places, half, none) =
      let ahead : List ℕ = take front received in
      let fits = found.within in
      let all : List ℕ = ahead ++ half.strays in
      let long : length all ≡ front + length half.strays =
      length-append ahead half.strays ∙ ap (λ n. n + length half.strays) (length-take-le front received (omega arith)) in
      let parts : received ≡ all ++ half.taken =
      sym (take-append-drop front received)
      ∙ (ap (λ xs. ahead ++ xs) (sym rest_is ∙ half.parts) ∙ sym (append_assoc ahead half.strays half.taken)) in
      let few = half.few_strays in
      let may = found.few in
      let picked : IsPicked all garbage = is_found most garbage received all half.taken strays found parts (omega arith) in (
        places,
        record {
          strays = all;
          stray_places = picked.0;
          taken = half.taken;
          parts = parts;
          few_strays = omega arith;
          strays_picked = picked.1;
          taken_picked = half.taken_picked;
        },
        λ i q enough before last. none i q (omega arith) before last,
        λ i q enough before last. none i q (omega arith) before last,
      )

  pub sharper_to : SharperTreeLaw most without top garbage published received → TreeLaw (strays - front) first rest published rest
  sharper_to (places, half, paid, at_most) =
      let n : ℕ = length half.strays in
      let low : n ≤ strays =
      no_longer most garbage received half.strays half.taken strays found half.parts half.few_strays (half.stray_places, half.strays_picked) in
      elim (cases_lt n front) [
        | inl fewer ↦
            let d : ℕ = front - n in
            let is : rest ≡ drop d half.taken =
            rest_is ∙ behind most garbage received half.strays half.taken strays found half.parts front (omega arith) in (
              drop d places,
              record {
                strays = [];
                stray_places = (nothing_picked rest).0;
                taken = rest;
                parts = refl;
                few_strays = omega arith;
                strays_picked = (nothing_picked rest).1;
                taken_picked =
                    subst (λ (xs : List ℕ). Picks published (drop d places) xs) (sym is) (picks_dropped d published places half.taken half.taken_picked);
              },
              λ i q enough before last.
                  none_before_dropped d (without + n) 0 places half.taken_picked.rising paid i q (omega arith) before last,
            )
        | inr enough_strays ↦
            let others : List ℕ = drop front half.strays in
            let is : rest ≡ others ++ half.taken =
            rest_is ∙ (ap (drop front) half.parts ∙ drop-append-le front half.strays half.taken (omega arith)) in
            let fewer : front + length others ≡ n =
            omega (arith, length-append (take front half.strays) others, ap length (take-append-drop front half.strays), length-take-le front half.strays (omega arith)) in
            let own : IsPicked others rest =
            subst (λ (xs : List ℕ). IsPicked xs rest) (ap (take (length others)) is ∙ take_at others half.taken (length others) refl)
            (front_picked (length others) rest) in (
              places,
              record {
                strays = others;
                stray_places = own.0;
                taken = half.taken;
                parts = is;
                few_strays = omega arith;
                strays_picked = own.1;
                taken_picked = half.taken_picked;
              },
              λ i q enough before last.
                  elim (cases_lt i top) [
                    | inl early ↦ paid i q (omega arith) before last
                    | inr late ↦ at_most i q (omega arith) before last
                  ],
            )
      ]

-- the link law of what is behind all strays that were found
module _ (capacity : ℕ) (garbage offered : List ℕ) (acked : ℕ) (delivered : List ℕ) (strays : ℕ)
    (first : ℕ) (found : Found capacity garbage delivered strays) (first_is : first ≡ capacity + 1 + strays) (rest : List ℕ)
    (rest_is : rest ≡ drop strays delivered) where
  pub sharper_link_from : LinkLawWithin 0 first [] offered acked rest
      → SharperLinkLaw capacity garbage offered acked delivered
  sharper_link_from (places, half, none) =
      let ahead : List ℕ = take strays delivered in
      let fits = found.within in
      let none_there : length half.strays ≡ 0 = omega (arith, half.few_strays) in
      let all : List ℕ = ahead ++ half.strays in
      let long : length all ≡ strays + length half.strays =
      length-append ahead half.strays ∙ ap (λ n. n + length half.strays) (length-take-le strays delivered (omega arith)) in
      let parts : delivered ≡ all ++ half.taken =
      sym (take-append-drop strays delivered)
      ∙ (ap (λ xs. ahead ++ xs) (sym rest_is ∙ half.parts) ∙ sym (append_assoc ahead half.strays half.taken)) in
      let may = found.few in
      let picked : IsPicked all garbage = is_found capacity garbage delivered all half.taken strays found parts (omega arith) in (
        places,
        record {
          acked_were_offered = half.acked_were_offered;
          one_waits_at_most = half.one_waits_at_most;
          strays = all;
          stray_places = picked.0;
          taken = half.taken;
          parts = parts;
          few_strays = omega arith;
          strays_picked = picked.1;
          taken_picked = half.taken_picked;
        },
        λ i enough before. none i (omega arith) before,
      )

  pub sharper_link_to : SharperLinkLaw capacity garbage offered acked delivered
      → LinkLawWithin 0 first [] offered acked rest
  sharper_link_to (places, half, paid) =
      let n : ℕ = length half.strays in
      let low : n ≤ strays =
      no_longer capacity garbage delivered half.strays half.taken strays found half.parts half.few_strays (half.stray_places, half.strays_picked) in
      let d : ℕ = strays - n in
      let is : rest ≡ drop d half.taken =
      rest_is ∙ behind capacity garbage delivered half.strays half.taken strays found half.parts strays low in (
        drop d places,
        record {
          acked_were_offered = half.acked_were_offered;
          one_waits_at_most = half.one_waits_at_most;
          strays = [];
          stray_places = (nothing_picked []).0;
          taken = rest;
          parts = refl;
          few_strays = omega arith;
          strays_picked = (nothing_picked []).1;
          taken_picked =
              subst (λ (xs : List ℕ). Picks offered (drop d places) xs) (sym is) (picks_dropped d offered places half.taken half.taken_picked);
        },
        λ i enough before.
            none_from_dropped d (capacity + 1 + n) acked 0 places half.taken_picked.rising paid i (omega arith) before,
      )

-- where more may have been offered, the sharper law still holds
sharper_of_longer : (capacity : ℕ) (garbage offered rest : List ℕ) (acked : ℕ) (delivered : List ℕ)
    → length (offered ++ rest) ≤ acked + 1 → SharperLinkLaw capacity garbage offered acked delivered
    → SharperLinkLaw capacity garbage (offered ++ rest) acked delivered
sharper_of_longer capacity garbage offered rest acked delivered one (places, law, none) = (
  places,
  record {
    acked_were_offered = omega (arith, law.acked_were_offered, length-append offered rest);
    one_waits_at_most = one;
    strays = law.strays;
    stray_places = law.stray_places;
    taken = law.taken;
    parts = law.parts;
    few_strays = law.few_strays;
    strays_picked = law.strays_picked;
    taken_picked = picks_of_prefix offered rest places law.taken law.taken_picked;
  },
  none,
)

-- of the fronts that may have been offered the longest one decides
pub sharper_below : (capacity : ℕ) (garbage above : List ℕ) (acked : ℕ) (delivered front : List ℕ) (end : ℕ)
    → acked ≤ length above → end ≡ min (acked + 1) (length above) → front ≡ take end above
    → (SharperLinkLaw capacity garbage front acked delivered
    → (offered : List ℕ) × IsPrefix offered above × SharperLinkLaw capacity garbage offered acked delivered)
    × ((offered : List ℕ) × IsPrefix offered above × SharperLinkLaw capacity garbage offered acked delivered
    → SharperLinkLaw capacity garbage front acked delivered)
sharper_below capacity garbage above acked delivered front end enough end_is front_is = (
  λ law. (front, (drop end above, ap (λ xs. xs ++ drop end above) front_is ∙ take-append-drop end above), law),
  λ other.
      let offered : List ℕ = other.0 in
      let rest : List ℕ = other.1.0 in
      let whole : offered ++ rest ≡ above = other.1.1 in
      let law : SharperLinkLaw capacity garbage offered acked delivered = other.2 in
      let size : length offered + length rest ≡ length above = omega (arith, length-append offered rest, ap length whole) in
      let short : length offered ≤ end = omega (arith, law.1.one_waits_at_most) in
      let cut : front ≡ offered ++ take (end - length offered) rest =
      front_is ∙ (ap (take end) (sym whole) ∙ take_past offered rest (end - length offered) end (omega arith)) in
      let long : length front ≡ end = ap length front_is ∙ length-take-le end above (omega arith) in
      subst (λ (xs : List ℕ). SharperLinkLaw capacity garbage xs acked delivered) (sym cut)
      (sharper_of_longer capacity garbage offered (take (end - length offered) rest) acked delivered
      (omega (arith, ap length cut)) law),
)
