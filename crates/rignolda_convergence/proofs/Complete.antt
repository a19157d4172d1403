-- A list that is complete stays so if the same items follow in both lists.
use Rattle.std.proofs.Common.{◌≡◌, ℕ, ◌+◌, ◌≤◌, List, [], ◌∷◌, ◌++◌, length, map, Contains, get_or, refl, sym, ap, subst, ◌∙◌, append_assoc, inl, inr, arith}
use Rattle.std.specs.Prelude.{slice_index}
use Rattle.std.proofs.lemmas.Bool.{cases_lt}
use Rattle.std.proofs.lemmas.List.{append-nil, length-append, get_or_append_left, map-append}
use Rattle.stab_core.specs.Picks.{AllBelow, Picks, RisesFrom}
use Rattle.stab_core.specs.LinkLaw.{NoneMissingFrom}
use Rattle.stab_treecore.specs.TreeLaw.{CompleteLaw}
use Rattle.stab_treecore.specs.declared.change.Change.{Change}
use Rattle.stab_treecore.specs.Changes.{change_step, changes_replay}
use Rattle.stab_treecore.specs.WholeTree.{WholeTree}
use Rattle.rignolda_agent.specs.BodySpelling.{Body}
use Rattle.rignolda_agent.specs.Rounds.{IsRound, Rise}

-- changes one after the other
pub replay-append : (t : WholeTree) (before after : List Change) → changes_replay t (before ++ after) ≡ changes_replay (changes_replay t before) after
replay-append t [] after = refl
replay-append t (change ∷ before) after = replay-append (change_step t change) before after

-- places that rise, and one that is above them
rises-append : (low n : ℕ) (places : List ℕ) → RisesFrom low places → AllBelow n places → low ≤ n → RisesFrom low (places ++ n ∷ [])
rises-append low n [] rises below at_most = (at_most, tt)
rises-append low n (p ∷ places) rises below at_most = (rises.0, rises-append (p + 1) n places rises.1 below.1 (omega (arith, below.0)))

-- the same below a bound
below-append : (n : ℕ) (places : List ℕ) → AllBelow n places → AllBelow (n + 1) (places ++ n ∷ [])
below-append n [] below = (omega arith, tt)
below-append n (p ∷ places) below = (omega (arith, below.0), below-append n places below.1)

-- the same items are at places below the length
same_items : (items : List ℕ) (x : ℕ) (places : List ℕ) → AllBelow (length items) places
    → map (λ place. slice_index items place) places ≡ map (λ place. slice_index (items ++ x ∷ []) place) places
same_items items x [] below = refl
same_items items x (p ∷ places) below =
    let here : slice_index (items ++ x ∷ []) p ≡ slice_index items p = get_or_append_left items (x ∷ []) 0 p below.0 in
    let rest = same_items items x places below.1 in
    ap (λ n. n ∷ map (λ place. slice_index items place) places) (sym here) ∙ ap (λ ns. slice_index (items ++ x ∷ []) p ∷ ns) rest

-- an item that was added is the last one
last_item : (items : List ℕ) (x : ℕ) → slice_index (items ++ x ∷ []) (length items) ≡ x
last_item [] x = refl
last_item (y ∷ items) x = last_item items x

-- what is picked, and an item behind both lists
pub picks-append : (items places picked : List ℕ) (x : ℕ) → Picks items places picked
    → Picks (items ++ x ∷ []) (places ++ length items ∷ []) (picked ++ x ∷ [])
picks-append items places picked x picks =
    let longer : length (items ++ x ∷ []) ≡ length items + 1 = omega (arith, length-append items (x ∷ [])) in
    record {
      rising = rises-append 0 (length items) places picks.rising picks.in_list (omega arith);
      in_list = subst (λ n. AllBelow n (places ++ length items ∷ [])) (sym longer) (below-append (length items) places picks.in_list);
      the_items =
          ap (λ (ps : List ℕ). ps ++ x ∷ []) (picks.the_items ∙ same_items items x places picks.in_list)
          ∙ ap (λ n. map (λ place. slice_index (items ++ x ∷ []) place) places ++ n ∷ []) (sym (last_item items x))
          ∙ sym (map-append (λ place. slice_index (items ++ x ∷ []) place) places (length items ∷ []));
    }

-- what is contained in a list with one more
contains_front : (places : List ℕ) (n i : ℕ) → Contains places i → Contains (places ++ n ∷ []) i
contains_front places n i (k, within, is) =
    (k, omega (arith, within, length-append places (n ∷ [])), get_or_append_left places (n ∷ []) i k within ∙ is)

-- and the last one is
contains_last : (places : List ℕ) (n : ℕ) → Contains (places ++ n ∷ []) n
contains_last places n = (length places, omega (arith, length-append places (n ∷ [])), at_end places n)
  where
    at_end : (places : List ℕ) (n : ℕ) → get_or (places ++ n ∷ []) (length places) n ≡ n
    at_end [] n = refl
    at_end (p ∷ places) n = at_end places n

-- none is missing up to one more
none_missing_more : (first acked : ℕ) (places : List ℕ) → NoneMissingFrom first acked places → NoneMissingFrom first (acked + 1) (places ++ acked ∷ [])
none_missing_more first acked places none i from below =
    elim (cases_lt i acked) [
      | inl before ↦ contains_front places acked i (none i from before)
      | inr here ↦ let e : acked ≡ i = omega (arith, here, below) in subst (Contains (places ++ acked ∷ [])) e (contains_last places acked)
    ]

-- one item behind both lists
pub complete_one : (most_strays most_missing : ℕ) (garbage published received : List ℕ) (x : ℕ)
    → CompleteLaw most_strays most_missing garbage published received
    → CompleteLaw most_strays most_missing garbage (published ++ x ∷ []) (received ++ x ∷ [])
complete_one most_strays most_missing garbage published received x (places, half, none) =
    let longer : length published + 1 ≡ length (published ++ x ∷ []) = omega (arith, length-append published (x ∷ [])) in (
      places ++ length published ∷ [],
      record {
        strays = half.strays;
        stray_places = half.stray_places;
        taken = half.taken ++ x ∷ [];
        parts = ap (λ (xs : List ℕ). xs ++ x ∷ []) half.parts ∙ append_assoc half.strays half.taken (x ∷ []);
        few_strays = half.few_strays;
        strays_picked = half.strays_picked;
        taken_picked = picks-append published places half.taken x half.taken_picked;
      },
      subst (λ n. NoneMissingFrom most_missing n (places ++ length published ∷ [])) longer (none_missing_more most_missing (length published) places none),
    )

-- any items behind both lists
pub complete_more : (most_strays most_missing : ℕ) (garbage published received later : List ℕ)
    → CompleteLaw most_strays most_missing garbage published received
    → CompleteLaw most_strays most_missing garbage (published ++ later) (received ++ later)
complete_more most_strays most_missing garbage published received [] law =
    subst (λ (ps : List ℕ). CompleteLaw most_strays most_missing garbage ps (received ++ [])) (sym (append-nil published))
    (subst (CompleteLaw most_strays most_missing garbage published) (sym (append-nil received)) law)
complete_more most_strays most_missing garbage published received (x ∷ later) law =
    let one = complete_one most_strays most_missing garbage published received x law in
    let more = complete_more most_strays most_missing garbage (published ++ x ∷ []) (received ++ x ∷ []) later one in
    subst (λ (ps : List ℕ). CompleteLaw most_strays most_missing garbage ps (received ++ x ∷ later)) (append_assoc published (x ∷ []) later)
    (subst (CompleteLaw most_strays most_missing garbage ((published ++ x ∷ []) ++ later)) (append_assoc received (x ∷ []) later) more)

-- a round goes on with what comes later
pub round_more : (round more since : List Body) (table : Body) → IsRound round table more → Rise table.number (more ++ since)
    → IsRound (round ++ since) table (more ++ since)
round_more round more since table is rise = record {
  before = is.before;
  is = ap (λ (bs : List Body). bs ++ since) is.is ∙ append_assoc is.before (table ∷ more) since;
  is_table = is.is_table;
  behind = is.behind;
  rise = rise;
}
