-- The parameters of the links, entry by entry.
use Rattle.std.proofs.Common.{◌≡◌, ◌<◌, ◌+◌, ℕ, zero, suc, Bool, true, false, ◌||◌, nat_lt, if◌then◌else◌, List, [], ◌∷◌, ◌++◌, length, drop, get_or, slice_get, replicate, Option, Some, None, Result, Ok, Err, All, refl, sym, ap, subst, ◌∙◌, add-one, arith, rules}
use Rattle.std.proofs.lemmas.Bool.{ltb-false, or_parts}
use Rattle.std.proofs.lemmas.List.{length-replicate}
use Rattle.std.proofs.lemmas.List.Elements.{All-cons, All-replicate}
use Rattle.std.proofs.lemmas.Option.{none-some, same_Some}
use Rattle.stab_frames.specs.Parameters.{Parameters, AreLawful, fault_of, fewest_labels, most_capacity, most_labels}
use Rattle.stab_frames.specs.declared.params.ParamsFault.{ParamsFault}
use Rattle.stab_frames.specs.declared.params.ParamsFault.TheVariants.{CapacityOutOfRange, LabelsTooFew, LabelsTooMany}
use Rattle.stab_json.specs.Checks.{◌>>=◌, ◌>>◌, ◌when◌, ◌refused_as◌}
use Rattle.stab_tree.specs.Links.{links_of}
use Rattle.stab_tree.specs.Nodes.{Nodes}
use Rattle.stab_job.specs.declared.fault.JobFault.{JobFault}
use Rattle.stab_job.specs.declared.fault.JobFault.TheVariants.{LinkCount, LinkParams}
use Rattle.stab_job.specs.declared.link_entry.LinkEntry.{LinkEntry}
use Rattle.stab_job.specs.declared.link_entry.LinkEntry.TheVariants.{OfJob, Own}
use Rattle.stab_job.specs.JobLinks.{are_miscounted}
use Rattle.stab_job.specs.JobValues.{links}
use Rattle.stab_job.specs.LinkParams.{params_by, params_into, all_params, params_of, link_params}
use Rattle.stab_job.proofs.Counts.{right_number}
use Rattle.stab_job.proofs.Linked.{made_after, one_more}

-- the links from this place on
abbrev pub from_place : Parameters → List ℕ → List LinkEntry → ℕ → Result (List Parameters) JobFault
from_place of_job children entries place = all_params of_job (drop place children) (drop place entries)

-- the first of them, and then the others
abbrev pub one_and_others : Parameters → ℕ → LinkEntry → Result (List Parameters) JobFault → Result (List Parameters) JobFault
one_and_others of_job child entry others =
    params_into of_job child entry >>= (λ params. others >>= (λ more. Ok (params ∷ more)))

next_link : (of_job : Parameters) (children : List ℕ) (entries : List LinkEntry) (place child : ℕ) (d : LinkEntry)
    → place < length entries → slice_get children place ≡ Some child
    → from_place of_job children entries place
    ≡ one_and_others of_job child (get_or entries place d) (from_place of_job children entries (suc place))
next_link of_job [] entries place child d within is = absurd (none-some child is)
next_link of_job (c ∷ children) [] place child d within is = absurd (omega arith)
next_link of_job (c ∷ children) (e ∷ entries) zero child d within is =
    ap (λ c. one_and_others of_job c e (all_params of_job children entries)) (same_Some c child is)
next_link of_job (c ∷ children) (e ∷ entries) (suc place) child d within is =
    next_link of_job children entries place child d (omega arith) is

module _ (of_job : Parameters) (children : List ℕ) (entries : List LinkEntry) (place child : ℕ) (d : LinkEntry)
    (within : place < length entries) (is : slice_get children place ≡ Some child)
    (whole : Result (List Parameters) JobFault) (so_far : List Parameters)
    (after : whole ≡ made_after so_far (from_place of_job children entries place)) where
  -- the parameters of one link more are there
  pub params_more : (params : Parameters) → params_into of_job child (get_or entries place d) ≡ Ok params
      → whole ≡ made_after (so_far ++ params ∷ []) (from_place of_job children entries (place + 1))
  params_more params made =
      let next = next_link of_job children entries place child d within is in
      rw (add-one place)
      (after ∙ (ap (made_after so_far) (rw made at next) ∙ one_more so_far params (from_place of_job children entries (suc place))))

  -- the first fault is the answer
  pub params_fault : (fault : JobFault) → params_into of_job child (get_or entries place d) ≡ Err fault → whole ≡ Err fault
  params_fault fault made =
      let next = next_link of_job children entries place child d within is in
      after ∙ ap (made_after so_far) (rw made at next)

-- a choice of faults that gives none passed each test
passed : (a b c : Bool) (x y z : ParamsFault) → (if a then Some x else (if b then Some y else (if c then Some z else None))) ≡ None
    → (a ≡ false) × (b ≡ false) × (c ≡ false)
passed true b c x y z is = absurd (none-some x (sym is))
passed false true c x y z is = absurd (none-some y (sym is))
passed false false true x y z is = absurd (none-some z (sym is))
passed false false false x y z is = (refl, refl, refl)

-- two numbers that pass the checks are parameters
lawful_numbers : (capacity labels : ℕ) → fault_of capacity labels ≡ None → AreLawful (record { capacity = capacity; labels = labels })
lawful_numbers capacity labels is =
    let tests = passed (nat_lt capacity 1 || nat_lt most_capacity capacity) (nat_lt labels (fewest_labels capacity)) (nat_lt most_labels labels)
    CapacityOutOfRange LabelsTooFew LabelsTooMany is in
    let (some, small) = or_parts (nat_lt capacity 1) (nat_lt most_capacity capacity) tests.0 in
    record {
      some_capacity = ltb-false capacity 1 some;
      small_capacity = ltb-false most_capacity capacity small;
      enough_labels = ltb-false labels (fewest_labels capacity) tests.1;
      few_labels = ltb-false most_labels labels tests.2;
    }

lawful_checked : (fault : Option ParamsFault) (p its : Parameters) → (fault ≡ None → AreLawful p) → fault >> Ok p ≡ Ok its → AreLawful its
lawful_checked None p its lawful is = let same : p ≡ its = cc in subst AreLawful same (lawful refl)
lawful_checked (Some fault) p its lawful is = absurd cc

-- the parameters of an entry are lawful where those of the job are
lawful_by : (of_job its : Parameters) (entry : LinkEntry) → AreLawful of_job → params_by of_job entry ≡ Ok its → AreLawful its
lawful_by of_job its OfJob lawful is = let same : of_job ≡ its = cc in subst AreLawful same lawful
lawful_by of_job its (Own capacity labels) lawful is =
    lawful_checked (fault_of capacity labels) (record { capacity = capacity; labels = labels }) its (lawful_numbers capacity labels) is

-- as many lawful parameters as links
pub record OneEach (n : ℕ) (params : List Parameters) : Type 0 where
  pub number : length params ≡ n
  pub lawful : All AreLawful params

-- parameters before others are one more
one_before : (child n : ℕ) (first : Result Parameters ParamsFault) (others : Result (List Parameters) JobFault) (params : List Parameters)
    → ((its : Parameters) → first ≡ Ok its → AreLawful its) → ((more : List Parameters) → others ≡ Ok more → OneEach n more)
    → first refused_as LinkParams child >>= (λ its. others >>= (λ more. Ok (its ∷ more))) ≡ Ok params → OneEach (suc n) params
one_before child n (Err fault) others params lawful for_others is = absurd cc
one_before child n (Ok its) (Err fault) params lawful for_others is = absurd cc
one_before child n (Ok its) (Ok more) params lawful for_others is =
    let same : its ∷ more ≡ params = cc in
    let rest = for_others more refl in
    subst (OneEach (suc n)) same (record { number = ap suc rest.number; lawful = All-cons AreLawful its more (lawful its refl) rest.lawful })

one_each_of_all : (of_job : Parameters) (children : List ℕ) (entries : List LinkEntry) (params : List Parameters) → AreLawful of_job
    → length entries ≡ length children → all_params of_job children entries ≡ Ok params → OneEach (length children) params
one_each_of_all of_job [] entries params lawful counted is =
    let same : [] ≡ params = cc in subst (OneEach 0) same (record { number = refl; lawful = search rules })
one_each_of_all of_job (c ∷ children) [] params lawful counted is = absurd (omega (arith, counted))
one_each_of_all of_job (c ∷ children) (e ∷ entries) params lawful counted is =
    one_before c (length children) (params_by of_job e) (all_params of_job children entries) params (λ its. lawful_by of_job its e lawful)
    (λ more. one_each_of_all of_job children entries more lawful (omega (arith, counted))) is

one_each_of : (t : Nodes) (of_job : Parameters) (entries : Option (List LinkEntry)) (params : List Parameters) → AreLawful of_job
    → are_miscounted (links t) entries ≡ false → params_of t of_job entries ≡ Ok params → OneEach (links t) params
one_each_of t of_job None params lawful right is =
    let same : replicate (links t) of_job ≡ params = cc in
    subst (OneEach (links t)) same (record { number = length-replicate (links t) of_job; lawful = All-replicate AreLawful (links t) of_job lawful })
one_each_of t of_job (Some entries) params lawful right is =
    one_each_of_all of_job (links_of t.parents) entries params lawful (right_number (links t) entries right) is

one_each_at : (miscounted : Bool) (t : Nodes) (of_job : Parameters) (entries : Option (List LinkEntry)) (params : List Parameters) → AreLawful of_job
    → are_miscounted (links t) entries ≡ miscounted → (LinkCount when miscounted) >> params_of t of_job entries ≡ Ok params → OneEach (links t) params
one_each_at true t of_job entries params lawful right is = absurd cc
one_each_at false t of_job entries params lawful right is = one_each_of t of_job entries params lawful right is

-- where the entries pass their checks, each link has lawful parameters
pub one_params_each : (t : Nodes) (of_job : Parameters) (entries : Option (List LinkEntry)) (params : List Parameters) → AreLawful of_job
    → link_params t of_job entries ≡ Ok params → OneEach (links t) params
one_params_each t of_job entries params lawful is = one_each_at (are_miscounted (links t) entries) t of_job entries params lawful refl is
