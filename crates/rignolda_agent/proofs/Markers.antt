-- The numbers of files and of their marker, whatever is done.
use Rattle.std.proofs.Common.{◌≡◌, ℕ, ◌<◌, ◌≤◌, Bool, true, false, inl, inr, List, [], ◌∷◌, Option, Some, None, refl, sym, ap, subst, arith, ◌∙◌}
use Rattle.std.specs.Prelude.{◌==◌, ◌&&◌, ◌||◌, not, nat_lt, IfSome}
use Rattle.std.proofs.lemmas.Bool.{cases_Bool, eq-eqb, eqb-true, true≢false}
use Rattle.rignolda_agent.specs.Markers.{Act, AllMarkNear, Folder, come_to, does, does_all, marked_if, may_mark, put_by, marks, puts, ends}
use Rattle.rignolda_agent.specs.Numbers.{ahead, circle, half, is_newer}
use Rattle.rignolda_agent.specs.Rounds.{IsNear, NeverFall, place}
use Rattle.rignolda_agent.proofs.Histories.{from_not}
use Rattle.rignolda_agent.proofs.Places.{not_higher}

-- what is kept: whoever may put files marked the folder last
pub record IsKept (low : ℕ) (f : Folder) : Type 0 where
  pub near : IsNear low f.marker
  pub behind : place low f.files ≤ place low f.marker
  pub last : IfSome f.marked (λ number. number ≡ f.marker)

none_marked : (f : Folder) → f.marked ≡ None → IfSome f.marked (λ number. number ≡ f.marker)
none_marked f none = subst (λ m. IfSome m (λ number. number ≡ f.marker)) (sym none) tt

pub kept_first : (low : ℕ) (f : Folder) → IsNear low f.marker → f.marked ≡ None → place low f.files ≤ place low f.marker → IsKept low f
kept_first low f near none behind = record { near = near; behind = behind; last = none_marked f none }

-- whoever has no number is newer than nobody, and anybody is newer than it
newer_than_none : (marker : ℕ) → (marker == 0) ≡ false → is_newer 0 marker ≡ true
newer_than_none marker one = ap (λ b. not b && (0 == 0 || (nat_lt 0 (ahead 0 marker) && nat_lt (ahead 0 marker) half))) one

-- a number with which the folder may be marked is not behind its marker
goes_on : (low marker number : ℕ) → low < circle → IsNear low number → IsNear low marker → may_mark marker number ≡ true → place low marker ≤ place low number
goes_on low marker number low_in near_number near_marker may =
    elim (cases_Bool (number == 0)) [
      | inl zero_is ↦
          let is : number ≡ 0 = eqb-true number 0 zero_is in
          elim (cases_Bool (marker == 0)) [
            | inl zero_too ↦ omega (arith, ap (place low) (eqb-true marker 0 zero_too), ap (place low) is)
            | inr there ↦ absurd (true≢false (sym (newer_than_none marker there) ∙ (ap (λ n. is_newer n marker) (sym is) ∙ from_not _ may)))
          ]
      | inr there ↦ not_higher low number marker low_in near_number near_marker (λ is. true≢false (sym (eq-eqb number 0 is) ∙ there)) (from_not _ may)
    ]

kept_by : (b : Bool) (low : ℕ) (f : Folder) (number : ℕ) → low < circle → IsKept low f → IsNear low number → may_mark f.marker number ≡ b → IsKept low (marked_if b f number)
kept_by true low f number low_in k near may = record {
  near = near;
  behind = omega (arith, k.behind, goes_on low f.marker number low_in near k.near may);
  last = refl;
}
kept_by false low f number low_in k near may = record { near = k.near; behind = k.behind; last = tt }

-- files that are put come to the number of the marker
put_comes : (m : Option ℕ) (low : ℕ) (f : Folder) → IsKept low f → IfSome m (λ number. number ≡ f.marker)
    → IsKept low (put_by m f) × (place low f.files ≤ place low (put_by m f).files)
put_comes None low f k last = (k, omega arith)
put_comes (Some number) low f k last = (
  record { near = k.near; behind = omega (arith, ap (place low) last); last = k.last },
  omega (arith, k.behind, ap (place low) last),
)

files_if : (b : Bool) (f : Folder) (number : ℕ) → (marked_if b f number).files ≡ f.files
files_if true f number = refl
files_if false f number = refl

abbrev nears : ℕ → Act → Type 0
nears low (marks number) = IsNear low number
nears low puts = Unit {0}
nears low ends = Unit {0}

step : (low : ℕ) (f : Folder) (act : Act) → low < circle → IsKept low f → nears low act
    → IsKept low (does f act) × (place low f.files ≤ place low (does f act).files)
step low f (marks number) low_in k near = (
  kept_by (may_mark f.marker number) low f number low_in k near refl,
  omega (arith, ap (place low) (files_if (may_mark f.marker number) f number)),
)
step low f puts low_in k near = put_comes f.marked low f k k.last
step low f ends low_in k near = (record { near = k.near; behind = k.behind; last = tt }, omega arith)

first_near : (low : ℕ) (act : Act) (acts : List Act) → AllMarkNear low (act ∷ acts) → nears low act × AllMarkNear low acts
first_near low (marks number) acts all = all
first_near low puts acts all = (tt, all)
first_near low ends acts all = (tt, all)

pub never_back : (low : ℕ) (f : Folder) (acts : List Act) → low < circle → IsKept low f → AllMarkNear low acts → NeverFall low f.files (come_to f acts)
never_back low f [] low_in k all = tt
never_back low f (act ∷ acts) low_in k all =
    let parts = first_near low act acts all in
    let stepped = step low f act low_in k parts.0 in
    (stepped.1, never_back low (does f act) acts low_in stepped.0 parts.1)

pub kept_all : (low : ℕ) (f : Folder) (acts : List Act) → low < circle → IsKept low f → AllMarkNear low acts → IsKept low (does_all f acts)
kept_all low f [] low_in k all = k
kept_all low f (act ∷ acts) low_in k all =
    let parts = first_near low act acts all in
    kept_all low (does f act) acts low_in (step low f act low_in k parts.0).0 parts.1

pub files_never_back : (low : ℕ) (f : Folder) (acts : List Act) → low < circle → IsNear low f.marker → f.marked ≡ None
    → place low f.files ≤ place low f.marker → AllMarkNear low acts → NeverFall low f.files (come_to f acts)
files_never_back low f acts low_in near none behind all = never_back low f acts low_in (kept_first low f near none behind) all

pub marker_stays : (low : ℕ) (f : Folder) (acts : List Act) → low < circle → IsNear low f.marker → f.marked ≡ None
    → place low f.files ≤ place low f.marker → AllMarkNear low acts
    → IsNear low (does_all f acts).marker × (place low (does_all f acts).files ≤ place low (does_all f acts).marker)
marker_stays low f acts low_in near none behind all =
    let k = kept_all low f acts low_in (kept_first low f near none behind) all in
    (k.near, k.behind)
