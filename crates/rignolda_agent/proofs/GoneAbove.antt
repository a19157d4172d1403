-- A root that twice heard a report of an agent's numbers is above these.
use Rattle.std.proofs.Common.{◌≡◌, ◌≢◌, ◌⊎◌, ℕ, ◌+◌, ◌*◌, ◌-◌, ◌<◌, ◌≤◌, Bool, true, false, cond, inl, inr, List, [], ◌∷◌, ◌++◌, map, Option, Some, None, refl, sym, ap, subst, ◌∙◌, arith}
use Rattle.std.specs.Prelude.{nat_le, if◌then◌else◌, IfSome}
use Rattle.std.specs.List.{AllByRecursion, count_by, fold}
use Rattle.std.proofs.lemmas.Bool.{and_parts, cases_Bool, cases_lt, leb-true}
use Rattle.std.proofs.lemmas.List.Sums.{sum_by-append, sum_by-cons}
use Rattle.rignolda_agent.specs.BodySpelling.{Body}
use Rattle.rignolda_agent.specs.Agents.{Agent}
use Rattle.rignolda_agent.specs.Items.{Reading, SaysBehind, hears_items}
use Rattle.rignolda_agent.specs.Numbers.{ahead, circle, is_newer, next, quarter, quarter_on, towards}
use Rattle.rignolda_agent.specs.Publishers.{Publisher, gone_above}
use Rattle.rignolda_agent.specs.Reports.{AreAllNear, AreNumbered, NoneAhead, Publication, all_heard, bodies_of, covers, goes_above}
use Rattle.rignolda_agent.specs.Rounds.{AllNear, IsNear, IsReady, is_behind, place}
use Rattle.rignolda_agent.specs.Takers.{Taker}
use Rattle.rignolda_agent.proofs.Above.{next_ahead}
use Rattle.rignolda_agent.proofs.Histories.{taken_is_one}
use Rattle.rignolda_agent.proofs.NotBehind.{heard_all, lower_is_behind, newer_is_no_lower, older_is_no_higher}
use Rattle.rignolda_agent.proofs.Places.{place_of}
use Rattle.rignolda_agent.proofs.Quarters.{ahead_sum, by_a_quarter, quarter_in, to_it}
use Rattle.rignolda_agent.proofs.Reported.{lead_near}

-- ---- one report

-- From one number of a root to another, by so many reports that say no less than a place: it is
-- there, or came nearer by that many quarters of the circle.
pub record Gone (low goal from to count : ℕ) : Type 0 where
  pub near : IsNear low to
  pub one : to ≢ 0
  pub no_lower : place low from ≤ place low to
  pub far : (goal ≤ place low to) ⊎ (place low from + count * quarter ≤ place low to)

-- what a report leads to
record Heard (low from heard to : ℕ) : Type 0 where
  near : IsNear low to
  one : to ≢ 0
  no_lower : place low from ≤ place low to
  far : (place low heard ≤ place low to) ⊎ (place low from + quarter ≤ place low to)

module _ (low : ℕ) (low_in : low < circle) where
  goes_to : (from heard : ℕ) → IsNear low from → from ≢ 0 → IsNear low heard → is_newer from heard ≡ true → Heard low from heard (towards from heard)
  goes_to from heard from_near one heard_near newer =
      let no_lower = newer_is_no_lower low from heard low_in from_near heard_near newer in
      let heard_one = taken_is_one from heard newer in
      let leads : ahead from heard ≡ place low heard - place low from =
      sym (ap (λ b. if b then ahead from heard else 0) newer) ∙ lead_near low from heard low_in from_near one heard_near in
      elim (cases_lt quarter (ahead from heard)) [
        | inr close ↦
            subst (Heard low from heard) (sym (to_it from heard close))
            (record { near = heard_near; one = heard_one; no_lower = no_lower; far = inl (omega arith) })
        | inl apart ↦
            let (some, step_in, least, most) = quarter_in from (by_one from one) from_near.0 in
            let from_place = place_of low from one in
            let none_less : quarter_on from ≢ 0 = λ none. omega (arith, none, some) in
            let sum = ahead_sum low from (quarter_on from) low_in from_near.0 step_in (omega (arith, from_place, from_near.1, most)) in
            let there = place_of low (quarter_on from) none_less in
            subst (Heard low from heard) (sym (by_a_quarter from heard apart))
            (record {
              near = (step_in, omega (arith, there, sum, from_place, most, apart, leads, heard_near.1));
              one = none_less;
              no_lower = omega (arith, there, sum, from_place);
              far = inr (omega (arith, there, sum, from_place, least));
            })
      ]
    where
      by_one : (n : ℕ) → n ≢ 0 → 0 < n
      by_one n some =
          elim (cases_lt 0 n) [
            | inl more ↦ more
            | inr none ↦ absurd (some (omega (arith, none)))
          ]

  hear_one : (from heard : ℕ) → IsNear low from → from ≢ 0 → IsNear low heard → Heard low from heard (goes_above from heard)
  hear_one from heard from_near one heard_near =
      elim (cases_Bool (is_newer from heard)) [
        | inl newer ↦
            subst (Heard low from heard) (sym (ap (λ b. if b then towards from heard else from) newer)) (goes_to from heard from_near one heard_near newer)
        | inr older ↦
            subst (Heard low from heard) (sym (ap (λ b. if b then towards from heard else from) older))
            (record {
              near = from_near;
              one = one;
              no_lower = omega arith;
              far = inl (older_is_no_higher low from heard low_in from_near heard_near older);
            })
      ]

  -- ---- the reports before a body

  module _ (goal : ℕ) (test : ℕ → Bool) (sure : (n : ℕ) → test n ≡ true → goal ≤ place low n) where
    one_more : (n : ℕ) (ns : List ℕ) → count_by test (n ∷ ns) ≡ cond (test n) 1 0 + count_by test ns
    one_more n ns = sum_by-cons (λ x. cond (test x) 1 0) n ns

    first_of_all : (b : Bool) (from heard to end count : ℕ) → test heard ≡ b → Heard low from heard to → Gone low goal to end count
        → (goal ≤ place low end) ⊎ (place low from + (cond b 1 0 + count) * quarter ≤ place low end)
    first_of_all false from heard to end count is one more =
        elim (more.far) [
          | inl there ↦ inl there
          | inr on ↦ inr (omega (arith, one.no_lower, on))
        ]
    first_of_all true from heard to end count is one more =
        elim (more.far) [
          | inl there ↦ inl there
          | inr on ↦
              elim (one.far) [
                | inl heard_it ↦ inl (omega (arith, sure heard is, heard_it, more.no_lower))
                | inr step ↦ inr (omega (arith, step, on))
              ]
        ]

    hear_all : (from : ℕ) (heard : List ℕ) → IsNear low from → from ≢ 0 → AllByRecursion (IsNear low) heard
        → Gone low goal from (fold goes_above from heard) (count_by test heard)
    hear_all from [] near one all =
        record { near = near; one = one; no_lower = omega arith; far = inr (omega arith) }
    hear_all from (n ∷ ns) near one all =
        let first = hear_one from n near one all.0 in
        let more = hear_all (goes_above from n) ns first.near first.one all.1 in
        record {
          near = more.near;
          one = more.one;
          no_lower = omega (arith, first.no_lower, more.no_lower);
          far =
              subst (λ count. (goal ≤ place low (fold goes_above from (n ∷ ns))) ⊎ (place low from + count * quarter ≤ place low (fold goes_above from (n ∷ ns))))
              (sym (one_more n ns))
              (first_of_all (test n) from n (goes_above from n) (fold goes_above from (n ∷ ns)) (count_by test ns) refl first more);
        }

    -- ---- bodies, up to a table

    -- the next number is higher
    next_higher : (m : ℕ) → IsNear low m → m ≢ 0 → (next m ≢ 0) × (place low m < place low (next m))
    next_higher m near one =
        let (next_in, next_one, more, most) = next_ahead low m low_in near.0 (omega (arith, near.1, place_of low m one)) in
        (next_one, omega (arith, more, place_of low m one, place_of low (next m) next_one))

    -- a table above a root's number and so many reports: it is above these, or by many quarters, and
    -- above all bodies before it
    record Table (from count table : ℕ) (before : List Body) : Type 0 where
      one : table ≢ 0
      far : (goal < place low table) ⊎ (place low from + count * quarter < place low table)
      higher : place low from < place low table
      all : AllByRecursion (λ b. place low b.number < place low table) before

    -- one body
    record Sent (from count number : ℕ) : Type 0 where
      one : number ≢ 0
      far : (goal < place low number) ⊎ (place low from + count * quarter < place low number)
      higher : place low from < place low number

    sent : (from : ℕ) (p : Publication) → IsNear low from → from ≢ 0 → AllByRecursion (IsNear low) p.heard → p.body.number ≡ next (fold goes_above from p.heard)
        → Sent from (count_by test p.heard) p.body.number
    sent from p near one heard is =
        let gone = hear_all from p.heard near one heard in
        let higher = next_higher (fold goes_above from p.heard) gone.near gone.one in
        subst (Sent from (count_by test p.heard)) (sym is)
        (record {
          one = higher.0;
          far =
              elim (gone.far) [
                | inl there ↦ inl (omega (arith, there, higher.1))
                | inr on ↦ inr (omega (arith, on, higher.1))
              ];
          higher = omega (arith, gone.no_lower, higher.1);
        })

    both_counts : (xs ys : List ℕ) → count_by test (xs ++ ys) ≡ count_by test xs + count_by test ys
    both_counts xs ys = sum_by-append (λ x. cond (test x) 1 0) xs ys

    later_far : (from count to more table : ℕ) → Sent from count to → (goal < place low table) ⊎ (place low to + more * quarter < place low table) → place low to < place low table
        → (goal < place low table) ⊎ (place low from + (count + more) * quarter < place low table)
    later_far from count to more table first far higher =
        elim (first.far) [
          | inl there ↦ inl (omega (arith, there, higher))
          | inr on ↦
              elim far [
                | inl there ↦ inl there
                | inr again ↦ inr (omega (arith, on, again))
              ]
        ]

    above_all : (from : ℕ) (before : List Publication) (table : Publication) → IsNear low from → from ≢ 0 → AreAllNear low (before ++ table ∷ [])
        → AreNumbered from (before ++ table ∷ [])
        → Table from (count_by test (all_heard (before ++ table ∷ []))) table.body.number (bodies_of before)
    above_all from [] table near one all numbered =
        let it = sent from table near one all.0.0 numbered.0 in
        let count : count_by test (table.heard ++ []) ≡ count_by test table.heard = omega (arith, both_counts table.heard []) in
        record {
          one = it.one;
          far =
              subst (λ n. (goal < place low table.body.number) ⊎ (place low from + n * quarter < place low table.body.number)) (sym count) (it.far);
          higher = it.higher;
          all = tt;
        }
    above_all from (p ∷ before) table near one all numbered =
        let it = sent from p near one all.0.0 numbered.0 in
        let rest = above_all p.body.number before table all.0.1 it.one all.1 numbered.1 in
        record {
          one = rest.one;
          far =
              subst (λ n. (goal < place low table.body.number) ⊎ (place low from + n * quarter < place low table.body.number))
              (sym (both_counts p.heard (all_heard (before ++ table ∷ []))))
              (later_far from (count_by test p.heard) p.body.number (count_by test (all_heard (before ++ table ∷ []))) table.body.number it rest.far rest.higher);
          higher = omega (arith, it.higher, rest.higher);
          all = (rest.higher, rest.all);
        }

    -- by two reports it is above them
    above_goal : (from count table : ℕ) (before : List Body) → Table from count table before → IsNear low table → 2 ≤ count → goal < place low table
    above_goal from count table before it near twice =
        elim (it.far) [
          | inl there ↦ there
          | inr on ↦ absurd (omega (arith, on, near.1, twice))
        ]

-- ---- so its table is ahead

last_near : (low : ℕ) (before : List Publication) (table : Publication) → AreAllNear low (before ++ table ∷ []) → IsNear low table.body.number
last_near low [] table all = all.0.1
last_near low (p ∷ before) table all = last_near low before table all.1

all_behind : (low table : ℕ) (before : List Publication) (last : Publication) → low < circle → IsNear low table → AreAllNear low (before ++ last ∷ [])
    → AllByRecursion (λ b. place low b.number < place low table) (bodies_of before) → AllByRecursion (λ b. is_behind table b.number ≡ true) (bodies_of before)
all_behind low table [] last low_in near all lower = tt
all_behind low table (p ∷ before) last low_in near all lower =
    (lower_is_behind low p.body.number table low_in all.0.1 near lower.0, all_behind low table before last low_in near all.1 lower.1)

number_covered : (low : ℕ) (t : Taker) (n : ℕ) → covers low t n ≡ true → place low t.number ≤ place low n
number_covered low t n is =
    leb-true (place low t.number) (place low n) (and_parts (nat_le (place low t.number) (place low n)) (nat_le (place low t.floor) (place low n)) is).0

floor_covered : (low : ℕ) (t : Taker) (n : ℕ) → covers low t n ≡ true → place low t.floor ≤ place low n
floor_covered low t n is =
    leb-true (place low t.floor) (place low n) (and_parts (nat_le (place low t.number) (place low n)) (nat_le (place low t.floor) (place low n)) is).1

-- the table's place is above that of each number that two reports cover
pub table_above : (low from : ℕ) (t : Taker) (before : List Publication) (table : Publication) → low < circle → IsNear low from → 0 < from → AreAllNear low (before ++ table ∷ [])
    → AreNumbered from (before ++ table ∷ []) → 2 ≤ count_by (covers low t) (all_heard (before ++ table ∷ []))
    → IsNear low table.body.number
    × (place low t.number < place low table.body.number) × (place low t.floor < place low table.body.number)
    × AllByRecursion (λ b. is_behind table.body.number b.number ≡ true) (bodies_of before)
table_above low from t before table low_in near one all numbered twice =
    let some : from ≢ 0 = λ none. omega (arith, none, one) in
    let count = count_by (covers low t) (all_heard (before ++ table ∷ [])) in
    let table_near = last_near low before table all in
    let number = above_all low low_in (place low t.number) (covers low t) (number_covered low t) from before table near some all numbered in
    let floor = above_all low low_in (place low t.floor) (covers low t) (floor_covered low t) from before table near some all numbered in (
      table_near,
      above_goal low low_in (place low t.number) (covers low t) (number_covered low t) from count table.body.number (bodies_of before) number table_near twice,
      above_goal low low_in (place low t.floor) (covers low t) (floor_covered low t) from count table.body.number (bodies_of before) floor table_near twice,
      all_behind low table.body.number before table low_in table_near all number.all,
    )

-- what came, and then is behind a number, is behind one that is higher
one_behind : (low number table : ℕ) (said : Option Body) (rest : List (Option Body)) → low < circle → IsNear low table → place low number < place low table
    → AllNear low (said ∷ rest) → NoneAhead low number (said ∷ rest)
    → IfSome said (λ b. is_behind table b.number ≡ true) × AllNear low rest × NoneAhead low number rest
one_behind low number table None rest low_in near higher all none = (tt, all, none)
one_behind low number table (Some b) rest low_in near higher all none =
    (lower_is_behind low b.number table low_in all.0 near (omega (arith, none.0, higher)), all.1, none.1)

each_behind : (low number table : ℕ) (reading : Reading) (items : List ℕ) → low < circle → IsNear low table → place low number < place low table
    → AllNear low (map reading items) → NoneAhead low number (map reading items) → AllByRecursion (SaysBehind reading table) items
each_behind low number table reading [] low_in near higher all none = tt
each_behind low number table reading (x ∷ xs) low_in near higher all none =
    let first = one_behind low number table (reading x) (map reading xs) low_in near higher all none in
    (first.0, each_behind low number table reading xs low_in near higher first.1 first.2)

pub behind_what_came : (low from : ℕ) (reading : Reading) (a : Agent) (items : List ℕ) (before : List Publication) (table : Publication)
    → low < circle → IsNear low a.taker.number → IsNear low a.taker.floor → AllNear low (map reading items) → IsNear low from → 0 < from
    → AreAllNear low (before ++ table ∷ []) → AreNumbered from (before ++ table ∷ [])
    → 2 ≤ count_by (covers low (hears_items reading a items).taker) (all_heard (before ++ table ∷ []))
    → IsReady table.body.number a.taker × AllByRecursion (SaysBehind reading table.body.number) items
    × AllByRecursion (λ b. is_behind table.body.number b.number ≡ true) (bodies_of before)
behind_what_came low from reading a items before table low_in number_near floor_near came near one all numbered twice =
    let end = (hears_items reading a items).taker in
    let kept = heard_all low a (map reading items) low_in number_near floor_near came in
    let (table_near, number, floor, others) = table_above low from end before table low_in near one all numbered twice in (
      record {
        taken = lower_is_behind low a.taker.number table.body.number low_in number_near table_near (omega (arith, kept.0.number, number));
        floor = lower_is_behind low a.taker.floor table.body.number low_in floor_near table_near (omega (arith, kept.0.floor, floor));
      },
      each_behind low end.number table.body.number reading items low_in table_near number came kept.1,
      others,
    )

-- ---- in the publisher

pub publisher_goes : (root : Publisher) (number : ℕ) → (gone_above root number).number ≡ goes_above root.number number
publisher_goes root number = by (is_newer root.number number)
  where
    by : (newer : Bool) → (if newer then record root { number = towards root.number number; table_first = true } else root).number ≡ (if newer then towards root.number number else root.number)
    by true = refl
    by false = refl
