-- A whole table and what follows it, heard by an agent whose files may have a newer number.
use Rattle.std.proofs.Common.{◌≡◌, ℕ, true, false, inl, inr, List, [], ◌∷◌, ◌++◌, sym, ap, ◌∙◌}
use Rattle.std.specs.Prelude.{◌==◌, ◌&&◌, not, if◌then◌else◌}
use Rattle.std.proofs.lemmas.List.Sums.{fold-append}
use Rattle.std.proofs.lemmas.Bool.{and_parts, and_right, or_right, cases_Bool, eq-eqb}
use Rattle.rignolda_agent.specs.declared.body.Kind.TheVariants.{Table}
use Rattle.rignolda_agent.specs.BodySpelling.{Body}
use Rattle.rignolda_agent.specs.Numbers.{is_newer, next}
use Rattle.rignolda_agent.specs.Takers.{takes, is_held, drops, follows, is_table, after_if}
use Rattle.rignolda_agent.specs.Agents.{Agent, Settings, tell, tell_all, applied_if, taken_if, hears, hears_all, with_body}
use Rattle.rignolda_agent.specs.Rounds.{IsRun, Rise, last_number}
use Rattle.rignolda_agent.proofs.Rounds.{settled_by, rise_applied, applied_now, table_tells}

run_rises : (below : ℕ) (later : List Body) → IsRun below later → Rise below later
run_rises below [] run = tt
run_rises below (b ∷ later) run = (run.1, run_rises b.number later run.2)

-- the agent waits: it took this number last, and its files have a newer one
record Waits (n floor : ℕ) (a : Agent) : Type 0 where
  pub taken : a.taker.number ≡ n
  pub floor_is : a.taker.floor ≡ floor
  pub newer : is_newer n floor ≡ true

module _ (a : Agent) (b : Body) (taken : takes a.taker b.number ≡ true) (held : is_held a.taker b.number ≡ true) where
  waits_now : hears a b ≡ applied_if false a (with_body a b) (after_if true a.taker b.kind b.number)
  waits_now =
      ap (λ x. taken_if x a b (after_if x a.taker b.kind b.number)) taken
      ∙ ap (λ h. applied_if (not h) a (with_body a b) (after_if true a.taker b.kind b.number)) held

  floor_stays : (after_if true a.taker b.kind b.number).floor ≡ a.taker.floor
  floor_stays = ap (λ h. if h then a.taker.floor else b.number) held

-- what the files will be once what waits is applied
abbrev shown : Agent → Settings
shown a = tell_all a.files a.waiting

shown_more : (files : Settings) (waiting : List Body) (b : Body) → tell_all files (waiting ++ b ∷ []) ≡ tell (tell_all files waiting) b
shown_more files waiting b = fold-append tell files waiting (b ∷ [])

waits_by : (a : Agent) (b : Body) → takes a.taker b.number ≡ true → is_held a.taker b.number ≡ true → Waits b.number a.taker.floor (hears a b)
waits_by a b taken held =
    let now = waits_now a b taken held in
    record {
      taken = ap (λ x. x.taker.number) now;
      floor_is = ap (λ x. x.taker.floor) now ∙ floor_stays a b taken held;
      newer = held;
    }

-- what follows what waits is not dropped
kept : (a : Agent) (b : Body) → next a.taker.number ≡ b.number → drops a.taker b.kind b.number ≡ false
kept a b follows_it =
    and_right (is_held a.taker a.taker.number && not (is_table b.kind)) (not (follows a.taker b.number))
    (ap not (or_right (a.taker.number == 0) (next a.taker.number == b.number) (eq-eqb (next a.taker.number) b.number follows_it)))

run_applied : (n floor : ℕ) (a : Agent) (later : List Body) → Waits n floor a → IsRun n later → is_newer (last_number n later) floor ≡ false
    → (hears_all a later).files ≡ tell_all (shown a) later
run_applied n floor a [] waits run free = let never : true ≡ false = sym waits.newer ∙ free in cc
run_applied n floor a (b ∷ later) waits run free =
    let parts = and_parts (is_newer n b.number) (not (is_newer b.number n)) run.1 in
    let taken : takes a.taker b.number ≡ true = ap (λ m. is_newer m b.number) waits.taken ∙ parts.0 in
    let stays : with_body a b ≡ a.waiting ++ b ∷ [] =
    ap (λ d. (if d then [] else a.waiting) ++ b ∷ []) (kept a b (ap next waits.taken ∙ run.0)) in
    elim (cases_Bool (is_held a.taker b.number)) [
      | inl held ↦
          let now = waits_now a b taken held in
          let there = waits_by a b taken held in
          run_applied b.number floor (hears a b) later
          (record { taken = there.taken; floor_is = there.floor_is ∙ waits.floor_is; newer = ap (is_newer b.number) (sym waits.floor_is) ∙ held }) run.2 free
          ∙ ap (λ s. tell_all s later)
          (ap (λ x. shown x) now ∙ ap (tell_all a.files) stays ∙ shown_more a.files a.waiting b)
      | inr now_free ↦
          rise_applied b.number (hears a b) later (settled_by a b taken now_free) (run_rises b.number later run.2)
          ∙ ap (λ s. tell_all s later)
          (ap (λ x. x.files) (applied_now a b taken now_free) ∙ ap (tell_all a.files) stays ∙ shown_more a.files a.waiting b)
    ]

-- the same from the table on
pub comes_back : (a : Agent) (table : Body) (later : List Body) (before : Settings) → table.kind ≡ Table → takes a.taker table.number ≡ true → IsRun table.number later
    → is_newer (last_number table.number later) a.taker.floor ≡ false
    → (hears_all a (table ∷ later)).files ≡ tell_all before (table ∷ later)
comes_back a table later before is taken run free =
    let waited = if drops a.taker table.kind table.number then [] else a.waiting in
    let told : tell_all a.files (with_body a table) ≡ tell before table =
    shown_more a.files waited table ∙ table_tells (tell_all a.files waited) before table is in
    elim (cases_Bool (is_held a.taker table.number)) [
      | inl held ↦
          run_applied table.number a.taker.floor (hears a table) later (waits_by a table taken held) run free
          ∙ ap (λ s. tell_all s later) (ap (λ x. shown x) (waits_now a table taken held) ∙ told)
      | inr now_free ↦
          rise_applied table.number (hears a table) later (settled_by a table taken now_free) (run_rises table.number later run)
          ∙ ap (λ s. tell_all s later) (ap (λ x. x.files) (applied_now a table taken now_free) ∙ told)
    ]
