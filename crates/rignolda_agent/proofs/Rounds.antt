-- A newer table, and everything after it, is applied.
use Rattle.std.proofs.Common.{◌≡◌, ℕ, Bool, true, false, List, [], ◌∷◌, ◌++◌, refl, sym, ap, subst, ◌∙◌}
use Rattle.std.specs.Prelude.{not, if◌then◌else◌}
use Rattle.std.specs.List.{AllByRecursion}
use Rattle.std.proofs.lemmas.Bool.{and_parts}
use Rattle.rignolda_agent.specs.declared.body.Kind.{Kind}
use Rattle.rignolda_agent.specs.declared.body.Kind.TheVariants.{Table}
use Rattle.rignolda_agent.specs.BodySpelling.{Body}
use Rattle.rignolda_agent.specs.Numbers.{is_newer}
use Rattle.rignolda_agent.specs.Takers.{Taker, takes, is_held, drops, after_if}
use Rattle.rignolda_agent.specs.Agents.{Agent, Settings, told, tell, tell_all, applied_if, taken_if, hears, hears_all, with_body}
use Rattle.rignolda_agent.specs.Rounds.{is_behind, IsReady, Rise, IsRound}
use Rattle.rignolda_agent.proofs.Histories.{from_not, taker_after}

told_both : (t : Settings) (xs ys : List Body) → tell_all t (xs ++ ys) ≡ tell_all (tell_all t xs) ys
told_both t [] ys = refl
told_both t (x ∷ xs) ys = told_both (tell t x) xs ys

heard_both : (a : Agent) (xs ys : List Body) → hears_all a (xs ++ ys) ≡ hears_all (hears_all a xs) ys
heard_both a [] ys = refl
heard_both a (x ∷ xs) ys = heard_both (hears a x) xs ys

pub table_tells : (before other : Settings) (table : Body) → table.kind ≡ Table → tell before table ≡ tell other table
table_tells before other table is =
    ap (λ k. told k before table.settings) is ∙ sym (ap (λ k. told k other table.settings) is)

-- what is behind a number leaves an agent ready for it
ready_if : (b : Bool) (n : ℕ) (t : Taker) (k : Kind) (number : ℕ) → IsReady n t → is_behind n number ≡ true → IsReady n (after_if b t k number)
ready_if true n t k number ready behind = record { taken = behind; floor = floors (is_held t number) }
  where
    floors : (h : Bool) → is_behind n (if h then t.floor else number) ≡ true
    floors true = ready.floor
    floors false = behind
ready_if false n t k number ready behind = record { taken = ready.taken; floor = ready.floor }

pub ready_after : (n : ℕ) (a : Agent) (b : Body) → IsReady n a.taker → is_behind n b.number ≡ true → IsReady n (hears a b).taker
ready_after n a b ready behind =
    subst (IsReady n) (sym (taker_after a b)) (ready_if (takes a.taker b.number) n a.taker b.kind b.number ready behind)

pub ready_after_all : (n : ℕ) (a : Agent) (before : List Body) → IsReady n a.taker → AllByRecursion (λ b. is_behind n b.number ≡ true) before
    → IsReady n (hears_all a before).taker
ready_after_all n a [] ready all = ready
ready_after_all n a (b ∷ before) ready all = ready_after_all n (hears a b) before (ready_after n a b ready all.0) all.1

-- ---- what is taken and not held is applied

module _ (a : Agent) (b : Body) (taken : takes a.taker b.number ≡ true) (free : is_held a.taker b.number ≡ false) where
  pub applied_now : hears a b ≡ applied_if true a (with_body a b) (after_if true a.taker b.kind b.number)
  applied_now =
      ap (λ x. taken_if x a b (after_if x a.taker b.kind b.number)) taken
      ∙ ap (λ h. applied_if (not h) a (with_body a b) (after_if true a.taker b.kind b.number)) free

  floor_now : (after_if true a.taker b.kind b.number).floor ≡ b.number
  floor_now = ap (λ h. if h then a.taker.floor else b.number) free

-- an agent with nothing that waits, whose numbers are both this one
pub record Settled (n : ℕ) (a : Agent) : Type 0 where
  pub taken : a.taker.number ≡ n
  pub floor : a.taker.floor ≡ n
  pub none : a.waiting ≡ []

pub settled_by : (a : Agent) (b : Body) → takes a.taker b.number ≡ true → is_held a.taker b.number ≡ false → Settled b.number (hears a b)
settled_by a b taken free =
    let now = applied_now a b taken free in
    record {
      taken = ap (λ x. x.taker.number) now;
      floor = ap (λ x. x.taker.floor) now ∙ floor_now a b taken free;
      none = ap (λ x. x.waiting) now;
    }

pub alone : (d : Bool) (waiting : List Body) (b : Body) → waiting ≡ [] → (if d then [] else waiting) ++ b ∷ [] ≡ b ∷ []
alone true waiting b is = refl
alone false waiting b is = ap (λ w. w ++ b ∷ []) is

pub rise_applied : (n : ℕ) (a : Agent) (later : List Body) → Settled n a → Rise n later → (hears_all a later).files ≡ tell_all a.files later
rise_applied n a [] settled rise = refl
rise_applied n a (b ∷ later) settled rise =
    let parts = and_parts (is_newer n b.number) (not (is_newer b.number n)) rise.0 in
    let taken : takes a.taker b.number ≡ true = ap (λ m. is_newer m b.number) settled.taken ∙ parts.0 in
    let free : is_held a.taker b.number ≡ false = ap (λ m. is_newer b.number m) settled.floor ∙ from_not _ parts.1 in
    rise_applied b.number (hears a b) later (settled_by a b taken free) rise.1
    ∙ ap (λ f. tell_all f later) (ap (λ x. x.files) (applied_now a b taken free)
    ∙ ap (tell_all a.files) (alone (drops a.taker b.kind b.number) a.waiting b settled.none))

pub files_right : (a : Agent) (bodies later : List Body) (table : Body) (before : Settings) → IsRound bodies table later → IsReady table.number a.taker
    → (hears_all a bodies).files ≡ tell_all before (table ∷ later)
files_right a bodies later table before round ready =
    let there = hears_all a round.before in
    let ready_there = ready_after_all table.number a round.before ready round.behind in
    let taken = (and_parts (takes there.taker table.number) _ ready_there.taken).0 in
    let free = from_not _ (and_parts (is_newer there.taker.floor table.number) (not (is_held there.taker table.number)) ready_there.floor).1 in
    let waited = if drops there.taker table.kind table.number then [] else there.waiting in
    ap (λ bs. (hears_all a bs).files) round.is
    ∙ ap (λ x. x.files) (heard_both a round.before (table ∷ later))
    ∙ rise_applied table.number (hears there table) later (settled_by there table taken free) round.rise
    ∙ ap (λ f. tell_all f later) (ap (λ x. x.files) (applied_now there table taken free)
    ∙ told_both there.files waited (table ∷ [])
    ∙ table_tells (tell_all there.files waited) before table round.is_table)
