-- What waits, whatever happens.
use Rattle.std.proofs.Common.{◌≡◌, ◌⊎◌, ℕ, Bool, true, false, inl, inr, List, [], ◌∷◌, ◌++◌, Option, Some, None, refl, sym, ap, subst, ◌∙◌}
use Rattle.std.specs.Prelude.{◌==◌, ◌&&◌, ◌||◌, not, if◌then◌else◌}
use Rattle.std.proofs.lemmas.Bool.{eqb-true, true≢false, ne_eqb}
use Rattle.rignolda_agent.specs.declared.body.Kind.{Kind}
use Rattle.rignolda_agent.specs.declared.body.Kind.TheVariants.{Changes, Table, Harmless}
use Rattle.rignolda_agent.specs.BodySpelling.{Body}
use Rattle.rignolda_agent.specs.Numbers.{is_newer, next}
use Rattle.rignolda_agent.specs.Takers.{takes, is_held, drops, follows, is_table, after_if}
use Rattle.rignolda_agent.specs.Agents.{Agent, LacksNothing, EndsAt, WaitsWell, applied_if, taken_if, hears, happens_all, with_body, starts_again}
use Rattle.rignolda_agent.proofs.Histories.{taken_is_one}

table_is : (k : Kind) → is_table k ≡ true → k ≡ Table
table_is Table e = refl
table_is Changes e = absurd (true≢false (sym e))
table_is Harmless e = absurd (true≢false (sym e))

-- one more body after what ends with this number
one_more : (n : ℕ) (bodies : List Body) (b : Body) → LacksNothing bodies → EndsAt n bodies → (b.kind ≡ Table) ⊎ (next n ≡ b.number) → LacksNothing (bodies ++ b ∷ [])
one_more n [] b lacks last follows = tt
one_more n (x ∷ []) b lacks last (inl table) = (inl table, tt)
one_more n (x ∷ []) b lacks last (inr follows) = (inr (ap next last ∙ follows), tt)
one_more n (x ∷ y ∷ rest) b lacks last follows = (lacks.0, one_more n (y ∷ rest) b lacks.1 last follows)

ends_with : (bodies : List Body) (b : Body) → EndsAt b.number (bodies ++ b ∷ [])
ends_with [] b = refl
ends_with (x ∷ []) b = refl
ends_with (x ∷ y ∷ rest) b = ends_with (y ∷ rest) b

-- what is not dropped is followed
followed : (a : Agent) (b : Body) → is_held a.taker a.taker.number ≡ true → (a.taker.number == 0) ≡ false → drops a.taker b.kind b.number ≡ false
    → (b.kind ≡ Table) ⊎ (next a.taker.number ≡ b.number)
followed a b held one kept =
    by (is_table b.kind) (follows a.taker b.number) refl refl
    (sym (ap (λ h. (h && not (is_table b.kind)) && not (follows a.taker b.number)) held) ∙ kept)
  where
    by : (t f : Bool) → is_table b.kind ≡ t → follows a.taker b.number ≡ f → (not t && not f) ≡ false → (b.kind ≡ Table) ⊎ (next a.taker.number ≡ b.number)
    by true f table is kept = inl (table_is b.kind table)
    by false true table is kept =
        inr (eqb-true (next a.taker.number) b.number (sym (ap (λ z. z || (next a.taker.number == b.number)) one) ∙ is))
    by false false table is kept = absurd (true≢false kept)

pub applied_lacks_nothing : (a : Agent) (b : Body) → WaitsWell a → LacksNothing (with_body a b)
applied_lacks_nothing a b well = by (drops a.taker b.kind b.number) refl well.held well.one
  where
    none : (bodies : List Body) → bodies ≡ [] → LacksNothing (bodies ++ b ∷ [])
    none bodies is = subst (λ w. LacksNothing (w ++ b ∷ [])) (sym is) tt

    by : (d : Bool) → drops a.taker b.kind b.number ≡ d → (a.waiting ≡ []) ⊎ (is_held a.taker a.taker.number ≡ true) → (a.waiting ≡ []) ⊎ ((a.taker.number == 0) ≡ false)
        → LacksNothing ((if d then [] else a.waiting) ++ b ∷ [])
    by true e held one = tt
    by false e (inl is) one = none a.waiting is
    by false e (inr held) (inl is) = none a.waiting is
    by false e (inr held) (inr one) =
        one_more a.taker.number a.waiting b well.lacks_nothing well.last (followed a b held one e)

waits_if : (h : Bool) (a : Agent) (b : Body) → is_held a.taker b.number ≡ h → (b.number == 0) ≡ false → LacksNothing (with_body a b)
    → WaitsWell (applied_if (not h) a (with_body a b) (after_if true a.taker b.kind b.number))
waits_if false a b held one lacks = record { lacks_nothing = tt; last = tt; held = inl refl; one = inl refl }
waits_if true a b held one lacks =
    record {
      lacks_nothing = lacks;
      last = ends_with (if drops a.taker b.kind b.number then [] else a.waiting) b;
      held = inr (ap (λ h. is_newer b.number (if h then a.taker.floor else b.number)) held ∙ held);
      one = inr one;
    }

heard_well : (a : Agent) (b : Body) → WaitsWell a → WaitsWell (hears a b)
heard_well a b well = by (takes a.taker b.number) (is_held a.taker b.number) refl refl
  where
    by : (t h : Bool) → takes a.taker b.number ≡ t → is_held a.taker b.number ≡ h → WaitsWell (taken_if (takes a.taker b.number) a b (after_if (takes a.taker b.number) a.taker b.kind b.number))
    by false h takes_it held =
        subst (λ t. WaitsWell (taken_if t a b (after_if t a.taker b.kind b.number))) (sym takes_it)
        (record { lacks_nothing = well.lacks_nothing; last = well.last; held = well.held; one = well.one })
    by true h takes_it held =
        subst (λ t. WaitsWell (taken_if t a b (after_if t a.taker b.kind b.number))) (sym takes_it)
        (subst (λ x. WaitsWell (applied_if (not x) a (with_body a b) (after_if true a.taker b.kind b.number))) (sym held)
        (waits_if h a b held (ne_eqb b.number 0 (taken_is_one a.taker.number b.number takes_it)) (applied_lacks_nothing a b well)))

pub waits_well : (a : Agent) (history : List (Option Body)) → WaitsWell a → WaitsWell (happens_all a history)
waits_well a [] well = well
waits_well a (Some b ∷ rest) well = waits_well (hears a b) rest (heard_well a b well)
waits_well a (None ∷ rest) well =
    waits_well (starts_again a) rest (record { lacks_nothing = tt; last = tt; held = inl refl; one = inl refl })
