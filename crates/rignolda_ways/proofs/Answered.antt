-- What an agent answers, and what it leaves of the agent.
use Rattle.std.proofs.Common.{◌≡◌, ◌⊎◌, ℕ, suc, ◌+◌, ◌<◌, ◌≤◌, inl, inr, Bool, true, false, not, ◌&&◌, ◌||◌, ltb, leb, if◌then◌else◌, List, [], ◌∷◌, Contains, Option, Some, None, refl, sym, ◌∙◌, ap, subst, arith}
use Rattle.std.specs.Prelude.{◌==◌}
use Rattle.std.specs.List.{list_any}
use Rattle.std.proofs.lemmas.Bool.{lt-ltb, le-ltb, lt-leb, and_left, ne_eqb}
use Rattle.rignolda_ways.specs.declared.asked.Asked.{Asked}
use Rattle.rignolda_ways.specs.declared.asked.Answer.{Answer}
use Rattle.rignolda_ways.specs.declared.asked.Answer.TheVariants.{Takes, Keeps, Leaves}
use Rattle.rignolda_ways.specs.declared.asked.Reason.{Reason}
use Rattle.rignolda_ways.specs.declared.asked.Reason.TheVariants.{NoRoot, NoBetter}
use Rattle.rignolda_ways.specs.Answers.{over, fault_of, is_free, compared, answered, answer_of}
use Rattle.rignolda_ways.specs.Turns.{Heard, after_answer}

pub no_fault : (none : ℕ) (a : Asked) → a.has_own_name ≡ false → over none a.said a.price < none + none → a.names < none → fault_of none a ≡ None
no_fault none a apart short few = rw (apart, lt-ltb (over none a.said a.price) (none + none) short, lt-ltb a.names none few) refl

pub follows : (none : ℕ) (a : Asked) → a.is_parent ≡ true → (answer_of none a ≡ Takes) ⊎ ((why : Reason) × (answer_of none a ≡ Leaves why))
follows none a parent = subst (λ b. (answered b (fault_of none a) (compared none a) ≡ Takes) ⊎ ((why : Reason) × (answered b (fault_of none a) (compared none a) ≡ Leaves why))) (sym parent) (by_fault (fault_of none a))
  where
    by_fault : (fault : Option Reason) → (answered true fault (compared none a) ≡ Takes) ⊎ ((why : Reason) × (answered true fault (compared none a) ≡ Leaves why))
    by_fault None = inl refl
    by_fault (Some why) = inr (why, refl)

pub takes_parent : (none : ℕ) (a : Asked) → a.is_parent ≡ true → fault_of none a ≡ None → answer_of none a ≡ Takes
takes_parent none a parent right = ap (λ b. answered b (fault_of none a) (compared none a)) parent ∙ ap (λ fault. answered true fault (compared none a)) right

any_way : (b : Bool) (x : Answer) → (if b then x else x) ≡ x
any_way true x = refl
any_way false x = refl

pub takes_better : (none : ℕ) (a : Asked) → a.is_parent ≡ false → fault_of none a ≡ None → over none a.said a.price < none → over none a.said a.price < a.own
    → answer_of none a ≡ Takes
takes_better none a other right some better =
    ap (λ b. answered b (fault_of none a) (compared none a)) other ∙ (ap (λ fault. answered false fault (compared none a)) right
    ∙ (ap (λ b. if is_free a then Takes else (if b then Keeps NoRoot else (if ltb (over none a.said a.price) a.own then Takes else Keeps NoBetter))) (lt-leb none (over none a.said a.price) some)
    ∙ (ap (λ b. if is_free a then Takes else (if b then Takes else Keeps NoBetter)) (lt-ltb (over none a.said a.price) a.own better) ∙ any_way (is_free a) Takes)))

pub keeps : (none : ℕ) (a : Asked) → a.is_parent ≡ false → a.has_parent ≡ true → a.own ≤ over none a.said a.price → (why : Reason) × (answer_of none a ≡ Keeps why)
keeps none a other parent no_better =
    subst (λ b. (why : Reason) × (answered b (fault_of none a) (compared none a) ≡ Keeps why)) (sym other) (by_fault (fault_of none a))
  where
    bound : is_free a ≡ false
    bound = and_left (not a.has_parent && (a.is_sole || not a.has_children)) _ (and_left (not a.has_parent) _ (ap not parent))

    by_root : (b : Bool) → (why : Reason) × ((if b then Keeps NoRoot else (if ltb (over none a.said a.price) a.own then Takes else Keeps NoBetter)) ≡ Keeps why)
    by_root true = (NoRoot, refl)
    by_root false = (NoBetter, ap (λ b. if b then Takes else Keeps NoBetter) (le-ltb (over none a.said a.price) a.own no_better))

    by_fault : (fault : Option Reason) → (why : Reason) × (answered false fault (compared none a) ≡ Keeps why)
    by_fault (Some why) = (why, refl)
    by_fault None =
        let (why, is) = by_root (leb none (over none a.said a.price)) in
        (why, ap (λ b. if b then Takes else (if leb none (over none a.said a.price) then Keeps NoRoot else (if ltb (over none a.said a.price) a.own then Takes else Keeps NoBetter))) bound ∙ is)

-- what an agent has heard then was heard now, or was kept
pub heard_after : (answer : Answer) (new heard : Heard) (old : Option Heard) → after_answer answer new old ≡ Some heard → (new ≡ heard) ⊎ (old ≡ Some heard)
heard_after Takes new heard old is = inl (some_same new heard is)
  where
    some_same : (x y : Heard) → Some x ≡ Some y → x ≡ y
    some_same x y same = cc
heard_after (Keeps why) new heard old is = inr is
heard_after (Leaves why) new heard old is = cc

-- no name is the agent's own
pub apart : (names : List ℕ) (v : ℕ) → ((name : ℕ) → Contains names name → name ≡ v → ⊥) → list_any (λ name. name == v) names ≡ false
apart [] v none = refl
apart (x ∷ xs) v none =
    rw (ne_eqb x v (none x (0, omega arith, refl)), apart xs v (λ name (k, within, is). none name (suc k, omega (arith, within), is))) refl

pub takes_free : (none : ℕ) (a : Asked) → a.is_parent ≡ false → fault_of none a ≡ None → is_free a ≡ true → answer_of none a ≡ Takes
takes_free none a other right free =
    ap (λ b. answered b (fault_of none a) (compared none a)) other ∙ (ap (λ fault. answered false fault (compared none a)) right
    ∙ ap (λ b. if b then Takes else (if leb none (over none a.said a.price) then Keeps NoRoot else (if ltb (over none a.said a.price) a.own then Takes else Keeps NoBetter))) free)
