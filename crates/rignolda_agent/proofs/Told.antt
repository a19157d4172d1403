-- What does not wait is told.
use Rattle.std.proofs.Common.{◌≡◌, ℕ, Bool, true, false, List, [], ◌∷◌, ◌++◌, length, take, drop, map, Option, refl, sym, ◌∙◌, ap}
use Rattle.std.proofs.lemmas.List.{take-append-drop}
use Rattle.std.proofs.lemmas.Bool.{eqb-true}
use Rattle.std.specs.Prelude.{if◌then◌else◌, ◌||◌, ◌==◌}
use Rattle.std.specs.List.{fold}
use Rattle.stab_settings.specs.Tables.{Table, set_key}
use Rattle.rignolda_agent.specs.declared.publisher.Next.{Next}
use Rattle.rignolda_agent.specs.declared.publisher.Next.TheVariants.{Nothing, Harmless, Changes, Whole}
use Rattle.rignolda_agent.specs.Publishers.{taken}
use Rattle.rignolda_agent.specs.Merging.{Settings, Act, AgreesBesideWaiting, AllWait, EachWaits, after_act, after_acts, has, reading, setting_of, told, told_all}

either : (b1 b2 : Bool) (x y z : Option ℕ) → (b1 ≡ true → y ≡ x)
    → (if b2 then x else if b1 then y else z) ≡ (if b1 || b2 then x else z)
either true true x y z same = refl
either true false x y z same = same refl
either false true x y z same = refl
either false false x y z same = refl

-- changes of these keys set each of them
set_all : (root table : Table) (keys : List ℕ) (key : ℕ)
    → fold set_key table (map (setting_of root) keys) key ≡ (if has key keys then root key else table key)
set_all root table [] key = refl
set_all root table (k ∷ keys) key =
    set_all root (set_key table (setting_of root k)) keys key
    ∙ either (key == k) (has key keys) (root key) (root k) (table key) (λ is. ap root (sym (eqb-true key k is)))

has_both : (key : ℕ) (xs ys : List ℕ) → has key (xs ++ ys) ≡ (has key xs || has key ys)
has_both key [] ys = refl
has_both key (x ∷ xs) ys = ap (λ b. (key == x) || b) (has_both key xs ys) ∙ one_by_one (key == x) (has key xs) (has key ys)
  where
    one_by_one : (a b c : Bool) → (a || (b || c)) ≡ ((a || b) || c)
    one_by_one true b c = refl
    one_by_one false b c = refl

first_lacks : (a b : Bool) → (a || b) ≡ false → a ≡ false
first_lacks true b is = is
first_lacks false b is = refl

-- a key that is in neither part is not in the whole
lacks_all : (n : ℕ) (key : ℕ) (keys : List ℕ) → has key (take n keys) ≡ false → has key (drop n keys) ≡ false → has key keys ≡ false
lacks_all n key keys first later =
    ap (has key) (sym (take-append-drop n keys)) ∙ has_both key (take n keys) (drop n keys)
    ∙ ap (λ b. b || has key (drop n keys)) first ∙ later

by_has : (b : Bool) (x y : Option ℕ) → (b ≡ false → y ≡ x) → (if b then x else y) ≡ x
by_has true x y same = refl
by_has false x y same = same refl

one_act : (k : Next) (root : Settings) (act : Act) (table : Table) → AllWait root act → AgreesBesideWaiting root table
    → (key : ℕ) → has key (drop (taken k (length (root.waiting ++ act.keys))) (root.waiting ++ act.keys)) ≡ false
    → told (reading root act) table k key ≡ act.read key
one_act Nothing root act table wait agrees key lacks =
    agrees key (first_lacks (has key root.waiting) (has key act.keys) (sym (has_both key root.waiting act.keys) ∙ lacks)) ∙ sym (wait key lacks)
one_act Harmless root act table wait agrees key lacks =
    agrees key (first_lacks (has key root.waiting) (has key act.keys) (sym (has_both key root.waiting act.keys) ∙ lacks)) ∙ sym (wait key lacks)
one_act Changes root act table wait agrees key lacks =
    let keys : List ℕ = root.waiting ++ act.keys in
    let n : ℕ = taken Changes (length keys) in
    set_all act.read table (take n keys) key
    ∙ by_has (has key (take n keys)) (act.read key) (table key) (λ first.
    let none = lacks_all n key keys first lacks in
    agrees key (first_lacks (has key root.waiting) (has key act.keys) (sym (has_both key root.waiting act.keys) ∙ none)) ∙ sym (wait key none))
one_act Whole root act table wait agrees key lacks = refl

pub all_told : (root : Settings) (table : Table) (acts : List Act) → EachWaits root acts → AgreesBesideWaiting root table
    → AgreesBesideWaiting (after_acts root acts) (told_all root table acts)
all_told root table [] wait agrees = agrees
all_told root table (act ∷ acts) wait agrees =
    all_told (after_act root act) (told (reading root act) table act.body) acts wait.1 (one_act act.body root act table wait.0 agrees)
