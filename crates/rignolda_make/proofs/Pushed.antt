-- A list of JSON values, one value longer: what its entries mean, and how deep it nests.
use Rattle.std.proofs.Common.{◌≡◌, ◌≤◌, ℕ, List, [], ◌∷◌, ◌++◌, Option, Some, None, refl, ap, ◌∙◌, arith, option_and_then}
use Rattle.serde_json.specs.Data.{Data, depth, items_depth}
use Rattle.serde_json.specs.View.{items_view, view}
use Rattle.serde_json.specs.declared.value.Value.{Value}
use Rattle.stab_json.specs.Values.{entries}

-- a list and one element more, where both mean something
abbrev pushed : {X : Type 0} → Option (List X) → Option X → Option (List X)
pushed None last = None
pushed (Some xs) None = None
pushed (Some xs) (Some x) = Some (xs ++ x ∷ [])

in_front : {X : Type 0} (first : Option X) (rest : Option (List X)) (last : Option X)
    → option_and_then (λ x. option_and_then (λ xs. Some (x ∷ xs)) (pushed rest last)) first
    ≡ pushed (option_and_then (λ x. option_and_then (λ xs. Some (x ∷ xs)) rest) first) last
in_front None rest last = refl
in_front (Some x) None last = refl
in_front (Some x) (Some xs) None = refl
in_front (Some x) (Some xs) (Some y) = refl

pushed_meaning : {X : Type 0} (meaning : Data → Option X) (vs : List Value) (v : Value)
    → entries meaning (items_view (vs ++ v ∷ [])) ≡ pushed (entries meaning (items_view vs)) (meaning (view v))
pushed_meaning meaning [] v = one (meaning (view v))
  where
    one : {X : Type 0} (o : Option X) → option_and_then (λ x. Some (x ∷ [])) o ≡ pushed (Some []) o
    one None = refl
    one (Some x) = refl
pushed_meaning meaning (w ∷ vs) v =
    ap (λ rest. option_and_then (λ x. option_and_then (λ xs. Some (x ∷ xs)) rest) (meaning (view w))) (pushed_meaning meaning vs v)
    ∙ in_front (meaning (view w)) (entries meaning (items_view vs)) (meaning (view v))

-- the entries mean a list, and one more means an element more
pub entries_push : {X : Type 0} (meaning : Data → Option X) (vs : List Value) (v : Value) (xs longer : List X) (x : X)
    → entries meaning (items_view vs) ≡ Some xs → meaning (view v) ≡ Some x → longer ≡ xs ++ x ∷ []
    → entries meaning (items_view (vs ++ v ∷ [])) ≡ Some longer
entries_push meaning vs v xs longer x are one more = pushed_meaning meaning vs v ∙ rw (are, one, more) refl

-- a list of values that nest no deeper than this, and one more such
pub depth_push : (vs : List Value) (v : Value) (bound : ℕ) → items_depth (items_view vs) ≤ bound → depth (view v) ≤ bound
    → items_depth (items_view (vs ++ v ∷ [])) ≤ bound
depth_push [] v bound flat one = omega (arith, one)
depth_push (w ∷ vs) v bound flat one =
    let rest = depth_push vs v bound (omega (arith, flat)) one in
    omega (arith, rest, flat)
