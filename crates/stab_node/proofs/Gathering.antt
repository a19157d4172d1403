-- The upper ends that the accounts of the nodes have, in the order of the links.
use Rattle.std.proofs.Common.{◌≡◌, ℕ, suc, List, [], ◌∷◌, length, drop, map, is_some, Option, Some, None, refl, ap, ◌∙◌, arith}
use Rattle.std.specs.List.{cons_option, filter_map}
use Rattle.stab_tree.specs.Links.{links_from, links_of}
use Rattle.stab_tree.specs.ByChild.{by_child}

-- what there is in these, in their order
abbrev present : {A : Type 0} → List (Option A) → List A
present [] = []
present (None ∷ scattered) = present scattered
present (Some x ∷ scattered) = x ∷ present scattered

-- one more of them
one_upper : {A : Type 0} (one : Option A) (ends : List A) (rest : List (Option A)) → ends ≡ present rest → cons_option one ends ≡ present (one ∷ rest)
one_upper None ends rest same = same
one_upper (Some x) ends rest same = ap (λ more. x ∷ more) same

-- where each child has an entry and the root has none, the entries are scattered as they were
present_by_child : {A : Type 0} (parents : List (Option ℕ)) (scattered : List (Option A)) → map is_some scattered ≡ map is_some parents
    → by_child parents (present scattered) ≡ scattered
present_by_child [] [] same = refl
present_by_child [] (x ∷ scattered) same = absurd (omega (arith, ap length same))
present_by_child (p ∷ parents) [] same = absurd (omega (arith, ap length same))
present_by_child (None ∷ parents) (None ∷ scattered) same = ap (λ rest. None ∷ rest) (present_by_child parents scattered (ap (λ flags. drop 1 flags) same))
present_by_child (None ∷ parents) (Some x ∷ scattered) same = cc
present_by_child (Some p ∷ parents) (None ∷ scattered) same = cc
present_by_child (Some p ∷ parents) (Some x ∷ scattered) same = ap (λ rest. Some x ∷ rest) (present_by_child parents scattered (ap (λ flags. drop 1 flags) same))

-- and there is one for each link
present_counted : {A : Type 0} (w : ℕ) (parents : List (Option ℕ)) (scattered : List (Option A)) → map is_some scattered ≡ map is_some parents
    → length (present scattered) ≡ length (links_from w parents)
present_counted w [] [] same = refl
present_counted w [] (x ∷ scattered) same = absurd (omega (arith, ap length same))
present_counted w (p ∷ parents) [] same = absurd (omega (arith, ap length same))
present_counted w (None ∷ parents) (None ∷ scattered) same = present_counted (suc w) parents scattered (ap (λ flags. drop 1 flags) same)
present_counted w (None ∷ parents) (Some x ∷ scattered) same = cc
present_counted w (Some p ∷ parents) (None ∷ scattered) same = cc
present_counted w (Some p ∷ parents) (Some x ∷ scattered) same = ap (λ n. suc n) (present_counted (suc w) parents scattered (ap (λ flags. drop 1 flags) same))

-- the upper ends that there are
uppers : {S A : Type 0} (up : S → Option A) (accounts : List S) → filter_map up accounts ≡ present (map up accounts)
uppers up [] = refl
uppers up (account ∷ accounts) = one_upper (up account) (filter_map up accounts) (map up accounts) (uppers up accounts)

-- where each child has an upper end and the root has none, they are scattered as they were
pub uppers_by_child : {S A : Type 0} (parents : List (Option ℕ)) (up : S → Option A) (accounts : List S) → map is_some (map up accounts) ≡ map is_some parents
    → by_child parents (filter_map up accounts) ≡ map up accounts
uppers_by_child parents up accounts same =
    ap (λ ends. by_child parents ends) (uppers up accounts) ∙ present_by_child parents (map up accounts) same

-- and there is one for each link
pub uppers_counted : {S A : Type 0} (parents : List (Option ℕ)) (up : S → Option A) (accounts : List S) → map is_some (map up accounts) ≡ map is_some parents
    → length (filter_map up accounts) ≡ length (links_of parents)
uppers_counted parents up accounts same =
    ap (λ ends. length ends) (uppers up accounts) ∙ present_counted 0 parents (map up accounts) same
