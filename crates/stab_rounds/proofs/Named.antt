-- Each event of a round is on a link that is there.
use Rattle.std.proofs.Common.{◌≡◌, ℕ, zero, suc, ◌+◌, ◌<◌, List, [], ◌∷◌, ◌++◌, length, get_or, Option, Some, None, IsSome, All, replicate, refl, sym, ◌∙◌, ap, subst, arith}
use Rattle.std.specs.List.{AllByRecursion as Each}
use Rattle.stab_treecore.specs.declared.event.TreeEvent.{TreeEvent}
use Rattle.stab_treecore.specs.Refusals.{NamesLink}
use Rattle.stab_rounds.specs.TreePlayed.{round_from, reading_round_from}

-- what the nodes from this one on have as parents
abbrev Behind : List (Option ℕ) → ℕ → List (Option ℕ) → Type 0
Behind all node parents = (i : ℕ) → get_or all (node + i) None ≡ get_or parents i None

behind_next : (all : List (Option ℕ)) (node : ℕ) (first : Option ℕ) (parents : List (Option ℕ)) → Behind all node (first ∷ parents)
    → Behind all (node + 1) parents
behind_next all node first parents is i = ap (λ k. get_or all k None) (let e : node + 1 + i ≡ node + suc i = omega arith in e) ∙ is (suc i)

named_here : (all : List (Option ℕ)) (node parent : ℕ) (parents : List (Option ℕ)) → Behind all node (Some parent ∷ parents)
    → IsSome (get_or all node None)
named_here all node parent parents is =
    subst (λ o. IsSome o) (sym (ap (λ k. get_or all k None) (let e : node ≡ node + 0 = omega arith in e) ∙ is 0)) refl

named_times : (all : List (Option ℕ)) (n : ℕ) (e : TreeEvent) (rest : List TreeEvent) → NamesLink all e → Each (NamesLink all) rest
    → Each (NamesLink all) (replicate n e ++ rest)
named_times all zero e rest one others = others
named_times all (suc n) e rest one others = (one, named_times all n e rest one others)

named_from : (all : List (Option ℕ)) (node : ℕ) (parents : List (Option ℕ)) → Behind all node parents → Each (NamesLink all) (round_from node parents)
named_from all node [] is = tt
named_from all node (None ∷ parents) is = named_from all (node + 1) parents (behind_next all node None parents is)
named_from all node (Some parent ∷ parents) is =
    let one = named_here all node parent parents is in
    (one, (one, (one, (one, (one, named_from all (node + 1) parents (behind_next all node (Some parent) parents is))))))

reads_named_from : (all : List (Option ℕ)) (c node : ℕ) (parents : List (Option ℕ)) → Behind all node parents
    → Each (NamesLink all) (reading_round_from c node parents)
reads_named_from all c node [] is = tt
reads_named_from all c node (None ∷ parents) is = reads_named_from all c (node + 1) parents (behind_next all node None parents is)
reads_named_from all c node (Some parent ∷ parents) is =
    let one = named_here all node parent parents is in (
      one,
      named_times all c _ _ one
          (one, (one, named_times all c _ _ one (one, (one, reads_named_from all c (node + 1) parents (behind_next all node (Some parent) parents is))))),
    )

-- one by one
each_at : (P : TreeEvent → Type 0) (es : List TreeEvent) → Each P es → (k : ℕ) (other : TreeEvent) → k < length es → P (get_or es k other)
each_at P [] each k other within = absurd (omega arith)
each_at P (e ∷ es) each zero other within = each.0
each_at P (e ∷ es) each (suc k) other within = each_at P es each.1 k other (omega arith)

pub rounds_named : (parents : List (Option ℕ)) → All (NamesLink parents) (round_from 0 parents)
rounds_named parents = each_at (NamesLink parents) (round_from 0 parents) (named_from parents 0 parents (λ i. ap (λ k. get_or parents k None) (let e : 0 + i ≡ i = omega arith in e)))

pub reads_named : (c : ℕ) (parents : List (Option ℕ)) → All (NamesLink parents) (reading_round_from c 0 parents)
reads_named c parents =
    each_at (NamesLink parents) (reading_round_from c 0 parents)
    (reads_named_from parents c 0 parents (λ i. ap (λ k. get_or parents k None) (let e : 0 + i ≡ i = omega arith in e)))
