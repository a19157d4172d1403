-- Lists of links of a tree after a step.
use Rattle.std.proofs.Common.{◌≡◌, ℕ, zero, suc, map, ◌+◌, ◌<◌, List, [], ◌∷◌, All, Option, Some, None, length, get_or, set, refl, ap, sym, subst, arith}
use Rattle.std.proofs.lemmas.List.{length-set}
use Rattle.std.proofs.lemmas.List.Elements.{All-cons, All-head, All-nil, All-set, All-tail}
use Rattle.std.specs.List.{refill}
use Rattle.stab_core.specs.Tracer.{TracerValue}
use Rattle.stab_core.specs.LinkSetup.{LinkSetup}
use Rattle.stab_tree.specs.ByChild.{by_child}
use Rattle.stab_page.specs.TracedTree.{HasAtMost, traced_link}

-- a list that is written over by one as long
refilled : {A : Type 0} (xs ws : List A) → length ws ≡ length xs → refill (length xs) xs ws ≡ ws
refilled [] [] same = refl
refilled [] (w ∷ ws) same = absurd (omega arith)
refilled (x ∷ xs) [] same = absurd (omega arith)
refilled (x ∷ xs) (w ∷ ws) same = ap (λ rest. w ∷ rest) (refilled xs ws (omega arith))

-- a link that has at most `most` has at most `most + 1`
more : (most : ℕ) (link : Option TracerValue) → HasAtMost most link → HasAtMost (most + 1) link
more most None has = has
more most (Some link) has = (omega (arith, has.0), omega (arith, has.1))

-- where one link grows by at most one entry and the others do not change, each has at most one more
pub grown : (most place : ℕ) (links read : List (Option TracerValue)) (d after : Option TracerValue) → read ≡ links
    → place < length read → (HasAtMost most (get_or read place d) → HasAtMost (most + 1) after)
    → All (HasAtMost most) links → All (HasAtMost (most + 1)) (refill (length links) links (set read place after))
grown most place links read d after same there grows all =
    subst (λ ls. All (HasAtMost (most + 1)) (refill (length links) links (set ls place after))) (sym same)
    (subst (All (HasAtMost (most + 1))) (sym (refilled links (set links place after) (length-set links place after)))
    (All-set (HasAtMost (most + 1)) links place after
    (grows (subst (λ ls. HasAtMost most (get_or ls place d)) (sym same) (all place d (subst (λ ls. place < length ls) same there))))
    (λ k e in_links. more most (get_or links k e) (all k e in_links))))

-- each link has at most `most`, also at a place where there is none
pub few_at : (most place : ℕ) (links : List (Option TracerValue)) → All (HasAtMost most) links → HasAtMost most (get_or links place None)
few_at most place [] all = search
few_at most zero (link ∷ links) all = All-head (HasAtMost most) link links all
few_at most (suc place) (link ∷ links) all = few_at most place links (All-tail (HasAtMost most) link links all)

-- nothing was offered to a link at its start, and it has delivered nothing
pub opened_few : (parents : List (Option ℕ)) (links : List LinkSetup) → All (HasAtMost 0) (by_child parents (map traced_link links))
opened_few [] links = All-nil (HasAtMost 0)
opened_few (None ∷ parents) links = All-cons (HasAtMost 0) None (by_child parents (map traced_link links)) (search) (opened_few parents links)
opened_few (Some parent ∷ parents) [] = All-cons (HasAtMost 0) None (by_child parents []) (search) (opened_few parents [])
opened_few (Some parent ∷ parents) (link ∷ links) =
    All-cons (HasAtMost 0) (Some (traced_link link)) (by_child parents (map traced_link links)) (omega arith, omega arith) (opened_few parents links)
