-- Links and what they were given: each its setup.
use Rattle.std.proofs.Common.{◌≡◌, ◌<◌, ℕ, ◌+◌, List, [], ◌∷◌, ◌++◌, length, map, take, get_or, sym, ap, ◌∙◌}
use Rattle.std.proofs.lemmas.List.{length-map, map-append, take_more}
use Rattle.stab_core.specs.LinkSetup.{LinkSetup}

-- where the links so far were given the setups so far, so it is with one more
pub one_more_given : {L : Type 0} (view : L → LinkSetup) (links : List L) (link : L) (all : List LinkSetup) (place : ℕ) (next : LinkSetup)
    → place < length all → next ≡ get_or all place next → view link ≡ next → map view links ≡ take place all
    → map view (links ++ link ∷ []) ≡ take (place + 1) all
one_more_given view links link all place next within read shows so_far =
    map-append view links (link ∷ [])
    ∙ (ap (λ front. front ++ view link ∷ []) so_far
    ∙ (ap (λ last. take place all ++ last ∷ []) (shows ∙ read)
    ∙ sym (take_more all place next within)))

-- there are as many links as setups
pub as_many_links : {L : Type 0} (view : L → LinkSetup) (links : List L) (all : List LinkSetup) → map view links ≡ all → length links ≡ length all
as_many_links view links all given = sym (length-map links view) ∙ ap (λ ls. length ls) given
