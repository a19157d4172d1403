-- What a turn offers on a lower end: all that the node received, or the last item waits.
use Rattle.std.proofs.Common.{◌≡◌, ◌⊎◌, inl, inr, ℕ, ◌+◌, ◌≤◌, List, [], ◌∷◌, ◌++◌, length, map, true, false, Bool, Result, Ok, Err, IfOk, All, ap, refl, sym, ◌∙◌, subst, arith, rules, length-append}
use Rattle.std.proofs.lemmas.List.Elements.{All-nil, All-cons, All-head, All-tail, All-weaker}
use Rattle.std.specs.List.{AllWithin, AllZip}
use Rattle.std.specs.declared.alloc.AllocError.{AllocError}
use Rattle.stab_core.specs.declared.event.Effect.{Effect}
use Rattle.stab_core.specs.declared.event.Effect.TheVariants.{Nothing, Held, Sent, Fresh, Old}
use Rattle.stab_core.specs.declared.event.Effect.TheVariants.{Acked, Ignored, Lost, Closed}
use Rattle.stab_ends.specs.Accounts.{MayOffer, SenderAccount, Waits, after_offer, after_poll_ack, new_sender}
use Rattle.stab_node.specs.Work.{HasOffered, OffersUnlessRefused}
use Rattle.stab_node.specs.UnderWay.{IsInUse, OffersPrefix, but_for_the_close}
use Rattle.stab_node.proofs.Prefixes.{whole_prefix}

-- new ends are in use
pub new_in_use : (downs : List SenderAccount) → All (λ s. s ≡ new_sender) downs → All IsInUse downs
new_in_use downs new =
    All-weaker (λ s. s ≡ new_sender) IsInUse (λ s is. subst IsInUse (sym is) (record { is_open = refl; counts = inl refl })) downs new

-- a look for an acknowledgement leaves an end in use
pub in_use_after_poll : (s : SenderAccount) (r : Result Effect AllocError) → IfOk r (λ effect. effect ≡ Acked → Waits s)
    → IsInUse s → IsInUse (after_poll_ack s r)
in_use_after_poll s (Ok Nothing) waits used = used
in_use_after_poll s (Ok Held) waits used = used
in_use_after_poll s (Ok Sent) waits used = used
in_use_after_poll s (Ok (Fresh item)) waits used = used
in_use_after_poll s (Ok Old) waits used = used
in_use_after_poll s (Ok Acked) waits used = record { is_open = used.is_open; counts = inl (waits refl).holding }
in_use_after_poll s (Ok Ignored) waits used = used
in_use_after_poll s (Ok Lost) waits used = used
in_use_after_poll s (Ok Closed) waits used = used
in_use_after_poll s (Err refused) waits used = used

-- an item more than those that are acknowledged
one_waits : (s : SenderAccount) (item : ℕ) → MayOffer s → length (s.offered ++ item ∷ []) ≡ s.acked + 1
one_waits s item may = omega (arith, length-append s.offered (item ∷ []), may.idle)

-- an offer leaves an end in use
pub in_use_after_offer : (s : SenderAccount) (item : ℕ) (r : Result Bool AllocError) → IfOk r (λ taken. taken ≡ true → MayOffer s)
    → IsInUse s → IsInUse (after_offer s item r)
in_use_after_offer s item (Ok true) may used = record { is_open = used.is_open; counts = inr (one_waits s item (may refl)) }
in_use_after_offer s item (Ok false) may used = used
in_use_after_offer s item (Err refused) may used = used

-- an end in use that does not take an item refuses it, or has one that waits
refused_or_waits : (may : Type 0) (received : List ℕ) (s : SenderAccount) → (MayOffer s → may) → s.closed ≡ false
    → (length s.offered ≡ s.acked) ⊎ (length s.offered ≡ s.acked + 1) → may ⊎ HasOffered received s
refused_or_waits may received s refuses still (inl idle) = inl (refuses (record { idle = idle; is_open = still }))
refused_or_waits may received s refuses still (inr waits) = inr (inr waits)

-- after an offer the last item waits, unless the end refused
pub all_after_offer : (may : Type 0) (received : List ℕ) (s : SenderAccount) (item : ℕ) (taken : Bool) → (taken ≡ true → MayOffer s)
    → (taken ≡ false → MayOffer s → may) → IsInUse s → may ⊎ HasOffered received (after_offer s item (Ok taken))
all_after_offer may received s item true is_taken not_taken used = inr (inr (one_waits s item (is_taken refl)))
all_after_offer may received s item false is_taken not_taken used = refused_or_waits may received s (not_taken refl) used.is_open used.counts

busy_waits : (s : SenderAccount) → (length s.offered ≡ s.acked → ⊥) → (length s.offered ≡ s.acked) ⊎ (length s.offered ≡ s.acked + 1)
    → length s.offered ≡ s.acked + 1
busy_waits s busy (inl idle) = absurd (busy idle)
busy_waits s busy (inr waits) = waits

-- where there is no next item, all are offered or one waits
pub all_without_offer : (may : Type 0) (received : List ℕ) (s : SenderAccount)
    → (length s.offered ≡ s.acked → ⊥) ⊎ (length received ≤ length s.offered) → IsInUse s → OffersPrefix received s
    → may ⊎ HasOffered received s
all_without_offer may received s (inl busy) used prefix = inr (inr (busy_waits s busy used.counts))
all_without_offer may received s (inr all) used prefix =
    let tail = prefix.offered.0 in
    let long : length received ≡ length s.offered + length tail =
    ap (λ xs. length xs) (sym prefix.offered.1) ∙ length-append s.offered tail in
    inr (inl (whole_prefix s.offered received prefix.offered (omega (arith, all, long))))

-- what holds of what two functions say of each entry holds where they say the same of the entries
-- of another list
pub all_alike : {A B L S : Type 0} (Q : L → S → Type 0) (link : A → L) (sent : A → S) (its_link : B → L) (its_sent : B → S) (xs : List A) (ys : List B)
    → map its_link ys ≡ map link xs → map its_sent ys ≡ map sent xs → All (λ x. Q (link x) (sent x)) xs
    → All (λ y. Q (its_link y) (its_sent y)) ys
all_alike Q link sent its_link its_sent [] [] links sents all = All-nil (λ y. Q (its_link y) (its_sent y))
all_alike Q link sent its_link its_sent [] (y ∷ ys) links sents all = absurd (omega (arith, ap (λ zs. length zs) links))
all_alike Q link sent its_link its_sent (x ∷ xs) [] links sents all = absurd (omega (arith, ap (λ zs. length zs) links))
all_alike Q link sent its_link its_sent (x ∷ xs) (y ∷ ys) links sents all =
    let same_link : its_link y ≡ link x = search (rules, links) in
    let same_sent : its_sent y ≡ sent x = search (rules, sents) in
    let other_links : map its_link ys ≡ map link xs = search (rules, links) in
    let other_sents : map its_sent ys ≡ map sent xs = search (rules, sents) in
    All-cons (λ y. Q (its_link y) (its_sent y)) y ys
    (subst (λ l. Q l (its_sent y)) (sym same_link)
    (subst (λ s. Q (link x) s) (sym same_sent) (All-head (λ x. Q (link x) (sent x)) x xs all)))
    (all_alike Q link sent its_link its_sent xs ys other_links other_sents (All-tail (λ x. Q (link x) (sent x)) x xs all))

-- the same in two lists beside each other
pub all_beside : {A L S : Type 0} (Q : L → S → Type 0) (link : A → L) (sent : A → S) (xs : List A) → All (λ x. Q (link x) (sent x)) xs
    → AllZip Q (map link xs) (map sent xs)
all_beside Q link sent [] all = tt
all_beside Q link sent (x ∷ xs) all =
    (All-head (λ x. Q (link x) (sent x)) x xs all, all_beside Q link sent xs (All-tail (λ x. Q (link x) (sent x)) x xs all))

pub all_of_beside : {A L S : Type 0} (Q : L → S → Type 0) (link : A → L) (sent : A → S) (xs : List A) → AllZip Q (map link xs) (map sent xs)
    → All (λ x. Q (link x) (sent x)) xs
all_of_beside Q link sent [] all = All-nil (λ x. Q (link x) (sent x))
all_of_beside Q link sent (x ∷ xs) all =
    All-cons (λ x. Q (link x) (sent x)) x xs all.0 (all_of_beside Q link sent xs all.1)

-- what holds of the entries up to the end holds of all
pub all_of_within : {A : Type 0} (P : A → Type 0) (xs : List A) (end : ℕ) → length xs ≤ end → AllWithin P xs 0 end → All P xs
all_of_within P xs end reaches within = λ k d inside. within k d (omega arith) (omega (arith, inside, reaches))

-- ends that are closed, and changed in nothing else, offered what they had offered
pub still_offered : {D L : Type 0} (may_refuse : L → Type 0) (received : List ℕ) (link : D → L) (sent : D → SenderAccount) (before after : List D)
    → map link after ≡ map link before → map (λ d. but_for_the_close (sent d)) after ≡ map (λ d. but_for_the_close (sent d)) before
    → All (λ d. OffersUnlessRefused may_refuse received (link d) (sent d)) before
    → All (λ d. OffersUnlessRefused may_refuse received (link d) (sent d)) after
still_offered may_refuse received link sent before after links accounts all =
    all_alike (OffersUnlessRefused may_refuse received) link (λ d. but_for_the_close (sent d)) link (λ d. but_for_the_close (sent d)) before after
    links accounts all
