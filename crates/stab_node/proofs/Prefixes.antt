-- Prefixes of a list, and lists in which one entry is replaced by one that looks alike.
use Rattle.std.proofs.Common.{◌≡◌, ◌<◌, ◌≤◌, ℕ, zero, suc, arith, sym, subst, ◌∙◌, append_assoc}
use Rattle.std.proofs.Common.{take, drop, slice_set, slice_index_or, List, [], ◌∷◌, ◌++◌, length}
use Rattle.std.proofs.Common.{map, slice_get, Some, rules, refl, ap}
use Rattle.std.proofs.Common.{Result, Ok, Err, Bool, true, false}
use Rattle.std.specs.declared.alloc.AllocError.{AllocError}
use Rattle.stab_core.proofs.ForCallers.{prefix_with_next}
use Rattle.stab_core.specs.declared.event.Effect.{Effect}
use Rattle.stab_core.specs.declared.event.Effect.TheVariants.{Nothing, Held, Sent, Fresh, Old}
use Rattle.stab_core.specs.declared.event.Effect.TheVariants.{Acked, Ignored, Lost, Closed}
use Rattle.stab_ends.specs.Accounts.{SenderAccount, after_offer, after_poll_ack, after_close}
use Rattle.std.proofs.Common.{All, Some}
use Rattle.std.proofs.Math.Seq.{take-append_seam}
use Rattle.std.proofs.lemmas.List.{map-set}
use Rattle.std.specs.List.{AllWithin}
use Rattle.std.proofs.lemmas.List.Elements.{All-set, All-nil, All-cons, All-head, All-tail, All-map}
use Rattle.stab_node.specs.Work.{HasAll}
use Rattle.stab_node.specs.UnderWay.{OffersPrefix, IsAllAcked, but_for_the_close}
use mathlib.Core.List.{IsPrefix}

-- an offer of the entry after a prefix leaves a prefix
pub offers_more : (received : List ℕ) (s : SenderAccount) (item : ℕ) (taken : Result Bool AllocError)
    → slice_get received (length s.offered) ≡ Some item
    → OffersPrefix received s → OffersPrefix received (after_offer s item taken)
offers_more received s item (Ok true) next prefix =
    record { offered = prefix_with_next s.offered received item prefix.offered next }
offers_more received s item (Ok false) next prefix = prefix
offers_more received s item (Err refused) next prefix = prefix

-- a look for an acknowledgement offers nothing
pub offers_no_more : (received : List ℕ) (s : SenderAccount) (effect : Result Effect AllocError)
    → OffersPrefix received s → OffersPrefix received (after_poll_ack s effect)
offers_no_more received s (Ok Nothing) prefix = prefix
offers_no_more received s (Ok Held) prefix = prefix
offers_no_more received s (Ok Sent) prefix = prefix
offers_no_more received s (Ok (Fresh item)) prefix = prefix
offers_no_more received s (Ok Old) prefix = prefix
offers_no_more received s (Ok Acked) prefix = record { offered = prefix.offered }
offers_no_more received s (Ok Ignored) prefix = prefix
offers_no_more received s (Ok Lost) prefix = prefix
offers_no_more received s (Ok Closed) prefix = prefix
offers_no_more received s (Err refused) prefix = prefix

-- a close changes nothing else
pub closes_only : (s : SenderAccount) (effect : Result Effect AllocError)
    → but_for_the_close (after_close s effect) ≡ but_for_the_close s
closes_only s (Ok effect) = refl
closes_only s (Err refused) = refl

-- a prefix of a list is a prefix of a longer one
pub prefix_of_more : (received : List ℕ) (item : ℕ) (s : SenderAccount) → OffersPrefix received s
    → OffersPrefix (received ++ item ∷ []) s
prefix_of_more received item s prefix =
    let tail = prefix.offered.0 in
    record {
      offered = (
        tail ++ item ∷ [],
        sym (append_assoc s.offered tail (item ∷ [])) ∙ ap (λ xs. xs ++ item ∷ []) prefix.offered.1,
      );
    }

-- what holds of what f says of each entry holds still where one is replaced
pub all_but_one : {A B : Type 0} (P : B → Type 0) (f : A → B) (xs : List A) (place : ℕ) (y : A)
    → P (f y) → All P (map f xs) → All P (map f (slice_set xs place y))
all_but_one P f xs place y holds all =
    subst (All P) (sym (map-set f xs place y)) (All-set P (map f xs) place (f y) holds all)

-- what holds of what f says of each entry holds of one
pub at_place : {A B : Type 0} (P : B → Type 0) (f : A → B) (xs : List A) (place : ℕ) (d : A)
    → place < length xs → All P (map f xs) → P (f (slice_index_or xs place d))
at_place P f [] place d inside all = search rules
at_place P f (x ∷ xs) zero d inside all = All-head P (f x) (map f xs) all
at_place P f (x ∷ xs) (suc place) d inside all =
    at_place P f xs place d (omega arith) (All-tail P (f x) (map f xs) all)

-- a prefix as long as the whole list is the whole list
pub whole_prefix : (offered received : List ℕ) → IsPrefix offered received
    → length offered ≡ length received → offered ≡ received
whole_prefix [] [] prefix long = refl
whole_prefix [] (x ∷ received) prefix long = search rules
whole_prefix (o ∷ offered) [] prefix long = search rules
whole_prefix (o ∷ offered) (x ∷ received) prefix long =
    let same : o ≡ x = search rules in
    let rest : IsPrefix offered received = (prefix.0, search rules) in
    let more : offered ≡ received = whole_prefix offered received rest (omega arith) in
    search (rules, same, more)

-- ends that offered prefixes, and are through, have offered everything
pub through_has_all : (received : List ℕ) (downs : List SenderAccount) → All (OffersPrefix received) downs
    → All (IsAllAcked (length received)) downs → All (HasAll received) downs
through_has_all received [] prefixes through = All-nil (HasAll received)
through_has_all received (s ∷ downs) prefixes through =
    let prefix = All-head (OffersPrefix received) s downs prefixes in
    let is = All-head (IsAllAcked (length received)) s downs through in
    All-cons (HasAll received) s downs
    (record { offered = whole_prefix s.offered received prefix.offered is.offered; acked = is.acked })
    (through_has_all received downs (All-tail (OffersPrefix received) s downs prefixes)
    (All-tail (IsAllAcked (length received)) s downs through))

-- what holds of the entries up to the end holds of all
pub all_within : {A B : Type 0} (P : B → Type 0) (f : A → B) (xs : List A) (end : ℕ) → length xs ≤ end
    → AllWithin (λ x. P (f x)) xs 0 end → All P (map f xs)
all_within P f xs end reaches within =
    All-map P f xs (λ k d inside. within k d (omega arith) (omega arith))

-- a list written back over one of its length is the whole list
pub written_back : {A : Type 0} (xs ys : List A) (count : ℕ) → length xs ≡ count
    → take count (xs ++ drop (length xs) ys) ≡ xs
written_back xs ys count long =
    subst (λ n. take n (xs ++ drop (length xs) ys) ≡ xs) long (take-append_seam xs (drop (length xs) ys))
