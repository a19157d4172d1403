-- From the ends that a worker is given to its answer: what holds at the beginning, between two
-- turns, once no further turn is made, and once the lower ends are closed.
use Rattle.std.proofs.Common.{◌≡◌, ℕ, List, [], ◌∷◌, length, map, Bool, true, false, All, rules}
use Rattle.std.proofs.Common.{◌++◌, append_assoc, ap, refl, sym, subst, ◌∙◌}
use Rattle.std.proofs.Common.{Option, Some, None}
use Rattle.std.proofs.lemmas.List.{append-nil}
use Rattle.std.proofs.lemmas.List.Elements.{All-nil, All-cons, All-head, All-tail, All-weaker}
use Rattle.stab_ends.specs.Accounts.{SenderAccount, ReceiverAccount, new_sender, after_seen}
use Rattle.stab_ends.specs.declared.seen.FrameSeen.{FrameSeen}
use Rattle.stab_ends.specs.declared.seen.FrameSeen.TheVariants as seen
use Rattle.stab_node.specs.declared.account.Ended.{Ended}
use Rattle.stab_node.specs.declared.account.Ended.TheVariants.{Upstream, Turns}
use Rattle.stab_node.specs.Work.{AreNew, HasAll, IsServed}
use Rattle.stab_node.specs.UnderWay.{EndedIsClosed, HasEnded, IsAllAcked, IsUnderWay}
use Rattle.stab_node.specs.Work.{IsWork, received_by}
use Rattle.stab_node.specs.UnderWay.{OffersPrefix, but_for_the_close, with_seen}
use Rattle.stab_node.proofs.Prefixes.{prefix_of_more, through_has_all}

-- a prefix is a prefix still, once what was seen is added
pub prefix_with_seen : (received : List ℕ) (s : FrameSeen) (down : SenderAccount)
    → OffersPrefix received down → OffersPrefix (with_seen received s) down
prefix_with_seen received seen.Nothing down prefix = prefix
prefix_with_seen received seen.Old down prefix = prefix
prefix_with_seen received (seen.Fresh item) down prefix = prefix_of_more received item down prefix
prefix_with_seen received seen.Closed down prefix = prefix

-- what is added is what the upper end delivers
pub delivered_with_seen : (initial : List ℕ) (r : ReceiverAccount) (s : FrameSeen)
    → with_seen (initial ++ r.delivered) s ≡ initial ++ (after_seen r s).delivered
delivered_with_seen initial r seen.Nothing = refl
delivered_with_seen initial r seen.Old = refl
delivered_with_seen initial r (seen.Fresh item) = append_assoc initial r.delivered (item ∷ [])
delivered_with_seen initial r seen.Closed = refl

-- the work goes on once the upper end was served
pub upper_served : (initial before after : List ℕ) (ended ends : Bool) (up now : Option ReceiverAccount) (downs : List SenderAccount)
    → (before ≡ received_by up initial → after ≡ received_by now initial)
    → ((down : SenderAccount) → OffersPrefix before down → OffersPrefix after down)
    → EndedIsClosed ends now
    → IsUnderWay initial before ended up downs → IsUnderWay initial after ends now downs
upper_served initial before after ended ends up now downs received prefixes closed way =
    record {
      received_is = received way.received_is;
      upstream = closed;
      lower = All-weaker (OffersPrefix before) (OffersPrefix after) prefixes downs way.lower;
    }

-- the work goes on once the lower ends were served
pub lower_served : (initial received : List ℕ) (ended : Bool) (up : Option ReceiverAccount) (downs served : List SenderAccount)
    → (All (OffersPrefix received) downs → All (OffersPrefix received) served)
    → IsUnderWay initial received ended up downs → IsUnderWay initial received ended up served
lower_served initial received ended up downs served prefixes way =
    record { received_is = way.received_is; upstream = way.upstream; lower = prefixes way.lower }

-- an upstream that has ended, and ends that are through, end the work
pub out_by_upstream : (initial received : List ℕ) (ended : Bool) (up : Option ReceiverAccount) (downs : List SenderAccount)
    → ended ≡ true → All (IsAllAcked (length received)) downs
    → IsUnderWay initial received ended up downs → HasEnded initial received up downs Upstream
out_by_upstream initial received ended up downs is through way =
    record {
      received_is = way.received_is;
      lower = way.lower;
      handed_on = λ _. record {
        upstream = way.upstream.upstream is;
        lower = through_has_all received downs way.lower through;
      };
    }

-- so do turns that are over
pub out_by_turns : (initial received : List ℕ) (ended : Bool) (up : Option ReceiverAccount) (downs : List SenderAccount)
    → IsUnderWay initial received ended up downs → HasEnded initial received up downs Turns
out_by_turns initial received ended up downs way =
    record { received_is = way.received_is; lower = way.lower; handed_on = search rules }

-- ends that have made no call offered a prefix of any list
prefixes_of_new : (received : List ℕ) (downs : List SenderAccount) → All (λ s. s ≡ new_sender) downs
    → All (OffersPrefix received) downs
prefixes_of_new received downs new =
    All-weaker (λ s. s ≡ new_sender) (OffersPrefix received)
    (λ s is. subst (OffersPrefix received) (sym is) (record { offered = (received, refl) })) downs new

-- new ends, and what the node has at first, begin the work
pub begins : (initial : List ℕ) (up : Option ReceiverAccount) (downs : List SenderAccount) → AreNew up downs
    → IsUnderWay initial initial false up downs
begins initial None downs new =
    record {
      received_is = refl;
      upstream = record { upstream = search rules };
      lower = prefixes_of_new initial downs new.lower;
    }
begins initial (Some r) downs new =
    record {
      received_is = sym (ap (λ x. initial ++ x.delivered) new.upper ∙ append-nil initial);
      upstream = record { upstream = search rules };
      lower = prefixes_of_new initial downs new.lower;
    }

-- ends that are closed, and changed in nothing else, are served
served : (received : List ℕ) (downs closed : List SenderAccount)
    → map but_for_the_close closed ≡ map but_for_the_close downs
    → All (λ s. s.closed ≡ true) closed → All (OffersPrefix received) downs → All (IsServed received) closed
served received [] [] alike shut prefixes = All-nil (IsServed received)
served received [] (s ∷ closed) alike shut prefixes = search rules
served received (d ∷ downs) [] alike shut prefixes = search rules
served received (d ∷ downs) (s ∷ closed) alike shut prefixes =
    let same : s.offered ≡ d.offered = search rules in
    let rest : map but_for_the_close closed ≡ map but_for_the_close downs = search rules in
    let prefix = All-head (OffersPrefix received) d downs prefixes in
    All-cons (IsServed received) s closed
    (record {
      offered = search (same, prefix.offered);
      closed = All-head (λ x. x.closed ≡ true) s closed shut;
    })
    (served received downs closed rest (All-tail (λ x. x.closed ≡ true) s closed shut)
    (All-tail (OffersPrefix received) d downs prefixes))

-- and have all that they had
having : (received : List ℕ) (downs closed : List SenderAccount)
    → map but_for_the_close closed ≡ map but_for_the_close downs
    → All (HasAll received) downs → All (HasAll received) closed
having received [] [] alike all = All-nil (HasAll received)
having received [] (s ∷ closed) alike all = search rules
having received (d ∷ downs) [] alike all = search rules
having received (d ∷ downs) (s ∷ closed) alike all =
    let same_offered : s.offered ≡ d.offered = search rules in
    let same_acked : s.acked ≡ d.acked = search rules in
    let rest : map but_for_the_close closed ≡ map but_for_the_close downs = search rules in
    let has = All-head (HasAll received) d downs all in
    All-cons (HasAll received) s closed
    (record { offered = search (same_offered, has.offered); acked = search (same_acked, has.acked) })
    (having received downs closed rest (All-tail (HasAll received) d downs all))

-- closed ends are a worker's answer
pub worked : (initial received : List ℕ) (up : Option ReceiverAccount) (downs closed : List SenderAccount) (ended : Ended)
    → map but_for_the_close closed ≡ map but_for_the_close downs
    → All (λ s. s.closed ≡ true) closed
    → HasEnded initial received up downs ended → IsWork initial received up closed ended
worked initial received up downs closed ended alike shut out =
    record {
      received_is = out.received_is;
      served = served received downs closed alike shut out.lower;
      handed_on = λ is. record {
        upstream = (out.handed_on is).upstream;
        lower = having received downs closed alike (out.handed_on is).lower;
      };
    }
