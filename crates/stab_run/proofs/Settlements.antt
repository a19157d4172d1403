-- Settling link by link: what is settled so far, and what it shows of each link by its child.
use Rattle.std.proofs.Common.{◌≡◌, ◌<◌, ◌+◌, ℕ, suc, inl, inr, List, [], ◌∷◌, ◌++◌, length, map, drop, Option, Some, None, refl, ap, sym, ◌∙◌, subst, arith, append_assoc}
use Rattle.std.proofs.lemmas.Bool.{cases_lt}
use Rattle.std.proofs.lemmas.List.{append-nil, drop_more, drop_all, length-map}
use Rattle.std.proofs.lemmas.Option.{none-some, same_Some}
use Rattle.stab_core.specs.LinkSetup.{LinkSetup}
use Rattle.stab_ends.specs.Accounts.{SenderAccount, ReceiverAccount}
use Rattle.stab_lock.specs.declared.settle.SettleFault.{SettleFault}
use Rattle.stab_tree.proofs.ForCallers.{links_counted_anywhere}
use Rattle.stab_tree.specs.Links.{links_of}
use Rattle.stab_tree.specs.Nodes.{parent_at}
use Rattle.stab_tree.proofs.ForCallers.{no_link_into}
use Rattle.stab_tree.specs.ByChild.{by_child}
use Rattle.stab_node.specs.ByNode.{entry_into}
use Rattle.stab_run.specs.AnyLinks.{IsFollowed, given_to, received_by, sent_by}
use Rattle.stab_run.specs.Scripted.{ScriptedRecvFinished, ScriptedSendFinished}
use Rattle.stab_run.specs.declared.any_link.AnyLink.{AnyLink}
use Rattle.stab_run.specs.Settled.{IsSettled}
use Rattle.stab_run.specs.LinkRuns.{AllOfEach, AreSettled, HoldsOfFirst, IsFirstRefused, SettledBefore, acked_of}

-- what is left of one list with an entry for each link is what it has from this node on
pub record IsLeftOf {A : Type 0} (parents : List (Option ℕ)) (all left : List A) (node : ℕ) : Type 0 where
  pub at : (i : ℕ) → entry_into parents all (node + i) ≡ entry_into (drop node parents) left i

module _ {A : Type 0} (parents : List (Option ℕ)) (all : List A) (node : ℕ) (within : node < length parents) where
  left_past_root : (left : List A) → parent_at parents node ≡ None → IsLeftOf parents all left node → IsLeftOf parents all left (node + 1)
  left_past_root left is before = record {
    at = λ i.
        let rest : drop node parents ≡ None ∷ drop (node + 1) parents =
        drop_more parents node None within ∙ ap (λ x. x ∷ drop (node + 1) parents) is in
        let place : node + 1 + i ≡ node + suc i = omega arith in
        ap (λ k. entry_into parents all k) place ∙ (before.at (suc i) ∙ ap (λ ps. entry_into ps left (suc i)) rest);
  }

  module _ (parent : ℕ) (is : parent_at parents node ≡ Some parent) (old : List A) (x : A) (left : List A) (first : old ≡ x ∷ left)
      (before : IsLeftOf parents all old node) where
    rest_of_child : drop node parents ≡ Some parent ∷ drop (node + 1) parents
    rest_of_child = drop_more parents node None within ∙ ap (λ o. o ∷ drop (node + 1) parents) is

    left_past_child : IsLeftOf parents all left (node + 1)
    left_past_child = record {
      at = λ i.
          let place : node + 1 + i ≡ node + suc i = omega arith in
          ap (λ k. entry_into parents all k) place
          ∙ (before.at (suc i) ∙ (ap (λ ps. entry_into ps old (suc i)) rest_of_child
          ∙ ap (λ xs. entry_into (Some parent ∷ drop (node + 1) parents) xs (suc i)) first));
    }

    -- what the next node's link has is the first that is left
    first_is_left : (y : A) → entry_into parents all node ≡ Some y → x ≡ y
    first_is_left y found =
        let place : node + 0 ≡ node = omega arith in
        same_Some x y
        (sym (ap (λ xs. entry_into (Some parent ∷ drop (node + 1) parents) xs 0) first)
        ∙ (sym (ap (λ ps. entry_into ps old 0) rest_of_child)
        ∙ (sym (before.at 0) ∙ (ap (λ k. entry_into parents all k) place ∙ found))))

-- the first that is left is what the link into this child has
first_left : {A : Type 0} (parents : List (Option ℕ)) (all : List A) (node parent : ℕ) (x : A) (left : List A) → node < length parents
    → parent_at parents node ≡ Some parent → IsLeftOf parents all (x ∷ left) node → entry_into parents all node ≡ Some x
first_left parents all node parent x left within is before =
    let place : node ≡ node + 0 = omega arith in
    let rest : drop node parents ≡ Some parent ∷ drop (node + 1) parents =
    drop_more parents node None within ∙ ap (λ o. o ∷ drop (node + 1) parents) is in
    ap (λ k. entry_into parents all k) place
    ∙ (before.at 0 ∙ ap (λ ps. entry_into ps (x ∷ left) 0) rest)

-- The counts so far, and then those of the nodes that are left, are all counts; where the links
-- that are left are settled, all are; and there is what is needed for each link that is left.
pub record SettledSoFar (parents : List (Option ℕ)) (links : List LinkSetup) (sends : List SenderAccount) (recvs : List ReceiverAccount)
    (acked : List (Option ℕ)) (links_left : List LinkSetup) (sends_left : List SenderAccount) (recvs_left : List ReceiverAccount) (node : ℕ) : Type 0 where
  pub counts : acked ++ by_child (drop node parents) (map acked_of sends_left) ≡ by_child parents (map acked_of sends)
  pub settled : AreSettled links_left sends_left recvs_left → AreSettled links sends recvs
  pub links_enough : length links_left ≡ length (links_of (drop node parents))
  pub sends_enough : length sends_left ≡ length (links_of (drop node parents))
  pub recvs_enough : length recvs_left ≡ length (links_of (drop node parents))
  pub before : SettledBefore parents links sends recvs node
  pub links_from_here : IsLeftOf parents links links_left node
  pub sends_from_here : IsLeftOf parents sends sends_left node
  pub recvs_from_here : IsLeftOf parents recvs recvs_left node

-- before the first node nothing is settled
pub none_settled : (parents : List (Option ℕ)) (links : List LinkSetup) (sends : List SenderAccount) (recvs : List ReceiverAccount)
    → length links ≡ length (links_of parents) → length sends ≡ length (links_of parents) → length recvs ≡ length (links_of parents)
    → SettledSoFar parents links sends recvs [] links sends recvs 0
none_settled parents links sends recvs counted_links counted_sends counted_recvs = record {
  counts = refl;
  settled = λ all. all;
  links_enough = counted_links;
  sends_enough = counted_sends;
  recvs_enough = counted_recvs;
  before = λ earlier link send recv sooner. absurd (omega (arith, sooner));
  links_from_here = record { at = λ i. let place : 0 + i ≡ i = omega arith in ap (λ k. entry_into parents links k) place };
  sends_from_here = record { at = λ i. let place : 0 + i ≡ i = omega arith in ap (λ k. entry_into parents sends k) place };
  recvs_from_here = record { at = λ i. let place : 0 + i ≡ i = omega arith in ap (λ k. entry_into parents recvs k) place };
}

module _ (parents : List (Option ℕ)) (links : List LinkSetup) (sends : List SenderAccount) (recvs : List ReceiverAccount) (acked : List (Option ℕ))
    (links_left : List LinkSetup) (sends_left : List SenderAccount) (recvs_left : List ReceiverAccount) (node : ℕ)
    (so_far : SettledSoFar parents links sends recvs acked links_left sends_left recvs_left node) where
  -- the next node and those after it
  rest : (o : Option ℕ) → node < length parents → parent_at parents node ≡ o → drop node parents ≡ o ∷ drop (node + 1) parents
  rest o within is = drop_more parents node None within ∙ ap (λ x. x ∷ drop (node + 1) parents) is

  -- the root has no link
  pub root_settled : node < length parents → parent_at parents node ≡ None
      → SettledSoFar parents links sends recvs (acked ++ None ∷ []) links_left sends_left recvs_left (node + 1)
  root_settled within is =
      let left = rest None within is in
      let after = drop (node + 1) parents in
      let same : length (links_of (drop node parents)) ≡ length (links_of after) =
      ap (λ ps. length (links_of ps)) left ∙ links_counted_anywhere after 1 0 in
      record {
        counts =
            append_assoc acked (None ∷ []) (by_child after (map acked_of sends_left))
            ∙ (ap (λ ps. acked ++ by_child ps (map acked_of sends_left)) (sym left) ∙ so_far.counts);
        settled = so_far.settled;
        links_enough = so_far.links_enough ∙ same;
        sends_enough = so_far.sends_enough ∙ same;
        recvs_enough = so_far.recvs_enough ∙ same;
        before =
            λ earlier link send recv sooner the_link the_send the_recv.
            elim (cases_lt earlier node) [
              | inl still_sooner ↦ so_far.before earlier link send recv still_sooner the_link the_send the_recv
              | inr here ↦
                  let place : earlier ≡ node = omega (arith, sooner, here) in
                  absurd (none-some link (sym (no_link_into parents links node is) ∙ (ap (λ k. entry_into parents links k) (sym place) ∙ the_link)))
            ];
        links_from_here = left_past_root parents links node within links_left is so_far.links_from_here;
        sends_from_here = left_past_root parents sends node within sends_left is so_far.sends_from_here;
        recvs_from_here = left_past_root parents recvs node within recvs_left is so_far.recvs_from_here;
      }

  -- where the next node has a parent, there is a link to settle
  pub one_more_link : (parent : ℕ) → node < length parents → parent_at parents node ≡ Some parent → 0 < length links_left
  one_more_link parent within is = omega (arith, so_far.links_enough, ap (λ ps. length (links_of ps)) (rest (Some parent) within is))

  pub one_more_send : (parent : ℕ) → node < length parents → parent_at parents node ≡ Some parent → 0 < length sends_left
  one_more_send parent within is = omega (arith, so_far.sends_enough, ap (λ ps. length (links_of ps)) (rest (Some parent) within is))

  pub one_more_recv : (parent : ℕ) → node < length parents → parent_at parents node ≡ Some parent → 0 < length recvs_left
  one_more_recv parent within is = omega (arith, so_far.recvs_enough, ap (λ ps. length (links_of ps)) (rest (Some parent) within is))

  -- after the last node all are settled
  pub all_counted : length parents ≡ node → acked ≡ by_child parents (map acked_of sends)
  all_counted over =
      let none : drop node parents ≡ [] = drop_all node parents (omega (arith, over)) in
      sym (append-nil acked) ∙ (ap (λ ps. acked ++ by_child ps (map acked_of sends_left)) (sym none) ∙ so_far.counts)

-- what holds of the first link that is left, of its accounts and of the reason, holds of the link
-- into this child
pub first_refused : (P : LinkSetup → SenderAccount → ReceiverAccount → SettleFault → Type 0) (parents : List (Option ℕ)) (links : List LinkSetup) (sends : List SenderAccount)
    (recvs : List ReceiverAccount) (acked : List (Option ℕ)) (links_left : List LinkSetup) (sends_left : List SenderAccount) (recvs_left : List ReceiverAccount)
    (node parent : ℕ) (why : SettleFault)
    → SettledSoFar parents links sends recvs acked links_left sends_left recvs_left node → node < length parents
    → parent_at parents node ≡ Some parent → HoldsOfFirst P links_left sends_left recvs_left why
    → IsFirstRefused P parents links sends recvs node why
first_refused P parents links sends recvs acked [] ss rs node parent why so_far within is first = absurd first
first_refused P parents links sends recvs acked (l ∷ ls) [] rs node parent why so_far within is first = absurd first
first_refused P parents links sends recvs acked (l ∷ ls) (s ∷ ss) [] node parent why so_far within is first = absurd first
first_refused P parents links sends recvs acked (l ∷ ls) (s ∷ ss) (r ∷ rs) node parent why so_far within is first =
    record {
      link = l;
      send = s;
      recv = r;
      leads = first_left parents links node parent l ls within is so_far.links_from_here;
      sent = first_left parents sends node parent s ss within is so_far.sends_from_here;
      received = first_left parents recvs node parent r rs within is so_far.recvs_from_here;
      refused = first;
      before = so_far.before;
    }

-- of no link, with no ends, all holds
nothing_left : {L S R : Type 0} (P : L → S → R → Type 0) (links : List L) (sends : List S) (recvs : List R) → length links ≡ 0 → length sends ≡ 0
    → length recvs ≡ 0 → AllOfEach P links sends recvs
nothing_left P [] [] [] no_link no_send no_recv = tt
nothing_left P [] [] (r ∷ rs) no_link no_send no_recv = absurd (omega arith)
nothing_left P [] (s ∷ ss) rs no_link no_send no_recv = absurd (omega arith)
nothing_left P (l ∷ ls) ss rs no_link no_send no_recv = absurd (omega arith)

pub all_settled : (parents : List (Option ℕ)) (links : List LinkSetup) (sends : List SenderAccount) (recvs : List ReceiverAccount) (acked : List (Option ℕ))
    (links_left : List LinkSetup) (sends_left : List SenderAccount) (recvs_left : List ReceiverAccount) (node : ℕ)
    → SettledSoFar parents links sends recvs acked links_left sends_left recvs_left node
    → length parents ≡ node → AreSettled links sends recvs
all_settled parents links sends recvs acked links_left sends_left recvs_left node so_far over =
    let none : length (links_of (drop node parents)) ≡ 0 = ap (λ ps. length (links_of ps)) (drop_all node parents (omega (arith, over))) in
    so_far.settled
    (nothing_left IsSettled links_left sends_left recvs_left (so_far.links_enough ∙ none) (so_far.sends_enough ∙ none) (so_far.recvs_enough ∙ none))

-- after the last node the ends of all links followed what they have to follow
pub all_followed : (parents : List (Option ℕ)) (links : List AnyLink) (sends : List ScriptedSendFinished) (recvs : List ScriptedRecvFinished)
    (acked : List (Option ℕ)) (links_left : List AnyLink) (sends_left : List ScriptedSendFinished) (recvs_left : List ScriptedRecvFinished) (node : ℕ)
    → SettledSoFar parents (map given_to links) (map sent_by sends) (map received_by recvs) acked (map given_to links_left) (map sent_by sends_left)
    (map received_by recvs_left) node
    → (AllOfEach IsFollowed links_left sends_left recvs_left → AllOfEach IsFollowed links sends recvs) → length parents ≡ node
    → AllOfEach IsFollowed links sends recvs
all_followed parents links sends recvs acked links_left sends_left recvs_left node so_far followed over =
    let none : length (links_of (drop node parents)) ≡ 0 = ap (λ ps. length (links_of ps)) (drop_all node parents (omega (arith, over))) in
    followed
    (nothing_left IsFollowed links_left sends_left recvs_left (sym (length-map links_left given_to) ∙ (so_far.links_enough ∙ none))
    (sym (length-map sends_left sent_by) ∙ (so_far.sends_enough ∙ none)) (sym (length-map recvs_left received_by) ∙ (so_far.recvs_enough ∙ none)))

-- one more link is settled
pub child_settled : (parents : List (Option ℕ)) (links : List LinkSetup) (sends : List SenderAccount) (recvs : List ReceiverAccount) (acked : List (Option ℕ))
    (node parent : ℕ) (link : LinkSetup) (send : SenderAccount) (recv : ReceiverAccount) (links_before links_left : List LinkSetup) (sends_before sends_left : List SenderAccount)
    (recvs_before recvs_left : List ReceiverAccount)
    → SettledSoFar parents links sends recvs acked links_before sends_before recvs_before node
    → node < length parents → parent_at parents node ≡ Some parent → IsSettled link send recv
    → links_before ≡ link ∷ links_left → sends_before ≡ send ∷ sends_left → recvs_before ≡ recv ∷ recvs_left
    → SettledSoFar parents links sends recvs (acked ++ Some send.acked ∷ []) links_left sends_left recvs_left (node + 1)
child_settled parents links sends recvs acked node parent link send recv links_before links_left sends_before sends_left recvs_before recvs_left
    before within is here first_link first_send first_recv =
    let after = drop (node + 1) parents in
    let left : drop node parents ≡ Some parent ∷ after = drop_more parents node None within ∙ ap (λ x. x ∷ after) is in
    let number : length (links_of (drop node parents)) ≡ suc (length (links_of after)) =
    ap (λ ps. length (links_of ps)) left ∙ ap suc (links_counted_anywhere after 1 0) in
    let counts : acked ++ by_child (drop node parents) (map acked_of sends_before) ≡ by_child parents (map acked_of sends) = before.counts in
    let settled : AreSettled links_before sends_before recvs_before → AreSettled links sends recvs = before.settled in
    record {
      counts =
          append_assoc acked (Some send.acked ∷ []) (by_child after (map acked_of sends_left))
          ∙ (ap (λ ps. acked ++ by_child ps (map acked_of (send ∷ sends_left))) (sym left)
          ∙ (ap (λ ss. acked ++ by_child (drop node parents) (map acked_of ss)) (sym first_send) ∙ counts));
      settled = λ all. settled (rw (first_link, first_send, first_recv) (here, all));
      links_enough = omega (arith, before.links_enough, ap (λ xs. length xs) first_link, number);
      sends_enough = omega (arith, before.sends_enough, ap (λ xs. length xs) first_send, number);
      recvs_enough = omega (arith, before.recvs_enough, ap (λ xs. length xs) first_recv, number);
      before =
          λ earlier l s r sooner the_link the_send the_recv.
          elim (cases_lt earlier node) [
            | inl still_sooner ↦ before.before earlier l s r still_sooner the_link the_send the_recv
            | inr at_last ↦
                let place : earlier ≡ node = omega (arith, sooner, at_last) in
                let same_link : link ≡ l =
                first_is_left parents links node within parent is links_before link links_left first_link before.links_from_here l
                (ap (λ k. entry_into parents links k) (sym place) ∙ the_link) in
                let same_send : send ≡ s =
                first_is_left parents sends node within parent is sends_before send sends_left first_send before.sends_from_here s
                (ap (λ k. entry_into parents sends k) (sym place) ∙ the_send) in
                let same_recv : recv ≡ r =
                first_is_left parents recvs node within parent is recvs_before recv recvs_left first_recv before.recvs_from_here r
                (ap (λ k. entry_into parents recvs k) (sym place) ∙ the_recv) in
                subst (λ x. IsSettled x s r) same_link (subst (λ x. IsSettled link x r) same_send (subst (λ x. IsSettled link send x) same_recv here))
          ];
      links_from_here = left_past_child parents links node within parent is links_before link links_left first_link before.links_from_here;
      sends_from_here = left_past_child parents sends node within parent is sends_before send sends_left first_send before.sends_from_here;
      recvs_from_here = left_past_child parents recvs node within parent is recvs_before recv recvs_left first_recv before.recvs_from_here;
    }
