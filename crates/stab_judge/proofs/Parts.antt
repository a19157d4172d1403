-- The parts of a link that obeys, and parts that are broken.
use Rattle.std.proofs.Common.{◌≡◌, ◌≢◌, ℕ, List, ◌++◌, Some, sym, ◌∙◌, ap, subst}
use Rattle.std.proofs.lemmas.List.{append_cancel_left}
use Rattle.std.proofs.lemmas.Option.{same_Some}
use Rattle.stab_treecore.specs.Network.{Network}
use Rattle.stab_treecore.specs.NodeLaws.{capacity_into, garbage_into}
use Rattle.stab_tree.specs.NodeOpenings.{opening_at}
use Rattle.stab_judge.specs.Judged.{SharperLawBelow}
use Rattle.stab_judge.specs.Obeys.{LinkObeys}
use Rattle.stab_report.specs.Reports.{ReportValue, received_at, acked_at}

-- under other names for the two lists, what begins with an opening, and what does not
pub opened : (below first delivered received opening : List ℕ) → below ≡ received → first ≡ opening → below ≡ first ++ delivered
    → received ≡ opening ++ delivered
opened below first delivered received opening below_is first_is begins =
    sym below_is ∙ (begins ∙ ap (λ (xs : List ℕ). xs ++ delivered) first_is)

pub unopened : (below first received opening : List ℕ) → below ≡ received → first ≡ opening → ((rest : List ℕ) → below ≢ first ++ rest)
    → (rest : List ℕ) → received ≢ opening ++ rest
unopened below first received opening below_is first_is never rest begins =
    never rest (below_is ∙ (begins ∙ ap (λ (xs : List ℕ). xs ++ rest) (sym first_is)))

module _ (net : Network) (r : ReportValue) (child parent acked : ℕ) (above delivered : List ℕ) (above_is : above ≡ received_at r parent)
    (counted : acked_at r child ≡ Some acked) (has : received_at r child ≡ opening_at net.openings.lists child ++ delivered) where
  -- the law of the link into the child under a parent's list
  abbrev pub Law : List ℕ → ℕ → List ℕ → Type 0
  Law list count items = SharperLawBelow (capacity_into net child) (garbage_into net child) list count items

  -- the same law under the other name of the parent's list
  pub as_above : Law (received_at r parent) acked delivered → Law above acked delivered
  as_above law = subst (λ (xs : List ℕ). Law xs acked delivered) (sym above_is) law

  -- a link whose parts are these obeys where the law holds of them
  pub link_from : Law above acked delivered → LinkObeys net r child parent
  link_from law = record {
    acked = acked;
    counted = counted;
    delivered = delivered;
    has = has;
    law = subst (λ (xs : List ℕ). Law xs acked delivered) above_is law;
  }

  -- and only there
  pub link_to : LinkObeys net r child parent → Law above acked delivered
  link_to link =
      let same_count : link.acked ≡ acked = same_Some link.acked acked (sym link.counted ∙ counted) in
      let same_list : link.delivered ≡ delivered =
      append_cancel_left (opening_at net.openings.lists child) link.delivered delivered (sym link.has ∙ has) in
      as_above
      (subst (λ (n : ℕ). Law (received_at r parent) n delivered) same_count
      (subst (λ (xs : List ℕ). Law (received_at r parent) link.acked xs) same_list link.law))
