-- A link that obeys, and one that does not, under another name of what is above it.
use Rattle.std.proofs.Common.{◌≡◌, ℕ, List, Some, sym, ◌∙◌, ap, subst}
use Rattle.std.proofs.lemmas.Option.{same_Some}
use Rattle.stab_treecore.specs.Network.{Network}
use Rattle.stab_treecore.specs.NodeLaws.{capacity_into, garbage_into}
use Rattle.stab_judge.specs.Judged.{SharperLawBelow}
use Rattle.stab_judge.specs.Reports.{ReportValue, received_at, acked_at}
use Rattle.rignolda_since.specs.ObeysSince.{LinkObeysSince, above_since}

module _ (net : Network) (lists : List (List ℕ)) (r : ReportValue) (child parent acked : ℕ) (above : List ℕ)
    (above_is : above ≡ above_since lists r child parent) (counted : acked_at r child ≡ Some acked) where
  -- the law of the link into the child under this list
  abbrev pub Law : List ℕ → ℕ → Type 0
  Law list count = SharperLawBelow (capacity_into net child) (garbage_into net child) list count (received_at r child)

  -- where it holds the link obeys
  pub link_from : Law above acked → LinkObeysSince net lists r child parent
  link_from law = (acked, counted, subst (λ (xs : List ℕ). Law xs acked) above_is law)

  -- and only there, whatever the count is called
  pub law_of : (count : ℕ) → acked_at r child ≡ Some count → Law (above_since lists r child parent) count → Law above acked
  law_of count counted_so law =
      subst (λ (n : ℕ). Law above n) (same_Some count acked (sym counted_so ∙ counted)) (subst (λ (xs : List ℕ). Law xs count) (sym above_is) law)

  pub link_to : LinkObeysSince net lists r child parent → Law above acked
  link_to link =
      let (count, counted_so, law) = link in
      law_of count counted_so law
