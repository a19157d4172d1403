-- Where a list obeys with some garbage, it obeys with itself in its place.
use Rattle.std.proofs.Common.{◌≡◌, ℕ, List, length, take, refl, sym, ap, ◌∙◌, subst}
use Rattle.std.proofs.lemmas.List.{take_at}
use Rattle.stab_judge.specs.Judged.{IsPicked}
use Rattle.stab_judge.proofs.Greedy.{front_picked}
use Rattle.stab_treecore.specs.Network.{Network}
use Rattle.stab_treecore.specs.SharperLaw.{SharperTreeLaw, fewest_missing, missing_without_strays}
use Rattle.stab_treecore.specs.TreeLaw.{HalfTreeLaw, HalfTreeLawAt}
use Rattle.rignolda_since.specs.Logs.{LogsValue, received_at}
use Rattle.rignolda_since.specs.ObeysLogs.{Follows, IsOrdered, ObeysAlone, counted, strays_at, strays_into}

-- the same strays are picked from the received list
pub by_itself : (most : ℕ) (garbage published received places : List ℕ)
    → HalfTreeLawAt most garbage published received places → HalfTreeLawAt most received published received places
by_itself most garbage published received places law =
    let front : take (length law.strays) received ≡ law.strays =
    ap (take (length law.strays)) law.parts ∙ take_at law.strays law.taken (length law.strays) refl in
    let picked : IsPicked law.strays received =
    subst (λ (xs : List ℕ). IsPicked xs received) front (front_picked (length law.strays) received) in record {
      strays = law.strays;
      stray_places = picked.0;
      taken = law.taken;
      parts = law.parts;
      few_strays = law.few_strays;
      strays_picked = picked.1;
      taken_picked = law.taken_picked;
    }

half_by_itself : (most : ℕ) (garbage published received : List ℕ) → HalfTreeLaw most garbage published received
    → HalfTreeLaw most received published received
half_by_itself most garbage published received (places, law) = (places, by_itself most garbage published received places law)

-- what a node received is in order, or obeys, exactly if it is so with itself as the garbage
sharper_by_itself : (most without top : ℕ) (garbage published received : List ℕ) → SharperTreeLaw most without top garbage published received
    → SharperTreeLaw most without top received published received
unfolding by_itself
sharper_by_itself most without top garbage published received (places, law, few, at_most) =
    (places, by_itself most garbage published received places law, few, at_most)

-- what obeys is in order
pub what_obeys_is_ordered : (net : Network) (logs : LogsValue) (node : ℕ) → ObeysAlone net logs node → IsOrdered net logs node
what_obeys_is_ordered net logs node is =
    let (places, law, few, at_most) = is.law in
    record { garbage = is.garbage; law = (places, law) }

-- the same of lists and numbers that are called otherwise
module _ (net : Network) (logs : LogsValue) (node strays : ℕ) (published received : List ℕ)
    (strays_are : strays ≡ strays_at net node) (published_is : published ≡ counted net logs node) (received_is : received ≡ received_at logs node) where
  abbrev Half : ℕ → List ℕ → List ℕ → Type 0
  Half k p r = HalfTreeLaw k r p r

  pub is_ordered : HalfTreeLaw strays received published received → IsOrdered net logs node
  is_ordered law = record {
    garbage = received_at logs node;
    law =
        subst (λ k. Half k (counted net logs node) (received_at logs node)) strays_are
        (subst (λ p. Half strays p (received_at logs node)) published_is
        (subst (λ r. Half strays published r) received_is law));
  }

  pub half_of : IsOrdered net logs node → HalfTreeLaw strays received published received
  half_of is =
      subst (λ r. Half strays published r) (sym received_is)
      (subst (λ p. Half strays p (received_at logs node)) (sym published_is)
      (subst (λ k. Half k (counted net logs node) (received_at logs node)) (sym strays_are)
      (half_by_itself (strays_at net node) is.garbage (counted net logs node) (received_at logs node) is.law)))

  module _ (without fewest : ℕ) (without_is : without ≡ missing_without_strays net node) (fewest_is : fewest ≡ fewest_missing net node) where
    abbrev Whole : ℕ → ℕ → ℕ → List ℕ → List ℕ → Type 0
    Whole k b m p r = SharperTreeLaw k b m r p r

    pub obeys_by : SharperTreeLaw strays without fewest received published received → ObeysAlone net logs node
    obeys_by law = record {
      garbage = received_at logs node;
      law =
          subst (λ m. Whole (strays_at net node) (missing_without_strays net node) m (counted net logs node) (received_at logs node)) fewest_is
          (subst (λ b. Whole (strays_at net node) b fewest (counted net logs node) (received_at logs node)) without_is
          (subst (λ k. Whole k without fewest (counted net logs node) (received_at logs node)) strays_are
          (subst (λ p. Whole strays without fewest p (received_at logs node)) published_is
          (subst (λ r. Whole strays without fewest published r) received_is law))));
    }

    pub law_of : ObeysAlone net logs node → SharperTreeLaw strays without fewest received published received
    law_of is =
        subst (λ r. Whole strays without fewest published r) (sym received_is)
        (subst (λ p. Whole strays without fewest p (received_at logs node)) (sym published_is)
        (subst (λ k. Whole k without fewest (counted net logs node) (received_at logs node)) (sym strays_are)
        (subst (λ b. Whole (strays_at net node) b fewest (counted net logs node) (received_at logs node)) (sym without_is)
        (subst (λ m. Whole (strays_at net node) (missing_without_strays net node) m (counted net logs node) (received_at logs node)) (sym fewest_is)
        (sharper_by_itself (strays_at net node) (missing_without_strays net node) (fewest_missing net node) is.garbage (counted net logs node)
        (received_at logs node) is.law)))))

-- a child and its parent
module _ (net : Network) (logs : LogsValue) (child parent strays : ℕ) (above received : List ℕ)
    (strays_are : strays ≡ strays_into net child) (above_is : above ≡ received_at logs parent) (received_is : received ≡ received_at logs child) where
  abbrev Behind : ℕ → List ℕ → List ℕ → Type 0
  Behind k p r = HalfTreeLaw k r p r

  pub follows_by : HalfTreeLaw strays received above received → Follows net logs child parent
  follows_by law = record {
    garbage = received_at logs child;
    law =
        subst (λ k. Behind k (received_at logs parent) (received_at logs child)) strays_are
        (subst (λ p. Behind strays p (received_at logs child)) above_is
        (subst (λ r. Behind strays above r) received_is law));
  }

  pub behind_of : Follows net logs child parent → HalfTreeLaw strays received above received
  behind_of is =
      subst (λ r. Behind strays above r) (sym received_is)
      (subst (λ p. Behind strays p (received_at logs child)) (sym above_is)
      (subst (λ k. Behind k (received_at logs parent) (received_at logs child)) (sym strays_are)
      (half_by_itself (strays_into net child) is.garbage (received_at logs parent) (received_at logs child) is.law)))
