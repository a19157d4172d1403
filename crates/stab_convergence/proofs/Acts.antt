-- Acts alone, as changes; and parts of changes.
use Rattle.std.proofs.Common.{◌≡◌, List, [], ◌∷◌, ◌++◌, map, Option, refl, ap, ℕ}
use Rattle.stab_treecore.specs.declared.event.TreeEvent.{TreeEvent}
use Rattle.stab_treecore.specs.TreeReplay.{tree_replay}
use Rattle.stab_treecore.specs.TreeStep.{tree_step}
use Rattle.stab_treecore.specs.WholeTree.{WholeTree}
use Rattle.stab_treecore.specs.declared.change.Change.{Change}
use Rattle.stab_treecore.specs.declared.change.Change.TheVariants.{Act, Publish, Restart, Strike}
use Rattle.stab_treecore.specs.Changes.{changes_replay}
use Rattle.stab_treecore.specs.Hits.{Spare}
use Rattle.stab_convergence.specs.PathRounds.{acts_among}

pub acts-append : (before after : List Change) → acts_among (before ++ after) ≡ acts_among before ++ acts_among after
acts-append [] after = refl
acts-append (Act e ∷ before) after = ap (λ es. e ∷ es) (acts-append before after)
acts-append (Publish items ∷ before) after = acts-append before after
acts-append (Strike child start ∷ before) after = acts-append before after
acts-append (Restart node list ∷ before) after = acts-append before after

pub spare_first : (parents : List (Option ℕ)) (node : ℕ) (before after : List Change) → Spare parents node (before ++ after) → Spare parents node before
spare_first parents node [] after spare = tt
spare_first parents node (change ∷ before) after spare = (spare.0, spare_first parents node before after spare.1)

pub spare_later : (parents : List (Option ℕ)) (node : ℕ) (before after : List Change) → Spare parents node (before ++ after) → Spare parents node after
spare_later parents node [] after spare = spare
spare_later parents node (change ∷ before) after spare = spare_later parents node before after spare.1

-- acts alone, as changes
abbrev pub as_changes : List TreeEvent → List Change
as_changes es = map Act es

pub acts_again : (es : List TreeEvent) → acts_among (as_changes es) ≡ es
acts_again [] = refl
acts_again (e ∷ es) = ap (λ more. e ∷ more) (acts_again es)

pub acts_spare : (parents : List (Option ℕ)) (node : ℕ) (es : List TreeEvent) → Spare parents node (as_changes es)
acts_spare parents node [] = tt
acts_spare parents node (e ∷ es) = ((λ hit. hit), acts_spare parents node es)

pub acts_replayed : (t : WholeTree) (es : List TreeEvent) → changes_replay t (as_changes es) ≡ tree_replay t es
acts_replayed t [] = refl
acts_replayed t (e ∷ es) = acts_replayed (tree_step t e) es

pub spare_both : (parents : List (Option ℕ)) (node : ℕ) (before after : List Change) → Spare parents node before → Spare parents node after
    → Spare parents node (before ++ after)
spare_both parents node [] after first second = second
spare_both parents node (change ∷ changes) after first second = (first.0, spare_both parents node changes after first.1 second)
