-- The laws of a schedule with faults, from a start on.
use Rattle.std.proofs.Common.{ℕ, zero, suc, ◌+◌, ◌<◌, ◌≤◌, List, length, Option, Some, None, arith}
use Rattle.std.specs.Option.{option_map_or}
use Rattle.stab_core.specs.LinkLaw.{LinkLaw, SharperLinkLaw}
use Rattle.stab_tree.specs.Nodes.{parent_at}
use Rattle.stab_treecore.specs.Network.{IsNetwork, Network}
use Rattle.stab_treecore.specs.Paths.{sum_above, path_sum}
use Rattle.stab_tree.specs.Steps.{depth_of}
use Rattle.stab_treecore.specs.TreeReplay.{initial_tree}
use Rattle.stab_treecore.specs.SharperLaw.{SharperTreeLaw}
use Rattle.stab_treecore.specs.TreeLaw.{TreeLaw}
use Rattle.stab_treecore.proofs.Obeying.{ObeysSince}
use Rattle.stab_treecore.proofs.ForChanges.{larger_bounds, sharper_larger}
use Rattle.stab_treecore.specs.Changes.{Change, changes_replay, Fit}
use Rattle.stab_treecore.specs.Hits.{Spare}
use Rattle.stab_treecore.specs.Moment.{Moment, LawSince, SharperLawSince, fewest_since, garbage_since, missing_since, old_backlog, published_since, strays_since}
use Rattle.stab_treecore.specs.Since.{gained, moment}
use Rattle.stab_treecore.proofs.NodesSince.{law_since, sharper_law_since}
use Rattle.stab_treecore.proofs.States.{IsFed, changes_fed, opening_fed}

-- what changes leave of a start is a state
pub schedule_state : (net : Network) (before : List Change) → IsNetwork net → Fit (initial_tree net) before
    → IsFed net.tree (changes_replay (initial_tree net) before)
schedule_state net before is fit = changes_fed net.tree (initial_tree net) before (opening_fed net is) fit

pub schedule_law : ObeysSince LinkLaw → (net : Network) (before after : List Change) (node : ℕ) → IsNetwork net
    → Fit (initial_tree net) before → let s = changes_replay (initial_tree net) before in
    node < length s.parents → Spare s.parents node after
    → LawSince (moment s) (gained s (changes_replay s after)) node
schedule_law obey net before after node is fit is_node spare =
    law_since net.tree (changes_replay (initial_tree net) before) after node (schedule_state net before is fit).is_state is_node spare obey

pub sharper_schedule_law : ObeysSince SharperLinkLaw → (net : Network) (before after : List Change) (node : ℕ) → IsNetwork net
    → Fit (initial_tree net) before → let s = changes_replay (initial_tree net) before in
    node < length s.parents → Spare s.parents node after
    → SharperLawSince (moment s) (gained s (changes_replay s after)) node
sharper_schedule_law obey net before after node is fit is_node spare =
    sharper_law_since net.tree (changes_replay (initial_tree net) before) after node (schedule_state net before is fit).is_state is_node spare obey

-- ---- backlogs of at most `most w` items

no_more_of : (f g : ℕ → ℕ) (up : Option ℕ) → ((w : ℕ) → f w ≤ g w) → option_map_or f up 0 ≤ option_map_or g up 0
no_more_of f g None less = omega arith
no_more_of f g (Some above) less = less above

sum_no_more : (parents : List (Option ℕ)) (f g : ℕ → ℕ) (count node : ℕ) → ((w : ℕ) → f w ≤ g w)
    → sum_above parents f count node ≤ sum_above parents g count node
sum_no_more parents f g zero node less = omega arith
sum_no_more parents f g (suc count) node less =
    omega (
      arith,
      less node,
      no_more_of (sum_above parents f count) (sum_above parents g count) (parent_at parents node)
          (λ w. sum_no_more parents f g count w less),
    )

pub law_of_short_backlogs : (m : Moment) (gain : ℕ → List ℕ) (most : ℕ → ℕ) (node : ℕ)
    → ((w : ℕ) → length (old_backlog m w) ≤ most w) → LawSince m gain node
    → TreeLaw (path_sum m.parents (λ w. m.capacity w + most w) node) (missing_since m node) (garbage_since m node)
    (published_since m gain node) (gain node)
law_of_short_backlogs m gain most node short law =
    larger_bounds (strays_since m node) (path_sum m.parents (λ w. m.capacity w + most w) node) (missing_since m node) (missing_since m node)
    (garbage_since m node) (published_since m gain node) (gain node)
    (sum_no_more m.parents (λ w. m.capacity w + length (old_backlog m w)) (λ w. m.capacity w + most w) (depth_of m.parents node) node
    (λ w. omega (arith, short w))) (omega arith) law

pub sharper_law_of_short_backlogs : (m : Moment) (gain : ℕ → List ℕ) (most : ℕ → ℕ) (node : ℕ)
    → ((w : ℕ) → length (old_backlog m w) ≤ most w) → SharperLawSince m gain node
    → SharperTreeLaw (path_sum m.parents (λ w. m.capacity w + most w) node) (path_sum m.parents (λ w. m.capacity w + 1) node)
    (fewest_since m node) (garbage_since m node) (published_since m gain node) (gain node)
sharper_law_of_short_backlogs m gain most node short law =
    sharper_larger (strays_since m node) (path_sum m.parents (λ w. m.capacity w + most w) node) (path_sum m.parents (λ w. m.capacity w + 1) node)
    (fewest_since m node) (fewest_since m node) (garbage_since m node) (published_since m gain node) (gain node)
    (sum_no_more m.parents (λ w. m.capacity w + length (old_backlog m w)) (λ w. m.capacity w + most w) (depth_of m.parents node) node
    (λ w. omega (arith, short w))) (omega arith) law
