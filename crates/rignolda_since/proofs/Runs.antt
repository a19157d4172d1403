-- The log of a node that obeys the sharper tree law since a moment, and follows its parent.
use Rattle.std.proofs.Common.{◌≡◌, ◌+◌, ◌≤◌, ℕ, List, [], ◌++◌, length, Option, Some, None, MatchOption, is_some, option_and_then, if◌then◌else◌, refl, sym, ap, ◌∙◌, subst, arith}
use mathlib.Core.Path.{fun_ext}
use Rattle.std.specs.Prelude.{⊤}
use Rattle.stab_treecore.specs.Moment.{FollowsSince, Moment, SharperLawSince, fewest_since, garbage_since, old_backlog, published_since}
use Rattle.stab_judge.specs.Judged.{Splits}
use Rattle.stab_judge.proofs.Greedy.{nothing_picked, picked_joined}
use Rattle.stab_judge.proofs.Trees.{half_tree_from, half_tree_to}
use Rattle.stab_tree.specs.Nodes.{parent_at}
use Rattle.stab_tree.specs.Steps.{depth_of}
use Rattle.stab_treecore.specs.Network.{Network}
use Rattle.stab_treecore.specs.NodeLaws.{capacity_into}
use Rattle.stab_treecore.specs.Paths.{path_sum}
use Rattle.stab_treecore.specs.SharperLaw.{SharperTreeLaw, fewest_missing, missing_without_strays, peak_above}
use Rattle.stab_treecore.specs.TreeLaw.{HalfTreeLaw}
use Rattle.rignolda_since.specs.Logs.{LogsValue, received_at}
use Rattle.rignolda_since.specs.ObeysLogs.{Follows, FollowsParent, IsLogOf, IsMomentOf, LogObeys, ObeysAlone, counted, kept_for, strays_at, strays_into}

-- what the law of short backlogs says
abbrev pub ShortBacklogs : Type 0
ShortBacklogs =
    (m : Moment) (gain : ℕ → List ℕ) (most : ℕ → ℕ) (node : ℕ)
    → ((w : ℕ) → length (old_backlog m w) ≤ most w) → SharperLawSince m gain node
    → SharperTreeLaw (path_sum m.parents (λ w. m.capacity w + most w) node) (path_sum m.parents (λ w. m.capacity w + 1) node)
    (fewest_since m node) (garbage_since m node) (published_since m gain node) (gain node)

module _ (net : Network) (logs : LogsValue) (m : Moment) (gain : ℕ → List ℕ) (node : ℕ) (its : IsMomentOf net m)
    (log : IsLogOf net logs m gain node) where
  -- what a node may have had for its child
  abbrev kept : ℕ → ℕ
  kept = kept_for net.tree.parents net.openings.hold

  capacities : m.capacity ≡ capacity_into net
  capacities = fun_ext its.capacities

  strays_are : path_sum m.parents (λ w. m.capacity w + kept w) node ≡ strays_at net node
  strays_are =
      ap (λ ps. path_sum ps (λ w. m.capacity w + kept w) node) its.parents
      ∙ ap (λ (cap : ℕ → ℕ). path_sum net.tree.parents (λ w. cap w + kept w) node) capacities

  without_are : path_sum m.parents (λ w. m.capacity w + 1) node ≡ missing_without_strays net node
  without_are =
      ap (λ ps. path_sum ps (λ w. m.capacity w + 1) node) its.parents
      ∙ ap (λ (cap : ℕ → ℕ). path_sum net.tree.parents (λ w. cap w + 1) node) capacities

  fewest_are : fewest_since m node ≡ fewest_missing net node
  fewest_are =
      ap (λ ps. peak_above ps m.capacity (depth_of ps node) node) its.parents
      ∙ ap (λ (cap : ℕ → ℕ). peak_above net.tree.parents cap (depth_of net.tree.parents node) node) capacities

  obeys_alone : ShortBacklogs → SharperLawSince m gain node → ObeysAlone net logs node
  obeys_alone short law =
      let g : List ℕ = garbage_since m node in
      let all : SharperTreeLaw (path_sum m.parents (λ w. m.capacity w + kept w) node) (path_sum m.parents (λ w. m.capacity w + 1) node)
      (fewest_since m node) g (published_since m gain node) (gain node) = short m gain kept node its.kept law in
      let in_net : SharperTreeLaw (strays_at net node) (missing_without_strays net node) (fewest_missing net node) g (published_since m gain node) (gain node) =
      subst (λ (n : ℕ). SharperTreeLaw (strays_at net node) (missing_without_strays net node) n g (published_since m gain node) (gain node)) fewest_are
      (subst (λ (n : ℕ). SharperTreeLaw (strays_at net node) n (fewest_since m node) g (published_since m gain node) (gain node)) without_are
      (subst (λ (n : ℕ). SharperTreeLaw n (path_sum m.parents (λ w. m.capacity w + 1) node) (fewest_since m node) g (published_since m gain node) (gain node))
      strays_are all)) in
      let in_count : SharperTreeLaw (strays_at net node) (missing_without_strays net node) (fewest_missing net node) g (counted net logs node) (gain node) =
      subst (λ (xs : List ℕ). SharperTreeLaw (strays_at net node) (missing_without_strays net node) (fewest_missing net node) g xs (gain node))
      (sym log.counted) in_net in
      record {
        garbage = g;
        law =
            subst (λ (xs : List ℕ). SharperTreeLaw (strays_at net node) (missing_without_strays net node) (fewest_missing net node) g (counted net logs node) xs)
            (sym log.received) in_count;
      }

  -- the log of its parent has what that gained since, behind what it gained before
  follows : (parent above : ℕ) → parent_at net.tree.parents node ≡ Some parent → parent_at net.tree.parents parent ≡ Some above
      → FollowsSince m gain node parent → Follows net logs node parent
  follows parent above is_child has_parent law =
      let (earlier, has) = log.reaches_back parent above is_child has_parent in
      let g : List ℕ = m.queued node ++ m.backlog node in
      let old : old_backlog m node ≡ m.backlog node =
      ap (λ o. if is_some o then m.backlog node else [])
      (ap (λ ps. option_and_then (parent_at ps) (parent_at ps node)) its.parents
      ∙ (ap (λ o. option_and_then (parent_at net.tree.parents) o) is_child ∙ has_parent)) in
      let parts : Splits (m.capacity node + length (m.backlog node)) g (gain parent) (gain node) =
      half_tree_to (m.capacity node + length (m.backlog node)) g (gain parent) (gain node) law in
      let more : Splits (strays_into net node) g (earlier ++ gain parent) (gain node) =
      record {
        strays = parts.strays;
        taken = parts.taken;
        parts = parts.parts;
        few_strays = omega (arith, parts.few_strays, its.capacities node, its.kept node, ap (λ xs. length xs) old);
        strays_picked = parts.strays_picked;
        taken_picked = picked_joined earlier (gain parent) [] parts.taken (nothing_picked earlier) parts.taken_picked;
      } in
      record {
        garbage = g;
        law =
            subst (λ (xs : List ℕ). HalfTreeLaw (strays_into net node) g (received_at logs parent) xs) (sym log.received)
            (subst (λ (xs : List ℕ). HalfTreeLaw (strays_into net node) g xs (gain node)) (sym has)
            (half_tree_from (strays_into net node) g (earlier ++ gain parent) (gain node) more));
      }

  module _ (behind : (parent : ℕ) → parent_at m.parents node ≡ Some parent → FollowsSince m gain node parent) where
    above_inner : (parent : ℕ) → parent_at net.tree.parents node ≡ Some parent → (o : Option ℕ) → parent_at net.tree.parents parent ≡ o
        → MatchOption o ⊤ (λ above. Follows net logs node parent)
    above_inner parent is_child None none = tt
    above_inner parent is_child (Some above) has =
        follows parent above is_child has (behind parent (ap (λ ps. parent_at ps node) its.parents ∙ is_child))

    at_each : (o : Option ℕ) → parent_at net.tree.parents node ≡ o
        → MatchOption o ⊤ (λ parent. MatchOption (parent_at net.tree.parents parent) ⊤ (λ above. Follows net logs node parent))
    at_each None none = tt
    at_each (Some parent) is_child = above_inner parent is_child (parent_at net.tree.parents parent) refl

    pub log_obeys : ShortBacklogs → SharperLawSince m gain node → LogObeys net logs node
    log_obeys short law = record { alone = obeys_alone short law; follows = at_each (parent_at net.tree.parents node) refl }
