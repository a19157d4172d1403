-- The sharper complete law at each node below nodes that all ended with their upstream, from the
-- root down.
use Rattle.std.proofs.Common.{◌≡◌, ℕ, suc, ◌+◌, ◌*◌, max, List, [], ◌++◌, length, Option, Some, ap, sym, ◌∙◌, subst, arith, append_assoc}
use Rattle.std.proofs.lemmas.Option.{same_Some}
use Rattle.std.specs.Option.{option_map_or}
use Rattle.std.specs.Prelude.{option_and_then}
use mathlib.Core.List.{IsPrefix}
use Rattle.stab_core.specs.LinkLaw.{SharperLinkLaw}
use Rattle.stab_tree.specs.IsTree.{IsRooted}
use Rattle.stab_tree.specs.NodeOpenings.{FitTree, hold_at, opening_at}
use Rattle.stab_tree.specs.Nodes.{parent_at, root_of}
use Rattle.stab_tree.specs.Steps.{ancestor, depth_of}
use Rattle.stab_tree.proofs.ForCallers.{holds_at_every_depth, openings_fit}
use Rattle.stab_treecore.specs.Network.{Network}
use Rattle.stab_treecore.specs.NodeLaws.{capacity_into, garbage_into}
use Rattle.stab_treecore.specs.Paths.{lists_above, sum_above}
use Rattle.stab_treecore.specs.SharperLaw.{SharperCompleteLaw, peak_above}
use Rattle.stab_treecore.proofs.AtNodes.{sum_above-add}
use Rattle.stab_treecore.proofs.Upwards.{sharper_complete_below, sharper_complete_past_opening, sharper_larger_complete, sharper_root_has_all}
use Rattle.stab_report.specs.EndedNodes.{AllAboveEnded, AllHandOn, CompleteBelowEnded, ObeysAsCounted}
use Rattle.stab_report.specs.Reports.{ReportValue, received_at}

module _ (net : Network) (r : ReportValue) (tree : IsRooted net.tree.parents) (fit : FitTree net.tree.parents net.openings)
    (at_root : received_at r (root_of net.tree.parents) ≡ net.published)
    (links : (child parent : ℕ) → parent_at net.tree.parents child ≡ Some parent → ObeysAsCounted net r child parent)
    (handed : AllHandOn net.tree.parents r) where
  abbrev parents : List (Option ℕ)
  parents = net.tree.parents

  abbrev received : ℕ → List ℕ
  received = received_at r

  -- how many items a node's opening has at most
  abbrev hold : ℕ → ℕ
  hold = hold_at parents net.openings.hold

  -- how many strays a node and the link into it can add, and how many items can be missing for the
  -- link
  abbrev strays : ℕ → ℕ
  strays child = capacity_into net child + hold child

  abbrev missing : ℕ → ℕ
  missing child = capacity_into net child + 1

  abbrev garbage : ℕ → List ℕ
  garbage child = opening_at net.openings.lists child ++ garbage_into net child

  -- the complete law of a node below ended nodes, with what there is beside this many nodes, from
  -- it upwards
  abbrev CompleteAt : ℕ → ℕ → Type 0
  CompleteAt depth node =
      AllAboveEnded parents r node
      → SharperCompleteLaw (sum_above parents strays depth node) (sum_above parents missing depth node)
      (peak_above parents (capacity_into net) depth node) (lists_above parents garbage depth node) net.published (received node)

  root_complete : CompleteAt 0 (root_of parents)
  root_complete above_ended = rw at_root (sharper_root_has_all net.published)

  -- the law of a child from what is known of its link
  joined : (child parent most_strays without peak acked : ℕ) (above delivered offered : List ℕ)
      → received child ≡ opening_at net.openings.lists child ++ delivered → IsPrefix offered (received parent)
      → SharperLinkLaw (capacity_into net child) (garbage_into net child) offered acked delivered
      → acked ≡ length (received parent) → SharperCompleteLaw most_strays without peak above net.published (received parent)
      → SharperCompleteLaw (strays child + most_strays) (missing child + without) (max peak (without + (2 * capacity_into net child + 1)))
      (garbage child ++ above) net.published (received child)
  joined child parent most_strays without peak acked above delivered offered has begins law all_acked at_parent =
      let c : ℕ = capacity_into net child in
      let after : ℕ = max peak (without + (2 * c + 1)) in
      let first : List ℕ = opening_at net.openings.lists child in
      let queued : List ℕ = garbage_into net child ++ above in
      let turned : without + (c + 1) ≡ missing child + without = omega arith in
      let opened : SharperCompleteLaw (most_strays + c + length first) (without + (c + 1)) after (first ++ queued) net.published
      (first ++ delivered) =
      sharper_complete_past_opening (most_strays + c) (without + (c + 1)) after first queued net.published delivered
      (sharper_complete_below c most_strays acked (garbage_into net child) above net.published (received parent) offered
      delivered begins without peak all_acked at_parent law) in
      rw (has, append_assoc)
      (sharper_larger_complete (most_strays + c + length first) (strays child + most_strays) (missing child + without) after
      (first ++ queued) net.published (first ++ delivered)
      (omega (arith, (openings_fit parents net.openings fit).short child))
      (subst (λ (n : ℕ). SharperCompleteLaw (most_strays + c + length first) n after (first ++ queued) net.published (first ++ delivered))
      turned opened))

  child_complete : (depth child parent : ℕ) → parent_at parents child ≡ Some parent → CompleteAt depth parent → CompleteAt (suc depth) child
  child_complete depth child parent is_child above child_ended =
      let (delivered, has, link) = links child parent is_child in
      let (offered, acked, begins, counted_law) = link in
      let (counted, law) = counted_law in
      let parent_ended : AllAboveEnded parents r parent =
      λ steps node reached.
      child_ended (suc steps) node (ap (λ o. option_and_then (ancestor parents (suc steps)) o) is_child ∙ reached) in
      let all_acked : acked ≡ length (received parent) =
      same_Some acked (length (received parent))
      (sym counted
      ∙ handed child parent is_child (child_ended 0 parent (ap (λ o. option_and_then (ancestor parents 0) o) is_child))) in
      subst
      (λ up. SharperCompleteLaw (strays child + option_map_or (sum_above parents strays depth) up 0)
      (missing child + option_map_or (sum_above parents missing depth) up 0)
      (max (option_map_or (peak_above parents (capacity_into net) depth) up 0)
      (option_map_or (sum_above parents missing depth) up 0 + (2 * capacity_into net child + 1)))
      (garbage child ++ option_map_or (lists_above parents garbage depth) up []) net.published (received child))
      (sym is_child)
      (joined child parent (sum_above parents strays depth parent) (sum_above parents missing depth parent)
      (peak_above parents (capacity_into net) depth parent) acked (lists_above parents garbage depth parent) delivered offered has begins law
      all_acked (above parent_ended))

  pub complete_below_ended : CompleteBelowEnded net r
  complete_below_ended node is_node above_ended =
      rw (← sum_above-add parents (capacity_into net) hold (depth_of parents node) node)
      (holds_at_every_depth net.tree.parents tree CompleteAt root_complete child_complete node is_node above_ended)
