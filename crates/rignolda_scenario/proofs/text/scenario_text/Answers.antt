use Rattle.std.proofs.Common.{◌≡◌, ◌<◌, ◌+◌, ◌++◌, ◌∙◌, ℕ, List, [], Some, length, slice_get, slice_index_or, take, ap, refl, sym, subst, string_bytes, arith}
use Rattle.std.proofs.lemmas.Option.{slice_get_read}
use Rattle.std.specs.List.{flat_map, range_with_len}
use mathlib.Core.List.{IsPrefix}
use Rattle.stab_job.specs.JobValues.{network}
use Rattle.stab_tree.specs.Nodes.{Nodes, root_of}
use Rattle.stab_tree.specs.Steps.{depth_of}
use Rattle.stab_treecore.proofs.Lines.{next_place}
use Rattle.stab_treecore.proofs.Running.{parents_stay}
use Rattle.stab_treecore.specs.TreeReplay.{initial_tree}
use Rattle.stab_treecore.specs.WholeTree.{WholeTree, received}
use Rattle.rignolda_scenario.specs.Counts.{state_after, state_since}
use Rattle.rignolda_scenario.specs.LastFault.{last_fault}
use Rattle.rignolda_scenario.specs.Marks.{IsMarkOf}
use Rattle.rignolda_scenario.specs.Played.{changes_of}
use Rattle.rignolda_scenario.specs.Texts.{lines_of, text_over}
use Rattle.rignolda_scenario.specs.declared.mark.Mark.{Mark}
use Rattle.rignolda_scenario.specs.declared.step.Step.{Step}
use Rattle.rignolda_scenario.proofs.Playing.{root_grows}
use Rattle.rignolda_scenario.proofs.text.scenario_text.Goals as goal

pub push_node-requires-clause-same_end : goal.push_node-requires-clause-same_end
push_node-requires-clause-same_end c =
    let j = c.into_parts-job.result.0 in
    ap (λ (t : WholeTree). t.parents) c.in_ok-played.ensures.after
    ∙ (parents_stay (initial_tree (network j)) (changes_of j.tree.parents j.params c.as_slice.result.now)
    ∙ ap (λ (t : Nodes). t.parents) (sym c.tree-in-nodes.ensures.tree))

pub nodes-preserved : goal.nodes-preserved
nodes-preserved c =
    let j = c.into_parts-job.result.0 in
    let ps = j.tree.parents in
    let steps : List Step = c.as_slice.result.now in
    let its_steps : steps ≡ c.args.scenario.steps = c.as_slice.ensures ∙ c.into_parts-job.ensures.steps in
    let node = c.nodes.place in
    let marks = c.in_ok-played.played.marks.items in
    let mark : Mark = c.index-mark.result.now in
    let i = c.from.result in
    let at : i ≡ node = c.from.ensures in
    let is_node : node < length ps =
    omega (arith, c.nodes-test.true, c.len-place-end.ensures.value, ap (λ (t : Nodes). length t.parents) c.tree.ensures.tree) in
    let within : i < length marks = omega (arith, at, is_node, c.in_ok-played.ensures.each) in
    let there : slice_get marks node ≡ Some mark =
    ap (λ n. slice_get marks n) (sym at) ∙ slice_get_read marks (length marks) i mark refl within c.index-mark.ensures in
    let its_mark = c.in_ok-played.ensures.marks node mark there in
    let end = state_after j steps in
    let s = state_since j steps node in
    let old = string_bytes c.nodes.text in
    let new = string_bytes c.push_node.new.text in
    let Says : Nodes → ℕ → WholeTree → Type 0 =
    λ t n e. (u : WholeTree) → u.parents ≡ t.parents → IsMarkOf u n mark
    → IsPrefix (received u (root_of u.parents)) (received e (root_of u.parents))
    → new ≡ old ++ text_over mark.step u e (depth_of t.parents n) (slice_index_or t.names n []) n in
    let says : Says j.tree node end =
    subst (λ e. Says j.tree node e) c.in_ok-played.ensures.after
    (subst (λ n. Says j.tree n c.in_ok-played.played.end) c.new.ensures
    (subst (λ t. Says t c.new.result c.in_ok-played.played.end) c.tree-in-nodes.ensures.tree c.in_ok-push_node.ensures)) in
    let same : s.parents ≡ ps =
    parents_stay (initial_tree (network j)) (changes_of ps j.params (take (last_fault ps node steps) steps)) in
    let grows : IsPrefix (received s (root_of s.parents)) (received end (root_of s.parents)) =
    subst (λ qs. IsPrefix (received s (root_of qs)) (received end (root_of qs))) (sym same)
    (root_grows j steps node c.in_ok-played.ensures.able is_node) in
    let lines = lines_of j steps in
    let pushed : new ≡ old ++ lines node =
    says s same its_mark.1 grows
    ∙ ap (λ n. old ++ text_over n s end (depth_of ps node) (slice_index_or j.tree.names node []) node) its_mark.0 in
    let so_far : old ≡ flat_map lines (range_with_len 0 node) =
    c.nodes.invariant ∙ ap (λ ss. flat_map (lines_of j ss) (range_with_len 0 node)) (sym its_steps) in
    pushed
    ∙ (ap (λ bytes. bytes ++ lines node) so_far
    ∙ (sym (next_place lines node) ∙ ap (λ ss. flat_map (lines_of j ss) (range_with_len 0 (node + 1))) its_steps))
