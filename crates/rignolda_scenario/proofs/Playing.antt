-- Steps that are made one by one, and the last fault of a node by the steps so far.
use Rattle.std.proofs.Common.{◌≡◌, ℕ, zero, suc, ◌+◌, ◌<◌, List, [], ◌∷◌, ◌++◌, length, take, drop, get_or, Option, if◌then◌else◌, ap, sym, subst, ◌∙◌, append_assoc, append-nil, arith}
use mathlib.Core.List.{IsPrefix}
use Rattle.stab_frames.specs.Parameters.{Parameters}
use Rattle.stab_job.specs.JobValues.{IsJob, JobValue, network}
use Rattle.stab_tree.specs.Steps.{Reaches}
use Rattle.stab_tree.specs.Nodes.{root_of}
use Rattle.stab_treecore.specs.declared.change.Change.{Change}
use Rattle.stab_treecore.specs.declared.event.TreeEvent.{TreeEvent}
use Rattle.stab_treecore.specs.declared.change_fault.ChangeFault.{ChangeFault}
use Rattle.stab_treecore.specs.ChangeRefusals.{AllCanBeMade, IsChangeReason, IsReasonAt, ReachesChange}
use Rattle.stab_treecore.specs.Changes.{changes_replay}
use Rattle.stab_treecore.specs.Hits.{Spare}
use Rattle.stab_treecore.specs.Network.{IsNetwork}
use Rattle.stab_treecore.specs.TreeReplay.{initial_tree}
use Rattle.stab_treecore.specs.WholeTree.{WholeTree, received}
use Rattle.stab_treecore.proofs.Contained.{changes-append}
use Rattle.stab_treecore.proofs.Kept.{OnPath, Since}
use Rattle.stab_treecore.proofs.NodesSince.{since_spared}
use Rattle.stab_treecore.proofs.Running.{all_fit, fit_front, parents_stay, reached_on, refused_by, run_on}
use Rattle.stab_treecore.proofs.Schedules.{schedule_state}
use Rattle.rignolda_scenario.specs.Counts.{CanBePlayed, IsUnrun, state_after, state_since}
use Rattle.rignolda_scenario.specs.LastFault.{hits, last_after, last_fault}
use Rattle.rignolda_scenario.specs.Played.{Makes, acts, changes_in, changes_of, repeated}
use Rattle.rignolda_scenario.specs.declared.step.Step.{Step}
use Rattle.rignolda_scenario.specs.Refusals.{change_refused}
use Rattle.rignolda_scenario.proofs.Refused.{reaches_more, reason_more, unrun_by_change}
use Rattle.rignolda_scenario.proofs.Spared.{changes_of-parts, spare_since}

-- ---- runs

-- a run that goes on
pub make_on : (t s u : WholeTree) (before after : List Change) → Makes t before s → Makes s after u → Makes t (before ++ after) u
make_on t s u before after first second =
    let on = run_on t s u before after (record { replayed = first.0; able = first.1 }) (record { replayed = second.0; able = second.1 }) in
    (on.replayed, on.able)

-- what is reached once it goes on
pub reach_on : (P : WholeTree → Change → Type 0) (t s : WholeTree) (before after : List Change) → Makes t before s → ReachesChange P s after
    → ReachesChange P t (before ++ after)
reach_on P t s before after first reaches = reached_on P t s before after (record { replayed = first.0; able = first.1 }) reaches

pub tree_stays : (t u : WholeTree) (changes : List Change) → Makes t changes u → u.parents ≡ t.parents
tree_stays t u changes makes = ap (λ (s : WholeTree). s.parents) makes.0 ∙ parents_stay t changes

-- ---- what comes next

pub repeated_more : (times : ℕ) (events : List TreeEvent) → repeated times events ++ acts events ≡ repeated (suc times) events
repeated_more zero events = sym (append-nil (acts events))
repeated_more (suc times) events =
    append_assoc (acts events) (repeated times events) (acts events) ∙ ap (λ cs. acts events ++ cs) (repeated_more times events)

-- of so many times the first are some
pub repeated_parts : (few more : ℕ) (events : List TreeEvent) → repeated (few + more) events ≡ repeated few events ++ repeated more events
repeated_parts zero more events = (let same : 0 + more ≡ more = omega arith in ap (λ n. repeated n events) same)
repeated_parts (suc few) more events =
    let same : suc few + more ≡ suc (few + more) = omega arith in
    ap (λ n. repeated n events) same
    ∙ (ap (λ cs. acts events ++ cs) (repeated_parts few more events) ∙ sym (append_assoc (acts events) (repeated few events) (repeated more events)))

module _ (ps : List (Option ℕ)) (params : List Parameters) where
  pub changes_more : (steps : List Step) (i : ℕ) (step : Step) → i < length steps → step ≡ get_or steps i step
      → changes_of ps params (take (suc i) steps) ≡ changes_of ps params (take i steps) ++ changes_in ps params step
  changes_more [] i step within is = absurd (omega arith)
  changes_more (x ∷ xs) zero step within is = append-nil (changes_in ps params x) ∙ ap (λ s. changes_in ps params s) (sym is)
  changes_more (x ∷ xs) (suc i) step within is =
      ap (λ cs. changes_in ps params x ++ cs) (changes_more xs i step (omega (arith, within)) is)
      ∙ sym (append_assoc (changes_in ps params x) (changes_of ps params (take i xs)) (changes_in ps params step))

  -- what is reached in the next step is reached in all
  pub reach_there : (P : WholeTree → Change → Type 0) (t s : WholeTree) (steps : List Step) (i : ℕ) (step : Step) → i < length steps
      → step ≡ get_or steps i step → Makes t (changes_of ps params (take i steps)) s → ReachesChange P s (changes_in ps params step)
      → ReachesChange P t (changes_of ps params steps)
  reach_there P t s steps i step within is made reaches =
      let front = changes_of ps params (take (suc i) steps) in
      subst (λ cs. ReachesChange P t cs) (sym (changes_of-parts ps params (suc i) steps))
      (reaches_more P t front (changes_of ps params (drop (suc i) steps))
      (subst (λ cs. ReachesChange P t cs) (sym (changes_more steps i step within is))
      (reach_on P t s (changes_of ps params (take i steps)) (changes_in ps params step) made reaches)))

module _ (ps : List (Option ℕ)) (node : ℕ) where
  last_after_more : (steps : List Step) (i count last : ℕ) (step : Step) → i < length steps → step ≡ get_or steps i step
      → last_after ps node count last (take (suc i) steps)
      ≡ (if hits ps node step then count + suc i else last_after ps node count last (take i steps))
  last_after_more [] i count last step within is = absurd (omega arith)
  last_after_more (x ∷ xs) zero count last step within is =
      let one : suc count ≡ count + 1 = omega arith in
      ap (λ n. if hits ps node x then n else last) one ∙ ap (λ s. if hits ps node s then count + 1 else last) (sym is)
  last_after_more (x ∷ xs) (suc i) count last step within is =
      let same : suc count + suc i ≡ count + suc (suc i) = omega arith in
      let so_far = if hits ps node x then suc count else last in
      last_after_more xs i (suc count) so_far step (omega (arith, within)) is
      ∙ ap (λ n. if hits ps node step then n else last_after ps node (suc count) so_far (take i xs)) same

  -- the last fault after one step more
  pub last_more : (steps : List Step) (i : ℕ) (step : Step) → i < length steps → step ≡ get_or steps i step
      → last_fault ps node (take (suc i) steps) ≡ (if hits ps node step then suc i else last_fault ps node (take i steps))
  last_more steps i step within is =
      let same : 0 + suc i ≡ suc i = omega arith in
      last_after_more steps i 0 0 step within is ∙ ap (λ n. if hits ps node step then n else last_fault ps node (take i steps)) same

-- a step that cannot be made is why the scenario is not run
pub unrun_there : (j : JobValue) → IsJob j → IsNetwork (network j) → (steps : List Step) (i : ℕ) (step : Step) (s : WholeTree) (refusal : ChangeFault)
    → i < length steps → step ≡ get_or steps i step → Makes (initial_tree (network j)) (changes_of j.tree.parents j.params (take i steps)) s
    → ReachesChange (IsReasonAt refusal) s (changes_in j.tree.parents j.params step) → IsUnrun j steps (change_refused refusal)
unrun_there j job is steps i step s refusal within here made reaches =
    let ps = j.tree.parents in
    let t = initial_tree (network j) in
    unrun_by_change j steps refusal
    (refused_by j.params j.starts (network j) (changes_of ps j.params steps) refusal job.one_params_each job.one_start_each is.can_begin
    (reach_there ps j.params (IsReasonAt refusal) t s steps i step within here made reaches))

-- nor where the tree cannot begin
pub unrun_at_start : (j : JobValue) (steps : List Step) (refusal : ChangeFault) → IsChangeReason j.params j.starts (network j) [] refusal
    → IsUnrun j steps (change_refused refusal)
unrun_at_start j steps refusal why =
    unrun_by_change j steps refusal (reason_more j.params j.starts (network j) [] (changes_of j.tree.parents j.params steps) refusal why)

-- ---- the root

-- since the last fault of a node nothing but what is published is added to the root's list
pub root_grows : (j : JobValue) (steps : List Step) (node : ℕ) → CanBePlayed j steps → node < length j.tree.parents
    → IsPrefix (received (state_since j steps node) (root_of j.tree.parents)) (received (state_after j steps) (root_of j.tree.parents))
root_grows j steps node can is_node =
    let ps = j.tree.parents in
    let net = network j in
    let t = initial_tree net in
    let k = last_fault ps node steps in
    let before = changes_of ps j.params (take k steps) in
    let after = changes_of ps j.params (drop k steps) in
    let parts : changes_of ps j.params steps ≡ before ++ after = changes_of-parts ps j.params k steps in
    let end : changes_replay t (changes_of ps j.params steps) ≡ changes_replay (changes_replay t before) after =
    ap (λ es. changes_replay t es) parts ∙ changes-append t before after in
    let same = parents_stay t before in
    let s = changes_replay t before in
    let fit = fit_front t before after (all_fit t (before ++ after) (subst (λ es. AllCanBeMade t es) parts can.1)) in
    let since : Since s (changes_replay s after) (OnPath s node) (OnPath s node) =
    since_spared net.tree s after node (schedule_state net before can.0 fit).is_state
    (subst (λ ps. node < length ps) (sym same) is_node)
    (subst (λ ps. Spare ps node after) (sym same) (spare_since j.tree can.0.tree j.params node is_node steps)) in
    subst (λ u. IsPrefix (received s (root_of ps)) (received u (root_of ps))) (sym end)
    (since.lists_grow (root_of ps) (subst (λ qs. Reaches qs node (root_of ps)) (sym same) (can.0.tree.reaches_root node is_node)))
