-- What is read as a job of a tree names a tree, and what is read as a scenario names steps as well;
-- so both are known for what they are, and what is said of them is said of their bytes.
use Rattle.std.proofs.Common.{◌≡◌, ◌≢◌, ◌≤◌, ℕ, List, length, Bool, true, false, Option, Some, None, Result, Ok, Err, All, codes, get_or, IfSome, is_some, if◌then◌else◌, option_and_then, refl, sym, ap, ◌∙◌, subst, arith}
use Rattle.serde_json.specs.Data.{Data}
use Rattle.serde_json.specs.Find.{as_array, get}
use Rattle.stab_job.specs.Jobs.{job}
use Rattle.stab_job.specs.JobValues.{JobValue, network}
use Rattle.stab_job.specs.Replays.{IsReplayReason}
use Rattle.stab_job.specs.declared.fault.JobFault.{JobFault}
use Rattle.stab_job.specs.Parts.{SameMembers, the_schedule}
use Rattle.stab_job.specs.Unscheduled.{IsUnscheduled, unscheduled}
use Rattle.stab_json.specs.Checks.{◌>>=◌, ◌or◌, ◌refused_as◌}
use Rattle.stab_json.specs.Values.{value_of}
use Rattle.stab_script.specs.Members.{HasNoOthers}
use Rattle.rignolda_commands.specs.Unanswered.{IsUnanswered}
use Rattle.stab_task.specs.declared.command.Task.TheVariants.{Link}
use Rattle.stab_task.specs.declared.fault.CliFault.{CliFault}
use Rattle.stab_task.specs.declared.fault.CliFault.TheVariants as task
use Rattle.stab_treecore.specs.Network.{IsNetwork}
use Rattle.stab_treecore.specs.Refusals.{NamesLink}
use Rattle.stab_treecore.specs.declared.fault.TreeStartFault.{TreeStartFault}
use Rattle.rignolda_explain.proofs.KnownKinds.{has_tree, job_is_a_tree, read_as_a_link, tree_is_other}
use Rattle.rignolda_scenario.specs.Counts.{IsUnrun}
use Rattle.rignolda_scenario.specs.Played.{changes_of, most_changes}
use Rattle.rignolda_scenario.specs.Refusals.{job_refused}
use Rattle.rignolda_scenario.specs.Scenarios.{scenario, steps_after, steps_of, with_steps}
use Rattle.rignolda_scenario.specs.declared.fault.ScenarioFault.{ScenarioFault}
use Rattle.rignolda_scenario.specs.declared.fault.ScenarioFault.TheVariants as scenario_fault
use Rattle.rignolda_scenario.specs.declared.read.Scenario.{Scenario}
use Rattle.rignolda_scenario.specs.declared.step.Step.{Step}
use Rattle.rignolda_commands.specs.Checked.{IsChecked, IsCheckedAs, IsCheckedLink, IsCheckedTree, IsUnchecked, IsUncheckedAs, IsUncheckedLink, IsUncheckedTree}
use Rattle.rignolda_commands.specs.Drawn.{IsDrawn, IsDrawnAs, IsDrawnBy, IsDrawnLink, IsUndrawn, IsUndrawnBy, has_steps, task_of}
use Rattle.rignolda_commands.specs.Told.{steps_refused}
use Rattle.rignolda_commands.specs.declared.run.Drawing.{Drawing}
use Rattle.rignolda_commands.specs.declared.run.Drawing.TheVariants.{Schedule}
use Rattle.rignolda_commands.specs.declared.fault.CommandFault.{CommandFault}
use Rattle.rignolda_commands.specs.declared.fault.CommandFault.TheVariants.{Job}
use Rattle.rignolda_commands.proofs.Told.{unread, unrun}

-- ---- what a job and a scenario name

-- so it has no steps either
link_has_no_steps : (o : Option Data) → IfSome o HasNoOthers → has_steps o ≡ false
link_has_no_steps None none = refl
link_has_no_steps (Some d) none = ap (λ m. if is_some m then is_some (get (codes "steps") d) else false) (none (codes "tree") tree_is_other)

-- the scenario of these steps
abbrev of_steps : JobValue → List Step → Result Scenario ScenarioFault
of_steps j steps = Ok (record { job = j; steps = steps })

-- a value whose steps are read has some
steps_needed : (d : Data) (j : JobValue) (its_scenario : Scenario) (o : Option Data) → get (codes "steps") d ≡ o
    → (steps_of j d >>= of_steps j) ≡ Ok its_scenario → is_some (get (codes "steps") d) ≡ true
steps_needed d j its_scenario None is read =
    absurd (let never : Err scenario_fault.Steps ≡ Ok its_scenario =
    subst (λ (o : Option Data). ((((option_and_then as_array o) or scenario_fault.Steps) >>= steps_after j.tree j.params 0) >>= of_steps j) ≡ Ok its_scenario) is read in cc)
steps_needed d j its_scenario (Some steps) is read = ap is_some is

-- and so do bytes that are a scenario, which are a job as well
of_both : (input : List ℕ) (its_scenario : Scenario) (o : Option Data) (r : Result JobValue JobFault) → value_of input ≡ o → job input ≡ r
    → ((r refused_as job_refused) >>= (λ its_job. with_steps (unscheduled its_job) input)) ≡ Ok its_scenario → has_steps (value_of input) ≡ true
of_both input its_scenario o (Err refusal) is whole read = absurd (let never : Err (job_refused refusal) ≡ Ok its_scenario = read in cc)
of_both input its_scenario None (Ok its_job) is whole read =
    let j = unscheduled its_job in
    absurd (let never : Err scenario_fault.Steps ≡ Ok its_scenario =
    subst (λ (o : Option Data). (((o or scenario_fault.Steps) >>= steps_of j) >>= of_steps j) ≡ Ok its_scenario) is read in cc)
of_both input its_scenario (Some d) (Ok its_job) is whole read =
    let j = unscheduled its_job in
    let steps =
    steps_needed d j its_scenario (get (codes "steps") d) refl
    (subst (λ (o : Option Data). (((o or scenario_fault.Steps) >>= steps_of j) >>= of_steps j) ≡ Ok its_scenario) is read) in
    ap has_steps is
    ∙ (ap (λ b. if b then is_some (get (codes "steps") d) else false) (has_tree input its_job d is whole) ∙ steps)

pub scenario_has_steps : (input : List ℕ) (its_scenario : Scenario) → scenario input ≡ Ok its_scenario → has_steps (value_of input) ≡ true
scenario_has_steps input its_scenario read = of_both input its_scenario (value_of input) (job input) refl refl read

-- the tree and the steps are members of other names than the schedule
tree_is_none : codes "tree" ≢ the_schedule
tree_is_none e = let at : get_or (codes "tree") 0 0 ≡ get_or the_schedule 0 0 = ap (λ s. get_or s 0 0) e in absurd (omega (arith, at))

steps_are_none : codes "steps" ≢ the_schedule
steps_are_none e = let at : get_or (codes "steps") 1 0 ≡ get_or the_schedule 1 0 = ap (λ s. get_or s 1 0) e in absurd (omega (arith, at))

same_steps : (d others : Data) → SameMembers d others → has_steps (Some others) ≡ has_steps (Some d)
same_steps d others same =
    ap (λ m. if is_some m then is_some (get (codes "steps") others) else false) (sym (same (codes "tree") tree_is_none))
    ∙ ap (λ m. if is_some (get (codes "tree") d) then is_some m else false) (sym (same (codes "steps") steps_are_none))

-- members that were read beside the schedule tell of the steps
pub with_their_steps : (input : List ℕ) (others : Data) → (d : Data) × (value_of input ≡ Some d) × SameMembers d others
    → has_steps (Some others) ≡ has_steps (value_of input)
with_their_steps input others (d, is, same) = same_steps d others same ∙ ap has_steps (sym is)

-- ---- a report that is checked

-- of a job of a tree
pub checked_as_a_tree : (input text : List ℕ) (its_job : JobValue) (obeys : Bool) (answer : List ℕ) → IsUnscheduled (job input) its_job
    → IsCheckedTree input text obeys answer → IsChecked input text obeys answer
checked_as_a_tree input text its_job obeys answer (whole, read, same) is =
    subst (λ k. IsCheckedAs k input text obeys answer) (sym (job_is_a_tree input whole read)) is

pub unchecked_as_a_tree : (input : List ℕ) (had : Option (List ℕ)) (its_job : JobValue) (fault : CommandFault) → IsUnscheduled (job input) its_job
    → IsUncheckedTree input had fault → IsUnchecked input had fault
unchecked_as_a_tree input had its_job fault (whole, read, same) why =
    subst (λ k. IsUncheckedAs k input had fault) (sym (job_is_a_tree input whole read)) why

-- of a link job
pub checked_as_a_link : (input text : List ℕ) (obeys : Bool) (answer : List ℕ) → IfSome (value_of input) HasNoOthers
    → IsCheckedLink input text obeys answer → IsChecked input text obeys answer
checked_as_a_link input text obeys answer none is =
    subst (λ k. IsCheckedAs k input text obeys answer) (sym (read_as_a_link (value_of input) none)) is

pub unchecked_as_a_link : (input : List ℕ) (had : Option (List ℕ)) (fault : CommandFault) → IfSome (value_of input) HasNoOthers
    → IsUncheckedLink input had fault → IsUnchecked input had fault
unchecked_as_a_link input had fault none why =
    subst (λ k. IsUncheckedAs k input had fault) (sym (read_as_a_link (value_of input) none)) why

-- ---- a run that is drawn

-- of a link job
pub drawn_as_a_link : (is_picture : Bool) (input : List ℕ) (drawn : Drawing) → IfSome (value_of input) HasNoOthers
    → IsDrawnLink is_picture input drawn → IsDrawn is_picture input drawn
drawn_as_a_link is_picture input drawn none is =
    subst (λ has. IsDrawnBy has is_picture input drawn) (sym (link_has_no_steps (value_of input) none))
    (subst (λ k. IsDrawnAs k is_picture input drawn) (sym (read_as_a_link (value_of input) none)) is)

pub undrawn_as_a_link : (input : List ℕ) (fault : CliFault) → IfSome (value_of input) HasNoOthers → IsUnanswered (Link false) input fault → IsUndrawn input (Job fault)
undrawn_as_a_link input fault none why =
    subst (λ has. IsUndrawnBy has input (Job fault)) (sym (link_has_no_steps (value_of input) none))
    (fault, refl, subst (λ k. IsUnanswered (task_of k) input fault) (sym (read_as_a_link (value_of input) none)) why)

-- of a job of a tree with steps, or without
pub undrawn_unread : (input : List ℕ) (refusal : ScenarioFault) → has_steps (value_of input) ≡ true
    → (refusal ≢ scenario_fault.Memory → scenario input ≡ Err refusal) → IsUndrawn input (steps_refused refusal)
undrawn_unread input refusal has why =
    subst (λ b. IsUndrawnBy b input (steps_refused refusal)) (sym has) (unread input refusal why)

pub drawn_with_steps : (is_picture : Bool) (input : List ℕ) (drawn : Drawing) (its_scenario : Scenario) → scenario input ≡ Ok its_scenario
    → (is_picture ≡ false → length (changes_of its_scenario.job.tree.parents its_scenario.job.params its_scenario.steps) ≤ most_changes)
    → IsDrawn is_picture input drawn
drawn_with_steps is_picture input drawn its_scenario read few =
    subst (λ has. IsDrawnBy has is_picture input drawn) (sym (scenario_has_steps input its_scenario read))
    (record { its_scenario = its_scenario; read = read; few = few })

pub undrawn_with_steps : (input : List ℕ) (its_scenario : Scenario) (refusal : ScenarioFault) → scenario input ≡ Ok its_scenario
    → IsUnrun its_scenario.job its_scenario.steps refusal → IsUndrawn input (steps_refused refusal)
undrawn_with_steps input its_scenario refusal read why =
    subst (λ has. IsUndrawnBy has input (steps_refused refusal)) (sym (scenario_has_steps input its_scenario read))
    (unrun input its_scenario refusal read why)

pub drawn_without_steps : (is_picture : Bool) (input : List ℕ) (drawn : Drawing) (its_job : JobValue) → job input ≡ Ok its_job
    → has_steps (value_of input) ≡ false → IsNetwork (network its_job) → All (NamesLink its_job.tree.parents) its_job.schedule
    → (is_picture ≡ false → drawn ≡ Schedule its_job) → IsDrawn is_picture input drawn
drawn_without_steps is_picture input drawn its_job read none begins named is =
    subst (λ has. IsDrawnBy has is_picture input drawn) (sym none)
    (subst (λ k. IsDrawnAs k is_picture input drawn) (sym (job_is_a_tree input its_job read))
    (record { job = its_job; read = read; begins = begins; named = named; its_run = is }))

pub undrawn_without_steps : (input : List ℕ) (its_job : JobValue) (fault : TreeStartFault) → job input ≡ Ok its_job → has_steps (value_of input) ≡ false
    → IsReplayReason its_job fault → IsUndrawn input (Job (task.Tree fault))
undrawn_without_steps input its_job fault read none why =
    subst (λ has. IsUndrawnBy has input (Job (task.Tree fault))) (sym none) (
      task.Tree fault,
      refl,
      subst (λ k. IsUnanswered (task_of k) input (task.Tree fault)) (sym (job_is_a_tree input its_job read)) (its_job, read, why),
    )
