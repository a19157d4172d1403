-- A task refuses bytes for one reason at most, and bytes that it refuses have no answer.
use Rattle.std.proofs.Common.{◌≡◌, ◌≢◌, ◌<◌, ◌≤◌, ◌⊎◌, ◌∙◌, ℕ, List, [], ◌∷◌, length, Option, Some, None, Result, Ok, Err, All, IfSome, IfErr, IsErr, IsErrAnd, IsSome, refl, ap, sym, subst, inl, inr, arith, rules}
use Rattle.std.proofs.lemmas.Bool.{cases_order}
use Rattle.std.proofs.lemmas.List.Elements.{All-head, All-tail}
use Rattle.std.proofs.lemmas.Option.{same_Some}
use Rattle.stab_core.specs.declared.start.StartFault.{StartFault}
use Rattle.stab_core.specs.declared.start.StartFault.TheVariants.{TooManyFrames, TooManyAcks, Memory as no_memory_at_start}
use Rattle.stab_core.specs.Link.{IsReason}
use Rattle.stab_core.specs.LinkSetup.{CanBegin, LinkSetup, setup, setups}
use Rattle.stab_core.specs.Replay.{IsLawful}
use Rattle.stab_job.specs.JobValues.{JobValue, network}
use Rattle.stab_job.specs.Jobs.{job as whole_job}
use Rattle.stab_job.proofs.ForCallers.{not_lawful, not_all_begin, first_of, all_named}
use Rattle.stab_run.specs.Runs.{IsFirstUnlawful}
use Rattle.stab_run.specs.declared.links.Links.{Links}
use Rattle.stab_run.specs.declared.run_fault.RunFault.{RunFault}
use Rattle.stab_run.specs.declared.run_fault.RunFault.TheVariants as run
use Rattle.stab_script.specs.declared.link_job.LinkJob.{LinkJob as OneLink}
use Rattle.stab_script.specs.LinkJobs.{link_job}
use Rattle.stab_tree.specs.Nodes.{parent_at}
use Rattle.stab_tree.proofs.ForCallers.{holds_by_child}
use Rattle.stab_treecore.specs.Refusals.{IsFirstFault, IsOpeningReason, IsScheduleReason, NamesLink, NamesNoLink, ReachesEvent}
use Rattle.stab_treecore.specs.TreeReplay.{initial_tree}
use Rattle.stab_treecore.specs.TreeStep.{tree_step}
use Rattle.stab_treecore.specs.WholeTree.{WholeTree}
use Rattle.stab_treecore.specs.declared.event.TreeEvent.{TreeEvent}
use Rattle.stab_treecore.specs.declared.fault.TreeStartFault.{TreeStartFault}
use Rattle.stab_treecore.specs.declared.fault.TreeStartFault.TheVariants as tree
use Rattle.stab_treecore.specs.declared.fault.TreeStepFault.TheVariants.{NoSuchLink, Memory as no_memory_at_step}
use Rattle.stab_task.specs.Answers.{IsAnswer, IsFault, IsFreeRunReason, IsRunText, IsTaskAnswer, IsTaskFault}
use Rattle.stab_task.specs.Loading.{IsLoadFault, fault_of_load, most_bytes}
use Rattle.stab_task.specs.Refusals.{IsOfBytes, IsOfLinks, IsOfSchedule, IsRefused}
use Rattle.stab_task.specs.declared.command.Task.{Task}
use Rattle.stab_task.specs.declared.command.Task.TheVariants.{Link, Tree as WholeTreeTask, Run as RunTask}
use Rattle.stab_task.specs.declared.fault.CliFault.{CliFault}
use Rattle.stab_task.specs.declared.fault.CliFault.TheVariants.{TooLong, LinkJob, Job, Start, Tree, Run}
use Rattle.stab_task.specs.declared.file.LoadFault.{LoadFault}
use Rattle.stab_task.specs.declared.file.LoadFault.TheVariants as load

-- ---- one link

-- it is refused for one reason
one_reason : (link : LinkSetup) (f g : StartFault) → f ≢ no_memory_at_start → g ≢ no_memory_at_start
    → IsReason link.params link.start f → IsReason link.params link.start g → f ≡ g
one_reason link TooManyFrames TooManyFrames f_named g_named first second = refl
one_reason link TooManyFrames TooManyAcks f_named g_named first second = absurd (omega (arith, first, second.0))
one_reason link TooManyAcks TooManyFrames f_named g_named first second = absurd (omega (arith, first.0, second))
one_reason link TooManyAcks TooManyAcks f_named g_named first second = refl
one_reason link no_memory_at_start g f_named g_named first second = absurd (f_named refl)
one_reason link TooManyFrames no_memory_at_start f_named g_named first second = absurd (g_named refl)
one_reason link TooManyAcks no_memory_at_start f_named g_named first second = absurd (g_named refl)

-- ---- the links of a tree

-- the first fault among the starts is one
one_first : (links : List LinkSetup) (f g : StartFault) → f ≢ no_memory_at_start → g ≢ no_memory_at_start
    → IsFirstFault links f → IsFirstFault links g → f ≡ g
one_first [] f g f_named g_named first second = absurd first
one_first (link ∷ links) f g f_named g_named (inl here) (inl here_too) = one_reason link f g f_named g_named here here_too
one_first (link ∷ links) f g f_named g_named (inl here) (inr later) = absurd (not_lawful link f f_named here later.0.1)
one_first (link ∷ links) f g f_named g_named (inr later) (inl here) = absurd (not_lawful link g g_named here later.0.1)
one_first (link ∷ links) f g f_named g_named (inr later) (inr later_too) = one_first links f g f_named g_named later.1 later_too.1

-- a schedule is refused for one reason
one_of_schedule : (job : JobValue) (f g : TreeStartFault) → IsOfSchedule f → IsOfSchedule g
    → IsScheduleReason job.params job.starts (network job) job.schedule f
    → IsScheduleReason job.params job.starts (network job) job.schedule g → f ≡ g
one_of_schedule job tree.StartCount g of_f of_g first second = absurd of_f
one_of_schedule job (tree.Start f) tree.StartCount of_f of_g first second = absurd of_g
one_of_schedule job (tree.Start f) (tree.Start g) of_f of_g first second =
    let links = setups job.params job.starts in
    ap tree.Start (one_first links f g of_f of_g (first_of links f of_f first.2) (first_of links g of_g second.2))
one_of_schedule job (tree.Start f) (tree.Step g) of_f of_g first second =
    let links = setups job.params job.starts in
    absurd (not_all_begin links f of_f (first_of links f of_f first.2) second.2)
one_of_schedule job (tree.Step f) tree.StartCount of_f of_g first second = absurd of_g
one_of_schedule job (tree.Step f) (tree.Start g) of_f of_g first second =
    let links = setups job.params job.starts in
    absurd (not_all_begin links g of_g (first_of links g of_g second.2) first.2)
one_of_schedule job (tree.Step NoSuchLink) (tree.Step NoSuchLink) of_f of_g first second = refl
one_of_schedule job (tree.Step NoSuchLink) (tree.Step no_memory_at_step) of_f of_g first second = absurd (of_g refl)
one_of_schedule job (tree.Step no_memory_at_step) (tree.Step g) of_f of_g first second = absurd (of_f refl)

-- a schedule with a final state is refused for memory alone
none_of_schedule : (job : JobValue) (fault : TreeStartFault) → All CanBegin (setups job.params job.starts)
    → All (NamesLink job.tree.parents) job.schedule → IsOfSchedule fault
    → IsScheduleReason job.params job.starts (network job) job.schedule fault → ⊥
none_of_schedule job tree.StartCount begin named of_fault reason = of_fault
none_of_schedule job (tree.Start fault) begin named of_fault reason =
    let links = setups job.params job.starts in
    not_all_begin links fault of_fault (first_of links fault of_fault reason.2) begin
none_of_schedule job (tree.Step NoSuchLink) begin named of_fault reason = all_named (initial_tree (network job)) job.schedule named reason.3
none_of_schedule job (tree.Step no_memory_at_step) begin named of_fault reason = of_fault refl

-- ---- a run

-- the first link that cannot begin is one, and for one reason
one_unlawful : (parents : List (Option ℕ)) (links : List LinkSetup) (c d : ℕ) (f g : StartFault)
    → IsFirstUnlawful parents links c f → IsFirstUnlawful parents links d g → (c ≡ d) × (f ≡ g)
one_unlawful parents links c d f g first second = go (cases_order c d)
  where
    go : (c ≡ d) ⊎ ((c < d) ⊎ (d < c)) → (c ≡ d) × (f ≡ g)
    go (inl same) =
        let there : IsFirstUnlawful parents links c g = subst (λ k. IsFirstUnlawful parents links k g) (sym same) second in
        let same_link : there.link ≡ first.link = same_Some there.link first.link (sym there.leads ∙ first.leads) in
        let reason : IsReason first.link.params first.link.start g = subst (λ link. IsReason link.params link.start g) same_link there.reason in (
          same,
          one_reason first.link f g
              (λ e. first.unlawful (subst (λ fault. IsReason first.link.params first.link.start fault) e first.reason))
              (λ e. first.unlawful (subst (λ fault. IsReason first.link.params first.link.start fault) e reason))
              first.reason reason,
        )
    go (inr (inl before)) = absurd (first.unlawful (second.begins_before c first.link before first.leads).1)
    go (inr (inr after)) = absurd (second.unlawful (first.begins_before d second.link after second.leads).1)

-- the links of a run are refused for one reason
one_of_links : (links : Links) (job : JobValue) (f g : RunFault) → IsOfLinks f → IsOfLinks g
    → IsFreeRunReason links job f → IsFreeRunReason links job g → f ≡ g
one_of_links links job run.CapacityNotOne run.CapacityNotOne of_f of_g first second = refl
one_of_links links job run.CapacityNotOne (run.Start d g) of_f of_g first second = absurd (first second.0)
one_of_links links job (run.Start c f) run.CapacityNotOne of_f of_g first second = absurd (second first.0)
one_of_links links job (run.Start c f) (run.Start d g) of_f of_g first second =
    let same = one_unlawful job.tree.parents (setups job.params job.starts) c d f g first.1 second.1 in
    ap (λ k. run.Start k f) same.0 ∙ ap (λ fault. run.Start d fault) same.1
one_of_links links job run.CapacityNotOne (run.Thread node) of_f of_g first second = absurd of_g
one_of_links links job run.CapacityNotOne (run.Node node why) of_f of_g first second = absurd of_g
one_of_links links job run.CapacityNotOne (run.Settle child why) of_f of_g first second = absurd of_g
one_of_links links job run.CapacityNotOne run.Memory of_f of_g first second = absurd of_g
one_of_links links job (run.Start c f) (run.Thread node) of_f of_g first second = absurd of_g
one_of_links links job (run.Start c f) (run.Node node why) of_f of_g first second = absurd of_g
one_of_links links job (run.Start c f) (run.Settle child why) of_f of_g first second = absurd of_g
one_of_links links job (run.Start c f) run.Memory of_f of_g first second = absurd of_g
one_of_links links job (run.Thread node) g of_f of_g first second = absurd of_f
one_of_links links job (run.Node node why) g of_f of_g first second = absurd of_f
one_of_links links job (run.Settle child why) g of_f of_g first second = absurd of_f
one_of_links links job run.Memory g of_f of_g first second = absurd of_f

-- a run with a report had no such reason
none_of_links : (links : Links) (job : JobValue) (text : List ℕ) (fault : RunFault) → IsRunText links job text → IsOfLinks fault
    → IsFreeRunReason links job fault → ⊥
none_of_links links job text run.CapacityNotOne ran of_fault reason = reason ran.holds.one_place
none_of_links links job text (run.Start child fault) ran of_fault reason =
    let first = reason.1 in
    first.unlawful (holds_by_child CanBegin job.tree.parents (setups job.params job.starts) child first.link ran.holds.network.can_begin first.leads).1
none_of_links links job text (run.Thread node) ran of_fault reason = of_fault
none_of_links links job text (run.Node node why) ran of_fault reason = of_fault
none_of_links links job text (run.Settle child why) ran of_fault reason = of_fault
none_of_links links job text run.Memory ran of_fault reason = of_fault

-- ---- what a reader made of the bytes, and a reason why its job has no answer

-- a fault is that of the reader, or a reason of the job that was read
abbrev IsOneOf : {J E F : Type 0} → Result J E → (E → CliFault) → (F → CliFault) → (J → F → Type 0) → CliFault → Type 0
IsOneOf {J} {E} {F} read of_reader of_job Reason fault =
    ((e : E) × (fault ≡ of_reader e) × (read ≡ Err e)) ⊎ ((j : J) × (f : F) × (fault ≡ of_job f) × (read ≡ Ok j) × Reason j f)

-- there is one such fault, where a job has one reason
only_one : {J E F : Type 0} (read : Result J E) (of_reader : E → CliFault) (of_job : F → CliFault) (Reason : J → F → Type 0) (a b : CliFault)
    → ((j : J) (f g : F) → Reason j f → Reason j g → f ≡ g)
    → IsOneOf read of_reader of_job Reason a → IsOneOf read of_reader of_job Reason b → a ≡ b
only_one read of_reader of_job Reason a b one (inl (e, is_a, refused)) (inl (d, is_b, refused_too)) =
    let same : e ≡ d = cc in
    is_a ∙ (ap of_reader same ∙ sym is_b)
only_one read of_reader of_job Reason a b one (inl (e, is_a, refused)) (inr (j, g, is_b, taken, reason)) = cc
only_one read of_reader of_job Reason a b one (inr (j, f, is_a, taken, reason)) (inl (d, is_b, refused)) = cc
only_one {J} read of_reader of_job Reason a b one (inr (j, f, is_a, taken, reason)) (inr (i, g, is_b, taken_too, reason_too)) =
    let same : i ≡ j = cc in
    is_a ∙ (ap of_job (one j f g reason (subst (λ (k : J). Reason k g) same reason_too)) ∙ sym is_b)

-- and none, where a job was read that has no reason
not_one : {J E F : Type 0} (read : Result J E) (of_reader : E → CliFault) (of_job : F → CliFault) (Reason : J → F → Type 0) (a : CliFault) (job : J)
    → read ≡ Ok job → ((f : F) → Reason job f → ⊥) → IsOneOf read of_reader of_job Reason a → ⊥
not_one read of_reader of_job Reason a job taken none (inl (e, is_a, refused)) = cc
not_one {J} read of_reader of_job Reason a job taken none (inr (j, f, is_a, taken_too, reason)) =
    let same : j ≡ job = cc in
    none f (subst (λ (k : J). Reason k f) same reason)

-- ---- the tasks

-- the refusals of each task
abbrev LinkReason : OneLink → StartFault → Type 0
LinkReason job fault = (fault ≢ no_memory_at_start) × IsReason job.params job.start fault

abbrev TreeReason : JobValue → TreeStartFault → Type 0
TreeReason job fault = IsOfSchedule fault × IsScheduleReason job.params job.starts (network job) job.schedule fault

abbrev RunReason : Links → JobValue → RunFault → Type 0
RunReason links job fault = IsOfLinks fault × IsFreeRunReason links job fault

abbrev IsTasks : Task → List ℕ → CliFault → Type 0
IsTasks (Link trace) input fault = IsOneOf (link_job input) LinkJob Start LinkReason fault
IsTasks WholeTreeTask input fault = IsOneOf (whole_job input) Job Tree TreeReason fault
IsTasks (RunTask links) input fault = IsOneOf (whole_job input) Job Run (RunReason links) fault

of_task : (task : Task) (input : List ℕ) (fault : CliFault) → length input ≤ most_bytes → IsOfBytes fault → IsFault task input fault
    → IsTasks task input fault
of_task (Link trace) input (LinkJob e) few of_bytes is = inl (e, refl, is of_bytes)
of_task (Link trace) input (Start f) few of_bytes is = inr (is.0, f, refl, is.1, (of_bytes, is.2))
of_task WholeTreeTask input (Job e) few of_bytes is = inl (e, refl, is of_bytes)
of_task WholeTreeTask input (Tree f) few of_bytes is = inr (is.0, f, refl, is.1, (of_bytes, is.2))
of_task (RunTask links) input (Job e) few of_bytes is = inl (e, refl, is of_bytes)
of_task (RunTask links) input (Run f) few of_bytes is = inr (is.0, f, refl, is.1, (of_bytes, is.2))
of_task task input TooLong few of_bytes is = absurd (omega (arith, few, is))
of_task task input fault few of_bytes is = absurd (search rules)

-- bytes have one refusal
one : (task : Task) (input : List ℕ) (a b : CliFault) → IsTasks task input a → IsTasks task input b → a ≡ b
one (Link trace) input a b first second =
    only_one (link_job input) LinkJob Start LinkReason a b
    (λ job f g x y. one_reason (setup job.params job.start) f g x.0 y.0 x.1 y.1) first second
one WholeTreeTask input a b first second =
    only_one (whole_job input) Job Tree TreeReason a b (λ job f g x y. one_of_schedule job f g x.0 y.0 x.1 y.1) first second
one (RunTask links) input a b first second =
    only_one (whole_job input) Job Run (RunReason links) a b (λ job f g x y. one_of_links links job f g x.0 y.0 x.1 y.1) first second

-- bytes with an answer have none
none : (task : Task) (input text : List ℕ) (a : CliFault) → IsAnswer task input text → IsTasks task input a → ⊥
none (Link trace) input text a answer refused =
    not_one (link_job input) LinkJob Start LinkReason a answer.job answer.read
    (λ f why. not_lawful (setup answer.job.params answer.job.start) f why.0 why.1 answer.lawful) refused
none WholeTreeTask input text a answer refused =
    not_one (whole_job input) Job Tree TreeReason a answer.job answer.read
    (λ f why. none_of_schedule answer.job f answer.network.can_begin answer.named why.0 why.1) refused
none (RunTask links) input text a answer refused =
    not_one (whole_job input) Job Run (RunReason links) a answer.job answer.read
    (λ f why. none_of_links links answer.job text f answer.run why.0 why.1) refused

-- bytes that are too many are refused as such
too_long : (task : Task) (input : List ℕ) (refusal : CliFault) → IsRefused task input refusal → most_bytes < length input → TooLong ≡ refusal
too_long task input TooLong why many = refl
too_long task input refusal why many = absurd (omega (arith, why.looked_into, many))

-- so the fault of bytes that are loaded is their refusal, if it is one that bytes decide
loaded : (task : Task) (input : List ℕ) (fault refusal : CliFault) → length input ≤ most_bytes → IsFault task input fault
    → IsRefused task input refusal → IsOfBytes fault → fault ≡ refusal
loaded task input fault refusal few is why of_bytes =
    one task input fault refusal (of_task task input fault few of_bytes is) (of_task task input refusal few why.of_bytes why.is_fault)

-- and so is the fault of bytes that cannot be loaded
unloaded : (task : Task) (input : List ℕ) (refusal : CliFault) (why : LoadFault) → IsLoadFault (Some input) why → IsRefused task input refusal
    → IsOfBytes (fault_of_load why) → fault_of_load why ≡ refusal
unloaded task input refusal load.Read is why of_bytes = absurd of_bytes
unloaded task input refusal load.TooLong is why of_bytes = too_long task input refusal why is
unloaded task input refusal load.Memory is why of_bytes = absurd of_bytes

-- a task that fails fails for the refusal of the bytes, or for what bytes do not decide
refused : (task : Task) (had : Option (List ℕ)) (fault : CliFault) → IsTaskFault task had fault
    → IfSome had (λ input. (refusal : CliFault) → IsRefused task input refusal → IsOfBytes fault → fault ≡ refusal)
refused task None fault is = tt
refused task (Some input) fault (inl (load_fault, same, is)) =
    λ refusal why of_bytes. same ∙ unloaded task input refusal load_fault is why (subst IsOfBytes same of_bytes)
refused task (Some input) fault (inr (bytes, whole, is)) =
    λ refusal why of_bytes.
    loaded task input fault refusal (subst (λ xs. length xs ≤ most_bytes) whole.all whole.not_too_long)
    (subst (λ xs. IsFault task xs fault) whole.all is) why of_bytes

-- the same of a result
pub failed : {A : Type 0} (task : Task) (had : Option (List ℕ)) (r : Result A CliFault) → IsErr r → IfErr r (IsTaskFault task had)
    → IfSome had (λ input. (refusal : CliFault) → IsRefused task input refusal → IsErrAnd r (λ fault. IsOfBytes fault → fault ≡ refusal))
failed task had (Ok x) fails why = absurd cc
failed task had (Err fault) fails why = refused task had fault why

-- bytes with an answer are refused for nothing
pub answered : (task : Task) (had : Option (List ℕ)) (text : List ℕ) → IsTaskAnswer task had text
    → IfSome had (λ input. (refusal : CliFault) → IsRefused task input refusal → ⊥)
answered task None text is = tt
answered task (Some input) text (bytes, whole, is) =
    λ refusal why.
    let few : length input ≤ most_bytes = subst (λ xs. length xs ≤ most_bytes) whole.all whole.not_too_long in
    none task input text refusal (subst (λ xs. IsAnswer task xs text) whole.all is)
    (of_task task input refusal few why.of_bytes why.is_fault)
