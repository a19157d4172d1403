-- Why a part of a run failed, as a reason of the whole run.
use Rattle.std.proofs.Common.{◌≡◌, ◌≢◌, ℕ, List, Result, Ok, Err, IfErr, length, subst}
use Rattle.stab_job.specs.JobValues.{JobValue, network}
use Rattle.stab_ends.specs.Accounts.{ReceiverAccount, SenderAccount}
use Rattle.stab_lock.specs.declared.settle.SettleFault.{SettleFault}
use Rattle.stab_node.specs.declared.account.Ended.{Ended}
use Rattle.stab_node.specs.Runs.{HaveAsked, IsWorkersReason}
use Rattle.stab_node.specs.declared.workers_fault.WorkersFault.{WorkersFault}
use Rattle.stab_node.specs.declared.workers_fault.WorkersFault.TheVariants as workers
use Rattle.stab_run.specs.LinkKinds.{HaveOnePlace, IsLarge}
use Rattle.stab_run.specs.LinkRuns.{HoldsInto}
use Rattle.stab_run.specs.RunFaults.{CanStart, IsRunReason, IsSettlingReason, IsStartReason, of_workers}
use Rattle.stab_run.specs.declared.links.Links.{Links}
use Rattle.stab_run.specs.declared.links.Links.TheVariants.{Mixed, Words}
use Rattle.stab_run.specs.declared.run_fault.RunFault.{RunFault}
use Rattle.stab_run.specs.declared.run_fault.RunFault.TheVariants as run
use Rattle.stab_run.proofs.OfKinds.{locked_is_large, no_lock_of_words}

module _ (job : JobValue) (has_passed may_refuse : ℕ → ℕ → Type 0) (is_done : ℕ → Type 0) (links : Links) where
  pub start_refused : (fault : RunFault) → HaveOnePlace links job.params → IsStartReason job.tree.parents (network job).links fault
      → IsRunReason links job has_passed may_refuse is_done fault
  start_refused run.CapacityNotOne one_place why = absurd why
  start_refused (run.Start child reason) one_place why = (one_place, why)
  start_refused (run.Thread node) one_place why = absurd why
  start_refused (run.Node node reason) one_place why = absurd why
  start_refused (run.Settle child reason) one_place why = absurd why
  start_refused run.Memory one_place why = absurd why

  pub workers_gave_up : (refusal : WorkersFault) → CanStart links job
      → IsWorkersReason has_passed may_refuse is_done (length job.tree.parents) job.turns refusal
      → IsRunReason links job has_passed may_refuse is_done (of_workers refusal)
  workers_gave_up (workers.Thread node) can_start why = (can_start, why)
  workers_gave_up (workers.Node node reason) can_start why = (can_start, why)
  workers_gave_up workers.Memory can_start why = can_start

  pub settling_refused : (sends : List SenderAccount) (recvs : List ReceiverAccount) (ended : List Ended) (fault : RunFault) → CanStart links job
      → HaveAsked has_passed is_done (length job.tree.parents) job.turns ended
      → IsSettlingReason links job.tree.parents (network job).links sends recvs fault
      → IsRunReason links job has_passed may_refuse is_done fault
  settling_refused sends recvs ended run.CapacityNotOne can_start asked why = absurd why
  settling_refused sends recvs ended (run.Start child reason) can_start asked why = absurd why
  settling_refused sends recvs ended (run.Thread node) can_start asked why = absurd why
  settling_refused sends recvs ended (run.Node node reason) can_start asked why = absurd why
  settling_refused sends recvs ended (run.Settle child reason) can_start asked why =
      (can_start, record { link = why.link; leads = why.leads; holds = why.refused.0 }, ended, asked)
  settling_refused sends recvs ended run.Memory can_start asked why = can_start

module _ (job : JobValue) (has_passed may_refuse : ℕ → ℕ → Type 0) (is_done : ℕ → Type 0) where
  -- no link of words is called different
  pub no_word_differs : (fault : RunFault) → IsRunReason Words job has_passed may_refuse is_done fault → (child : ℕ) (why : SettleFault)
      → fault ≢ run.Settle child why
  no_word_differs fault known child why is =
      let reason : IsRunReason Words job has_passed may_refuse is_done (run.Settle child why) =
      subst (λ f. IsRunReason Words job has_passed may_refuse is_done f) is known in
      no_lock_of_words reason.1.link reason.1.holds

  -- where capacities of one are words, a link that is called different has a larger one
  pub only_large_differ : {T : Type 0} (result : Result T RunFault) → IfErr result (λ fault. IsRunReason Mixed job has_passed may_refuse is_done fault)
      → IfErr result (λ fault. (child : ℕ) (why : SettleFault) → fault ≡ run.Settle child why
      → HoldsInto IsLarge job.tree.parents (network job).links child)
  only_large_differ (Ok report) known = tt
  only_large_differ (Err fault) known = λ child why is.
      let reason : IsRunReason Mixed job has_passed may_refuse is_done (run.Settle child why) =
      subst (λ f. IsRunReason Mixed job has_passed may_refuse is_done f) is known in
      record { link = reason.1.link; leads = reason.1.leads; holds = locked_is_large reason.1.link reason.1.holds }
