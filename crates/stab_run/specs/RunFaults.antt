-- Why a run gives no report: first by the part of the run that the fault comes of, and then the
-- whole of it.
-- Example: For the chain r, a, b of which the link into a cannot begin, a run over locks is refused
-- with the fault of that start at a. `IsRunReason` of a fault of a worker asks that every start can
-- begin, so no such fault is answered there.
-- Source: this project's own.
use Rattle.std.specs.Prelude.{ℕ, List, length, All, Option}
use Rattle.stab_core.specs.LinkSetup.{CanBegin, LinkSetup}
use Rattle.stab_job.specs.JobValues.{JobValue, network}
use Rattle.stab_ends.specs.Accounts.{SenderAccount, ReceiverAccount}
use Rattle.stab_node.specs.declared.account.Ended.{Ended}
use Rattle.stab_node.specs.Runs.{HaveAsked, IsWorkersReason}
use Rattle.stab_run.specs.AnyLinks.{MayDiffer}
use Rattle.stab_run.specs.LinkKinds.{HaveOnePlace, IsLocked}
use Rattle.stab_run.specs.LinkRuns.{HoldsInto, IsFirstRefused}
use Rattle.stab_run.specs.Runs.{IsFirstUnlawful}
use Rattle.stab_run.specs.declared.links.Links.{Links}
use Rattle.stab_run.specs.declared.run_fault.RunFault.{RunFault}
use Rattle.stab_run.specs.declared.run_fault.RunFault.TheVariants as run
use Rattle.stab_node.specs.declared.workers_fault.WorkersFault.{WorkersFault}
use Rattle.stab_node.specs.declared.workers_fault.WorkersFault.TheVariants as workers

-- each fault of the workers has a fault of the run of the same name
abbrev pub of_workers : WorkersFault → RunFault
of_workers (workers.Thread node) = run.Thread node
of_workers (workers.Node node fault) = run.Node node fault
of_workers workers.Memory = run.Memory

-- a start is refused: it is the first in file order that its link cannot begin from
abbrev pub IsStartReason : List (Option ℕ) → List LinkSetup → RunFault → Type 0
IsStartReason parents links (run.Start child reason) = IsFirstUnlawful parents links child reason
IsStartReason parents links fault = ⊥

-- the links are not all settled with these accounts: this is the first that is called different
abbrev pub IsSettlingReason : Links → List (Option ℕ) → List LinkSetup → List SenderAccount
    → List ReceiverAccount → RunFault → Type 0
IsSettlingReason links parents setups sends recvs (run.Settle child why) =
    IsFirstRefused (MayDiffer links) parents setups sends recvs child why
IsSettlingReason links parents setups sends recvs run.Memory = Unit {0}
IsSettlingReason links parents setups sends recvs fault = ⊥

-- each link has the capacity that a run over these links asks for, and can begin
abbrev pub CanStart : Links → JobValue → Type 0
CanStart links job = HaveOnePlace links job.params × All CanBegin (network job).links

-- Why a run of a job over these links gives no report, by what its gate says of turns and nodes.
-- The capacities are looked at first, and by a run over words alone. A start is the first that its
-- link cannot begin from, and the faults after it come only where every link can. A link is called
-- different only after the turns of all workers, and only where it has a lock.
abbrev pub IsRunReason : Links → JobValue → (ℕ → ℕ → Type 0) → (ℕ → ℕ → Type 0) → (ℕ → Type 0)
    → RunFault → Type 0
IsRunReason links job has_passed may_refuse is_done run.CapacityNotOne =
    ¬ HaveOnePlace links job.params
IsRunReason links job has_passed may_refuse is_done (run.Start child reason) =
    HaveOnePlace links job.params
    × IsFirstUnlawful job.tree.parents (network job).links child reason
IsRunReason links job has_passed may_refuse is_done (run.Settle child why) =
    CanStart links job × HoldsInto (IsLocked links) job.tree.parents (network job).links child
    × (ended : List Ended) × HaveAsked has_passed is_done (length job.tree.parents) job.turns ended
IsRunReason links job has_passed may_refuse is_done (run.Thread node) =
    CanStart links job × IsWorkersReason has_passed may_refuse is_done (length job.tree.parents)
    job.turns (workers.Thread node)
IsRunReason links job has_passed may_refuse is_done (run.Node node why) =
    CanStart links job × IsWorkersReason has_passed may_refuse is_done (length job.tree.parents)
    job.turns (workers.Node node why)
IsRunReason links job has_passed may_refuse is_done run.Memory = CanStart links job
