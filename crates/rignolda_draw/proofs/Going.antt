-- A run stops at the first event that names no link; where there is none, all name links.
use Rattle.std.proofs.Common.{◌≡◌, ℕ, ◌+◌, ◌<◌, ◌≤◌, List, ◌∷◌, length, get_or, drop, All, ap, sym, subst, ◌∙◌, inl, inr}
use Rattle.std.proofs.lemmas.List.{drop_all, drop_more}
use Rattle.std.proofs.lemmas.List.Elements.{All-cons, All-nil}
use Rattle.stab_core.specs.declared.start.StartFault.TheVariants.{Memory}
use Rattle.stab_job.specs.JobValues.{IsJob, JobValue, network}
use Rattle.stab_job.specs.Replays.{IsReplayReason}
use Rattle.stab_treecore.specs.declared.event.TreeEvent.{TreeEvent}
use Rattle.stab_treecore.specs.declared.fault.TreeStartFault.TheVariants.{Start, Step}
use Rattle.stab_treecore.specs.declared.fault.TreeStepFault.TheVariants.{NoSuchLink}
use Rattle.stab_treecore.specs.Network.{IsNetwork}
use Rattle.stab_treecore.specs.Refusals.{IsStepReason, NamesLink, NamesNoLink}
use Rattle.stab_treecore.specs.TreeReplay.{initial_tree}
use Rattle.stab_treecore.specs.TreeStep.{tree_step}
use Rattle.stab_treecore.specs.WholeTree.{WholeTree}

-- a run goes on with these events: all name links where these do, and one that names none among
-- these is one of all
pub record GoesOn (now : WholeTree) (rest : List TreeEvent) (t : WholeTree) (events : List TreeEvent) : Type 0 where
  pub named : All (NamesLink now.parents) rest → All (NamesLink t.parents) events
  pub stops : IsStepReason now rest NoSuchLink → IsStepReason t events NoSuchLink

-- it begins with all of them
pub begins : (t : WholeTree) (events : List TreeEvent) → GoesOn t events t events
begins t events = record { named = λ all. all; stops = λ reason. reason }

module _ (t now : WholeTree) (events : List TreeEvent) (i : ℕ) (e : TreeEvent) (within : i < length events) (is : e ≡ get_or events i e)
    (goes : GoesOn now (drop i events) t events) where
  pub next : drop i events ≡ e ∷ drop (i + 1) events
  next = drop_more events i e within ∙ ap (λ x. x ∷ drop (i + 1) events) (sym is)

  -- it stops at an event that names no link
  pub stops_here : NamesNoLink now.parents e → IsStepReason t events NoSuchLink
  stops_here none = goes.stops (subst (λ es. IsStepReason now es NoSuchLink) (sym next) (inl none))

  -- and goes on after one that names a link
  pub one_further : (after : WholeTree) → after ≡ tree_step now e → NamesLink now.parents e → GoesOn after (drop (i + 1) events) t events
  one_further after made named =
      subst (λ s. GoesOn s (drop (i + 1) events) t events) (sym made)
      (record {
        named = λ all. goes.named (subst (λ es. All (NamesLink now.parents) es) (sym next)
            (All-cons (NamesLink now.parents) e (drop (i + 1) events) named all));
        stops = λ reason. goes.stops (subst (λ es. IsStepReason now es NoSuchLink) (sym next) (inr (named, reason)));
      })

-- at its end all named links
pub all_named : (t now : WholeTree) (events : List TreeEvent) (i : ℕ) → length events ≤ i → GoesOn now (drop i events) t events
    → All (NamesLink t.parents) events
all_named t now events i over goes =
    goes.named (subst (λ es. All (NamesLink now.parents) es) (sym (drop_all i events over)) (All-nil (NamesLink now.parents)))

-- so a job is not replayed to its end
pub no_such_link : (j : JobValue) → IsJob j → IsNetwork (network j) → IsStepReason (initial_tree (network j)) j.schedule NoSuchLink
    → IsReplayReason j (Step NoSuchLink)
no_such_link j is net reason = (is.one_params_each, is.one_start_each, net.can_begin, reason)

-- and memory may be refused wherever it can begin
pub out_of_memory : (j : JobValue) → IsJob j → IsNetwork (network j) → IsReplayReason j (Start Memory)
out_of_memory j is net = (is.one_params_each, is.one_start_each, net.can_begin)
