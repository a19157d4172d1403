-- A run over a list of changes, one by one.
use Rattle.std.proofs.Common.{◌≡◌, ℕ, zero, suc, ◌+◌, ◌<◌, List, [], ◌∷◌, ◌++◌, length, take, get_or, All, refl, ap, sym, ◌∙◌, subst, add-one, inl, inr, arith}
use Rattle.stab_frames.specs.Parameters.{Parameters}
use Rattle.stab_core.specs.declared.start.Start.{Start}
use Rattle.stab_core.specs.LinkSetup.{CanBegin}
use Rattle.stab_treecore.specs.declared.fault.TreeStartFault.{TreeStartFault}
use Rattle.stab_treecore.specs.Network.{Network}
use Rattle.stab_treecore.specs.Refusals.{OnePerLink}
use Rattle.stab_treecore.specs.TreeReplay.{initial_tree}
use Rattle.stab_treecore.specs.WholeTree.{WholeTree}
use Rattle.stab_treecore.specs.Changes.{Change, Act, Publish, Strike, Restart, change_step, changes_replay, Fit, FitsTree}
use Rattle.stab_treecore.specs.declared.change_fault.ChangeFault.{ChangeFault}
use Rattle.stab_treecore.specs.declared.change_fault.ChangeFault.TheVariants as fault
use Rattle.stab_treecore.specs.ChangeRefusals.{AllCanBeMade, CanBeMade, IsChangeReason, IsReasonAt, ReachesChange}

replay_next : (t : WholeTree) (changes : List Change) (i : ℕ) (change : Change) → i < length changes → change ≡ get_or changes i change
    → changes_replay t (take (suc i) changes) ≡ change_step (changes_replay t (take i changes)) change
replay_next t [] i change within is = absurd (omega arith)
replay_next t (x ∷ xs) zero change within is = ap (λ e. change_step t e) (sym is)
replay_next t (x ∷ xs) (suc i) change within is = replay_next (change_step t x) xs i change (omega arith) is

-- changes that can be made fit
able_fit : (t : WholeTree) (change : Change) → CanBeMade t change → FitsTree t change
able_fit t (Act e) able = tt
able_fit t (Publish items) able = tt
able_fit t (Strike child start) able = able.1
able_fit t (Restart node list) able = tt

pub all_fit : (t : WholeTree) (changes : List Change) → AllCanBeMade t changes → Fit t changes
all_fit t [] able = tt
all_fit t (change ∷ changes) able = (able_fit t change able.0, all_fit (change_step t change) changes able.1)

able_next : (t : WholeTree) (changes : List Change) (i : ℕ) (change : Change) → i < length changes → change ≡ get_or changes i change
    → AllCanBeMade t (take i changes) → CanBeMade (changes_replay t (take i changes)) change → AllCanBeMade t (take (suc i) changes)
able_next t [] i change within is able can = absurd (omega arith)
able_next t (x ∷ xs) zero change within is able can = (subst (CanBeMade t) is can, tt)
able_next t (x ∷ xs) (suc i) change within is able can = (able.0, able_next (change_step t x) xs i change (omega arith) is able.1 can)

-- a change of which something holds is reached, where those before it can be made
pub reached : (P : WholeTree → Change → Type 0) (t : WholeTree) (changes : List Change) (i : ℕ) (change : Change) → i < length changes
    → change ≡ get_or changes i change → AllCanBeMade t (take i changes) → P (changes_replay t (take i changes)) change
    → ReachesChange P t changes
reached P t [] i change within is able holds = absurd (omega arith)
reached P t (x ∷ xs) zero change within is able holds = inl (subst (P t) is holds)
reached P t (x ∷ xs) (suc i) change within is able holds =
    inr (able.0, reached P (change_step t x) xs i change (omega arith) is able.1 holds)

-- no change is refused as a tree that cannot begin
never_begins : (refused : TreeStartFault) (t : WholeTree) (change : Change) → IsReasonAt (fault.Begin refused) t change → ⊥
never_begins refused t (Act e) reason = reason
never_begins refused t (Publish items) reason = reason
never_begins refused t (Strike child start) reason = reason
never_begins refused t (Restart node list) reason = reason

none_begins : (refused : TreeStartFault) (t : WholeTree) (changes : List Change) → ReachesChange (IsReasonAt (fault.Begin refused)) t changes → ⊥
none_begins refused t [] reason = reason
none_begins refused t (change ∷ changes) (inl here) = never_begins refused t change here
none_begins refused t (change ∷ changes) (inr later) = none_begins refused (change_step t change) changes later.1

-- where a network can begin, the reason at the change that is reached is that of all
pub refused_by : (params : List Parameters) (starts : List Start) (net : Network) (changes : List Change) (its_fault : ChangeFault)
    → OnePerLink net.tree.parents params → OnePerLink net.tree.parents starts → All CanBegin net.links
    → ReachesChange (IsReasonAt its_fault) (initial_tree net) changes → IsChangeReason params starts net changes its_fault
refused_by params starts net changes (fault.Begin refused) first second can reaches = absurd (none_begins refused (initial_tree net) changes reaches)
refused_by params starts net changes (fault.Act refused) first second can reaches = (first, second, can, reaches)
refused_by params starts net changes (fault.Strike refused) first second can reaches = (first, second, can, reaches)
refused_by params starts net changes (fault.Restart refused) first second can reaches = (first, second, can, reaches)
refused_by params starts net changes fault.Memory first second can reaches = (first, second, can, reaches)

-- what a run keeps: the changes so far could be made, and were
pub record IsRunning (t : WholeTree) (made : List Change) (s : WholeTree) : Type 0 where
  pub replayed : s ≡ changes_replay t made
  pub able : AllCanBeMade t made

-- one more
pub one_more : (t : WholeTree) (changes : List Change) (i : ℕ) (change : Change) (s u : WholeTree) → i < length changes
    → change ≡ get_or changes i change → IsRunning t (take i changes) s → CanBeMade s change → u ≡ change_step s change
    → IsRunning t (take (i + 1) changes) u
one_more t changes i change s u within is running can made =
    subst (λ n. IsRunning t (take n changes) u) (sym (add-one i))
    (record {
      replayed =
          made ∙ (ap (λ v. change_step v change) running.replayed ∙ sym (replay_next t changes i change within is));
      able = able_next t changes i change within is running.able (subst (λ v. CanBeMade v change) running.replayed can);
    })

-- the first of changes that fit do
pub fit_front : (t : WholeTree) (before after : List Change) → Fit t (before ++ after) → Fit t before
fit_front t [] after fit = tt
fit_front t (change ∷ before) after fit = (fit.0, fit_front (change_step t change) before after fit.1)

-- no change changes the tree
pub parents_stay : (t : WholeTree) (changes : List Change) → (changes_replay t changes).parents ≡ t.parents
parents_stay t [] = refl
parents_stay t (Act e ∷ changes) = parents_stay (change_step t (Act e)) changes
parents_stay t (Publish items ∷ changes) = parents_stay (change_step t (Publish items)) changes
parents_stay t (Strike child start ∷ changes) = parents_stay (change_step t (Strike child start)) changes
parents_stay t (Restart node list ∷ changes) = parents_stay (change_step t (Restart node list)) changes

-- a run that goes on
pub run_on : (t s u : WholeTree) (before after : List Change) → IsRunning t before s → IsRunning s after u → IsRunning t (before ++ after) u
run_on t s u [] after first second =
    record { replayed = second.replayed ∙ ap (λ v. changes_replay v after) first.replayed; able = subst (λ v. AllCanBeMade v after) first.replayed second.able }
run_on t s u (change ∷ before) after first second =
    let rest = run_on (change_step t change) s u before after (record { replayed = first.replayed; able = first.able.1 }) second in
    record { replayed = rest.replayed; able = (first.able.0, rest.able) }

-- what is reached once a run goes on
pub reached_on : (P : WholeTree → Change → Type 0) (t s : WholeTree) (before after : List Change) → IsRunning t before s → ReachesChange P s after
    → ReachesChange P t (before ++ after)
reached_on P t s [] after first reaches = subst (λ v. ReachesChange P v after) first.replayed reaches
reached_on P t s (change ∷ before) after first reaches =
    inr (first.able.0, reached_on P (change_step t change) s before after (record { replayed = first.replayed; able = first.able.1 }) reaches)
