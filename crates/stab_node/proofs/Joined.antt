-- A worker's answer, put before what those of the workers after it came to.
use Rattle.std.proofs.Common.{◌≡◌, ◌+◌, ◌<◌, ◌≤◌, inl, inr, ℕ, List, [], ◌∷◌, map, Result, Ok, Err, IfOk, IfErr, MatchResult, All, sym, ◌∙◌, subst, refl, arith}
use Rattle.std.proofs.lemmas.List.Elements.{All-cons, All-nil}
use Rattle.std.specs.List.{AllZip}
use Rattle.stab_node.specs.declared.fault.NodeFault.{NodeFault}
use Rattle.stab_node.specs.declared.fault.NodeFault.TheVariants.{Gate}
use Rattle.stab_node.specs.declared.workers_fault.WorkersFault.{WorkersFault}
use Rattle.stab_node.specs.declared.workers_fault.WorkersFault.TheVariants.{Node, Thread, Memory}
use Rattle.stab_node.specs.FirstFault.{AreOver, IsReasonAmong, first_of}
use Rattle.stab_node.specs.Turns.{IsRefused}

-- what is answered where all goes well: the account, and then the others
abbrev pub GoesFirst : {A V : Type 0} → (V → List A) → (V → ℕ) → (V → ℕ) → Result A NodeFault → Result V WorkersFault → V → Type 0
GoesFirst items count capacity answer rest new =
    MatchResult answer
    (λ a. MatchResult rest
    (λ others. (items new ≡ a ∷ items others) × (count new ≡ count others + 1) × (capacity new ≡ capacity others))
    (λ f. ⊥))
    (λ why. ⊥)

-- and the fault that is answered otherwise
abbrev pub FailsFirst : {A V : Type 0} → ℕ → Result A NodeFault → Result V WorkersFault → WorkersFault → Type 0
FailsFirst node answer rest fault =
    MatchResult answer (λ a. rest ≡ Err fault)
    (λ why. MatchResult rest (λ others. fault ≡ Node node why) (λ later. fault ≡ first_of (Node node why) later))

-- a list that was made for one account more has room for it
pub room_for_one : {V : Type 0} (count capacity : V → ℕ) (n room : ℕ) (rest : Result V WorkersFault)
    → IfOk rest (λ others. count others ≡ n) → IfOk rest (λ others. capacity others ≡ room) → n + 1 ≤ room
    → IfOk rest (λ others. count others < capacity others)
room_for_one count capacity n room (Err fault) len as_much within = tt
room_for_one count capacity n room (Ok others) len as_much within = omega (arith, len, as_much, within)

module _ {A V : Type 0} (items : V → List A) (count capacity : V → ℕ) where
  -- the list has one account more, and the same room
  pub one_more_joined : (n : ℕ) (answer : Result A NodeFault) (rest result : Result V WorkersFault)
      → IfOk rest (λ others. count others ≡ n) → IfOk result (GoesFirst items count capacity answer rest)
      → IfOk result (λ new. count new ≡ n + 1)
  one_more_joined n answer rest (Err fault) others joined = tt
  one_more_joined n (Err why) rest (Ok new) others joined = absurd joined
  one_more_joined n (Ok a) (Err later) (Ok new) others joined = absurd joined
  one_more_joined n (Ok a) (Ok more) (Ok new) others joined = omega (arith, joined.1, others)

  pub same_room_joined : (room : ℕ) (answer : Result A NodeFault) (rest result : Result V WorkersFault)
      → IfOk rest (λ others. capacity others ≡ room) → IfOk result (GoesFirst items count capacity answer rest)
      → IfOk result (λ new. capacity new ≡ room)
  same_room_joined room answer rest (Err fault) others joined = tt
  same_room_joined room (Err why) rest (Ok new) others joined = absurd joined
  same_room_joined room (Ok a) (Err later) (Ok new) others joined = absurd joined
  same_room_joined room (Ok a) (Ok more) (Ok new) others joined = joined.2 ∙ others

module _ {S A V : Type 0} (items : V → List A) (count capacity : V → ℕ) (number : S → ℕ) (has_passed may_refuse : ℕ → ℕ → Type 0)
    (is_done : ℕ → Type 0) (turns : ℕ) (Q : S → A → Type 0) where
  -- what a worker answers, and those of several
  abbrev pub Kept : S → Result A NodeFault → Type 0
  Kept s answer =
      MatchResult answer (Q s) (λ fault. fault ≡ Gate → IsRefused (has_passed (number s)) (may_refuse (number s)) turns) × is_done (number s)

  abbrev pub AllKept : List S → List A → Type 0
  AllKept workers accounts = AllZip (λ s a. Q s a × is_done (number s)) workers accounts

  -- there is an account for each worker
  pub accounts_joined : (s : S) (workers : List S) (answer : Result A NodeFault) (rest result : Result V WorkersFault) → Kept s answer
      → IfOk rest (λ others. AllKept workers (items others)) → IfOk result (GoesFirst items count capacity answer rest)
      → IfOk result (λ new. AllKept (s ∷ workers) (items new))
  accounts_joined s workers answer rest (Err fault) kept others joined = tt
  accounts_joined s workers (Err why) rest (Ok new) kept others joined = absurd joined
  accounts_joined s workers (Ok a) (Err later) (Ok new) kept others joined = absurd joined
  accounts_joined s workers (Ok a) (Ok more) (Ok new) kept others joined =
      subst (AllKept (s ∷ workers)) (sym joined.0) (kept, others)

  -- all workers with accounts are done
  all_kept_done : (workers : List S) (accounts : List A) → AllKept workers accounts → All is_done (map number workers)
  all_kept_done [] [] kept = All-nil is_done
  all_kept_done [] (a ∷ accounts) kept = absurd kept
  all_kept_done (s ∷ workers) [] kept = absurd kept
  all_kept_done (s ∷ workers) (a ∷ accounts) kept =
      All-cons is_done (number s) (map number workers) kept.0.1 (all_kept_done workers accounts kept.1)

  -- why several workers give no accounts
  abbrev pub Reason : List ℕ → WorkersFault → Type 0
  Reason = IsReasonAmong has_passed may_refuse is_done turns

  -- the reason of the workers after one with an account is the reason of all
  one_more_before : (s : S) (workers : List S) → AreOver has_passed turns (number s) → is_done (number s) → (fault : WorkersFault)
      → Reason (map number workers) fault → Reason (number s ∷ map number workers) fault
  one_more_before s workers over done (Thread k) later =
      (inr (done, later.0), All-cons is_done (number s) (map number workers) done later.1)
  one_more_before s workers over done (Node k why) later =
      record { first = inr (over, later.first); done = All-cons is_done (number s) (map number workers) done later.done }
  one_more_before s workers over done Memory later = tt

  -- a worker gives up that is the first one, and all after it are done
  gives_up_first : (s : S) (workers : List S) (why : NodeFault)
      → (why ≡ Gate → IsRefused (has_passed (number s)) (may_refuse (number s)) turns) → is_done (number s)
      → All is_done (map number workers) → Reason (number s ∷ map number workers) (Node (number s) why)
  gives_up_first s workers why refused done others =
      record { first = inl (refl, refused); done = All-cons is_done (number s) (map number workers) done others }

  -- a worker that was not started comes after one that was; a worker that gave up comes after one
  -- with an account, or is the first one
  pub refused_joined : (s : S) (workers : List S) (answer : Result A NodeFault) (rest result : Result V WorkersFault)
      → ((a : A) → Q s a → AreOver has_passed turns (number s)) → Kept s answer → IfOk rest (λ others. AllKept workers (items others))
      → IfErr rest (Reason (map number workers)) → IfErr result (FailsFirst (number s) answer rest)
      → IfErr result (Reason (number s ∷ map number workers))
  refused_joined s workers answer rest (Ok new) over kept others later joined = tt
  refused_joined s workers (Ok a) (Ok more) (Err fault) over kept others later joined = cc
  refused_joined s workers (Ok a) (Err f) (Err fault) over kept others later joined =
      let same : f ≡ fault = cc in
      subst (Reason (number s ∷ map number workers)) same (one_more_before s workers (over a kept.0) kept.1 f later)
  refused_joined s workers (Err w) (Ok more) (Err fault) over kept others later joined =
      subst (Reason (number s ∷ map number workers)) (sym joined)
      (gives_up_first s workers w kept.0 kept.1 (all_kept_done workers (items more) others))
  refused_joined s workers (Err w) (Err (Node k v)) (Err fault) over kept others later joined =
      subst (Reason (number s ∷ map number workers)) (sym joined) (gives_up_first s workers w kept.0 kept.1 later.done)
  refused_joined s workers (Err w) (Err (Thread k)) (Err fault) over kept others later joined =
      subst (Reason (number s ∷ map number workers)) (sym joined)
      (inr (kept.1, later.0), All-cons is_done (number s) (map number workers) kept.1 later.1)
  refused_joined s workers (Err w) (Err Memory) (Err fault) over kept others later joined =
      subst (Reason (number s ∷ map number workers)) (sym joined) tt
