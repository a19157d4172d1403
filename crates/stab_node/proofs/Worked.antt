-- From the accounts of the workers, worker by worker, to those of the nodes.
use Rattle.std.proofs.Common.{◌≡◌, ◌<◌, ◌≤◌, ◌+◌, inl, inr, ℕ, zero, suc, List, [], ◌∷◌, length, map, get_or, drop, Option, Some, None, option_map, Result, Ok, Err, IfErr, IfSome, IsErrAnd, All, refl, ap, sym, ◌∙◌, subst, arith}
use Rattle.std.proofs.lemmas.Bool.{cases_lt}
use Rattle.std.proofs.lemmas.List.{get_or-map, length-map}
use Rattle.std.proofs.lemmas.List.Elements.{All-cons, All-head, All-map, All-nil, All-tail}
use Rattle.std.proofs.lemmas.Simd.{map-map}
use Rattle.std.specs.List.{AllZip, range_with_len}
use Rattle.stab_ends.specs.Accounts.{ReceiverAccount, SenderAccount, new_receiver, new_sender}
use Rattle.stab_node.specs.Work.{AreNew}
use Rattle.stab_tree.specs.ByChild.{by_child}
use Rattle.stab_node.proofs.ByParent.{all_to_children}
use Rattle.stab_node.specs.Scattering.{by_parent, to_children}
use Rattle.stab_node.specs.FirstFault.{AreOver, IsFirstOf, IsReasonAmong, StopsAt}
use Rattle.stab_node.specs.Runs.{IsWorkersReason}
use Rattle.stab_node.specs.Turns.{IsRefused}
use Rattle.stab_node.specs.declared.fault.NodeFault.TheVariants.{Gate}
use Rattle.stab_node.specs.declared.workers_fault.WorkersFault.{WorkersFault}
use Rattle.stab_node.specs.declared.workers_fault.WorkersFault.TheVariants.{Memory, Node, Thread}

-- ---- what the workers get

-- what holds of nothing and of each holds of what each node gets by child
all_by_child : {A : Type 0} (P : Option A → Type 0) (parents : List (Option ℕ)) (xs : List A) → P None → All (λ x. P (Some x)) xs
    → All P (by_child parents xs)
all_by_child P [] xs none all = All-nil P
all_by_child P (None ∷ parents) xs none all = All-cons P None (by_child parents xs) none (all_by_child P parents xs none all)
all_by_child P (Some parent ∷ parents) [] none all = All-cons P None (by_child parents []) none (all_by_child P parents [] none all)
all_by_child P (Some parent ∷ parents) (x ∷ xs) none all =
    All-cons P (Some x) (by_child parents xs) (All-head (λ y. P (Some y)) x xs all)
    (all_by_child P parents xs none (All-tail (λ y. P (Some y)) x xs all))

-- what holds of each of a map holds, after the map, of each
pub all_of_map : {X Y : Type 0} (P : X → Type 0) (f : Y → X) (ys : List Y) → All P (map f ys) → All (λ y. P (f y)) ys
all_of_map P f ys all = λ k d within.
    subst P (get_or-map f ys k d (f d) within) (all k (f d) (omega (arith, within, length-map ys f)))

-- ---- the workers

-- ends that are new when they are scattered are new at each worker
pub new_at_workers : {S U D : Type 0} (received : U → ReceiverAccount) (sent : D → SenderAccount) (up : S → Option U) (downs : S → List D)
    (workers : List S) (parents : List (Option ℕ)) (recvs : List U) (sends : List D)
    → map up workers ≡ by_child parents recvs → map downs workers ≡ by_parent parents sends
    → All (λ u. received u ≡ new_receiver) recvs → All (λ d. sent d ≡ new_sender) sends
    → All (λ s. AreNew (option_map received (up s)) (map sent (downs s))) workers
new_at_workers received sent up downs workers parents recvs sends ups_scattered downs_scattered new_recvs new_sends = λ k d within.
    let IsNewUp : Option _ → Type 0 = λ o. IfSome (option_map received o) (λ r. r ≡ new_receiver) in
    let AreNewDowns : List _ → Type 0 = λ row. All (λ s. s ≡ new_sender) (map sent row) in
    let ups = all_of_map IsNewUp up workers (subst (All IsNewUp) (sym ups_scattered) (all_by_child IsNewUp parents recvs tt new_recvs)) in
    let rows = all_of_map AreNewDowns downs workers
    (subst (All AreNewDowns) (sym downs_scattered)
    (All-map AreNewDowns (λ node. to_children node parents sends) (range_with_len 0 (length parents))
    (λ i e inside. All-map (λ s. s ≡ new_sender) sent _ (all_to_children (λ x. sent x ≡ new_sender) _ parents sends new_sends)))) in
    record { upper = ups k d within; lower = rows k d within }

-- ---- from the workers to the accounts

-- the accounts are those of the workers that were moved, and stay so in another list
pub of_workers : {S A : Type 0} (R : S → A → Type 0) (workers moved : List S) (accounts all : List A)
    → AllZip R moved accounts → moved ≡ workers → all ≡ accounts → AllZip R workers all
of_workers R workers moved accounts all zipped same_workers same_accounts =
    subst (λ xs. AllZip R xs all) same_workers (subst (λ ys. AllZip R moved ys) (sym same_accounts) zipped)

module _ {S A : Type 0} (R : S → A → Type 0) where
  -- where each account is as its worker, all accounts are as all workers
  pub carried : {B : Type 0} (f : A → B) (g : S → B) (workers : List S) (accounts : List A) → ((s : S) (a : A) → R s a → f a ≡ g s)
      → AllZip R workers accounts → map f accounts ≡ map g workers
  carried f g [] [] each zipped = refl
  carried f g [] (a ∷ accounts) each zipped = absurd zipped
  carried f g (s ∷ workers) [] each zipped = absurd zipped
  carried f g (s ∷ workers) (a ∷ accounts) each zipped =
      let first = each s a zipped.0 in
      let rest = carried f g workers accounts each zipped.1 in
      cc

  -- where each account has a part that is read as that of its worker, these parts are read as what
  -- the workers got
  pub read_alike : {X Y L : Type 0} (f : X → L) (g : Y → L) (part : A → X) (scattered : S → Y) (workers : List S) (accounts : List A) (all : List Y)
      → ((s : S) (a : A) → R s a → f (part a) ≡ g (scattered s))
      → AllZip R workers accounts → map scattered workers ≡ all → map f (map part accounts) ≡ map g all
  read_alike f g part scattered workers accounts all each zipped are =
      map-map f part accounts
      ∙ (carried (λ a. f (part a)) (λ s. g (scattered s)) workers accounts each zipped
      ∙ (sym (map-map g scattered workers) ∙ ap (λ ends. map g ends) are))

  -- what each account has by its worker and by a part of it, all have
  all_worked : {B : Type 0} (part : S → B) (N : S → Type 0) (P : B → A → Type 0) (workers : List S) (accounts : List A)
      → ((s : S) (a : A) → R s a → N s → P (part s) a)
      → AllZip R workers accounts → All N workers → AllZip P (map part workers) accounts
  all_worked part N P [] [] each zipped all = tt
  all_worked part N P [] (a ∷ accounts) each zipped all = absurd zipped
  all_worked part N P (s ∷ workers) [] each zipped all = absurd zipped
  all_worked part N P (s ∷ workers) (a ∷ accounts) each zipped all =
      (each s a zipped.0 (All-head N s workers all), all_worked part N P workers accounts each zipped.1 (All-tail N s workers all))

  -- the same with these parts in a list
  pub worked : {B : Type 0} (part : S → B) (N : S → Type 0) (P : B → A → Type 0) (workers : List S) (accounts : List A) (parts : List B)
      → ((s : S) (a : A) → R s a → N s → P (part s) a)
      → AllZip R workers accounts → map part workers ≡ parts → All N workers → AllZip P parts accounts
  worked part N P workers accounts parts each zipped are all =
      subst (λ xs. AllZip P xs accounts) are (all_worked part N P workers accounts each zipped all)

  -- what holds of each worker's number and a part of its account holds at each node
  pub at_numbers : {X : Type 0} (number : S → ℕ) (part : A → X) (default : X) (T : ℕ → X → Type 0) (workers : List S) (accounts : List A)
      (start n node place : ℕ) → ((s : S) (a : A) → R s a → T (number s) (part a))
      → AllZip R workers accounts → map number workers ≡ range_with_len start n → node < n → place ≡ start + node
      → T place (get_or (map part accounts) node default)
  at_numbers number part default T workers accounts start zero node place each zipped numbers inside is = absurd (omega (arith, inside))
  at_numbers number part default T [] accounts start (suc n) node place each zipped numbers inside is = absurd (omega (arith, ap length numbers))
  at_numbers number part default T (s ∷ workers) [] start (suc n) node place each zipped numbers inside is = absurd zipped
  at_numbers number part default T (s ∷ workers) (a ∷ accounts) start (suc n) zero place each zipped numbers inside is =
      let first : number s ≡ start = ap (λ xs. get_or xs 0 0) numbers in
      let same : number s ≡ place = omega (arith, first, is) in
      subst (λ k. T k (part a)) same (each s a zipped.0)
  at_numbers number part default T (s ∷ workers) (a ∷ accounts) start (suc n) (suc node) place each zipped numbers inside is =
      at_numbers number part default T workers accounts (start + 1) n node place each zipped.1 (ap (λ xs. drop 1 xs) numbers) (omega (arith, inside)) (omega (arith, is))

-- what holds of an error holds of the answer that passes it on
pub at_error : {T E : Type 0} (r : Result T E) (e : E) (Q : E → Type 0) → IsErrAnd r (λ x. x ≡ e) → Q e → IfErr r Q
at_error (Ok x) e Q is holds = tt
at_error (Err y) e Q is holds = subst Q (sym is) holds

-- where all nodes are done, each is
each_done : (is_done : ℕ → Type 0) (numbers : List ℕ) (start n node place : ℕ) → numbers ≡ range_with_len start n → All is_done numbers
    → node < n → place ≡ start + node → is_done place
each_done is_done numbers start zero node place are all inside is = absurd (omega (arith, inside))
each_done is_done [] start (suc n) node place are all inside is = absurd (omega (arith, ap length are))
each_done is_done (x ∷ xs) start (suc n) zero place are all inside is =
    let first : x ≡ start = ap (λ ks. get_or ks 0 0) are in
    subst is_done (omega (arith, first, is)) (All-head is_done x xs all)
each_done is_done (x ∷ xs) start (suc n) (suc node) place are all inside is =
    each_done is_done xs (start + 1) n node place (ap (λ ks. drop 1 ks) are) (All-tail is_done x xs all) (omega (arith, inside)) (omega (arith, is))

-- the first of some nodes is one of them, what is said of it holds, and what is said of those
-- before it as well
first_of_numbers : (before here : ℕ → Type 0) (numbers : List ℕ) (start n node : ℕ) → numbers ≡ range_with_len start n
    → IsFirstOf before here numbers node
    → (node < start + n) × ((earlier : ℕ) → start ≤ earlier → earlier < node → before earlier) × here node
first_of_numbers before here [] start n node are is_first = absurd is_first
first_of_numbers before here (x ∷ xs) start zero node are is_first = absurd (omega (arith, ap length are))
first_of_numbers before here (x ∷ xs) start (suc n) node are (inl is) =
    let first : x ≡ start = ap (λ ks. get_or ks 0 0) are in (
      omega (arith, is.0, first),
      λ earlier above below. absurd (omega (arith, is.0, first, above, below)),
      subst here (sym is.0) is.1,
    )
first_of_numbers before here (x ∷ xs) start (suc n) node are (inr later) =
    let first : x ≡ start = ap (λ ks. get_or ks 0 0) are in
    let rest = first_of_numbers before here xs (start + 1) n node (ap (λ ks. drop 1 ks) are) later.1 in (
      omega (arith, rest.0),
      λ earlier above below.
          elim (cases_lt start earlier) [
            | inl after ↦ rest.1 earlier (omega (arith, after)) below
            | inr not_after ↦
                let same : x ≡ earlier = omega (arith, first, above, not_after) in
                subst before same later.0
          ],
      rest.2,
    )

-- the node whose worker was not started is one of the nodes
among : (is_done : ℕ → Type 0) (numbers : List ℕ) (start n node : ℕ) → numbers ≡ range_with_len start n → StopsAt is_done numbers node
    → node < start + n
among is_done [] start n node are stops = absurd stops
among is_done (x ∷ xs) start zero node are stops = absurd (omega (arith, ap length are))
among is_done (x ∷ xs) start (suc n) node are (inl here) =
    let is_first : x ≡ start = ap (λ ks. get_or ks 0 0) are in
    omega (arith, here, is_first)
among is_done (x ∷ xs) start (suc n) node are (inr later) =
    omega (arith, among is_done xs (start + 1) n node (ap (λ ks. drop 1 ks) are) later.1)

-- why the workers of all nodes of a tree give no accounts
module _ (has_passed may_refuse : ℕ → ℕ → Type 0) (is_done : ℕ → Type 0) (count turns : ℕ) (numbers : List ℕ)
    (are : numbers ≡ range_with_len 0 count) where
  pub reason_of_all : (fault : WorkersFault) → IsReasonAmong has_passed may_refuse is_done turns numbers fault
      → IsWorkersReason has_passed may_refuse is_done count turns fault
  reason_of_all (Thread node) stops =
      record {
        known = omega (arith, among is_done numbers 0 count node are stops.0);
        done = λ each within. each_done is_done numbers 0 count each each are stops.1 within (omega arith);
      }
  reason_of_all (Node node why) gives_up =
      let found =
      first_of_numbers (AreOver has_passed turns) (λ k. why ≡ Gate → IsRefused (has_passed k) (may_refuse k) turns) numbers 0 count node are gives_up.first in (
        record {
          known = omega (arith, found.0);
          before = λ earlier below. found.1 earlier (omega arith) below;
          done = λ each within. each_done is_done numbers 0 count each each are gives_up.done within (omega arith);
        },
        found.2,
      )
  reason_of_all Memory memory = tt
