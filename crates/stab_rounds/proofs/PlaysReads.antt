-- A schedule that is made of reading rounds has them, and closes no link.
use Rattle.std.proofs.Common.{◌≡◌, ◌≢◌, ℕ, zero, suc, ◌+◌, ◌-◌, ◌<◌, ◌≤◌, false, List, [], ◌∷◌, ◌++◌, Option, Some, None, All, get_or, replicate, refl, sym, ◌∙◌, ap, subst, arith, append_assoc}
use Rattle.std.specs.List.{AllByRecursion as Each}
use Rattle.std.proofs.lemmas.Option.{none-some}
use Rattle.stab_core.specs.declared.act.LinkAct.{LinkAct}
use Rattle.stab_core.specs.declared.act.LinkAct.TheVariants as act
use Rattle.stab_treecore.specs.declared.event.TreeEvent.{TreeEvent}
use Rattle.stab_treecore.specs.Network.{IsNetwork, Network}
use Rattle.stab_treecore.specs.TreeReplay.{initial_tree, tree_replay}
use Rattle.stab_treecore.specs.WholeTree.{WholeTree}
use Rattle.stab_rounds.specs.ReadingRounds.{offer, frames, acks, reading_from}
use Rattle.stab_rounds.specs.TreeReadingRounds.{ReadingRounds}
use Rattle.stab_rounds.specs.TreeRounds.{acts_on, IsOpen}
use Rattle.stab_rounds.specs.TreePlayed.{act_on, reading_round_on, reading_round_from, play_reads}
use Rattle.stab_rounds.proofs.Final.{capacity_few}
use Rattle.stab_rounds.proofs.Plays.{IsNoClose, no_close_keeps, starts_open}
use Rattle.stab_rounds.proofs.TreeSteps.{acts_own, acts_other, replay_append}

-- ---- a reading round of one link

-- at least as many are taken as are waited for
frames_all : (k left n : ℕ) (acts : List LinkAct) → left ≤ n
    → reading_from k (frames left) (replicate n (act.RecvFrame false) ++ acts) ≡ reading_from k (frames 0) acts
frames_all k zero zero acts enough = refl
frames_all k (suc left) zero acts enough = absurd (omega arith)
frames_all k zero (suc n) acts enough = omega (arith, frames_all k zero n acts (omega arith))
frames_all k (suc left) (suc n) acts enough = omega (arith, frames_all k left n acts (omega arith))

acks_all : (k left n : ℕ) (acts : List LinkAct) → left ≤ n
    → reading_from k (acks left) (replicate n (act.RecvAck false) ++ acts) ≡ reading_from k (acks 0) acts
acks_all k zero zero acts enough = refl
acks_all k (suc left) zero acts enough = absurd (omega arith)
acks_all k zero (suc n) acts enough = omega (arith, acks_all k zero n acts (omega arith))
acks_all k (suc left) (suc n) acts enough = omega (arith, acks_all k left n acts (omega arith))

-- the acts of a reading round, and those after it
abbrev round_acts : ℕ → List LinkAct → List LinkAct
round_acts c acts =
    act.Offer ∷ (replicate c (act.RecvFrame false) ++ act.SendFrame ∷ act.RecvFrame false
    ∷ (replicate c (act.RecvAck false) ++ act.SendAck ∷ act.RecvAck false ∷ acts))

round_counts : (k c : ℕ) (acts : List LinkAct) → k ≤ c → 1 ≤ reading_from k offer (round_acts c acts)
round_counts k c acts enough =
    omega (
      arith,
      frames_all k k c (act.SendFrame ∷ act.RecvFrame false ∷ (replicate c (act.RecvAck false) ++ act.SendAck ∷ act.RecvAck false ∷ acts)) enough,
      acks_all k k c (act.SendAck ∷ act.RecvAck false ∷ acts) enough,
    )

own_times : (w n : ℕ) (a : LinkAct) (rest : List TreeEvent) → acts_on w (replicate n (act_on w a) ++ rest) ≡ replicate n a ++ acts_on w rest
own_times w zero a rest = refl
own_times w (suc n) a rest = acts_own w (act_on w a) (replicate n (act_on w a) ++ rest) refl ∙ ap (λ acts. a ∷ acts) (own_times w n a rest)

other_times : (w node n : ℕ) (a : LinkAct) (rest : List TreeEvent) → node ≢ w → acts_on w (replicate n (act_on node a) ++ rest) ≡ acts_on w rest
other_times w node zero a rest other = refl
other_times w node (suc n) a rest other =
    acts_other w (act_on node a) (replicate n (act_on node a) ++ rest) other ∙ other_times w node n a rest other

own_one : (w : ℕ) (a : LinkAct) (rest : List TreeEvent) (acts : List LinkAct) → acts_on w rest ≡ acts → acts_on w (act_on w a ∷ rest) ≡ a ∷ acts
own_one w a rest acts is = acts_own w (act_on w a) rest refl ∙ ap (λ more. a ∷ more) is

other_one : (w node : ℕ) (a : LinkAct) (rest : List TreeEvent) (acts : List LinkAct) → node ≢ w → acts_on w rest ≡ acts
    → acts_on w (act_on node a ∷ rest) ≡ acts
other_one w node a rest acts other is = acts_other w (act_on node a) rest other ∙ is

own_reading : (c w : ℕ) (rest : List TreeEvent) → acts_on w (reading_round_on c w rest) ≡ round_acts c (acts_on w rest)
own_reading c w rest =
    let answered = own_one w act.SendAck (act_on w (act.RecvAck false) ∷ rest) _ (own_one w (act.RecvAck false) rest _ refl) in
    let told = own_times w c (act.RecvAck false) (act_on w act.SendAck ∷ act_on w (act.RecvAck false) ∷ rest)
    ∙ ap (λ acts. replicate c (act.RecvAck false) ++ acts) answered in
    let sent =
    own_one w act.SendFrame (act_on w (act.RecvFrame false) ∷ (replicate c (act_on w (act.RecvAck false)) ++ act_on w act.SendAck ∷ act_on w (act.RecvAck false) ∷ rest)) _
    (own_one w (act.RecvFrame false) (replicate c (act_on w (act.RecvAck false)) ++ act_on w act.SendAck ∷ act_on w (act.RecvAck false) ∷ rest) _ told) in
    own_one w act.Offer (replicate c (act_on w (act.RecvFrame false))
    ++ act_on w act.SendFrame ∷ act_on w (act.RecvFrame false)
    ∷ (replicate c (act_on w (act.RecvAck false)) ++ act_on w act.SendAck ∷ act_on w (act.RecvAck false) ∷ rest)) _
    (own_times w c (act.RecvFrame false) (act_on w act.SendFrame ∷ act_on w (act.RecvFrame false)
    ∷ (replicate c (act_on w (act.RecvAck false)) ++ act_on w act.SendAck ∷ act_on w (act.RecvAck false) ∷ rest))
    ∙ ap (λ acts. replicate c (act.RecvFrame false) ++ acts) sent)

other_reading : (c w node : ℕ) (rest : List TreeEvent) → node ≢ w → acts_on w (reading_round_on c node rest) ≡ acts_on w rest
other_reading c w node rest other =
    let answered =
    other_one w node act.SendAck (act_on node (act.RecvAck false) ∷ rest) (acts_on w rest) other (other_one w node (act.RecvAck false) rest (acts_on w rest) other refl) in
    let told = other_times w node c (act.RecvAck false) (act_on node act.SendAck ∷ act_on node (act.RecvAck false) ∷ rest) other ∙ answered in
    let taken =
    other_one w node (act.RecvFrame false) (replicate c (act_on node (act.RecvAck false)) ++ act_on node act.SendAck ∷ act_on node (act.RecvAck false) ∷ rest)
    (acts_on w rest) other told in
    let sent =
    other_one w node act.SendFrame (act_on node (act.RecvFrame false)
    ∷ (replicate c (act_on node (act.RecvAck false)) ++ act_on node act.SendAck ∷ act_on node (act.RecvAck false) ∷ rest)) (acts_on w rest) other taken in
    other_one w node act.Offer (replicate c (act_on node (act.RecvFrame false))
    ++ act_on node act.SendFrame ∷ act_on node (act.RecvFrame false)
    ∷ (replicate c (act_on node (act.RecvAck false)) ++ act_on node act.SendAck ∷ act_on node (act.RecvAck false) ∷ rest)) (acts_on w rest) other
    (other_times w node c (act.RecvFrame false) (act_on node act.SendFrame ∷ act_on node (act.RecvFrame false)
    ∷ (replicate c (act_on node (act.RecvAck false)) ++ act_on node act.SendAck ∷ act_on node (act.RecvAck false) ∷ rest)) other ∙ sent)

-- ---- of all links

-- the rounds of some nodes have one of each of them that has a parent
has_reading : (c k node : ℕ) (parents : List (Option ℕ)) (i parent : ℕ) → get_or parents i None ≡ Some parent → k ≤ c
    → 1 ≤ reading_from k offer (acts_on (node + i) (reading_round_from c node parents))
has_reading c k node [] i parent is_child enough = absurd (none-some parent is_child)
has_reading c k node (None ∷ parents) zero parent is_child enough = absurd (none-some parent is_child)
has_reading c k node (None ∷ parents) (suc i) parent is_child enough =
    subst (λ w. 1 ≤ reading_from k offer (acts_on w (reading_round_from c (node + 1) parents))) (let e : node + 1 + i ≡ node + suc i = omega arith in e)
    (has_reading c k (node + 1) parents i parent is_child enough)
has_reading c k node (Some q ∷ parents) zero parent is_child enough =
    subst (λ w. 1 ≤ reading_from k offer (acts_on w (reading_round_on c node (reading_round_from c (node + 1) parents))))
    (let e : node ≡ node + 0 = omega arith in e)
    (subst (λ acts. 1 ≤ reading_from k offer acts) (sym (own_reading c node (reading_round_from c (node + 1) parents)))
    (round_counts k c (acts_on node (reading_round_from c (node + 1) parents)) enough))
has_reading c k node (Some q ∷ parents) (suc i) parent is_child enough =
    subst (λ acts. 1 ≤ reading_from k offer acts)
    (sym (other_reading c (node + suc i) node (reading_round_from c (node + 1) parents) (λ same. omega arith)))
    (subst (λ w. 1 ≤ reading_from k offer (acts_on w (reading_round_from c (node + 1) parents))) (let e : node + 1 + i ≡ node + suc i = omega arith in e)
    (has_reading c k (node + 1) parents i parent is_child enough))

-- a link of this capacity or a smaller one completes a reading round
pub reads_of_each : (c k : ℕ) (parents : List (Option ℕ)) (child parent : ℕ) → get_or parents child None ≡ Some parent → k ≤ c
    → 1 ≤ reading_from k offer (acts_on child (reading_round_from c 0 parents))
reads_of_each c k parents child parent is_child enough =
    subst (λ w. 1 ≤ reading_from k offer (acts_on w (reading_round_from c 0 parents))) (let e : 0 + child ≡ child = omega arith in e)
    (has_reading c k 0 parents child parent is_child enough)

pub play_has_reads : (net : Network) → IsNetwork net → (c rounds : ℕ) → All (λ link. link.params.capacity ≤ c) net.links
    → ReadingRounds net rounds (play_reads c net.tree.parents rounds)
play_has_reads net is c zero small = tt
play_has_reads net is c (suc rounds) small = (
  reading_round_from c 0 net.tree.parents,
  play_reads c net.tree.parents rounds,
  refl,
  λ child parent is_child.
      let fits = capacity_few net is c small child parent is_child in
      reads_of_each c _ net.tree.parents child parent is_child (omega arith),
  play_has_reads net is c rounds small,
)

-- ---- no link is closed

abbrev pub NoClose : List TreeEvent → Type 0
NoClose es = Each (λ (e : TreeEvent). IsNoClose e.act) es

no_close_times : (n : ℕ) (e : TreeEvent) (rest : List TreeEvent) → IsNoClose e.act → NoClose rest → NoClose (replicate n e ++ rest)
no_close_times zero e rest one none = none
no_close_times (suc n) e rest one none = (one, no_close_times n e rest one none)

no_close_from : (c node : ℕ) (parents : List (Option ℕ)) → NoClose (reading_round_from c node parents)
no_close_from c node [] = tt
no_close_from c node (None ∷ parents) = no_close_from c (node + 1) parents
no_close_from c node (Some parent ∷ parents) = (
  tt,
  no_close_times c (act_on node (act.RecvFrame false)) _ tt
      (tt, (tt, no_close_times c (act_on node (act.RecvAck false)) _ tt (tt, (tt, no_close_from c (node + 1) parents)))),
)

no_close_both : (xs ys : List TreeEvent) → NoClose xs → NoClose ys → NoClose (xs ++ ys)
no_close_both [] ys first second = second
no_close_both (x ∷ xs) ys first second = (first.0, no_close_both xs ys first.1 second)

pub reads_close_nothing : (c : ℕ) (parents : List (Option ℕ)) (rounds : ℕ) → NoClose (play_reads c parents rounds)
reads_close_nothing c parents zero = tt
reads_close_nothing c parents (suc rounds) =
    no_close_both (reading_round_from c 0 parents) (play_reads c parents rounds) (no_close_from c 0 parents) (reads_close_nothing c parents rounds)

pub reads_are_open : (net : Network) (c rounds : ℕ) → IsOpen (tree_replay (initial_tree net) (play_reads c net.tree.parents rounds))
reads_are_open net c rounds =
    no_close_keeps (initial_tree net) (play_reads c net.tree.parents rounds) (reads_close_nothing c net.tree.parents rounds) (starts_open net)

-- ---- what the calls need

-- a reading round and what comes after it
pub round_then : (c child : ℕ) (rest : List TreeEvent) → reading_round_on c child [] ++ rest ≡ reading_round_on c child rest
round_then c child rest =
    ap (λ es. act_on child act.Offer ∷ es)
    (append_assoc (replicate c (act_on child (act.RecvFrame false)))
    (act_on child act.SendFrame ∷ act_on child (act.RecvFrame false)
    ∷ (replicate c (act_on child (act.RecvAck false)) ++ act_on child act.SendAck ∷ act_on child (act.RecvAck false) ∷ [])) rest
    ∙ ap (λ es. replicate c (act_on child (act.RecvFrame false)) ++ act_on child act.SendFrame ∷ act_on child (act.RecvFrame false) ∷ es)
    (append_assoc (replicate c (act_on child (act.RecvAck false))) (act_on child act.SendAck ∷ act_on child (act.RecvAck false) ∷ []) rest))

-- one more of the rounds to come
pub read_one : (t : WholeTree) (c : ℕ) (parents : List (Option ℕ)) (rounds done : ℕ) → done < rounds
    → tree_replay t (play_reads c parents (rounds - done))
    ≡ tree_replay (tree_replay t (reading_round_from c 0 parents)) (play_reads c parents (rounds - (done + 1)))
read_one t c parents rounds done left =
    ap (λ n. tree_replay t (play_reads c parents n)) (let e : rounds - done ≡ suc (rounds - (done + 1)) = omega arith in e)
    ∙ replay_append t (reading_round_from c 0 parents) (play_reads c parents (rounds - (done + 1)))

-- one more of the acts to come
pub one_of_times : (xs : List TreeEvent) (e : TreeEvent) (n done : ℕ) → done < n
    → (xs ++ e ∷ []) ++ replicate (n - (done + 1)) e ≡ xs ++ replicate (n - done) e
one_of_times xs e n done left =
    append_assoc xs (e ∷ []) (replicate (n - (done + 1)) e)
    ∙ ap (λ k. xs ++ replicate k e) (let one : suc (n - (done + 1)) ≡ n - done = omega arith in one)

-- the parts of a reading round, one after the other
pub in_parts : (xs : List TreeEvent) (c child : ℕ)
    → ((((((xs ++ act_on child act.Offer ∷ []) ++ replicate c (act_on child (act.RecvFrame false))) ++ act_on child act.SendFrame ∷ [])
    ++ act_on child (act.RecvFrame false) ∷ []) ++ replicate c (act_on child (act.RecvAck false))) ++ act_on child act.SendAck ∷ [])
    ++ act_on child (act.RecvAck false) ∷ []
    ≡ xs ++ reading_round_on c child []
in_parts xs c child = simp append_assoc refl

-- a reading round that was added, and the others
pub one_added : (xs : List TreeEvent) (c child : ℕ) (rest : List TreeEvent)
    → (xs ++ reading_round_on c child []) ++ rest ≡ xs ++ reading_round_on c child rest
one_added xs c child rest = append_assoc xs (reading_round_on c child []) rest ∙ ap (λ es. xs ++ es) (round_then c child rest)
