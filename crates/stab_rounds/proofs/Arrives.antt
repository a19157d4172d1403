-- Round by round: how far each link of some nodes of a tree has come, where each link completes a
-- round of one kind. With r rounds for an item, a link that still hands on has r for each item that
-- its parent may yet have, counted from the first that is not acknowledged, and `lag` more.
use Rattle.std.proofs.Common.{◌≡◌, inl, inr, ℕ, zero, suc, ◌+◌, ◌-◌, ◌*◌, ◌<◌, ◌≤◌, List, [], ◌++◌, length, Option, Some, refl, sym, ◌∙◌, ap, subst, arith, mul-suc, mul-add, append_assoc}
use Rattle.std.proofs.lemmas.Bool.{cases_lt}
use Rattle.std.proofs.lemmas.List.{nil_from_length}
use Rattle.stab_frames.specs.Parameters.{Parameters}
use Rattle.stab_core.specs.LinkState.{LinkState}
use Rattle.stab_tree.specs.Nodes.{parent_at}
use Rattle.stab_treecore.specs.declared.event.TreeEvent.{TreeEvent}
use Rattle.stab_treecore.specs.TreeReplay.{tree_replay}
use Rattle.stab_treecore.specs.WholeTree.{WholeTree, received}
use Rattle.stab_rounds.specs.Kinds.{Kind, rounds_among, rounds_an_item}
use Rattle.stab_rounds.specs.TreeRounds.{acts_on}
use Rattle.stab_rounds.proofs.Coming.{to_come, few_idle}
use Rattle.stab_rounds.proofs.Drains.{Drained, top, under, idle_at, drained_over}
use Rattle.stab_rounds.proofs.ByKind.{Needs, needs_any, needs_one, needs_all, cost_idle, cost_held, times, one_more, taking, rounds_to_take, taken_by, goes_on_by, takes_by}
use Rattle.stab_rounds.proofs.Most.{Most, received_few, most_over, next_most, drained_most}
use Rattle.stab_rounds.proofs.TreeSteps.{At, Fixed, IsSound, OpenAt, keeps_all, known, offered_few, acked_few, replay_append, open_before, none_or_some, grows_over}

-- one each is no more than r each
left_times : (r x : ℕ) → 1 ≤ r → x ≤ r * x
left_times r zero some = omega arith
left_times r (suc x) some = omega (arith, left_times r x some, mul-suc r x)

-- the events have `rounds` rounds of some kind, one after the other
abbrev pub RoundsOf : (List TreeEvent → Type 0) → ℕ → List TreeEvent → Type 0
RoundsOf IsRound zero events = Unit {0}
RoundsOf IsRound (suc rounds) events =
    (part : List TreeEvent) × (rest : List TreeEvent) × (events ≡ part ++ rest) × IsRound part × RoundsOf IsRound rounds rest

-- Some of the nodes, with each the one above it; and how many rounds of a kind an item takes on the
-- link into each of them at most, and how far that link may be behind.
pub record Pace (fixed : Fixed) (On : ℕ → Type 0) (kind : Kind) : Type 0 where
  pub each : ℕ
  pub lag : ℕ → ℕ
  pub up : (w u : ℕ) → On w → parent_at fixed.parents w ≡ Some u → On u
  pub few : (w u : ℕ) → On w → parent_at fixed.parents w ≡ Some u → rounds_an_item kind (fixed.capacity w) ≤ each
  pub farther : (w u g : ℕ) → On w → parent_at fixed.parents w ≡ Some u → parent_at fixed.parents u ≡ Some g
      → lag u + each * fixed.capacity u + 1 ≤ lag w

module _ (fixed : Fixed) (On : ℕ → Type 0) (kind : Kind) (pace : Pace fixed On kind) where
  abbrev parents : List (Option ℕ)
  parents = fixed.parents

  abbrev r : ℕ
  r = pace.each

  -- what a link does not need beside links that need more
  abbrev spare : Parameters → ℕ
  spare p = r - rounds_an_item kind p.capacity

  -- each link of these nodes completes a round
  abbrev pub IsRoundOf : List TreeEvent → Type 0
  IsRoundOf part = (w u : ℕ) → On w → parent_at parents w ≡ Some u → 1 ≤ rounds_among kind (fixed.capacity w) (acts_on w part)

  -- and none of them is closed
  abbrev pub AreOpen : WholeTree → Type 0
  AreOpen t = (w : ℕ) → On w → OpenAt t w

  -- how far the link into a node has come after `rounds` rounds
  pub data Stage (rounds : ℕ) (t : WholeTree) (w u : ℕ) : Type 0 where
    drained : Drained t parents w → Stage rounds t w u
    flushing : (p : Parameters) (s : LinkState) → At t w p s → Drained t parents u → s.acked ≡ length (received t u)
        → rounds + length s.frames ≤ pace.lag w + rounds_to_take kind p.capacity → Stage rounds t w u
    running : (p : Parameters) (s : LinkState) (k m : ℕ) → At t w p s → Needs kind p k s → Most fixed t u m
        → rounds + (k + spare p) + r * m ≤ r * (s.acked + 1) + pace.lag w → Stage rounds t w u

  abbrev pub Stages : ℕ → WholeTree → Type 0
  Stages rounds t = (w u : ℕ) → On w → parent_at parents w ≡ Some u → Stage rounds t w u

  -- the link into a node is one of those
  its_few : (t : WholeTree) (w u : ℕ) (p : Parameters) (s : LinkState) → IsSound fixed t → On w → parent_at parents w ≡ Some u → At t w p s
      → rounds_an_item kind p.capacity ≤ r
  its_few t w u p s sound on is_child there =
      subst (λ c. rounds_an_item kind c ≤ r) (sym (known fixed t sound w p s there).capacity) (pace.few w u on is_child)

  -- a whole count of rounds, for a new item
  anew : (rounds : ℕ) (t : WholeTree) (w u m : ℕ) (p : Parameters) (s : LinkState) → IsSound fixed t → On w → parent_at parents w ≡ Some u → At t w p s
      → Most fixed t u m → rounds + r + r * m ≤ r * (s.acked + 1) + pace.lag w → Stage rounds t w u
  anew rounds t w u m p s sound on is_child there most enough =
      let size = its_few t w u p s sound on is_child there in
      running p s (rounds_an_item kind p.capacity) m there
      (needs_any kind p (rounds_an_item kind p.capacity) s (known fixed t sound w p s there).within (omega arith)) most (omega arith)

  -- at first, where a parent can have `lag` rounds' items more than are acknowledged
  pub stage_open : (t : WholeTree) (w u m : ℕ) (p : Parameters) (s : LinkState) → IsSound fixed t → On w → parent_at parents w ≡ Some u → At t w p s
      → Most fixed t u m → r * m ≤ r * s.acked + pace.lag w → Stage 0 t w u
  stage_open t w u m p s sound on is_child there most enough =
      anew 0 t w u m p s sound on is_child there most (omega (arith, one_more r s.acked))

  module _ (rounds : ℕ) (t : WholeTree) (part : List TreeEvent) (sound : IsSound fixed t) (is_round : IsRoundOf part)
      (is_open : AreOpen (tree_replay t part)) where
    abbrev after : WholeTree
    after = tree_replay t part

    after_sound : IsSound fixed after
    after_sound = keeps_all fixed t part sound

    -- the round of a link, counted with its own capacity
    own_round : (w u : ℕ) (p : Parameters) (s : LinkState) → On w → parent_at parents w ≡ Some u → At t w p s
        → 1 ≤ rounds_among kind p.capacity (acts_on w part)
    own_round w u p s on is_child there =
        subst (λ c. 1 ≤ rounds_among kind c (acts_on w part)) (sym (known fixed t sound w p s there).capacity) (is_round w u on is_child)

    -- frames that are left go
    flush_on : (w u : ℕ) (p : Parameters) (s : LinkState) → On w → parent_at parents w ≡ Some u → At t w p s → Drained t parents u
        → s.acked ≡ length (received t u) → suc rounds + (length s.frames - taken_by kind p.capacity) ≤ pace.lag w + rounds_to_take kind p.capacity
        → Stage (suc rounds) after w u
    flush_on w u p s on is_child there above all enough =
        let (above_after, same_list) = drained_over fixed part t sound u above in
        let flushed =
        takes_by fixed w u p is_child (known fixed t sound w p s there).some part t s sound (is_open w on) there kind (own_round w u p s on is_child there) above all in
        let few = flushed.few in
        flushing p flushed.state flushed.there above_after (flushed.same_count ∙ all ∙ ap length (sym same_list)) (omega arith)

    -- the parent has all, and all of it is acknowledged
    to_flush : (w u : ℕ) (p : Parameters) (s : LinkState) (k m : ℕ) → On w → parent_at parents w ≡ Some u → At t w p s → Drained t parents u
        → s.acked ≡ length (received t u) → Needs kind p k s → Most fixed t u m → rounds + (k + spare p) + r * m ≤ r * (s.acked + 1) + pace.lag w
        → Stage (suc rounds) after w u
    to_flush w u p s k m on is_child there above all needs most enough =
        let facts = known fixed t sound w p s there in
        let whole = needs_all kind p k s (idle_at fixed t sound w u p s is_child there all) needs in
        let size = its_few t w u p s sound on is_child there in
        let few_frames = facts.within.frames in
        let takes = taking kind p.capacity facts.some in
        let grown = times r s.acked m (omega (arith, received_few fixed t u m sound most)) in
        flush_on w u p s on is_child there above all (omega (arith, grown, one_more r s.acked))

    flush_more : (w u : ℕ) (p : Parameters) (s : LinkState) → On w → parent_at parents w ≡ Some u → At t w p s → Drained t parents u
        → s.acked ≡ length (received t u) → rounds + length s.frames ≤ pace.lag w + rounds_to_take kind p.capacity → Stage (suc rounds) after w u
    flush_more w u p s on is_child there above all enough =
        let takes = taking kind p.capacity (known fixed t sound w p s there).some in
        elim (cases_lt 0 (length s.frames)) [
          | inl some ↦ flush_on w u p s on is_child there above all (omega arith)
          | inr none ↦
              drained (drained_over fixed part t sound w
              (under u p s is_child there all (nil_from_length s.frames (omega arith)) above)).0
        ]

    -- the parent has not all yet, so it has as many items less to come as it has rounds left
    behind : (w u g : ℕ) (p q : Parameters) (s above : LinkState) (m rest : ℕ) → On w → parent_at parents w ≡ Some u → parent_at parents u ≡ Some g
        → At t w p s → At t u q above → length (received t u) ≤ s.acked → Most fixed t g m → m ≡ length above.offered + rest
        → rounds + r * to_come above + r * rest ≤ pace.lag u + r * q.capacity → Stage (suc rounds) after w u
    behind w u g p q s above m rest on is_child is_parent there above_there all most split enough =
        let (later, found, more) = grows_over fixed w u p is_child part t s sound there in
        let most_now = next_most fixed t u g m rest q above is_parent above_there most split in
        let own : r * q.capacity ≡ r * fixed.capacity u = ap (λ c. r * c) (known fixed t sound u q above above_there).capacity in
        let larger = pace.farther w u g on is_child is_parent in
        let has : ℕ = length (received t u) in
        let grown = times r has later.acked (omega arith) in
        anew (suc rounds) after w u (has + to_come above + rest) p later after_sound on is_child found
        (most_over fixed part t u (has + to_come above + rest) sound most_now)
        (omega (arith, grown, one_more r later.acked, mul-add r (has + to_come above) rest, mul-add r has (to_come above)))

    -- an item waits or can be offered
    available : (w u : ℕ) (p : Parameters) (s : LinkState) (k m : ℕ) → On w → parent_at parents w ≡ Some u → At t w p s → Needs kind p k s → Most fixed t u m
        → rounds + (k + spare p) + r * m ≤ r * (s.acked + 1) + pace.lag w → s.acked < length (received t u) → Stage (suc rounds) after w u
    available w u p s zero m on is_child there needs most enough some = absurd (omega (arith, needs_one kind p 0 s needs))
    available w u p s (suc k) m on is_child there needs most enough some =
        let (later, found, ends) =
        goes_on_by fixed w u p is_child (known fixed t sound w p s there).some part t s sound (is_open w on) there kind k (own_round w u p s on is_child there) needs some in
        let most_now = most_over fixed part t u m sound most in
        elim ends [
          | inl acked ↦
              let next_one = one_more r (s.acked + 1) in
              let grown = times r (s.acked + 1 + 1) (later.acked + 1) (omega arith) in
              anew (suc rounds) after w u m p later after_sound on is_child found most_now (omega arith)
          | inr same ↦
              let as_many : r * (later.acked + 1) ≡ r * (s.acked + 1) = ap (λ n. r * (n + 1)) same.0 in
              running p later k m found same.1 most_now (omega arith)
        ]

    -- all that the parent has is acknowledged, and the parent's link hands on
    used_running : (w u g : ℕ) (p q : Parameters) (s above : LinkState) (j m : ℕ) → On w → parent_at parents w ≡ Some u → parent_at parents u ≡ Some g
        → At t w p s → At t u q above → length (received t u) ≤ s.acked → Needs kind q j above → Most fixed t g m
        → rounds + (j + spare q) + r * m ≤ r * (above.acked + 1) + pace.lag u → Stage (suc rounds) after w u
    used_running w u g p q s above j m on is_child is_parent there above_there all needs most enough =
        let facts = known fixed t sound u q above above_there in
        let fits = its_few t u g q above sound (pace.up w u on is_child) is_parent above_there in
        let offered = offered_few fixed t sound u g q above is_parent above_there in
        let few = received_few fixed t g m sound most in
        let rest : ℕ = m - length above.offered in
        let split : m ≡ length above.offered + rest = omega arith in
        let apart = one_more r above.acked in
        elim facts.within.waits [
          | inl none ↦
              let whole = needs_all kind q j above none needs in
              let again : r * m ≡ r * (above.acked + rest) = ap (λ n. r * n) (omega arith) in
              behind w u g p q s above m rest on is_child is_parent there above_there all most split
              (omega (arith, cost_idle r q.capacity above facts.within.frames none, mul-add r above.acked rest))
          | inr holds ↦
              let again : r * m ≡ r * (above.acked + 1 + rest) = ap (λ n. r * n) (omega arith) in
              behind w u g p q s above m rest on is_child is_parent there above_there all most split
              (omega (arith, cost_held kind r q j above facts.within facts.some holds fits needs, mul-add r (above.acked + 1) rest))
        ]

    -- and it has frames left
    used_flushing : (w u g : ℕ) (p q : Parameters) (s above : LinkState) → On w → parent_at parents w ≡ Some u → parent_at parents u ≡ Some g
        → At t w p s → At t u q above → length (received t u) ≤ s.acked → Drained t parents g → above.acked ≡ length (received t g)
        → rounds + length above.frames ≤ pace.lag u + rounds_to_take kind q.capacity → Stage (suc rounds) after w u
    used_flushing w u g p q s above on is_child is_parent there above_there all far all_above enough =
        let facts = known fixed t sound u q above above_there in
        let frames = facts.within.frames in
        let fits = its_few t u g q above sound (pace.up w u on is_child) is_parent above_there in
        let takes = taking kind q.capacity facts.some in
        let none = idle_at fixed t sound u g q above is_parent above_there all_above in
        let (m, most, exact) = drained_most fixed t g sound far in
        let coming : ℕ = to_come above in
        let few = few_idle above none in
        let left : ℕ = q.capacity - coming in
        let split : q.capacity ≡ coming + left = omega arith in
        let each : left ≤ r * left = left_times r left (omega arith) in
        let parts : r * q.capacity ≡ r * coming + r * left = ap (λ n. r * n) split ∙ mul-add r coming left in
        let nothing : r * 0 ≡ 0 = omega arith in
        behind w u g p q s above m 0 on is_child is_parent there above_there all most (omega arith) (omega arith)

    used_up : (w u : ℕ) (p : Parameters) (s : LinkState) (k m : ℕ) → On w → parent_at parents w ≡ Some u → At t w p s → Needs kind p k s → Most fixed t u m
        → rounds + (k + spare p) + r * m ≤ r * (s.acked + 1) + pace.lag w → s.acked ≡ length (received t u) → Stages rounds t
        → Stage (suc rounds) after w u
    used_up w u p s k m on is_child there needs most enough all stages =
        elim (none_or_some (parent_at parents u)) [
          | inl none ↦ to_flush w u p s k m on is_child there (top none) all needs most enough
          | inr some ↦
              let g = some.0 in
              let is_parent = some.1 in
              elim (stages u g (pace.up w u on is_child) is_parent) [
                | drained above ↦ to_flush w u p s k m on is_child there above all needs most enough
                | flushing q state above_there far all_above enough_above ↦
                    used_flushing w u g p q s state on is_child is_parent there above_there (omega arith) far all_above enough_above
                | running q state j above_m above_there above_needs above_most enough_above ↦
                    used_running w u g p q s state j above_m on is_child is_parent there above_there (omega arith) above_needs above_most enough_above
              ]
        ]

    -- one round
    round_on : Stages rounds t → Stages (suc rounds) after
    round_on stages w u on is_child =
        elim (stages w u on is_child) [
          | drained all ↦ drained (drained_over fixed part t sound w all).0
          | flushing p s there above all enough ↦ flush_more w u p s on is_child there above all enough
          | running p s k m there needs most enough ↦
              elim (cases_lt s.acked (length (received t u))) [
                | inl some ↦ available w u p s k m on is_child there needs most enough some
                | inr none ↦
                    let few = offered_few fixed t sound w u p s is_child there in
                    let fewer = acked_few fixed p s (known fixed t sound w p s there).within in
                    used_up w u p s k m on is_child there needs most enough (omega arith) stages
              ]
        ]

  -- `count` rounds, and what comes after them
  rounds_on : (count rounds : ℕ) (t : WholeTree) (events : List TreeEvent) → IsSound fixed t → AreOpen (tree_replay t events)
      → RoundsOf IsRoundOf count events → Stages rounds t
      → (part : List TreeEvent) × (rest : List TreeEvent) × (events ≡ part ++ rest) × Stages (rounds + count) (tree_replay t part)
  rounds_on zero rounds t events sound is_open is_rounds stages =
      ([], events, refl, subst (λ n. Stages n t) (let e : rounds ≡ rounds + 0 = omega arith in e) stages)
  rounds_on (suc count) rounds t events sound is_open (part, rest, parts, is_round, more) stages =
      let joined : tree_replay t events ≡ tree_replay (tree_replay t part) rest = ap (tree_replay t) parts ∙ replay_append t part rest in
      let open_later : AreOpen (tree_replay (tree_replay t part) rest) = subst AreOpen joined is_open in
      let open_now : AreOpen (tree_replay t part) = λ w on. open_before fixed rest (tree_replay t part) w (open_later w on) in
      let (front, back, both, reached) =
      rounds_on count (suc rounds) (tree_replay t part) rest (keeps_all fixed t part sound) open_later more
      (round_on rounds t part sound is_round open_now stages) in (
        part ++ front,
        back,
        parts ∙ ap (λ es. part ++ es) both ∙ sym (append_assoc part front back),
        subst (λ n. Stages n (tree_replay t (part ++ front))) (let e : suc rounds + count ≡ rounds + suc count = omega arith in e)
            (subst (Stages (suc rounds + count)) (sym (replay_append t part front)) reached),
      )

  at_last : (t : WholeTree) (rounds w u : ℕ) → IsSound fixed t → On w → parent_at parents w ≡ Some u → pace.lag w + r ≤ rounds
      → Stage rounds t w u → Drained t parents w
  at_last t rounds w u sound on is_child enough (drained all) = all
  at_last t rounds w u sound on is_child enough (flushing p s there above all few) =
      let size = its_few t w u p s sound on is_child there in
      let takes = taking kind p.capacity (known fixed t sound w p s there).some in
      under u p s is_child there all (nil_from_length s.frames (omega arith)) above
  at_last t rounds w u sound on is_child enough (running p s k m there needs most few) =
      let received = received_few fixed t u m sound most in
      let offered = offered_few fixed t sound w u p s is_child there in
      let acked = acked_few fixed p s (known fixed t sound w p s there).within in
      absurd (omega (arith, needs_one kind p k s needs, times r s.acked m (omega arith), one_more r s.acked))

  -- from any state, after `lag w` rounds and those of one item the node `w` has all that it will
  -- ever have
  pub drains : (t : WholeTree) (events : List TreeEvent) (rounds w u : ℕ) → IsSound fixed t → Stages 0 t → AreOpen (tree_replay t events)
      → RoundsOf IsRoundOf rounds events → On w → parent_at parents w ≡ Some u → pace.lag w + r ≤ rounds → Drained (tree_replay t events) parents w
  drains t events rounds w u sound begins is_open is_rounds on is_child enough =
      let (part, rest, parts, stages) = rounds_on rounds 0 t events sound is_open is_rounds begins in
      let later = keeps_all fixed t part sound in
      let now = at_last (tree_replay t part) (0 + rounds) w u later on is_child (omega arith) (stages w u on is_child) in
      subst (λ (x : WholeTree). Drained x parents w) (sym (ap (tree_replay t) parts ∙ replay_append t part rest))
      (drained_over fixed rest (tree_replay t part) later w now).0
