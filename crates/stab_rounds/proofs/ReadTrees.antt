-- Reading rounds of a whole tree: each acknowledges an item on each link that has one, and takes
-- all that was on its way.
use Rattle.std.proofs.Common.{◌≡◌, ◌⊎◌, inl, inr, ℕ, zero, suc, ◌+◌, ◌-◌, ◌<◌, ◌≤◌, true, false, List, [], ◌∷◌, length, slice_get, Option, Some, None, refl, sym, ◌∙◌, ap, subst, arith}
use Rattle.std.proofs.lemmas.Bool.{cond-false, cases_eq}
use Rattle.stab_frames.specs.Parameters.{Parameters}
use Rattle.stab_core.specs.declared.act.LinkAct.{LinkAct}
use Rattle.stab_core.specs.declared.act.LinkAct.TheVariants as act
use Rattle.stab_core.specs.declared.event.Event.{Event}
use Rattle.stab_core.specs.declared.event.Event.TheVariants as event
use Rattle.stab_core.specs.Link.{link_at}
use Rattle.stab_core.specs.LinkActs.{event_of}
use Rattle.stab_core.specs.LinkState.{LinkState}
use Rattle.stab_core.specs.Step.{open_step, step}
use Rattle.stab_tree.specs.Nodes.{parent_at}
use Rattle.stab_treecore.specs.declared.event.TreeEvent.{TreeEvent}
use Rattle.stab_treecore.specs.TreeReplay.{tree_replay}
use Rattle.stab_treecore.specs.TreeStep.{tree_step}
use Rattle.stab_treecore.specs.WholeTree.{WholeTree, received}
use Rattle.stab_rounds.specs.declared.round.Awaited.{Awaited}
use Rattle.stab_rounds.specs.declared.round.Awaited.TheVariants as next
use Rattle.stab_rounds.specs.Rounds.{IsWithin, act_of, rounds_from}
use Rattle.stab_rounds.specs.ReadingRounds.{Reads, offer, frames, frame, acks, ack, reads_after, read_by, reading_from}
use Rattle.stab_rounds.specs.TreeRounds.{acts_on}
use Rattle.stab_rounds.proofs.Levels.{Holding, any_level}
use Rattle.stab_rounds.proofs.Steps.{Moves, accepts, stays}
use Rattle.stab_rounds.proofs.Links.{after_event, quiet_after, fewer_taken}
use Rattle.stab_rounds.proofs.ReadRounds.{Read, read_event, heard}
use Rattle.stab_rounds.proofs.TreeSteps.{At, Fixed, IsSound, OpenAt, step_other, acts_own, acts_other, known, received_step, open_before, grows_over, waits_or_next, own_at, keeps}
use Rattle.stab_rounds.proofs.Drains.{Drained, idle_at, drained_step, Flushed, more_flushed, quiet_over, quiet_at, quiet_now}

-- ---- one act

module _ (p : Parameters) (some : 1 ≤ p.capacity) where
  c : ℕ
  c = p.capacity

  abbrev Reached : Reads → LinkState → Type 0
  Reached = Read p some

  not_offered : (v : Reads) (s : LinkState) → IsWithin p s → Holding s → Reached v s → Reached (reads_after p.capacity v act.Offer) s
  not_offered offer s within holds read = (any_level p (p.capacity + p.capacity + 1) s within (omega arith), holds)
  not_offered (frames zero) s within holds read = read
  not_offered (frames (suc left)) s within holds read = read
  not_offered frame s within holds read = read
  not_offered (acks zero) s within holds read = read
  not_offered (acks (suc left)) s within holds read = read
  not_offered ack s within holds read = read

  event_read : (v : Reads) (s : LinkState) (e : Event) → s.closed ≡ false → IsWithin p s → Reached v s
      → Moves s (step p s e) (Reached (reads_after p.capacity v (act_of e)))
  event_read v s e is_open within read =
      subst (λ t. Moves s t (Reached (reads_after p.capacity v (act_of e)))) (sym (cond-false s.closed s (open_step p s e) is_open))
      (read_event p some v s e within read)

  pub act_read : (v : Reads) (s : LinkState) (a : LinkAct) (item : Option ℕ) → s.closed ≡ false → IsWithin p s → (item ≡ None → Holding s)
      → Reached v s → Moves s (after_event p s (event_of a item)) (Reached (reads_after p.capacity v a))
  act_read v s act.Offer None is_open within waits read = stays refl (not_offered v s within (waits refl) read)
  act_read v s act.Offer (Some x) is_open within waits read = event_read v s (event.Offer x) is_open within read
  act_read v s act.SendFrame item is_open within waits read = event_read v s event.SendFrame is_open within read
  act_read v s (act.RecvFrame keep) item is_open within waits read = event_read v s (event.RecvFrame keep) is_open within read
  act_read v s act.SendAck item is_open within waits read = event_read v s event.SendAck is_open within read
  act_read v s (act.RecvAck keep) item is_open within waits read = event_read v s (event.RecvAck keep) is_open within read
  act_read v s (act.LoseFrame place) item is_open within waits read = event_read v s (event.LoseFrame place) is_open within read
  act_read v s (act.LoseAck place) item is_open within waits read = event_read v s (event.LoseAck place) is_open within read
  act_read v s act.Close item is_open within waits read = event_read v s event.Close is_open within read

  -- the act that completes a round acknowledges
  pub data ActGoes (v : Reads) (a : LinkAct) : Type 0 where
    on : read_by v a ≡ 0 → ActGoes v a
    round : ((s : LinkState) (item : Option ℕ) → s.closed ≡ false → Reached v s → (after_event p s (event_of a item)).acked ≡ s.acked + 1) → ActGoes v a

  pub act_goes : (v : Reads) (a : LinkAct) → ActGoes v a
  act_goes ack (act.RecvAck false) =
      round (λ s item is_open read.
      ap (λ (t : LinkState). t.acked) (cond-false s.closed s (open_step p s (event.RecvAck false)) is_open) ∙ heard p some s read)
  act_goes v a = on refl

-- ---- frames that are taken

abbrev pub TakesMany : ℕ → List LinkAct → Type 0
TakesMany zero acts = Unit {0}
TakesMany (suc n) [] = ⊥
TakesMany (suc n) (act.RecvFrame false ∷ acts) = TakesMany n acts
TakesMany (suc n) (a ∷ acts) = TakesMany (suc n) acts

pub first_takes : (n : ℕ) (a : LinkAct) (acts : List LinkAct) → TakesMany (suc n) (a ∷ acts)
    → ((a ≡ act.RecvFrame false) × TakesMany n acts) ⊎ TakesMany (suc n) acts
first_takes n (act.RecvFrame false) acts takes = inl (refl, takes)
first_takes n a acts takes = inr takes

takes_fewer : (n : ℕ) (acts : List LinkAct) → TakesMany (suc n) acts → TakesMany n acts
takes_fewer zero acts takes = tt
takes_fewer (suc n) [] takes = takes
takes_fewer (suc n) (act.RecvFrame false ∷ acts) takes = takes_fewer n acts takes
takes_fewer (suc n) (act.RecvFrame true ∷ acts) takes = takes_fewer (suc n) acts takes
takes_fewer (suc n) (act.Offer ∷ acts) takes = takes_fewer (suc n) acts takes
takes_fewer (suc n) (act.SendFrame ∷ acts) takes = takes_fewer (suc n) acts takes
takes_fewer (suc n) (act.SendAck ∷ acts) takes = takes_fewer (suc n) acts takes
takes_fewer (suc n) (act.RecvAck keep ∷ acts) takes = takes_fewer (suc n) acts takes
takes_fewer (suc n) (act.LoseFrame place ∷ acts) takes = takes_fewer (suc n) acts takes
takes_fewer (suc n) (act.LoseAck place ∷ acts) takes = takes_fewer (suc n) acts takes
takes_fewer (suc n) (act.Close ∷ acts) takes = takes_fewer (suc n) acts takes

takes_more : (n : ℕ) (a : LinkAct) (acts : List LinkAct) → TakesMany n acts → TakesMany n (a ∷ acts)
takes_more zero a acts takes = tt
takes_more (suc n) (act.RecvFrame false) acts takes = takes_fewer n acts takes
takes_more (suc n) (act.RecvFrame true) acts takes = takes
takes_more (suc n) act.Offer acts takes = takes
takes_more (suc n) act.SendFrame acts takes = takes
takes_more (suc n) act.SendAck acts takes = takes
takes_more (suc n) (act.RecvAck keep) acts takes = takes
takes_more (suc n) (act.LoseFrame place) acts takes = takes
takes_more (suc n) (act.LoseAck place) acts takes = takes
takes_more (suc n) act.Close acts takes = takes

-- how many frames are still to be taken
abbrev still_to_take : ℕ → Reads → ℕ
still_to_take c offer = c
still_to_take c (frames left) = left
still_to_take c r = 0

pub reading_takes : (c : ℕ) (v : Reads) (acts : List LinkAct) → 1 ≤ reading_from c v acts → TakesMany (still_to_take c v) acts
reading_takes c v [] one = absurd (omega arith)
reading_takes c (frames zero) (a ∷ acts) one = tt
reading_takes c frame (a ∷ acts) one = tt
reading_takes c (acks left) (a ∷ acts) one = tt
reading_takes c ack (a ∷ acts) one = tt
reading_takes c (frames (suc left)) (act.RecvFrame false ∷ acts) one = reading_takes c (frames left) acts (omega arith)
reading_takes c (frames (suc left)) (act.RecvFrame true ∷ acts) one = reading_takes c (frames (suc left)) acts (omega arith)
reading_takes c (frames (suc left)) (act.Offer ∷ acts) one = reading_takes c (frames (suc left)) acts (omega arith)
reading_takes c (frames (suc left)) (act.SendFrame ∷ acts) one = reading_takes c (frames (suc left)) acts (omega arith)
reading_takes c (frames (suc left)) (act.SendAck ∷ acts) one = reading_takes c (frames (suc left)) acts (omega arith)
reading_takes c (frames (suc left)) (act.RecvAck keep ∷ acts) one = reading_takes c (frames (suc left)) acts (omega arith)
reading_takes c (frames (suc left)) (act.LoseFrame place ∷ acts) one = reading_takes c (frames (suc left)) acts (omega arith)
reading_takes c (frames (suc left)) (act.LoseAck place ∷ acts) one = reading_takes c (frames (suc left)) acts (omega arith)
reading_takes c (frames (suc left)) (act.Close ∷ acts) one = reading_takes c (frames (suc left)) acts (omega arith)
reading_takes c offer (act.Offer ∷ acts) one = takes_more c act.Offer acts (reading_takes c (frames c) acts (omega arith))
reading_takes c offer (act.SendFrame ∷ acts) one = takes_more c act.SendFrame acts (reading_takes c offer acts (omega arith))
reading_takes c offer (act.RecvFrame keep ∷ acts) one = takes_more c (act.RecvFrame keep) acts (reading_takes c offer acts (omega arith))
reading_takes c offer (act.SendAck ∷ acts) one = takes_more c act.SendAck acts (reading_takes c offer acts (omega arith))
reading_takes c offer (act.RecvAck keep ∷ acts) one = takes_more c (act.RecvAck keep) acts (reading_takes c offer acts (omega arith))
reading_takes c offer (act.LoseFrame place ∷ acts) one = takes_more c (act.LoseFrame place) acts (reading_takes c offer acts (omega arith))
reading_takes c offer (act.LoseAck place ∷ acts) one = takes_more c (act.LoseAck place) acts (reading_takes c offer acts (omega arith))
reading_takes c offer (act.Close ∷ acts) one = takes_more c act.Close acts (reading_takes c offer acts (omega arith))

abbrev Before : Awaited → Type 0
Before next.SendAck = ⊥
Before next.RecvAck = ⊥
Before v = Unit {0}

-- a plain round takes one
pub round_takes : (v : Awaited) (acts : List LinkAct) → Before v → 1 ≤ rounds_from v acts → TakesMany 1 acts
round_takes v [] before one = absurd (omega arith)
round_takes v (act.RecvFrame false ∷ acts) before one = tt
round_takes next.Offer (act.Offer ∷ acts) before one = round_takes next.SendFrame acts tt (omega arith)
round_takes next.Offer (act.SendFrame ∷ acts) before one = round_takes next.Offer acts tt (omega arith)
round_takes next.Offer (act.RecvFrame true ∷ acts) before one = round_takes next.Offer acts tt (omega arith)
round_takes next.Offer (act.SendAck ∷ acts) before one = round_takes next.Offer acts tt (omega arith)
round_takes next.Offer (act.RecvAck keep ∷ acts) before one = round_takes next.Offer acts tt (omega arith)
round_takes next.Offer (act.LoseFrame place ∷ acts) before one = round_takes next.Offer acts tt (omega arith)
round_takes next.Offer (act.LoseAck place ∷ acts) before one = round_takes next.Offer acts tt (omega arith)
round_takes next.Offer (act.Close ∷ acts) before one = round_takes next.Offer acts tt (omega arith)
round_takes next.SendFrame (act.Offer ∷ acts) before one = round_takes next.SendFrame acts tt (omega arith)
round_takes next.SendFrame (act.SendFrame ∷ acts) before one = round_takes next.RecvFrame acts tt (omega arith)
round_takes next.SendFrame (act.RecvFrame true ∷ acts) before one = round_takes next.SendFrame acts tt (omega arith)
round_takes next.SendFrame (act.SendAck ∷ acts) before one = round_takes next.SendFrame acts tt (omega arith)
round_takes next.SendFrame (act.RecvAck keep ∷ acts) before one = round_takes next.SendFrame acts tt (omega arith)
round_takes next.SendFrame (act.LoseFrame place ∷ acts) before one = round_takes next.SendFrame acts tt (omega arith)
round_takes next.SendFrame (act.LoseAck place ∷ acts) before one = round_takes next.SendFrame acts tt (omega arith)
round_takes next.SendFrame (act.Close ∷ acts) before one = round_takes next.SendFrame acts tt (omega arith)
round_takes next.RecvFrame (act.Offer ∷ acts) before one = round_takes next.RecvFrame acts tt (omega arith)
round_takes next.RecvFrame (act.SendFrame ∷ acts) before one = round_takes next.RecvFrame acts tt (omega arith)
round_takes next.RecvFrame (act.RecvFrame true ∷ acts) before one = round_takes next.RecvFrame acts tt (omega arith)
round_takes next.RecvFrame (act.SendAck ∷ acts) before one = round_takes next.RecvFrame acts tt (omega arith)
round_takes next.RecvFrame (act.RecvAck keep ∷ acts) before one = round_takes next.RecvFrame acts tt (omega arith)
round_takes next.RecvFrame (act.LoseFrame place ∷ acts) before one = round_takes next.SendFrame acts tt (omega arith)
round_takes next.RecvFrame (act.LoseAck place ∷ acts) before one = round_takes next.RecvFrame acts tt (omega arith)
round_takes next.RecvFrame (act.Close ∷ acts) before one = round_takes next.RecvFrame acts tt (omega arith)
round_takes next.SendAck (a ∷ acts) before one = absurd before
round_takes next.RecvAck (a ∷ acts) before one = absurd before

-- ---- a part of a schedule

module _ (fixed : Fixed) (w u : ℕ) (p : Parameters) (is_child : parent_at fixed.parents w ≡ Some u)
    (some : 1 ≤ p.capacity) where
  abbrev Grown : WholeTree → ℕ → Type 0
  Grown t count = (s : LinkState) × At t w p s × (count + 1 ≤ s.acked)

  grown_from : (es : List TreeEvent) (t : WholeTree) (s : LinkState) (count : ℕ) → IsSound fixed t → At t w p s → count + 1 ≤ s.acked → Grown (tree_replay t es) count
  grown_from es t s count run there more =
      let (after, found, later) = grows_over fixed w u p is_child es t s run there in (after, found, omega arith)

  -- a reading round of the link acknowledges an item
  pub read_progress : (es : List TreeEvent) (t : WholeTree) (v : Reads) (s : LinkState) → IsSound fixed t → OpenAt (tree_replay t es) w → At t w p s
      → Read p some v s → s.acked < length (received t u) → 1 ≤ reading_from p.capacity v (acts_on w es) → Grown (tree_replay t es) s.acked
  read_progress [] t v s run is_open there read available one = absurd (omega arith)
  read_progress (e ∷ es) t v s run is_open there read available one =
      elim (cases_eq e.child w) [
        | inl same ↦
            let item = slice_get (received t u) (length s.offered) in
            let now : LinkState = after_event p s (event_of e.act item) in
            let found = own_at fixed w u p is_child t e s run there same in
            let facts = known fixed t run w p s there in
            let opened : s.closed ≡ false = open_before fixed (e ∷ es) t w is_open (link_at p s) there in
            let counted : 1 ≤ read_by v e.act + reading_from p.capacity (reads_after p.capacity v e.act) (acts_on w es) =
            subst (λ acts. 1 ≤ reading_from p.capacity v acts) (acts_own w e es same) one in
            let later = received_step t e u in
            elim (act_goes p some v e.act) [
              | round accepted ↦
                  let more = accepted s item opened read in
                  grown_from es (tree_step t e) now s.acked (keeps fixed t e run) found (omega arith)
              | on none ↦
                  elim (act_read p some v s e.act item opened facts.within
                  (waits_or_next fixed w u p is_child t s facts.within available) read) [
                    | accepts acked ↦ grown_from es (tree_step t e) now s.acked (keeps fixed t e run) found (omega arith)
                    | stays unchanged has ↦
                        subst (λ n. Grown (tree_replay (tree_step t e) es) n) unchanged
                        (read_progress es (tree_step t e) (reads_after p.capacity v e.act) now (keeps fixed t e run) is_open found has
                        (omega arith) (omega arith))
                  ]
            ]
        | inr other ↦
            let later = received_step t e u in
            read_progress es (tree_step t e) v s (keeps fixed t e run) is_open (step_other t e w other ∙ there) read (omega arith)
            (subst (λ acts. 1 ≤ reading_from p.capacity v acts) (acts_other w e es other) one)
      ]

  -- and takes what was on its way, where there is nothing left to offer
  pub flush_many : (es : List TreeEvent) (n : ℕ) (t : WholeTree) (s : LinkState) → IsSound fixed t → OpenAt (tree_replay t es) w → At t w p s
      → Drained t fixed.parents u → s.acked ≡ length (received t u) → TakesMany n (acts_on w es)
      → Flushed fixed w u p is_child (tree_replay t es) s.acked (length s.frames - n)
  flush_many es zero t s run is_open there above all takes =
      more_flushed fixed w u p is_child (tree_replay t es) s.acked s.acked (length s.frames) (length s.frames - 0) refl (omega arith)
      (quiet_over fixed w u p is_child es t s run there above all)
  flush_many [] (suc n) t s run is_open there above all takes = absurd takes
  flush_many (e ∷ es) (suc n) t s run is_open there above all takes =
      let (above_after, same_list) = drained_step fixed t e run u above in
      let same_all : length (received t u) ≡ length (received (tree_step t e) u) = ap length (sym same_list) in
      elim (cases_eq e.child w) [
        | inl same ↦
            let now : LinkState = quiet_now fixed p s e.act in
            let quiet = quiet_after p s e.act (idle_at fixed t run w u p s is_child there all) in
            let found = quiet_at fixed t e run w u p s is_child there all same in
            let opened : s.closed ≡ false = open_before fixed (e ∷ es) t w is_open (link_at p s) there in
            elim (first_takes n e.act (acts_on w es) (subst (TakesMany (suc n)) (acts_own w e es same) takes)) [
              | inl now_taken ↦
                  let taken : length now.frames ≤ length s.frames - 1 =
                  subst (λ a. length (quiet_now fixed p s a).frames ≤ length s.frames - 1) (sym now_taken.0) (fewer_taken p s opened) in
                  more_flushed fixed w u p is_child (tree_replay (tree_step t e) es) s.acked now.acked (length now.frames - n) (length s.frames - suc n)
                  quiet.acked (omega arith)
                  (flush_many es n (tree_step t e) now (keeps fixed t e run) is_open found above_after (quiet.acked ∙ all ∙ same_all) now_taken.1)
              | inr later ↦
                  more_flushed fixed w u p is_child (tree_replay (tree_step t e) es) s.acked now.acked (length now.frames - suc n) (length s.frames - suc n)
                  quiet.acked (omega (arith, quiet.fewer))
                  (flush_many es (suc n) (tree_step t e) now (keeps fixed t e run) is_open found above_after (quiet.acked ∙ all ∙ same_all) later)
            ]
        | inr other ↦
            flush_many es (suc n) (tree_step t e) s (keeps fixed t e run) is_open (step_other t e w other ∙ there) above_after (all ∙ same_all)
            (subst (TakesMany (suc n)) (acts_other w e es other) takes)
      ]
