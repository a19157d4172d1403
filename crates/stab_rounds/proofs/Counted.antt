-- With capacity c, `(2c + 1) * items` rounds acknowledge at least `items` items.
use Rattle.std.proofs.Common.{◌≡◌, inl, inr, ℕ, zero, suc, ◌+◌, ◌*◌, ◌≤◌, true, false, List, [], ◌∷◌, map, refl, sym, ◌∙◌, ap, subst, arith, mul-suc}
use Rattle.std.proofs.lemmas.Bool.{cond-false, cond-true, cases_Bool}
use Rattle.std.specs.Prelude.{Contains}
use Rattle.stab_frames.specs.Parameters.{AreLawful, Parameters}
use Rattle.stab_core.specs.declared.start.Start.{Start}
use Rattle.stab_core.specs.LinkLaw.{HalfLawAt, LinkLaw}
use Rattle.stab_core.specs.declared.act.LinkAct.{LinkAct}
use Rattle.stab_core.specs.declared.act.LinkAct.TheVariants as act
use Rattle.stab_core.specs.declared.event.Event.{Event}
use Rattle.stab_core.specs.LinkState.{LinkState}
use Rattle.stab_core.specs.Step.{open_step, step}
use Rattle.stab_core.specs.Replay.{IsLawful, initial, replay, start_items}
use Rattle.stab_core.proofs.Replays.{replay_closed}
use Rattle.stab_rounds.specs.declared.round.Awaited.{Awaited}
use Rattle.stab_rounds.specs.declared.round.Awaited.TheVariants as next
use Rattle.stab_rounds.specs.Rounds.{IsWithin, act_of, awaited_after, completed_by, rounds_from, rounds_of}
use Rattle.stab_rounds.proofs.Levels.{Level, any_level, level_positive}
use Rattle.stab_rounds.proofs.Steps.{Moves, accepts, stays, within_step, replay_grows}
use Rattle.stab_rounds.proofs.Midway.{Due, DueAfter, due_step}

-- an act goes on with the round, or completes it
pub data Goes (w : Awaited) (a : LinkAct) : Type 0 where
  on : completed_by w a ≡ 0 → Goes w a
  round : completed_by w a ≡ 1 → awaited_after w a ≡ next.Offer → Goes w a

pub goes : (w : Awaited) (a : LinkAct) → Goes w a
goes next.RecvAck (act.RecvAck false) = round refl refl
goes w a = on refl

-- what is due after it
pub data DueNext (p : Parameters) (m : ℕ) (w : Awaited) (a : LinkAct) (t : LinkState) : Type 0 where
  still : completed_by w a ≡ 0 → Due p m (awaited_after w a) t → DueNext p m w a t
  done : completed_by w a ≡ 1 → awaited_after w a ≡ next.Offer → Level p m t → DueNext p m w a t

pub due_next : (p : Parameters) (m : ℕ) (w : Awaited) (a : LinkAct) (t : LinkState) → DueAfter p m w a t → DueNext p m w a t
due_next p m next.RecvAck (act.RecvAck false) t due = done refl refl due
due_next p m w a t due = still refl due

module _ (p : Parameters) (some : 1 ≤ p.capacity) where
  abbrev each : ℕ
  each = 2 * p.capacity + 1

  -- at the beginning of a round, or within one
  begins : (m : ℕ) (w : Awaited) (t : LinkState) → w ≡ next.Offer → Level p (suc m) t → Due p m w t
  begins m w t at_offer level = subst (λ v. Due p m v t) (sym at_offer) (inr level)

  -- the items that are acknowledged by the rounds that are left
  abbrev Brings : LinkState → List Event → ℕ → Type 0
  Brings s es items = s.acked + items ≤ (replay p s es).acked

  abbrev BringsAll : List Event → Type 0
  BringsAll es =
      (m items : ℕ) (w : Awaited) (s : LinkState) → IsWithin p s → Due p m w s → (replay p s es).closed ≡ false
      → m + 1 + each * items ≤ rounds_from w (map act_of es) → Brings s es (1 + items)

  -- after an acknowledgement
  after_acked : (es : List Event) → BringsAll es → (m items : ℕ) (w : Awaited) (a : LinkAct) (s t : LinkState) → IsWithin p t
      → t.acked ≡ s.acked + 1 → (replay p t es).closed ≡ false
      → m + 1 + each * items ≤ completed_by w a + rounds_from (awaited_after w a) (map act_of es)
      → s.acked + (1 + items) ≤ (replay p t es).acked
  after_acked es more m zero w a s t within acked still_open enough = omega (arith, replay_grows p t es within)
  after_acked es more m (suc items) w a s t within acked still_open enough =
      let split : each * suc items ≡ each * items + each = mul-suc each items in
      elim (goes w a) [
        | on none ↦
            let rest = more each items (awaited_after w a) t within (inl (any_level p each t within (omega arith))) still_open (omega arith) in omega arith
        | round one at_offer ↦
            let rest = more (2 * p.capacity) items (awaited_after w a) t within
            (begins (2 * p.capacity) (awaited_after w a) t at_offer (any_level p (suc (2 * p.capacity)) t within (omega arith))) still_open (omega arith) in
            omega arith
      ]

  -- where none is acknowledged
  after_same : (es : List Event) → BringsAll es → (m items : ℕ) (w : Awaited) (a : LinkAct) (s t : LinkState) → IsWithin p t
      → t.acked ≡ s.acked → DueNext p m w a t → (replay p t es).closed ≡ false
      → m + 1 + each * items ≤ completed_by w a + rounds_from (awaited_after w a) (map act_of es)
      → s.acked + (1 + items) ≤ (replay p t es).acked
  after_same es more m items w a s t within same (still none due) still_open enough =
      let rest = more m items (awaited_after w a) t within due still_open (omega arith) in omega arith
  after_same es more zero items w a s t within same (done one at_offer level) still_open enough =
      absurd (omega (arith, level_positive p.capacity 0 level))
  after_same es more (suc m) items w a s t within same (done one at_offer level) still_open enough =
      let rest = more m items (awaited_after w a) t within (begins m (awaited_after w a) t at_offer level) still_open (omega arith) in omega arith

  brings : (es : List Event) → BringsAll es
  brings [] m items w s within due still_open enough = absurd (omega arith)
  brings (e ∷ es) m items w s within due still_open enough =
      elim (cases_Bool s.closed) [
        | inl closed ↦
            let unchanged : replay p (step p s e) es ≡ s =
            ap (λ t. replay p t es) (cond-true s.closed s (open_step p s e) closed) ∙ replay_closed p s es closed in
            let never : true ≡ false = sym closed ∙ (ap (λ t. t.closed) (sym unchanged) ∙ still_open) in cc
        | inr is_open ↦
            let is : step p s e ≡ open_step p s e = cond-false s.closed s (open_step p s e) is_open in
            let moves : Moves s (step p s e) (DueAfter p m w (act_of e)) =
            subst (λ t. Moves s t (DueAfter p m w (act_of e))) (sym is) (due_step p m some w s e within due) in
            elim moves [
              | accepts acked ↦
                  after_acked es (brings es) m items w (act_of e) s (step p s e) (within_step p s e within) acked still_open enough
              | stays same has ↦
                  after_same es (brings es) m items w (act_of e) s (step p s e) (within_step p s e within) same
                  (due_next p m w (act_of e) (step p s e) has) still_open enough
            ]
      ]

-- `2c + 1` rounds for each of `items` items acknowledge as many items
pub rounds_bring : (p : Parameters) (s : LinkState) (events : List Event) (items : ℕ) → 1 ≤ p.capacity → IsWithin p s
    → (replay p s events).closed ≡ false → (2 * p.capacity + 1) * items ≤ rounds_of events
    → s.acked + items ≤ (replay p s events).acked
rounds_bring p s events zero some within still_open enough = omega (arith, replay_grows p s events within)
rounds_bring p s events (suc items) some within still_open enough =
    let split = mul-suc (2 * p.capacity + 1) items in
    let rest = brings p some events (2 * p.capacity) items next.Offer s within
    (inr (any_level p (suc (2 * p.capacity)) s within (omega arith))) still_open (omega arith) in
    omega arith

-- the item at place `item` is delivered after `(2c + 1) * (item + 1)` rounds, but for the first
-- `2c + 1` items
pub rounds_bring_item : ((p : Parameters) (start : Start) (events : List Event) → AreLawful p → IsLawful p start
    → let s = replay p (initial start) events in LinkLaw p.capacity (start_items start) s.offered s.acked s.delivered)
    → (p : Parameters) (start : Start) (events : List Event) → AreLawful p → IsLawful p start
    → (replay p (initial start) events).closed ≡ false
    → let s = replay p (initial start) events in
    (places : List ℕ) × HalfLawAt p.capacity (start_items start) s.offered s.acked s.delivered places
    × ((item : ℕ) → 2 * p.capacity + 1 ≤ item → (2 * p.capacity + 1) * (item + 1) ≤ rounds_of events → Contains places item)
rounds_bring_item obey p start events lawful_params lawful still_open =
    let (places, half, none_missing) = obey p start events lawful_params lawful in
    let within : IsWithin p (initial start) = record { frames = lawful.frames; acks = lawful.acks; waits = inl refl } in (
      places,
      half,
      λ item late enough.
          let brought = rounds_bring p (initial start) events (item + 1) lawful_params.some_capacity within still_open enough in
          none_missing item late (omega arith),
    )
