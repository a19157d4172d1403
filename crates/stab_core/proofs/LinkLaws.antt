-- The laws of a replay, read off the invariants.
use Rattle.std.proofs.Common.{◌≡◌, ℕ, ◌+◌, ◌*◌, ◌<◌, ◌≤◌, List, [], ◌∷◌, ◌++◌, map, length, slice_index, refl, sym, ◌∙◌, ap, ap₂, subst, Contains, arith}
use mathlib.Core.List.{map-map}
use Rattle.std.proofs.lemmas.Bool.{cond_both, cond-true}
use Rattle.std.proofs.lemmas.List.{length-map, map-append}
use Rattle.stab_frames.specs.Parameters.{Parameters, AreLawful, fewest_labels}
use Rattle.stab_core.specs.declared.event.Event.{Event}
use Rattle.stab_core.specs.declared.origin.Origin.TheVariants.{Stray, Sent}
use Rattle.stab_core.specs.declared.start.Start.{Start}
use Rattle.stab_core.specs.LinkState.{LinkState}
use Rattle.stab_core.specs.Replay.{IsLawful, start_items, initial, replay}
use Rattle.stab_core.specs.Step.{step}
use Rattle.stab_core.specs.Picks.{Picks}
use Rattle.stab_core.specs.LinkLaw.{HalfLaw, HalfLawAt, LinkLaw, NoneMissingFrom, SharperLinkLaw}
use Rattle.stab_core.specs.Trace.{Traced, traced_initial, traced_step, traced_replay, Explains}
use Rattle.stab_core.proofs.ForCallers.{few_rising, below_higher, map_below, member_is_raised, raised, Parted, parted}
use Rattle.stab_core.proofs.Sources.{stray_count, item_at, origin_at, item_sent, item_stray, origin_sent, origin_stray}
use Rattle.stab_core.proofs.FreeLabel.{IsFree, free_label}
use Rattle.stab_core.proofs.Answering.{few_below, few_below-parted}
use Rattle.stab_core.proofs.Events.{Invariant, every_replay_keeps}

-- the trace steps as the link does
pub traced_step_state : (p : Parameters) (t : Traced) (e : Event) → (traced_step p t e).state ≡ step p t.state e
traced_step_state p t e =
    cond_both t.state.closed t _ (λ (next_trace : Traced). next_trace.state ≡ step p t.state e)
    (λ closed. sym (cond-true t.state.closed _ _ closed)) (λ _. refl)

-- so the state of a traced replay is that of the replay
pub traced_replay_state : (p : Parameters) (t : Traced) (events : List Event)
    → (traced_replay p t events).state ≡ replay p t.state events
traced_replay_state p t [] = refl
traced_replay_state p t (e ∷ events) =
    traced_replay_state p (traced_step p t e) events ∙ ap (λ s. replay p s events) (traced_step_state p t e)

-- what a function has at parted places, it has at the low ones and then at the high ones
map-parted : {A : Type 0} (bound : ℕ) {more lowest : ℕ} {places : List ℕ} (parts : Parted bound more lowest places)
    (at_place at_low at_high : ℕ → A) → ((v : ℕ) → v < bound → at_place v ≡ at_low v)
    → ((i : ℕ) → at_place (bound + i) ≡ at_high i)
    → map at_place places ≡ map at_low parts.low ++ map at_high parts.high
map-parted bound {more} parts at_place at_low at_high on_low on_high =
    ap (map at_place) parts.both
    ∙ map-append at_place parts.low (raised bound parts.high)
    ∙ ap₂ (λ front back. front ++ back)
    (map_below at_place at_low bound parts.low on_low parts.low_below)
    (map-map at_place (λ (i : ℕ). bound + i) parts.high
    ∙ map_below (λ i. at_place (bound + i)) at_high more parts.high (λ i _. on_high i) parts.high_below)

module _ (p : Parameters) (start : Start) (from : ℕ) (Followed : ℕ → Type 0) (t : Traced)
    (inv : Invariant p start from Followed t) where
  -- the taken places are those of strays, then those of offered items
  taken_parts : Parted (stray_count start) (length t.state.offered) 0 inv.taken
  taken_parts =
      let strays : ℕ = stray_count start in
      let size : ℕ = length t.state.offered in
      let delivery = inv.kept.delivery in
      parted strays size 0 inv.taken delivery.rises
      (below_higher inv.bound (strays + size) inv.taken delivery.in_list delivery.below)

  -- the strays that were delivered
  stray_items : List ℕ
  stray_items = map (slice_index (start_items start)) taken_parts.low

  -- the offered items that were delivered
  sent_items : List ℕ
  sent_items = map (slice_index t.state.offered) taken_parts.high

  -- the delivered list is strays, then offered items
  delivered_parts : t.state.delivered ≡ stray_items ++ sent_items
  unfolding stray_items sent_items
  delivered_parts =
      inv.kept.delivery.delivered_are
      ∙ map-parted (stray_count start) taken_parts
      (item_at start t.state.offered) (slice_index (start_items start)) (slice_index t.state.offered)
      (item_stray start t.state.offered) (item_sent start t.state.offered)

  -- the origins are those of strays, then those of offered items
  origin_parts : t.origins ≡ map Stray taken_parts.low ++ map Sent taken_parts.high
  origin_parts =
      inv.taken_are ∙ map-parted (stray_count start) taken_parts (origin_at start) Stray Sent (origin_stray start) (origin_sent start)

  -- the strays are picked from the start's items
  strays_picked : Picks (start_items start) taken_parts.low stray_items
  unfolding stray_items
  strays_picked = record { rising = taken_parts.low_rise; in_list = taken_parts.low_below; the_items = refl }

  -- the others are picked from the offered list
  sent_picked : Picks t.state.offered taken_parts.high sent_items
  unfolding sent_items
  sent_picked =
      record {
        rising = taken_parts.high_rise;
        in_list = taken_parts.high_below;
        the_items = refl;
      }

  -- the origins explain the delivered list
  explained : Explains (start_items start) t.state.offered t.origins t.state.delivered
  explained =
      record {
        stray_places = taken_parts.low;
        places = taken_parts.high;
        strays = stray_items;
        taken = sent_items;
        in_order = origin_parts;
        parts = delivered_parts;
        strays_picked = strays_picked;
        taken_picked = sent_picked;
      }

  -- there are at most as many strays as the start may hold
  few_strays : IsLawful p start → length stray_items ≤ p.capacity
  unfolding stray_items
  few_strays lawful =
      let strays : ℕ = stray_count start in
      let places : List ℕ = taken_parts.low in
      let few : 0 + length places ≤ strays =
      few_rising 0 strays places taken_parts.low_rise taken_parts.low_below (omega arith) in
      let few_in_start : strays ≤ p.capacity = simp length-map lawful.frames in
      simp length-map (omega arith)

  -- the half law holds at the places of the offered items that were taken
  half_law : IsLawful p start
      → HalfLawAt p.capacity (start_items start) t.state.offered t.state.acked t.state.delivered taken_parts.high
  half_law lawful =
      record {
        acked_were_offered = inv.kept.sending.acked_were_offered;
        one_waits_at_most = inv.kept.sending.one_waits_at_most;
        strays = stray_items;
        stray_places = taken_parts.low;
        taken = sent_items;
        parts = delivered_parts;
        few_strays = few_strays lawful;
        strays_picked = strays_picked;
        taken_picked = sent_picked;
      }

  -- from an item number on that is followed none is missing there
  none_missing_from : (j : ℕ) → Followed j → NoneMissingFrom j t.state.acked taken_parts.high
  none_missing_from j followed i late passed =
      let place : ℕ = stray_count start + i in
      let taken : Contains inv.taken place = (inv.kept.readings j followed).none_missing i late passed in
      member_is_raised (stray_count start) i taken_parts.low taken_parts.high taken_parts.low_below
      (subst (λ (places : List ℕ). Contains places place) taken_parts.both taken)

  -- so the link law holds where one of the first 2c + 2 item numbers is followed
  pub followed_link_law : IsLawful p start → (j : ℕ) → j ≤ 2 * p.capacity + 1 → Followed j
      → LinkLaw p.capacity (start_items start) t.state.offered t.state.acked t.state.delivered
  followed_link_law lawful j within followed =
      (_, half_law lawful, λ i late passed. none_missing_from j followed i (omega arith) passed)

  -- and where no more items than these are acknowledged
  pub few_acked_link_law : IsLawful p start → t.state.acked ≤ 2 * p.capacity + 1
      → LinkLaw p.capacity (start_items start) t.state.offered t.state.acked t.state.delivered
  few_acked_link_law lawful few = (_, half_law lawful, λ i late passed. absurd (omega arith))

  -- where there are enough labels, only as many items are missing as labels of the start and of
  -- strays came
  pub answered_link_law : fewest_labels p.capacity ≤ p.labels → IsLawful p start
      → SharperLinkLaw p.capacity (start_items start) t.state.offered t.state.acked t.state.delivered
  unfolding half_law stray_items
  answered_link_law enough lawful =
      let strays : ℕ = stray_count start in
      let few_acks = lawful.acks in
      let as_many : length stray_items ≡ length taken_parts.low = length-map taken_parts.low (slice_index (start_items start)) in
      let few_low : length stray_items ≤ p.capacity = few_strays lawful in
      let few : few_below strays inv.taken ≡ length taken_parts.low =
      ap (few_below strays) taken_parts.both ∙ few_below-parted strays taken_parts.low taken_parts.high taken_parts.low_below in
      let (answered, answering) = inv.kept.answers (omega arith) in (
        _,
        half_law lawful,
        λ i late passed.
            let missing : p.capacity + 1 + length stray_items ≤ i = late in
            member_is_raised strays i taken_parts.low taken_parts.high taken_parts.low_below
            (subst (λ (places : List ℕ). Contains places (strays + i)) taken_parts.both
            (answering.none_missing i (omega arith) passed (omega arith))),
      )

-- every replay is explained by its origins
pub replay_explained : (p : Parameters) (start : Start) (events : List Event)
    → let s = replay p (initial start) events in
    Explains (start_items start) s.offered (traced_replay p (traced_initial start) events).origins s.delivered
replay_explained p start events =
    let t : Traced = traced_replay p (traced_initial start) events in
    subst (λ (s : LinkState). Explains (start_items start) s.offered t.origins s.delivered)
    (traced_replay_state p (traced_initial start) events) (explained p start 0 (IsFree p start) t (every_replay_keeps p start events))

-- every replay acknowledged only what was offered, and all of it but at most the last
pub replay_acked : (p : Parameters) (start : Start) (events : List Event)
    → let s = replay p (initial start) events in (s.acked ≤ length s.offered) × (length s.offered ≤ s.acked + 1)
replay_acked p start events =
    let sending = (every_replay_keeps p start events).kept.sending in
    subst (λ (s : LinkState). (s.acked ≤ length s.offered) × (length s.offered ≤ s.acked + 1))
    (traced_replay_state p (traced_initial start) events) (sending.acked_were_offered, sending.one_waits_at_most)

-- every replay from a lawful start obeys the half law
pub replay_half_law : (p : Parameters) (start : Start) (events : List Event) → IsLawful p start
    → let s = replay p (initial start) events in HalfLaw p.capacity (start_items start) s.offered s.acked s.delivered
replay_half_law p start events lawful =
    let t : Traced = traced_replay p (traced_initial start) events in
    subst (λ (s : LinkState). HalfLaw p.capacity (start_items start) s.offered s.acked s.delivered)
    (traced_replay_state p (traced_initial start) events)
    (_, half_law p start 0 (IsFree p start) t (every_replay_keeps p start events) lawful)

-- every replay from a lawful start obeys the link law
pub replay_link_law : (p : Parameters) (start : Start) (events : List Event) → AreLawful p → IsLawful p start
    → let s = replay p (initial start) events in LinkLaw p.capacity (start_items start) s.offered s.acked s.delivered
replay_link_law p start events parameters lawful =
    let t : Traced = traced_replay p (traced_initial start) events in
    let (j, within, free) = free_label p start parameters lawful in
    subst (λ (s : LinkState). LinkLaw p.capacity (start_items start) s.offered s.acked s.delivered)
    (traced_replay_state p (traced_initial start) events)
    (followed_link_law p start 0 (IsFree p start) t (every_replay_keeps p start events) lawful j within free)

-- and the sharper one
pub replay_sharper_link_law : (p : Parameters) (start : Start) (events : List Event) → AreLawful p → IsLawful p start
    → let s = replay p (initial start) events in SharperLinkLaw p.capacity (start_items start) s.offered s.acked s.delivered
replay_sharper_link_law p start events parameters lawful =
    let t : Traced = traced_replay p (traced_initial start) events in
    subst (λ (s : LinkState). SharperLinkLaw p.capacity (start_items start) s.offered s.acked s.delivered)
    (traced_replay_state p (traced_initial start) events)
    (answered_link_law p start 0 (IsFree p start) t (every_replay_keeps p start events) parameters.enough_labels lawful)
