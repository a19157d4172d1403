-- The link law of a start, read off the invariant of all replays.
use Rattle.std.proofs.Common.{◌≡◌, ℕ, ◌+◌, ◌≤◌, List, [], ◌++◌, map, length, slice_index, refl, ◌∙◌, ap, ap₂, subst, Contains, arith}
use mathlib.Core.List.{map-map}
use Rattle.std.proofs.lemmas.List.{length-map, map-append}
use Rattle.stab_frames.specs.declared.frame.Frame.{Frame}
use Rattle.stab_frames.specs.Parameters.{Parameters, AreLawful, fewest_labels}
use Rattle.stab_core.specs.declared.event.Event.{Event}
use Rattle.stab_core.specs.declared.start.Start.{Start}
use Rattle.stab_core.specs.LinkState.{LinkState}
use Rattle.stab_core.specs.LinkLaw.{HalfLawAt, LinkLawWithin}
use Rattle.stab_core.specs.Replay.{IsLawful, start_items, initial, replay}
use Rattle.stab_core.specs.Trace.{Traced, traced_initial, traced_replay}
use Rattle.stab_core.proofs.Answering.{few_below, few_below-parted}
use Rattle.stab_core.proofs.Events.{Invariant, every_replay_keeps}
use Rattle.stab_core.proofs.ForCallers.{below_higher, few_rising, map_below, member_is_raised, raised, Parted, parted}
use Rattle.stab_core.proofs.FreeLabel.{IsFree}
use Rattle.stab_core.proofs.LinkLaws.{traced_replay_state}
use Rattle.stab_core.proofs.Sources.{stray_count, item_at, item_sent, item_stray}
use Rattle.stab_line.specs.Ends.{SenderEnd, ReceiverEnd}
use Rattle.stab_line.specs.Line.{Line, LineAct, line_run, new_count, start_of}
use Rattle.stab_line.specs.SessionLink.{SessionLink, LinkAct, InTurn, counted_anew, line_of, link_run, receiver_restarted, sender_restarted}
use Rattle.stab_line.specs.StartLaw.{LinkLawOfStart}
use Rattle.stab_line.proofs.Lines.{line_is_replay}
use Rattle.stab_line.proofs.SessionLines.{few_acks, few_frames, run_is_line_run}
use Rattle.stab_line.proofs.Turns.{receiver_restart_in_turn, sender_restart_in_turn}

module _ (p : Parameters) (start : Start) (from : ℕ) (Followed : ℕ → Type 0) (t : Traced)
    (inv : Invariant p start from Followed t) where
  -- the taken places are those of strays, then those of offered items
  abbrev parts : Parted (stray_count start) (length t.state.offered) 0 inv.taken
  parts =
      let strays : ℕ = stray_count start in
      let size : ℕ = length t.state.offered in
      let delivery = inv.kept.delivery in
      parted strays size 0 inv.taken delivery.rises
      (below_higher inv.bound (strays + size) inv.taken delivery.in_list delivery.below)

  abbrev strays : List ℕ
  strays = map (slice_index (start_items start)) parts.low

  abbrev sent : List ℕ
  sent = map (slice_index t.state.offered) parts.high

  -- the delivered list is strays, then offered items
  in_parts : t.state.delivered ≡ strays ++ sent
  in_parts =
      let bound : ℕ = stray_count start in
      let at_place : ℕ → ℕ = item_at start t.state.offered in
      inv.kept.delivery.delivered_are
      ∙ (ap (map at_place) parts.both
      ∙ (map-append at_place parts.low (raised bound parts.high)
      ∙ ap₂ (λ front back. front ++ back)
      (map_below at_place (slice_index (start_items start)) bound parts.low (item_stray start t.state.offered) parts.low_below)
      (map-map at_place (λ (i : ℕ). bound + i) parts.high
      ∙ map_below (λ i. at_place (bound + i)) (slice_index t.state.offered) (length t.state.offered) parts.high
      (λ i _. item_sent start t.state.offered i) parts.high_below)))

  -- no more strays than frames of the start
  few : length strays ≤ length start.frames
  few =
      let bound : ℕ = stray_count start in
      let places : List ℕ = parts.low in
      let few_places : 0 + length places ≤ bound = few_rising 0 bound places parts.low_rise parts.low_below (omega arith) in
      omega (arith, few_places, length-map start.frames (λ f. f.item), length-map places (slice_index (start_items start)))

  abbrev half : HalfLawAt (length start.frames) (start_items start) t.state.offered t.state.acked t.state.delivered parts.high
  half =
      record {
        acked_were_offered = inv.kept.sending.acked_were_offered;
        one_waits_at_most = inv.kept.sending.one_waits_at_most;
        strays = strays;
        stray_places = parts.low;
        taken = sent;
        parts = in_parts;
        few_strays = few;
        strays_picked = record { rising = parts.low_rise; in_list = parts.low_below; the_items = refl };
        taken_picked = record { rising = parts.high_rise; in_list = parts.high_below; the_items = refl };
      }

  law_of_start : fewest_labels p.capacity ≤ p.labels → IsLawful p start
      → LinkLawOfStart start t.state.offered t.state.acked t.state.delivered
  law_of_start enough lawful =
      let bound : ℕ = stray_count start in
      let few_acks = lawful.acks in
      let few_frames = lawful.frames in
      let as_many : length strays ≡ length parts.low = length-map parts.low (slice_index (start_items start)) in
      let few_low : length strays ≤ length start.frames = few in
      let before : few_below bound inv.taken ≡ length parts.low =
      ap (few_below bound) parts.both ∙ few_below-parted bound parts.low parts.high parts.low_below in
      let (answered, answering) = inv.kept.answers (omega arith) in (
        parts.high,
        half,
        λ i late passed.
            let missing : length start.acks + 1 + length strays ≤ i = late in
            member_is_raised bound i parts.low parts.high parts.low_below
            (subst (λ (places : List ℕ). Contains places (bound + i)) parts.both
            (answering.none_missing i (omega arith) passed (omega arith))),
      )

-- every replay obeys the law of its start
pub replay_obeys_start : (p : Parameters) (start : Start) (events : List Event) → AreLawful p → IsLawful p start
    → let s = replay p (initial start) events in LinkLawOfStart start s.offered s.acked s.delivered
replay_obeys_start p start events parameters lawful =
    let t : Traced = traced_replay p (traced_initial start) events in
    subst (λ (s : LinkState). LinkLawOfStart start s.offered s.acked s.delivered)
    (traced_replay_state p (traced_initial start) events)
    (law_of_start p start 0 (IsFree p start) t (every_replay_keeps p start events) parameters.enough_labels lawful)

-- so does a line
pub line_obeys_start : (p : Parameters) (frames : List Frame) (acks : List ℕ) (sender : SenderEnd) (receiver : ReceiverEnd)
    (acts : List LineAct) → AreLawful p → length frames ≤ p.capacity → length acks ≤ p.capacity
    → let l = line_run p (new_count frames acks sender receiver) acts in
    LinkLawOfStart (start_of frames acks sender receiver) l.offered l.acked l.delivered
line_obeys_start p frames acks sender receiver acts lawful few_frames few_acks =
    let (events, leads) = line_is_replay p frames acks sender receiver acts in
    subst (λ (s : LinkState). LinkLawOfStart (start_of frames acks sender receiver) s.offered s.acked s.delivered) leads
    (replay_obeys_start p (start_of frames acks sender receiver) events lawful (record { frames = few_frames; acks = few_acks }))

-- the link law with bounds that a start is within
pub within_start : (start : Start) (most_strays most_missing : ℕ) (offered : List ℕ) (acked : ℕ) (delivered : List ℕ)
    → length start.frames ≤ most_strays → length start.acks + 1 + length start.frames ≤ most_missing
    → LinkLawOfStart start offered acked delivered
    → LinkLawWithin most_strays most_missing (start_items start) offered acked delivered
within_start start most_strays most_missing offered acked delivered few_frames few_missing (places, half, none_missing) =
    let few_of_start = half.few_strays in (
      places,
      record {
        acked_were_offered = half.acked_were_offered;
        one_waits_at_most = half.one_waits_at_most;
        strays = half.strays;
        stray_places = half.stray_places;
        taken = half.taken;
        parts = half.parts;
        few_strays = omega (arith, few_of_start, few_frames);
        strays_picked = half.strays_picked;
        taken_picked = half.taken_picked;
      },
      λ i late passed. none_missing i (omega arith) passed,
    )

-- so do two ends over connections that are in turn
pub link_obeys_start : (p : Parameters) (t : SessionLink) (acts : List LinkAct) → AreLawful p → InTurn t
    → let after = link_run p (counted_anew t) acts in
    LinkLawOfStart (start_of (line_of t).frames (line_of t).acks t.sender t.receiver) after.offered after.acked after.delivered
link_obeys_start p t acts lawful in_turn =
    let l : Line = line_of t in
    let holds : 1 ≤ p.capacity = lawful.some_capacity in
    let (line_acts, leads) = run_is_line_run p (counted_anew t) acts holds in_turn in
    subst (λ (s : Line). LinkLawOfStart (start_of l.frames l.acks t.sender t.receiver) s.offered s.acked s.delivered) leads
    (line_obeys_start p l.frames l.acks t.sender t.receiver line_acts lawful
    (omega (arith, holds, few_frames t in_turn t.at_receiver.connection)) (omega (arith, holds, few_acks t in_turn t.at_sender.connection)))

-- after a restart of the sender's end, of the receiver's, and of both
pub sender_restart_obeys : (p : Parameters) (t : SessionLink) (sender : SenderEnd) (acts : List LinkAct) → AreLawful p → InTurn t
    → let before = sender_restarted t sender in let after = link_run p (counted_anew before) acts in
    LinkLawWithin 1 2 (map (λ f. f.item) (line_of before).frames) after.offered after.acked after.delivered
sender_restart_obeys p t sender acts lawful in_turn =
    let before : SessionLink = sender_restarted t sender in
    let now : InTurn before = sender_restart_in_turn t sender in_turn in
    let after : SessionLink = link_run p (counted_anew before) acts in
    let few = few_frames before now before.at_receiver.connection in
    within_start (start_of (line_of before).frames [] sender t.receiver) 1 2 after.offered after.acked after.delivered
    few (omega (arith, few)) (link_obeys_start p before acts lawful now)

pub receiver_restart_obeys : (p : Parameters) (t : SessionLink) (receiver : ReceiverEnd) (acts : List LinkAct) → AreLawful p
    → InTurn t → let after = link_run p (counted_anew (receiver_restarted t receiver)) acts in
    LinkLawWithin 0 2 [] after.offered after.acked after.delivered
receiver_restart_obeys p t receiver acts lawful in_turn =
    let before : SessionLink = receiver_restarted t receiver in
    let now : InTurn before = receiver_restart_in_turn t receiver in_turn in
    let after : SessionLink = link_run p (counted_anew before) acts in
    let few = few_acks before now before.at_sender.connection in
    within_start (start_of [] (line_of before).acks t.sender receiver) 0 2 after.offered after.acked after.delivered
    (omega arith) (omega (arith, few)) (link_obeys_start p before acts lawful now)

pub both_restart_obeys : (p : Parameters) (t : SessionLink) (sender : SenderEnd) (receiver : ReceiverEnd) (acts : List LinkAct)
    → AreLawful p → InTurn t
    → let after = link_run p (counted_anew (receiver_restarted (sender_restarted t sender) receiver)) acts in
    LinkLawWithin 0 1 [] after.offered after.acked after.delivered
both_restart_obeys p t sender receiver acts lawful in_turn =
    let before : SessionLink = receiver_restarted (sender_restarted t sender) receiver in
    let now : InTurn before =
    receiver_restart_in_turn (sender_restarted t sender) receiver (sender_restart_in_turn t sender in_turn) in
    let after : SessionLink = link_run p (counted_anew before) acts in
    within_start (start_of [] [] sender receiver) 0 1 after.offered after.acked after.delivered
    (omega arith) (omega arith) (link_obeys_start p before acts lawful now)
