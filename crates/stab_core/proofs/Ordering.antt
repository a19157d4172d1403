-- The order in which items go through a link, whatever its start: places in transit never fall,
-- delivered places rise.
use Rattle.std.proofs.Common.{◌≡◌, ◌≢◌, ℕ, ◌+◌, ◌-◌, ◌<◌, ◌≤◌, Bool, List, [], ◌∷◌, ◌++◌, map, length, slice_index, refl, sym, ◌∙◌, ap, ap₂, arith}
use Rattle.std.proofs.lemmas.List.{map_push, length_push}
use Rattle.stab_frames.specs.declared.frame.Frame.{Frame}
use Rattle.stab_frames.specs.Parameters.{Parameters, next}
use Rattle.stab_core.specs.declared.start.Start.{Start}
use Rattle.stab_core.specs.Picks.{RisesFrom, AllBelow}
use Rattle.stab_core.specs.Step.{after_front}
use Rattle.stab_core.proofs.Labels.{item_label, item_label-more}
use Rattle.stab_core.proofs.InOrder.{InOrder, in_order_after_front}
use Rattle.stab_core.proofs.ForCallers.{rises_push, below_higher, below_push, map_below}
use Rattle.stab_core.proofs.Places.{NeverFalls, NeverFalls-lower, NeverFalls-in_order, NeverFalls-push, AllBelow-in_order}
use Rattle.stab_core.proofs.Sources.{stray_count, item_at, label_at, frame, frame_at, frame_sent, item_kept, frame_kept, start_places, start_places_never_fall, start_places_below, start_frames}

-- The sender: all offered items but at most the last are acknowledged, and its label is that of the
-- next item.
pub record Sending (p : Parameters) (start : Start) (offered : List ℕ) (acked send_label : ℕ) : Type 0 where
  pub acked_were_offered : acked ≤ length offered
  pub one_waits_at_most : length offered ≤ acked + 1
  pub own_label : send_label ≡ item_label p start acked

-- The queue of frames: they are the frames of these places.
pub record InTransit (p : Parameters) (start : Start) (offered : List ℕ) (frames : List Frame) (queued : List ℕ)
    : Type 0 where
  pub frames_are : frames ≡ map (frame_at p start offered) queued
  pub in_list : AllBelow (stray_count start + length offered) queued

-- The receiver: it took the items of these rising places, all below a bound. What is in transit
-- never falls and is no lower than the place taken last, whose label the receiver remembers.
pub record Delivery (p : Parameters) (start : Start) (offered : List ℕ) (recv_label : ℕ) (delivered queued taken : List ℕ)
    (bound : ℕ) : Type 0 where
  pub delivered_are : delivered ≡ map (item_at start offered) taken
  pub rises : RisesFrom 0 taken
  pub below : AllBelow bound taken
  pub in_list : bound ≤ stray_count start + length offered
  pub last_label : (place : ℕ) → bound ≡ place + 1 → label_at p start place ≡ recv_label
  pub never_falls : NeverFalls (bound - 1) queued

module _ (p : Parameters) (start : Start) where
  -- at the start the sender is idle
  pub sending_open : Sending p start [] 0 start.send_label
  sending_open = record { acked_were_offered = omega arith; one_waits_at_most = omega arith; own_label = refl }

  -- an idle sender is offered an item
  pub sending_offer : {offered : List ℕ} {acked send_label : ℕ} (item : ℕ) → length offered ≡ acked
      → Sending p start offered acked send_label → Sending p start (offered ++ item ∷ []) acked send_label
  sending_offer {offered} item idle sending =
      record {
        acked_were_offered = omega (arith, length_push offered item);
        one_waits_at_most = omega (arith, length_push offered item);
        own_label = sending.own_label;
      }

  -- the item that waits is acknowledged
  pub sending_acked : {offered : List ℕ} {acked send_label : ℕ} → length offered ≡ acked + 1
      → Sending p start offered acked send_label → Sending p start offered (acked + 1) (next p send_label)
  sending_acked {acked = acked} holding sending =
      record {
        acked_were_offered = omega arith;
        one_waits_at_most = omega arith;
        own_label = ap (next p) sending.own_label ∙ sym (item_label-more p start acked);
      }

  -- at the start the frames are the strays
  pub transit_open : InTransit p start [] start.frames (start_places start)
  transit_open =
      let strays : ℕ = stray_count start in
      record {
        frames_are = start_frames p start;
        in_list = below_higher strays (strays + 0) (start_places start) (omega arith) (start_places_below start);
      }

  -- an offer leaves the frames as they are
  pub transit_offer : {offered queued : List ℕ} {frames : List Frame} (item : ℕ)
      → InTransit p start offered frames queued → InTransit p start (offered ++ item ∷ []) frames queued
  transit_offer {offered} {queued} item transit =
      let more : List ℕ = offered ++ item ∷ [] in
      let strays : ℕ = stray_count start in
      record {
        frames_are = transit.frames_are
            ∙ map_below (frame_at p start offered) (frame_at p start more) (strays + length offered) queued
            (frame_kept p start offered (item ∷ [])) transit.in_list;
        in_list = below_higher (strays + length offered) (strays + length more) queued
            (omega (arith, length_push offered item)) transit.in_list;
      }

  -- the sender sends the frame of the item that waits
  pub transit_send : {offered queued : List ℕ} {frames : List Frame} {acked send_label : ℕ} → length offered ≡ acked + 1
      → Sending p start offered acked send_label → InTransit p start offered frames queued
      → InTransit p start offered (frames ++ frame send_label (slice_index offered acked) ∷ [])
      (queued ++ (stray_count start + acked) ∷ [])
  transit_send {offered} {queued} {acked = acked} holding sending transit =
      let place : ℕ = stray_count start + acked in
      record {
        frames_are =
            ap₂ (λ fs f. fs ++ f ∷ []) transit.frames_are (sym (frame_sent p start offered acked sending.own_label))
            ∙ sym (map_push (frame_at p start offered) queued place);
        in_list = below_push (stray_count start + length offered) place queued transit.in_list (omega arith);
      }

  -- frames vanish, or stay at the front
  pub transit_in_order : {offered queued fewer : List ℕ} {frames remaining : List Frame}
      → remaining ≡ map (frame_at p start offered) fewer → InOrder queued fewer
      → InTransit p start offered frames queued → InTransit p start offered remaining fewer
  transit_in_order {offered} frames_are in_order transit =
      record { frames_are = frames_are; in_list = AllBelow-in_order (stray_count start + length offered) in_order transit.in_list }

  -- at the start nothing is taken
  pub delivery_open : Delivery p start [] start.recv_label [] (start_places start) [] 0
  delivery_open =
      record {
        delivered_are = refl;
        rises = tt;
        below = tt;
        in_list = omega arith;
        last_label = λ place none. absurd (omega arith);
        never_falls = start_places_never_fall start;
      }

  -- an offer leaves what was delivered as it is
  pub delivery_offer : {offered : List ℕ} {recv_label : ℕ} {delivered queued taken : List ℕ} {bound : ℕ} (item : ℕ)
      → Delivery p start offered recv_label delivered queued taken bound
      → Delivery p start (offered ++ item ∷ []) recv_label delivered queued taken bound
  delivery_offer {offered} {taken = taken} {bound = bound} item delivery =
      let size : ℕ = stray_count start + length offered in
      record {
        delivered_are = delivery.delivered_are
            ∙ map_below (item_at start offered) (item_at start (offered ++ item ∷ [])) size taken
            (item_kept start offered (item ∷ [])) (below_higher bound size taken delivery.in_list delivery.below);
        rises = delivery.rises;
        below = delivery.below;
        in_list = omega (arith, delivery.in_list, length_push offered item);
        last_label = delivery.last_label;
        never_falls = delivery.never_falls;
      }

  -- so does a frame that is sent: its place is the last of all
  pub delivery_send : (acked : ℕ) {offered : List ℕ} {recv_label : ℕ} {delivered queued taken : List ℕ} {bound : ℕ}
      → length offered ≡ acked + 1 → AllBelow (stray_count start + length offered) queued
      → Delivery p start offered recv_label delivered queued taken bound
      → Delivery p start offered recv_label delivered (queued ++ (stray_count start + acked) ∷ []) taken bound
  delivery_send acked {offered} {queued = queued} {bound = bound} holding in_list delivery =
      let place : ℕ = stray_count start + acked in
      let lowest : ℕ = bound - 1 in
      let all_below : AllBelow (place + 1) queued =
      below_higher (stray_count start + length offered) (place + 1) queued (omega arith) in_list in
      record {
        delivered_are = delivery.delivered_are;
        rises = delivery.rises;
        below = delivery.below;
        in_list = delivery.in_list;
        last_label = delivery.last_label;
        never_falls = NeverFalls-push lowest place queued (omega (arith, delivery.in_list)) all_below delivery.never_falls;
      }

  -- so do frames that vanish, or stay at the front
  pub delivery_in_order : {offered : List ℕ} {recv_label : ℕ} {delivered queued fewer taken : List ℕ} {bound : ℕ}
      → InOrder queued fewer → Delivery p start offered recv_label delivered queued taken bound
      → Delivery p start offered recv_label delivered fewer taken bound
  delivery_in_order {bound = bound} in_order delivery =
      record {
        delivered_are = delivery.delivered_are;
        rises = delivery.rises;
        below = delivery.below;
        in_list = delivery.in_list;
        last_label = delivery.last_label;
        never_falls = NeverFalls-in_order (bound - 1) in_order delivery.never_falls;
      }

  -- a frame whose label is not the receiver's lies above all that was taken, since the place taken
  -- last has that label
  fresh_is_above : {offered : List ℕ} {recv_label : ℕ} {delivered : List ℕ} {place : ℕ} {queued taken : List ℕ} {bound : ℕ}
      → label_at p start place ≢ recv_label → Delivery p start offered recv_label delivered (place ∷ queued) taken bound
      → bound ≤ place
  fresh_is_above {place = place} {bound = bound} fresh delivery =
      let not_last : bound ≢ place + 1 = λ last. fresh (delivery.last_label place last) in
      omega (arith, delivery.never_falls.0)

  -- such a frame is taken, and stays at the front or goes
  pub delivery_fresh : (keep : Bool) {offered : List ℕ} {recv_label : ℕ} {delivered : List ℕ} {place : ℕ}
      {queued taken : List ℕ} {bound : ℕ} → label_at p start place ≢ recv_label → place < stray_count start + length offered
      → Delivery p start offered recv_label delivered (place ∷ queued) taken bound
      → Delivery p start offered (label_at p start place) (delivered ++ item_at start offered place ∷ [])
      (after_front keep (place ∷ queued)) (taken ++ place ∷ []) (place + 1)
  delivery_fresh keep {offered} {place = place} {queued} {taken} {bound} fresh in_list delivery =
      let above : bound ≤ place = fresh_is_above fresh delivery in
      let all_below : AllBelow place taken = below_higher bound place taken above delivery.below in
      let still_below : AllBelow (place + 1) taken = below_higher place (place + 1) taken (omega arith) all_below in
      let stays : place ≤ place = omega arith in
      let none_lower : NeverFalls place (after_front keep (place ∷ queued)) =
      NeverFalls-in_order place (in_order_after_front keep (place ∷ queued)) (stays, delivery.never_falls.1) in
      record {
        delivered_are = ap (λ items. items ++ item_at start offered place ∷ []) delivery.delivered_are
            ∙ sym (map_push (item_at start offered) taken place);
        rises = rises_push 0 place taken (omega arith) all_below delivery.rises;
        below = below_push (place + 1) place taken still_below (omega arith);
        in_list = omega arith;
        last_label = λ other same. ap (label_at p start) (let equal : other ≡ place = omega arith in equal);
        never_falls = NeverFalls-lower (place + 1 - 1) place (after_front keep (place ∷ queued)) (omega arith) none_lower;
      }
