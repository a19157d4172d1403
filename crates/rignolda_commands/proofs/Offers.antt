-- What a replay offers is picked from what its events offer: an event that does not apply offers nothing.
use Rattle.std.proofs.Common.{◌≡◌, ◌==◌, ◌&&◌, ℕ, ◌+◌, List, [], ◌∷◌, ◌++◌, slice_get, Bool, Option, Some, None, append_assoc, refl, sym, ◌∙◌, ap}
use Rattle.std.proofs.lemmas.List.{append-nil}
use Rattle.stab_frames.specs.Parameters.{Parameters, next}
use Rattle.stab_frames.specs.declared.frame.Frame.{Frame}
use Rattle.stab_core.specs.declared.event.Event.{Event}
use Rattle.stab_core.specs.declared.event.Event.TheVariants as event
use Rattle.stab_core.specs.LinkState.{LinkState, is_idle, is_holding, current_frame, has_room}
use Rattle.stab_core.specs.Replay.{replay}
use Rattle.stab_core.specs.Step.{step, open_step, after_front, receives_frame, receives_ack}
use Rattle.stab_core.proofs.Growing.{of_both}
use Rattle.stab_judge.specs.Judged.{IsPicked}
use Rattle.stab_judge.proofs.Greedy.{nothing_picked, itself_picked, picked_joined}
use Rattle.rignolda_verdict.specs.LinkVerdicts.{offer_of, offers_of}

-- the offered list is this one, and then items that are picked from these offers
abbrev pub OffersMore : List ℕ → List ℕ → LinkState → Type 0
OffersMore offers before s = (more : List ℕ) × (s.offered ≡ before ++ more) × IsPicked more offers

-- the offered list is still the same
stays : (offers before : List ℕ) → (more : List ℕ) × (before ≡ before ++ more) × IsPicked more offers
stays offers before = ([], sym (append-nil before), nothing_picked offers)

-- a frame that is received leaves the offered list
receives_offers : (keep : Bool) (s : LinkState) (front : Option Frame) → OffersMore [] s.offered (receives_frame keep s front)
receives_offers keep s None = stays [] s.offered
receives_offers keep s (Some f) =
    of_both (OffersMore [] s.offered) (f.label == s.recv_label) (record s { frames = after_front keep s.frames })
    (record s { frames = after_front keep s.frames; recv_label = f.label; delivered = s.delivered ++ f.item ∷ [] })
    (stays [] s.offered) (stays [] s.offered)

-- an acknowledgement that is received leaves the offered list
ack_offers : (p : Parameters) (keep : Bool) (s : LinkState) (front : Option ℕ) → OffersMore [] s.offered (receives_ack p keep s front)
ack_offers p keep s None = stays [] s.offered
ack_offers p keep s (Some label) =
    of_both (OffersMore [] s.offered) (is_holding s && (label == s.send_label))
    (record s { acks = after_front keep s.acks; acked = s.acked + 1; send_label = next p s.send_label })
    (record s { acks = after_front keep s.acks })
    (stays [] s.offered) (stays [] s.offered)

-- a step of an open link offers the item of an offer, or nothing
open_offers : (p : Parameters) (s : LinkState) (e : Event) → OffersMore (offer_of e) s.offered (open_step p s e)
open_offers p s (event.Offer item) =
    of_both (OffersMore (item ∷ []) s.offered) (is_idle s) (record s { offered = s.offered ++ item ∷ [] }) s
    (item ∷ [], refl, itself_picked (item ∷ [])) (stays (item ∷ []) s.offered)
open_offers p s event.SendFrame =
    of_both (OffersMore [] s.offered) (is_holding s && has_room p s.frames) (record s { frames = s.frames ++ current_frame s ∷ [] }) s
    (stays [] s.offered) (stays [] s.offered)
open_offers p s (event.RecvFrame keep) = receives_offers keep s (slice_get s.frames 0)
open_offers p s event.SendAck =
    of_both (OffersMore [] s.offered) (has_room p s.acks) (record s { acks = s.acks ++ s.recv_label ∷ [] }) s
    (stays [] s.offered) (stays [] s.offered)
open_offers p s (event.RecvAck keep) = ack_offers p keep s (slice_get s.acks 0)
open_offers p s (event.LoseFrame place) = stays [] s.offered
open_offers p s (event.LoseAck place) = stays [] s.offered
open_offers p s event.Close = stays [] s.offered

-- a step offers the item of an offer, or nothing
step_offers : (p : Parameters) (s : LinkState) (e : Event) → OffersMore (offer_of e) s.offered (step p s e)
step_offers p s e =
    of_both (OffersMore (offer_of e) s.offered) s.closed s (open_step p s e) (stays (offer_of e) s.offered) (open_offers p s e)

-- what is offered first, and what is offered then
joined : (first rest before : List ℕ) (middle after : LinkState) → OffersMore first before middle → OffersMore rest middle.offered after
    → OffersMore (first ++ rest) before after
joined first rest before middle after (more, grown, picked) (further, grown_further, picked_further) = (
  more ++ further,
  grown_further ∙ ap (λ xs. xs ++ further) grown ∙ append_assoc before more further,
  picked_joined first rest more further picked picked_further,
)

-- what a replay offers is picked from what its events offer
pub replay_offers : (p : Parameters) (s : LinkState) (es : List Event) → OffersMore (offers_of es) s.offered (replay p s es)
replay_offers p s [] = stays [] s.offered
replay_offers p s (e ∷ es) =
    joined (offer_of e) (offers_of es) s.offered (step p s e) (replay p (step p s e) es) (step_offers p s e)
    (replay_offers p (step p s e) es)
