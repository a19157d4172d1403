-- What a step leaves of a link's lists: the offered list grows by the offered item alone, and the
-- delivered list only grows.
use Rattle.std.proofs.Common.{◌≡◌, ◌==◌, ◌&&◌, ℕ, ◌+◌, List, [], ◌∷◌, ◌++◌, length, slice_get, Bool, true, false, if◌then◌else◌, Option, Some, None}
use mathlib.Core.List.{IsPrefix}
use Rattle.stab_frames.specs.declared.frame.Frame.{Frame}
use Rattle.stab_frames.specs.Parameters.{Parameters, next}
use Rattle.stab_core.specs.declared.event.Event.{Event}
use Rattle.stab_core.specs.declared.event.Event.TheVariants as event
use Rattle.stab_core.specs.LinkState.{LinkState, is_idle, is_holding, current_frame, has_room}
use Rattle.stab_core.specs.Step.{step, open_step, after_front, receives_frame, receives_ack}
use Rattle.stab_core.proofs.ForCallers.{prefix_of_itself, prefix_of_grown, prefix_with_next}

-- what holds of both choices holds of the one that is taken
pub of_both : {A : Type 0} (P : A → Type 0) (b : Bool) (x y : A) → P x → P y → P (if b then x else y)
of_both P true x y first second = first
of_both P false x y first second = second

-- the delivered list begins with this one
abbrev pub Delivers : List ℕ → LinkState → Type 0
Delivers before s = IsPrefix before s.delivered

-- a frame that is received only adds to the delivered list
receives_delivers : (keep : Bool) (s : LinkState) (front : Option Frame) → Delivers s.delivered (receives_frame keep s front)
receives_delivers keep s None = prefix_of_itself s.delivered
receives_delivers keep s (Some f) =
    of_both (Delivers s.delivered) (f.label == s.recv_label) (record s { frames = after_front keep s.frames })
    (record s { frames = after_front keep s.frames; recv_label = f.label; delivered = s.delivered ++ f.item ∷ [] })
    (prefix_of_itself s.delivered) (prefix_of_grown s.delivered f.item)

-- an acknowledgement that is received leaves the delivered list
ack_delivers : (p : Parameters) (keep : Bool) (s : LinkState) (front : Option ℕ) → Delivers s.delivered (receives_ack p keep s front)
ack_delivers p keep s None = prefix_of_itself s.delivered
ack_delivers p keep s (Some label) =
    of_both (Delivers s.delivered) (is_holding s && (label == s.send_label))
    (record s { acks = after_front keep s.acks; acked = s.acked + 1; send_label = next p s.send_label })
    (record s { acks = after_front keep s.acks })
    (prefix_of_itself s.delivered) (prefix_of_itself s.delivered)

-- each step of an open link only adds to the delivered list
open_delivers : (p : Parameters) (s : LinkState) (e : Event) → Delivers s.delivered (open_step p s e)
open_delivers p s (event.Offer item) =
    of_both (Delivers s.delivered) (is_idle s) (record s { offered = s.offered ++ item ∷ [] }) s (prefix_of_itself s.delivered) (prefix_of_itself s.delivered)
open_delivers p s event.SendFrame =
    of_both (Delivers s.delivered) (is_holding s && has_room p s.frames) (record s { frames = s.frames ++ current_frame s ∷ [] }) s
    (prefix_of_itself s.delivered) (prefix_of_itself s.delivered)
open_delivers p s (event.RecvFrame keep) = receives_delivers keep s (slice_get s.frames 0)
open_delivers p s event.SendAck =
    of_both (Delivers s.delivered) (has_room p s.acks) (record s { acks = s.acks ++ s.recv_label ∷ [] }) s
    (prefix_of_itself s.delivered) (prefix_of_itself s.delivered)
open_delivers p s (event.RecvAck keep) = ack_delivers p keep s (slice_get s.acks 0)
open_delivers p s (event.LoseFrame place) = prefix_of_itself s.delivered
open_delivers p s (event.LoseAck place) = prefix_of_itself s.delivered
open_delivers p s event.Close = prefix_of_itself s.delivered

-- a step only adds to the delivered list
pub step_delivers : (p : Parameters) (s : LinkState) (e : Event) → Delivers s.delivered (step p s e)
step_delivers p s e =
    of_both (Delivers s.delivered) s.closed s (open_step p s e) (prefix_of_itself s.delivered) (open_delivers p s e)

-- an offer is of the item of the list that comes next; other events offer nothing
abbrev pub OffersNext : List ℕ → LinkState → Event → Type 0
OffersNext list s (event.Offer item) = slice_get list (length s.offered) ≡ Some item
OffersNext list s event.SendFrame = Unit {0}
OffersNext list s (event.RecvFrame keep) = Unit {0}
OffersNext list s event.SendAck = Unit {0}
OffersNext list s (event.RecvAck keep) = Unit {0}
OffersNext list s (event.LoseFrame place) = Unit {0}
OffersNext list s (event.LoseAck place) = Unit {0}
OffersNext list s event.Close = Unit {0}

-- the offered list is where this list begins
abbrev pub OffersFrom : List ℕ → LinkState → Type 0
OffersFrom list s = IsPrefix s.offered list

-- a frame that is received leaves the offered list
receives_offers : (list : List ℕ) (keep : Bool) (s : LinkState) (front : Option Frame) → OffersFrom list s → OffersFrom list (receives_frame keep s front)
receives_offers list keep s None begins = begins
receives_offers list keep s (Some f) begins =
    of_both (OffersFrom list) (f.label == s.recv_label) (record s { frames = after_front keep s.frames })
    (record s { frames = after_front keep s.frames; recv_label = f.label; delivered = s.delivered ++ f.item ∷ [] }) begins begins

-- an acknowledgement that is received leaves the offered list
ack_offers : (list : List ℕ) (p : Parameters) (keep : Bool) (s : LinkState) (front : Option ℕ) → OffersFrom list s
    → OffersFrom list (receives_ack p keep s front)
ack_offers list p keep s None begins = begins
ack_offers list p keep s (Some label) begins =
    of_both (OffersFrom list) (is_holding s && (label == s.send_label))
    (record s { acks = after_front keep s.acks; acked = s.acked + 1; send_label = next p s.send_label })
    (record s { acks = after_front keep s.acks }) begins begins

-- a step of an open link adds the next item, or leaves the offered list
open_offers : (list : List ℕ) (p : Parameters) (s : LinkState) (e : Event) → OffersFrom list s → OffersNext list s e → OffersFrom list (open_step p s e)
open_offers list p s (event.Offer item) begins next_item =
    of_both (OffersFrom list) (is_idle s) (record s { offered = s.offered ++ item ∷ [] }) s
    (prefix_with_next s.offered list item begins next_item) begins
open_offers list p s event.SendFrame begins next_item =
    of_both (OffersFrom list) (is_holding s && has_room p s.frames) (record s { frames = s.frames ++ current_frame s ∷ [] }) s begins begins
open_offers list p s (event.RecvFrame keep) begins next_item = receives_offers list keep s (slice_get s.frames 0) begins
open_offers list p s event.SendAck begins next_item =
    of_both (OffersFrom list) (has_room p s.acks) (record s { acks = s.acks ++ s.recv_label ∷ [] }) s begins begins
open_offers list p s (event.RecvAck keep) begins next_item = ack_offers list p keep s (slice_get s.acks 0) begins
open_offers list p s (event.LoseFrame place) begins next_item = begins
open_offers list p s (event.LoseAck place) begins next_item = begins
open_offers list p s event.Close begins next_item = begins

-- a step adds the next item, or leaves the offered list
pub step_offers : (list : List ℕ) (p : Parameters) (s : LinkState) (e : Event) → OffersFrom list s → OffersNext list s e → OffersFrom list (step p s e)
step_offers list p s e begins next_item =
    of_both (OffersFrom list) s.closed s (open_step p s e) begins (open_offers list p s e begins next_item)
