-- What a step of the whole tree leaves of a link: its offered list grows by the next item alone,
-- and its delivered list only grows.
use Rattle.std.proofs.Common.{◌≡◌, ◌==◌, ◌&&◌, ◌+◌, ℕ, List, [], ◌∷◌, ◌++◌, length, slice_get, nat_lt, Bool, true, false, if◌then◌else◌, Option, Some, None, refl, ap, sym, ◌∙◌, append_assoc}
use Rattle.stab_frames.specs.declared.frame.Frame.{Frame}
use Rattle.stab_frames.specs.Parameters.{Parameters, next}
use Rattle.stab_core.specs.declared.event.Effect.{Effect}
use Rattle.stab_core.specs.declared.event.Effect.TheVariants as had
use Rattle.stab_core.specs.LinkState.{LinkState, is_idle, is_holding, current_frame, has_room}
use Rattle.stab_core.specs.Step.{step, effect, open_step, open_effect, after_front, receives_frame, receives_ack, frame_effect, ack_effect}
use Rattle.stab_treecore.specs.Fresh.{fresh_item, then_item}
use Rattle.stab_core.specs.declared.event.Event.{Event}
use Rattle.stab_core.specs.declared.event.Event.TheVariants as event
use Rattle.stab_core.specs.Link.{LinkValue}
use Rattle.stab_core.specs.LinkActs.{event_of}
use Rattle.stab_core.specs.declared.act.LinkAct.{LinkAct}
use Rattle.stab_core.specs.declared.act.LinkAct.TheVariants.{Offer, SendFrame, RecvFrame, SendAck, RecvAck, LoseFrame, LoseAck, Close}
use Rattle.stab_core.proofs.ForCallers.{prefix_of_itself}
use Rattle.stab_core.proofs.Growing.{Delivers, step_delivers, OffersFrom, step_offers, of_both}
use Rattle.stab_treecore.specs.TreeStep.{effect_on, link_after}

-- an event or none only adds to the delivered list
pub after_delivers : (e : Option Event) (link : LinkValue) → Delivers link.state.delivered (link_after e link).state
after_delivers None link = prefix_of_itself link.state.delivered
after_delivers (Some e) link = step_delivers link.params link.state e

-- an act adds the next item, or leaves the offered list
pub act_offers : (list : List ℕ) (link : LinkValue) (act : LinkAct) (item : Option ℕ) → slice_get list (length link.state.offered) ≡ item
    → OffersFrom list link.state → OffersFrom list (link_after (event_of act item) link).state
act_offers list link Offer None is begins = begins
act_offers list link Offer (Some x) is begins = step_offers list link.params link.state (event.Offer x) begins is
act_offers list link SendFrame item is begins = step_offers list link.params link.state event.SendFrame begins tt
act_offers list link (RecvFrame keep) item is begins = step_offers list link.params link.state (event.RecvFrame keep) begins tt
act_offers list link SendAck item is begins = step_offers list link.params link.state event.SendAck begins tt
act_offers list link (RecvAck keep) item is begins = step_offers list link.params link.state (event.RecvAck keep) begins tt
act_offers list link (LoseFrame place) item is begins = step_offers list link.params link.state (event.LoseFrame place) begins tt
act_offers list link (LoseAck place) item is begins = step_offers list link.params link.state (event.LoseAck place) begins tt
act_offers list link Close item is begins = step_offers list link.params link.state event.Close begins tt

-- an event or none leaves the parameters
pub after_params : (e : Option Event) (link : LinkValue) → (link_after e link).params ≡ link.params
after_params None link = refl
after_params (Some e) link = refl

-- ---- what a step delivers comes after what was delivered

-- what a step with this effect leaves
abbrev pub IsGrown : LinkState → LinkState → Effect → Type 0
IsGrown before after e = after.delivered ≡ then_item before.delivered (fresh_item e)

-- a step that delivers nothing leaves the delivered list
nothing_fresh : (before after : LinkState) (e : Effect) → after.delivered ≡ before.delivered → fresh_item e ≡ None → IsGrown before after e
nothing_fresh before after e same none = same ∙ ap (then_item before.delivered) (sym none)

-- a frame of another label is delivered
seen_grown : (b : Bool) (s old : LinkState) (f : Frame) → old.delivered ≡ s.delivered
    → IsGrown s (if b then old else record old { recv_label = f.label; delivered = old.delivered ++ f.item ∷ [] })
    (if b then had.Old else had.Fresh f.item)
seen_grown true s old f same = same
seen_grown false s old f same = ap (λ xs. xs ++ f.item ∷ []) same

frame_grown : (keep : Bool) (s : LinkState) (front : Option Frame) → IsGrown s (receives_frame keep s front) (frame_effect s front)
frame_grown keep s None = refl
frame_grown keep s (Some f) = seen_grown (f.label == s.recv_label) s (record s { frames = after_front keep s.frames }) f refl

ack_grown : (p : Parameters) (keep : Bool) (s : LinkState) (front : Option ℕ) → IsGrown s (receives_ack p keep s front) (ack_effect s front)
ack_grown p keep s None = refl
ack_grown p keep s (Some label) =
    let waited = is_holding s && (label == s.send_label) in
    let seen = record s { acks = after_front keep s.acks } in
    nothing_fresh s (receives_ack p keep s (Some label)) (ack_effect s (Some label))
    (of_both (λ t. t.delivered ≡ s.delivered) waited (record seen { acked = s.acked + 1; send_label = next p s.send_label }) seen refl refl)
    (of_both (λ e. fresh_item e ≡ None) waited had.Acked had.Ignored refl refl)

open_grown : (p : Parameters) (s : LinkState) (e : Event) → IsGrown s (open_step p s e) (open_effect p s e)
open_grown p s (event.Offer item) =
    nothing_fresh s (open_step p s (event.Offer item)) (open_effect p s (event.Offer item))
    (of_both (λ t. t.delivered ≡ s.delivered) (is_idle s) (record s { offered = s.offered ++ item ∷ [] }) s refl refl)
    (of_both (λ e. fresh_item e ≡ None) (is_idle s) had.Held had.Nothing refl refl)
open_grown p s event.SendFrame =
    nothing_fresh s (open_step p s event.SendFrame) (open_effect p s event.SendFrame)
    (of_both (λ t. t.delivered ≡ s.delivered) (is_holding s && has_room p s.frames) (record s { frames = s.frames ++ current_frame s ∷ [] }) s refl refl)
    (of_both (λ e. fresh_item e ≡ None) (is_holding s) (if has_room p s.frames then had.Sent else had.Lost) had.Nothing
    (of_both (λ e. fresh_item e ≡ None) (has_room p s.frames) had.Sent had.Lost refl refl) refl)
open_grown p s (event.RecvFrame keep) = frame_grown keep s (slice_get s.frames 0)
open_grown p s event.SendAck =
    nothing_fresh s (open_step p s event.SendAck) (open_effect p s event.SendAck)
    (of_both (λ t. t.delivered ≡ s.delivered) (has_room p s.acks) (record s { acks = s.acks ++ s.recv_label ∷ [] }) s refl refl)
    (of_both (λ e. fresh_item e ≡ None) (has_room p s.acks) had.Sent had.Lost refl refl)
open_grown p s (event.RecvAck keep) = ack_grown p keep s (slice_get s.acks 0)
open_grown p s (event.LoseFrame place) =
    nothing_fresh s (open_step p s (event.LoseFrame place)) (open_effect p s (event.LoseFrame place)) refl
    (of_both (λ e. fresh_item e ≡ None) (nat_lt place (length s.frames)) had.Lost had.Nothing refl refl)
open_grown p s (event.LoseAck place) =
    nothing_fresh s (open_step p s (event.LoseAck place)) (open_effect p s (event.LoseAck place)) refl
    (of_both (λ e. fresh_item e ≡ None) (nat_lt place (length s.acks)) had.Lost had.Nothing refl refl)
open_grown p s event.Close = refl

-- a closed link delivers nothing
unless_closed : (b : Bool) (s after : LinkState) (e : Effect) → IsGrown s after e
    → IsGrown s (if b then s else after) (if b then had.Nothing else e)
unless_closed true s after e grown = refl
unless_closed false s after e grown = grown

-- what a step delivers comes after what was delivered
pub step_grown : (p : Parameters) (s : LinkState) (e : Event) → IsGrown s (step p s e) (effect p s e)
step_grown p s e = unless_closed s.closed s (open_step p s e) (open_effect p s e) (open_grown p s e)

-- an item behind two lists
append_then_item : (xs ys : List ℕ) (item : Option ℕ) → xs ++ then_item ys item ≡ then_item (xs ++ ys) item
append_then_item xs ys None = refl
append_then_item xs ys (Some item) = sym (append_assoc xs ys (item ∷ []))

-- the same behind an opening, and of an event or none
pub after_grown : (opening : List ℕ) (e : Option Event) (link : LinkValue)
    → opening ++ (link_after e link).state.delivered ≡ then_item (opening ++ link.state.delivered) (fresh_item (effect_on e link))
after_grown opening None link = refl
after_grown opening (Some e) link =
    ap (λ xs. opening ++ xs) (step_grown link.params link.state e)
    ∙ append_then_item opening link.state.delivered (fresh_item (effect link.params link.state e))
