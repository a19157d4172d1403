-- Two links to which the same acts happen, of which one has something more to offer: what the other
-- one delivers, it delivers first.
use Rattle.std.proofs.Common.{◌≡◌, ◌⊎◌, inl, inr, ℕ, zero, suc, ◌==◌, ◌&&◌, Bool, true, false, List, [], ◌∷◌, ◌++◌, length, slice_get, Option, Some, None, refl, sym, ◌∙◌, ap, subst, arith, ne_eqb, eq-eqb, eqb-true}
use mathlib.Core.List.{IsPrefix}
use Rattle.std.proofs.lemmas.Bool.{cond_both, cond-false, cond-true, cases_Bool, cases_eq}
use Rattle.stab_frames.specs.declared.frame.Frame.{Frame}
use Rattle.stab_frames.specs.Parameters.{Parameters}
use Rattle.stab_frames.specs.Queue.{without}
use Rattle.stab_core.specs.declared.act.LinkAct.{LinkAct}
use Rattle.stab_core.specs.declared.act.LinkAct.TheVariants as act
use Rattle.stab_core.specs.declared.event.Event.{Event}
use Rattle.stab_core.specs.declared.event.Event.TheVariants as event
use Rattle.stab_core.specs.LinkActs.{event_of}
use Rattle.stab_core.specs.LinkState.{LinkState, is_idle, is_holding, current_frame, has_room}
use Rattle.stab_core.specs.Step.{open_step, step, after_front, receives_frame, receives_ack, sees_frame, takes, goes_on}
use Rattle.stab_core.proofs.ForCallers.{prefix_of_itself, prefix_of_prefix}
use Rattle.stab_rounds.proofs.Links.{after_event}

-- the first link's label, list and frames, and the second one's: the second has the same and more
-- frames behind, or the first has none, and the second delivered more
pub data Follows (label : ℕ) (list : List ℕ) (frames : List Frame) (label' : ℕ) (list' : List ℕ) (frames' : List Frame) : Type 0 where
  still : label' ≡ label → list' ≡ list → IsPrefix frames frames' → Follows label list frames label' list' frames'
  gone : frames ≡ [] → IsPrefix list list' → Follows label list frames label' list' frames'

abbrev pub IsBehind : LinkState → LinkState → Type 0
IsBehind a t = Follows a.recv_label a.delivered a.frames t.recv_label t.delivered t.frames

-- the second link was offered more than the first, which has nothing to do
pub record Past (a t : LinkState) : Type 0 where
  pub closed : t.closed ≡ a.closed
  pub idle : length a.offered ≡ a.acked
  pub behind : IsBehind a t

pub delivers_first : (a t : LinkState) → IsBehind a t → IsPrefix a.delivered t.delivered
delivers_first a t (still label list frames) = subst (λ xs. IsPrefix a.delivered xs) (sym list) (prefix_of_itself a.delivered)
delivers_first a t (gone none list) = list

idle_not_holding : (s : LinkState) → length s.offered ≡ s.acked → is_holding s ≡ false
idle_not_holding s idle = ne_eqb _ _ (λ holds. omega arith)

-- ---- frames

more_frames : (a t : LinkState) (f : Frame) → IsBehind a t → IsBehind a (record t { frames = t.frames ++ f ∷ [] })
more_frames a t f (still label list frames) =
    still label list (prefix_of_prefix a.frames t.frames (t.frames ++ f ∷ []) frames (f ∷ [], refl))
more_frames a t f (gone none list) = gone none list

without_front : (place : ℕ) (xs rest : List Frame) → IsPrefix (without place xs) (without place (xs ++ rest))
without_front place [] rest = (without place rest, refl)
without_front zero (x ∷ xs) rest = (rest, refl)
without_front (suc place) (x ∷ xs) rest =
    let (more, is) = without_front place xs rest in (more, ap (λ ys. x ∷ ys) is)

fewer_frames : (place : ℕ) (a t : LinkState) → IsBehind a t
    → IsBehind (record a { frames = without place a.frames }) (record t { frames = without place t.frames })
fewer_frames place a t (still label list (rest, is)) =
    still label list (subst (λ ys. IsPrefix (without place a.frames) (without place ys)) is (without_front place a.frames rest))
fewer_frames place a t (gone none list) = gone (ap (without place) none) list

seen_delivers : (keep : Bool) (t : LinkState) (front : Option Frame) → IsPrefix t.delivered (receives_frame keep t front).delivered
seen_delivers keep t None = prefix_of_itself t.delivered
seen_delivers keep t (Some f) =
    cond_both (f.label == t.recv_label) _ _ (λ (u : LinkState). IsPrefix t.delivered u.delivered)
    (λ _. prefix_of_itself t.delivered) (λ _. (f.item ∷ [], refl))

front_after : (keep : Bool) (f : Frame) (fs rest : List Frame) → IsPrefix (after_front keep (f ∷ fs)) (after_front keep (f ∷ fs ++ rest))
front_after true f fs rest = (rest, refl)
front_after false f fs rest = (rest, refl)

seen_still : (keep : Bool) (a t : LinkState) (fs rest : List Frame) → t.recv_label ≡ a.recv_label → t.delivered ≡ a.delivered
    → IsBehind (receives_frame keep (record a { frames = fs }) (slice_get fs 0)) (receives_frame keep (record t { frames = fs ++ rest }) (slice_get (fs ++ rest) 0))
seen_still keep a t [] rest label list =
    gone refl
    (subst (λ xs. IsPrefix xs (receives_frame keep (record t { frames = rest }) (slice_get rest 0)).delivered) list
    (seen_delivers keep (record t { frames = rest }) (slice_get rest 0)))
seen_still keep a t (f ∷ fs) rest label list =
    let a' : LinkState = record a { frames = after_front keep (f ∷ fs) } in
    let t' : LinkState = record t { frames = after_front keep (f ∷ fs ++ rest) } in
    elim (cases_eq f.label a.recv_label) [
      | inl same ↦
          subst (λ x. IsBehind x (sees_frame t' f)) (sym (cond-true (f.label == a.recv_label) a' (takes a' f) (eq-eqb _ _ same)))
          (subst (λ y. IsBehind a' y) (sym (cond-true (f.label == t.recv_label) t' (takes t' f) (eq-eqb _ _ (same ∙ sym label))))
          (still label list (front_after keep f fs rest)))
      | inr other ↦
          subst (λ x. IsBehind x (sees_frame t' f)) (sym (cond-false (f.label == a.recv_label) a' (takes a' f) (ne_eqb _ _ other)))
          (subst (λ y. IsBehind (takes a' f) y)
          (sym (cond-false (f.label == t.recv_label) t' (takes t' f) (ne_eqb _ _ (λ same. other (same ∙ label)))))
          (still refl (ap (λ xs. xs ++ f.item ∷ []) list) (front_after keep f fs rest)))
    ]

seen_behind : (keep : Bool) (a t : LinkState) → IsBehind a t
    → IsBehind (receives_frame keep a (slice_get a.frames 0)) (receives_frame keep t (slice_get t.frames 0))
seen_behind keep a t (still label list (rest, is)) =
    subst (λ gs. IsBehind (receives_frame keep a (slice_get a.frames 0)) (receives_frame keep (record t { frames = gs }) (slice_get gs 0))) is
    (seen_still keep a t a.frames rest label list)
seen_behind keep a t (gone none list) =
    let after : LinkState = receives_frame keep t (slice_get t.frames 0) in
    subst (λ fs. IsBehind (receives_frame keep (record a { frames = fs }) (slice_get fs 0)) after) (sym none)
    (gone refl (prefix_of_prefix a.delivered t.delivered after.delivered list (seen_delivers keep t (slice_get t.frames 0))))

-- what a receiver's step leaves of the sender
seen_closed : (keep : Bool) (s : LinkState) (front : Option Frame) → (receives_frame keep s front).closed ≡ s.closed
seen_closed keep s None = refl
seen_closed keep s (Some f) = cond_both (f.label == s.recv_label) _ _ (λ (u : LinkState). u.closed ≡ s.closed) (λ _. refl) (λ _. refl)

seen_idle : (keep : Bool) (s : LinkState) (front : Option Frame) → length s.offered ≡ s.acked
    → length (receives_frame keep s front).offered ≡ (receives_frame keep s front).acked
seen_idle keep s None idle = idle
seen_idle keep s (Some f) idle =
    cond_both (f.label == s.recv_label) _ _ (λ (u : LinkState). length u.offered ≡ u.acked) (λ _. idle) (λ _. idle)

-- ---- acknowledgements

ack_alone : (p : Parameters) (keep : Bool) (s : LinkState) (front : Option ℕ) → is_holding s ≡ false → (P : LinkState → Type 0)
    → ((acks : List ℕ) → P (record s { acks = acks })) → P (receives_ack p keep s front)
ack_alone p keep s None idle P all = all s.acks
ack_alone p keep s (Some label) idle P all =
    let after : LinkState = record s { acks = after_front keep s.acks } in
    subst P (sym (cond-false (is_holding s && (label == s.send_label)) (goes_on p after) after (ap (λ b. b && (label == s.send_label)) idle)))
    (all (after_front keep s.acks))

ack_any : (p : Parameters) (keep : Bool) (s : LinkState) (front : Option ℕ) (P : LinkState → Type 0)
    → ((acks : List ℕ) → P (record s { acks = acks })) → ((acks : List ℕ) → P (goes_on p (record s { acks = acks })))
    → P (receives_ack p keep s front)
ack_any p keep s None P all went = all s.acks
ack_any p keep s (Some label) P all went =
    cond_both (is_holding s && (label == s.send_label)) _ _ P (λ _. went (after_front keep s.acks)) (λ _. all (after_front keep s.acks))

-- ---- one event, and one act

both_step : (p : Parameters) (a t : LinkState) (e : Event) → Past a t → Past (open_step p a e) (open_step p t e) → Past (step p a e) (step p t e)
both_step p a t e past opened =
    elim (cases_Bool a.closed) [
      | inl closed ↦
          subst (λ x. Past x (step p t e)) (sym (cond-true a.closed a (open_step p a e) closed))
          (subst (λ y. Past a y) (sym (cond-true t.closed t (open_step p t e) (past.closed ∙ closed))) past)
      | inr is_open ↦
          subst (λ x. Past x (step p t e)) (sym (cond-false a.closed a (open_step p a e) is_open))
          (subst (λ y. Past (open_step p a e) y) (sym (cond-false t.closed t (open_step p t e) (past.closed ∙ is_open))) opened)
    ]

-- an offer to the second alone
offer_past : (p : Parameters) (a t : LinkState) (item : Option ℕ) → Past a t → Past a (after_event p t (event_of act.Offer item))
offer_past p a t None past = past
offer_past p a t (Some item) past =
    cond_both t.closed t (open_step p t (event.Offer item)) (Past a) (λ _. past)
    (λ _.
    cond_both (is_idle t) (record t { offered = t.offered ++ item ∷ [] }) t (Past a)
    (λ _. record { closed = past.closed; idle = past.idle; behind = past.behind }) (λ _. past))

open_past : (p : Parameters) (a t : LinkState) → Past a t → Past (open_step p a event.SendFrame) (open_step p t event.SendFrame)
open_past p a t past =
    let same : open_step p a event.SendFrame ≡ a =
    cond-false (is_holding a && has_room p a.frames) (record a { frames = a.frames ++ current_frame a ∷ [] }) a
    (ap (λ b. b && has_room p a.frames) (idle_not_holding a past.idle)) in
    subst (λ x. Past x (open_step p t event.SendFrame)) (sym same)
    (cond_both (is_holding t && has_room p t.frames) (record t { frames = t.frames ++ current_frame t ∷ [] }) t (Past a)
    (λ _. record { closed = past.closed; idle = past.idle; behind = more_frames a t (current_frame t) past.behind }) (λ _. past))

-- an act on both, where the first has nothing to offer
pub past_step : (p : Parameters) (a t : LinkState) (on : LinkAct) (item : Option ℕ) → Past a t
    → Past (after_event p a (event_of on None)) (after_event p t (event_of on item))
past_step p a t act.Offer item past = offer_past p a t item past
past_step p a t act.SendFrame item past = both_step p a t event.SendFrame past (open_past p a t past)
past_step p a t (act.RecvFrame keep) item past =
    both_step p a t (event.RecvFrame keep) past
    (record {
      closed = seen_closed keep t (slice_get t.frames 0) ∙ past.closed ∙ sym (seen_closed keep a (slice_get a.frames 0));
      idle = seen_idle keep a (slice_get a.frames 0) past.idle;
      behind = seen_behind keep a t past.behind;
    })
past_step p a t act.SendAck item past =
    both_step p a t event.SendAck past
    (cond_both (has_room p a.acks) (record a { acks = a.acks ++ a.recv_label ∷ [] }) a (λ x. Past x (open_step p t event.SendAck))
    (λ _. second (a.acks ++ a.recv_label ∷ [])) (λ _. second a.acks))
  where
    second : (acks : List ℕ) → Past (record a { acks = acks }) (open_step p t event.SendAck)
    second acks =
        cond_both (has_room p t.acks) (record t { acks = t.acks ++ t.recv_label ∷ [] }) t (Past (record a { acks = acks }))
        (λ _. record { closed = past.closed; idle = past.idle; behind = past.behind })
        (λ _. record { closed = past.closed; idle = past.idle; behind = past.behind })
past_step p a t (act.RecvAck keep) item past =
    both_step p a t (event.RecvAck keep) past
    (ack_alone p keep a (slice_get a.acks 0) (idle_not_holding a past.idle) (λ x. Past x (open_step p t (event.RecvAck keep)))
    (λ acks.
    ack_any p keep t (slice_get t.acks 0) (Past (record a { acks = acks }))
    (λ more. record { closed = past.closed; idle = past.idle; behind = past.behind })
    (λ more. record { closed = past.closed; idle = past.idle; behind = past.behind })))
past_step p a t (act.LoseFrame place) item past =
    both_step p a t (event.LoseFrame place) past
    (record { closed = past.closed; idle = past.idle; behind = fewer_frames place a t past.behind })
past_step p a t (act.LoseAck place) item past =
    both_step p a t (event.LoseAck place) past
    (record { closed = past.closed; idle = past.idle; behind = past.behind })
past_step p a t act.Close item past =
    both_step p a t event.Close past (record { closed = refl; idle = past.idle; behind = past.behind })

-- an act on one link, for which there is an item or none: it makes no difference, or the link was
-- idle and takes the item
pub act_splits : (p : Parameters) (s : LinkState) (on : LinkAct) (item : Option ℕ)
    → (after_event p s (event_of on item) ≡ after_event p s (event_of on None))
    ⊎ (Past (after_event p s (event_of on None)) (after_event p s (event_of on item))
    × ((after_event p s (event_of on None)).acked ≡ length s.offered) × (length s.offered ≡ s.acked))
act_splits p s act.Offer None = inl refl
act_splits p s act.Offer (Some item) =
    cond_both s.closed s (open_step p s (event.Offer item)) (λ t. (t ≡ s) ⊎ (Past s t × (s.acked ≡ length s.offered) × (length s.offered ≡ s.acked))) (λ _. inl refl)
    (λ _.
    cond_both (is_idle s) (record s { offered = s.offered ++ item ∷ [] }) s (λ t. (t ≡ s) ⊎ (Past s t × (s.acked ≡ length s.offered) × (length s.offered ≡ s.acked)))
    (λ idle.
    let none : length s.offered ≡ s.acked = eqb-true _ _ idle in
    inr (record { closed = refl; idle = none; behind = still refl refl (prefix_of_itself s.frames) }, sym none, none))
    (λ _. inl refl))
act_splits p s act.SendFrame item = inl refl
act_splits p s (act.RecvFrame keep) item = inl refl
act_splits p s act.SendAck item = inl refl
act_splits p s (act.RecvAck keep) item = inl refl
act_splits p s (act.LoseFrame place) item = inl refl
act_splits p s (act.LoseAck place) item = inl refl
act_splits p s act.Close item = inl refl
