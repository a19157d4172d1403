-- How many more items a link can deliver without another offer: one for each change of label, from
-- the one that the receiver remembers through the frames to the item that waits. With the items
-- delivered so far this grows by one at most at an offer, and else never.
use Rattle.std.proofs.Common.{◌≡◌, ◌≢◌, inl, inr, ℕ, zero, suc, ◌+◌, ◌≤◌, ◌==◌, ◌&&◌, Bool, List, [], ◌∷◌, ◌++◌, length, slice_get, if◌then◌else◌, refl, sym, ◌∙◌, ap, subst, arith, append_assoc, eq-eqb, ne_eqb, eqb-true}
use Rattle.std.specs.List.{AllByRecursion as Each}
use Rattle.std.proofs.lemmas.Bool.{cond_both, cond-false, cond-true, cases_eq, and_parts}
use Rattle.std.proofs.lemmas.List.{append-nil, length_push}
use Rattle.stab_frames.specs.declared.frame.Frame.{Frame}
use Rattle.stab_frames.specs.Parameters.{Parameters}
use Rattle.stab_frames.specs.Queue.{without}
use Rattle.stab_core.specs.declared.event.Event.{Event}
use Rattle.stab_core.specs.declared.event.Event.TheVariants as event
use Rattle.stab_core.specs.LinkState.{LinkState, is_idle, is_holding, current_frame, has_room}
use Rattle.stab_core.specs.Step.{open_step, step, after_front, receives_frame, receives_ack, takes, goes_on}
use Rattle.stab_core.proofs.InOrder.{InOrder, nothing, skip, repeat, in_order_without, in_order_after_front, in_order_before, in_order_behind}
use Rattle.stab_rounds.proofs.Entries.{From, from-push}
use Rattle.stab_rounds.proofs.Levels.{HasLabel, Holding}

-- one where a label is another
abbrev pub change : ℕ → ℕ → ℕ
change from to = if to == from then 0 else 1

-- the changes from a label through these frames
abbrev pub changes : ℕ → List Frame → ℕ
changes label [] = 0
changes label (f ∷ fs) = change label f.label + changes f.label fs

no_change : (a b : ℕ) → b ≡ a → change a b ≡ 0
no_change a b same = cond-true (b == a) 0 1 (eq-eqb _ _ same)

one_change : (a b : ℕ) → b ≢ a → change a b ≡ 1
one_change a b other = cond-false (b == a) 0 1 (ne_eqb _ _ other)

few_changes : (a b : ℕ) → change a b ≤ 1
few_changes a b = cond_both (b == a) 0 1 (λ n. n ≤ 1) (λ _. omega arith) (λ _. omega arith)

-- a label between two makes no fewer changes
change_between : (a b d : ℕ) → change a d ≤ change a b + change b d
change_between a b d =
    elim (cases_eq b a) [
      | inl same ↦ subst (λ x. change a d ≤ change a x + change x d) (sym same) (omega arith)
      | inr other ↦ omega (arith, one_change a b other, few_changes a d)
    ]

changes_between : (a b : ℕ) (fs : List Frame) → changes a fs ≤ change a b + changes b fs
changes_between a b [] = omega arith
changes_between a b (f ∷ fs) = omega (arith, change_between a b f.label)

-- frames that vanish or are repeated make no more changes
pub changes_in_order : (a : ℕ) {xs ys : List Frame} → InOrder xs ys → changes a ys ≤ changes a xs
changes_in_order a nothing = omega arith
changes_in_order a (skip {x} {xs} {ys} order) = omega (arith, changes_in_order a order, changes_between a x.label xs)
changes_in_order a (repeat {x} {xs} {ys} order) = omega (arith, changes_in_order x.label order, no_change x.label x.label refl)

-- no more than the frames
changes_few : (a : ℕ) (fs : List Frame) → changes a fs ≤ length fs
changes_few a [] = omega arith
changes_few a (f ∷ fs) = omega (arith, few_changes a f.label, changes_few f.label fs)

-- one more frame makes one more change at most
changes_push : (a : ℕ) (fs : List Frame) (f : Frame) → changes a (fs ++ f ∷ []) ≤ changes a fs + 1
changes_push a [] f = omega (arith, few_changes a f.label)
changes_push a (x ∷ fs) f = omega (arith, changes_push x.label fs f)

-- none where all have the label
changes_none : (l : ℕ) (fs : List Frame) → Each (HasLabel l) fs → changes l fs ≡ 0
changes_none l [] all = refl
changes_none l (f ∷ fs) all =
    omega (arith, no_change l f.label all.0, subst (λ x. changes x fs ≡ 0) (sym all.0) (changes_none l fs all.1))

-- but for the first `before` frames all have the label
changes_from : (a l before : ℕ) (fs : List Frame) → From (HasLabel l) before fs → changes a fs ≤ before + 1
changes_from a l zero [] later = omega arith
changes_from a l zero (f ∷ fs) later =
    omega (arith, few_changes a f.label, subst (λ x. changes x fs ≡ 0) (sym later.0) (changes_none l fs later.1))
changes_from a l (suc before) [] later = omega arith
changes_from a l (suc before) (f ∷ fs) later = omega (arith, few_changes a f.label, changes_from f.label l before fs later)

-- the item that waits, as one frame behind the others
abbrev pub waiting : LinkState → List Frame
waiting s = if is_holding s then current_frame s ∷ [] else []

abbrev pub to_come : LinkState → ℕ
to_come s = changes s.recv_label (s.frames ++ waiting s)

waits_one : (s : LinkState) → Holding s → waiting s ≡ current_frame s ∷ []
waits_one s holds = cond-true (is_holding s) (current_frame s ∷ []) [] (eq-eqb _ _ holds)

waits_none : (s : LinkState) → length s.offered ≡ s.acked → waiting s ≡ []
waits_none s none = cond-false (is_holding s) (current_frame s ∷ []) [] (ne_eqb _ _ (λ holds. absurd (omega arith)))

-- ---- the bounds of a link by its level

-- where no item waits, no more than the frames
pub few_idle : (s : LinkState) → length s.offered ≡ s.acked → to_come s ≤ length s.frames
few_idle s none =
    omega (arith, ap (λ ws. changes s.recv_label (s.frames ++ ws)) (waits_none s none), ap (changes s.recv_label) (append-nil s.frames), changes_few s.recv_label s.frames)

-- no more than the frames and the item that waits
pub few_coming : (s : LinkState) → Holding s → to_come s ≤ length s.frames + 1
few_coming s holds =
    omega (
      arith,
      ap (λ ws. changes s.recv_label (s.frames ++ ws)) (waits_one s holds),
      changes_push s.recv_label s.frames (current_frame s),
      changes_few s.recv_label s.frames,
    )

-- by the frames before the item's
pub few_before_it : (s : LinkState) (before : ℕ) → Holding s → From (HasLabel s.send_label) before s.frames → to_come s ≤ before + 1
few_before_it s before holds later =
    omega (
      arith,
      ap (λ ws. changes s.recv_label (s.frames ++ ws)) (waits_one s holds),
      changes_from s.recv_label s.send_label before (s.frames ++ current_frame s ∷ [])
          (from-push (HasLabel s.send_label) before s.frames (current_frame s) later refl),
    )

-- ---- one event

-- what was delivered and what is to come, against what was offered
abbrev pub NoMore : LinkState → LinkState → Type 0
NoMore s t = length t.delivered + to_come t + length s.offered ≤ length s.delivered + to_come s + length t.offered

pub same_more : (s : LinkState) → NoMore s s
same_more s = omega arith

-- one frame, where another list of frames is as many changes at most
frames_more : (s : LinkState) (frames : List Frame) → changes s.recv_label (frames ++ waiting s) ≤ to_come s
    → NoMore s (record s { frames = frames })
frames_more s frames few = omega arith

offer_more : (s : LinkState) (item : ℕ) → length s.offered ≡ s.acked → NoMore s (record s { offered = s.offered ++ item ∷ [] })
offer_more s item none =
    let t : LinkState = record s { offered = s.offered ++ item ∷ [] } in
    let holds : Holding t = length_push s.offered item ∙ ap (λ n. n + 1) none in
    omega (
      arith,
      length_push s.offered item,
      ap (λ ws. changes s.recv_label (s.frames ++ ws)) (waits_none s none),
      ap (changes s.recv_label) (append-nil s.frames),
      ap (λ ws. changes s.recv_label (s.frames ++ ws)) (waits_one t holds),
      changes_push s.recv_label s.frames (current_frame t),
    )

frame_more : (s : LinkState) → Holding s → NoMore s (record s { frames = s.frames ++ current_frame s ∷ [] })
frame_more s holds =
    let f : Frame = current_frame s in
    let order : InOrder (s.frames ++ f ∷ []) (s.frames ++ f ∷ f ∷ []) = in_order_behind s.frames (repeat (repeat (skip nothing))) in
    let joined = append_assoc s.frames (f ∷ []) (f ∷ []) in
    omega (
      arith,
      ap (λ ws. changes s.recv_label (s.frames ++ ws)) (waits_one s holds),
      ap (λ ws. changes s.recv_label ((s.frames ++ f ∷ []) ++ ws)) (waits_one s holds),
      ap (changes s.recv_label) joined,
      changes_in_order s.recv_label order,
    )

recv_more : (keep : Bool) (s : LinkState) (frames : List Frame)
    → NoMore (record s { frames = frames }) (receives_frame keep (record s { frames = frames }) (slice_get frames 0))
recv_more keep s [] = omega arith
recv_more keep s (f ∷ fs) =
    let order = in_order_before (waiting s) (in_order_after_front keep (f ∷ fs)) in
    elim (cases_eq f.label s.recv_label) [
      | inl same ↦
          let old : LinkState = record s { frames = after_front keep (f ∷ fs) } in
          let is : receives_frame keep (record s { frames = f ∷ fs }) (slice_get (f ∷ fs) 0) ≡ old =
          cond-true (f.label == s.recv_label) old (takes old f) (eq-eqb _ _ same) in
          subst (NoMore (record s { frames = f ∷ fs })) (sym is) (omega (arith, changes_in_order s.recv_label order))
      | inr other ↦
          let old : LinkState = record s { frames = after_front keep (f ∷ fs) } in
          let is : receives_frame keep (record s { frames = f ∷ fs }) (slice_get (f ∷ fs) 0) ≡ takes old f =
          cond-false (f.label == s.recv_label) old (takes old f) (ne_eqb _ _ other) in
          subst (NoMore (record s { frames = f ∷ fs })) (sym is)
          (omega (
            arith,
            changes_in_order f.label order,
            no_change f.label f.label refl,
            one_change s.recv_label f.label other,
            length_push s.delivered f.item,
          ))
    ]

acked_more : (p : Parameters) (s : LinkState) (acks : List ℕ) → Holding s → NoMore s (goes_on p (record s { acks = acks }))
acked_more p s acks holds =
    let t : LinkState = goes_on p (record s { acks = acks }) in
    let order : InOrder (s.frames ++ current_frame s ∷ []) (s.frames ++ []) = in_order_behind s.frames (skip nothing) in
    omega (
      arith,
      ap (λ ws. changes s.recv_label (s.frames ++ ws)) (waits_one s holds),
      ap (λ ws. changes s.recv_label (s.frames ++ ws)) (waits_none t holds),
      changes_in_order s.recv_label order,
    )

ack_more : (p : Parameters) (keep : Bool) (s : LinkState) (acks : List ℕ)
    → NoMore (record s { acks = acks }) (receives_ack p keep (record s { acks = acks }) (slice_get acks 0))
ack_more p keep s [] = omega arith
ack_more p keep s (a ∷ rest) =
    cond_both (is_holding s && (a == s.send_label)) _ _ (NoMore (record s { acks = a ∷ rest }))
    (λ accepts. acked_more p (record s { acks = a ∷ rest }) (after_front keep (a ∷ rest))
    (eqb-true _ _ (and_parts (is_holding s) (a == s.send_label) accepts).0))
    (λ _. omega arith)

open_more : (p : Parameters) (s : LinkState) (e : Event) → NoMore s (open_step p s e)
open_more p s (event.Offer item) =
    cond_both (is_idle s) (record s { offered = s.offered ++ item ∷ [] }) s (NoMore s)
    (λ none. offer_more s item (eqb-true _ _ none)) (λ _. same_more s)
open_more p s event.SendFrame =
    cond_both (is_holding s && has_room p s.frames) (record s { frames = s.frames ++ current_frame s ∷ [] }) s (NoMore s)
    (λ sends. frame_more s (eqb-true _ _ (and_parts (is_holding s) (has_room p s.frames) sends).0)) (λ _. same_more s)
open_more p s (event.RecvFrame keep) = recv_more keep s s.frames
open_more p s event.SendAck =
    cond_both (has_room p s.acks) (record s { acks = s.acks ++ s.recv_label ∷ [] }) s (NoMore s) (λ _. omega arith) (λ _. same_more s)
open_more p s (event.RecvAck keep) = ack_more p keep s s.acks
open_more p s (event.LoseFrame place) =
    frames_more s (without place s.frames) (changes_in_order s.recv_label (in_order_before (waiting s) (in_order_without place s.frames)))
open_more p s (event.LoseAck place) = omega arith
open_more p s event.Close = omega arith

-- an event brings no more than it offers
pub step_more : (p : Parameters) (s : LinkState) (e : Event) → NoMore s (step p s e)
step_more p s e = cond_both s.closed s (open_step p s e) (NoMore s) (λ _. same_more s) (λ _. open_more p s e)
