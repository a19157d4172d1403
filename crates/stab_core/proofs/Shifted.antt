-- A link with a past steps as the link without it: its three lists and its count are only longer.
use Rattle.std.proofs.Common.{◌≡◌, ◌==◌, ◌&&◌, ℕ, ◌+◌, ◌≤◌, List, [], ◌∷◌, ◌++◌, length, take, drop, slice_get, Bool, true, false, if◌then◌else◌, Option, Some, None, refl, sym, ◌∙◌, ap, ap₂, subst, append_assoc, arith}
use Rattle.std.proofs.lemmas.Bool.{eq-eqb, eqb-true}
use Rattle.std.proofs.lemmas.List.{append-nil, length-append, length-take-le, get_or-append-add, take-append-drop}
use Rattle.stab_frames.specs.declared.frame.Frame.{Frame}
use Rattle.stab_frames.specs.Parameters.{Parameters, next}
use Rattle.stab_core.specs.declared.event.Event.{Event}
use Rattle.stab_core.specs.declared.event.Event.TheVariants as event
use Rattle.stab_core.specs.LinkState.{LinkState, is_idle, is_holding, current_frame, has_room}
use Rattle.stab_core.specs.declared.start.Start.{Start}
use Rattle.stab_core.specs.Replay.{IsLawful, initial, replay, start_items}
use Rattle.stab_core.specs.Step.{step, open_step, after_front, receives_frame, receives_ack}
use Rattle.stab_core.proofs.Replays.{replay-append}
use Rattle.stab_core.specs.Since.{start_at, IsBounded, offered_since, acked_since, delivered_since}

-- a link that had the items `offers` acknowledged and the items `before` delivered earlier
abbrev pub shifted : List ℕ → List ℕ → LinkState → LinkState
shifted offers before s =
    record s {
      offered = offers ++ s.offered;
      acked = length offers + s.acked;
      delivered = before ++ s.delivered;
    }

-- a choice that is made alike of two that are alike
if_shifted : {A B : Type 0} (f : A → B) (b c : Bool) (x y : A) (x2 y2 : B) → c ≡ b → x2 ≡ f x → y2 ≡ f y
    → (if c then x2 else y2) ≡ f (if b then x else y)
if_shifted f true c x y x2 y2 same first second = rw same first
if_shifted f false c x y x2 y2 same first second = rw same second

-- numbers are equal exactly if they are with more on both sides
same_bools : (x y : Bool) → (x ≡ true → y ≡ true) → (y ≡ true → x ≡ true) → x ≡ y
same_bools true true first second = refl
same_bools true false first second = sym (first refl)
same_bools false true first second = second refl
same_bools false false first second = refl

same_later : (a b c : ℕ) → (a + b == a + c) ≡ (b == c)
same_later a b c =
    same_bools (a + b == a + c) (b == c)
    (λ is. let same : a + b ≡ a + c = eqb-true (a + b) (a + c) is in eq-eqb b c (omega arith))
    (λ is. eq-eqb (a + b) (a + c) (ap (λ n. a + n) (eqb-true b c is)))

module _ (p : Parameters) (o d : List ℕ) where
  idle_shifted : (s : LinkState) → is_idle (shifted o d s) ≡ is_idle s
  idle_shifted s =
      ap (λ n. n == length o + s.acked) (length-append o s.offered) ∙ same_later (length o) (length s.offered) s.acked

  holding_shifted : (s : LinkState) → is_holding (shifted o d s) ≡ is_holding s
  holding_shifted s =
      let more : length o + s.acked + 1 ≡ length o + (s.acked + 1) = omega arith in
      ap₂ (λ n m. n == m) (length-append o s.offered) more ∙ same_later (length o) (length s.offered) (s.acked + 1)

  frame_shifted : (s : LinkState) → current_frame (shifted o d s) ≡ current_frame s
  frame_shifted s =
      ap (λ x. record { label = s.send_label; item = x }) (get_or-append-add o s.offered s.acked 0)

  receives_shifted : (keep : Bool) (s : LinkState) (front : Option Frame)
      → receives_frame keep (shifted o d s) front ≡ shifted o d (receives_frame keep s front)
  receives_shifted keep s None = refl
  receives_shifted keep s (Some f) =
      let t = record s { frames = after_front keep s.frames } in
      if_shifted (shifted o d) (f.label == s.recv_label) (f.label == s.recv_label) t
      (record t { recv_label = f.label; delivered = s.delivered ++ f.item ∷ [] })
      (shifted o d t)
      (record (shifted o d t) { recv_label = f.label; delivered = (d ++ s.delivered) ++ f.item ∷ [] })
      refl refl
      (ap (λ xs. record (shifted o d t) { recv_label = f.label; delivered = xs }) (append_assoc d s.delivered (f.item ∷ [])))

  ack_shifted : (keep : Bool) (s : LinkState) (front : Option ℕ)
      → receives_ack p keep (shifted o d s) front ≡ shifted o d (receives_ack p keep s front)
  ack_shifted keep s None = refl
  ack_shifted keep s (Some label) =
      let t = record s { acks = after_front keep s.acks } in
      let more : length o + s.acked + 1 ≡ length o + (s.acked + 1) = omega arith in
      if_shifted (shifted o d) (is_holding s && (label == s.send_label)) (is_holding (shifted o d s) && (label == s.send_label))
      (record t { acked = s.acked + 1; send_label = next p s.send_label }) t
      (record (shifted o d t) { acked = length o + s.acked + 1; send_label = next p s.send_label }) (shifted o d t)
      (ap (λ b. b && (label == s.send_label)) (holding_shifted s))
      (ap (λ n. record (shifted o d t) { acked = n; send_label = next p s.send_label }) more)
      refl

  open_shifted : (s : LinkState) (e : Event) → open_step p (shifted o d s) e ≡ shifted o d (open_step p s e)
  open_shifted s (event.Offer item) =
      if_shifted (shifted o d) (is_idle s) (is_idle (shifted o d s)) (record s { offered = s.offered ++ item ∷ [] }) s
      (record (shifted o d s) { offered = (o ++ s.offered) ++ item ∷ [] }) (shifted o d s) (idle_shifted s)
      (ap (λ xs. record (shifted o d s) { offered = xs }) (append_assoc o s.offered (item ∷ []))) refl
  open_shifted s event.SendFrame =
      if_shifted (shifted o d) (is_holding s && has_room p s.frames) (is_holding (shifted o d s) && has_room p s.frames)
      (record s { frames = s.frames ++ current_frame s ∷ [] }) s
      (record (shifted o d s) { frames = s.frames ++ current_frame (shifted o d s) ∷ [] }) (shifted o d s)
      (ap (λ b. b && has_room p s.frames) (holding_shifted s))
      (ap (λ f. record (shifted o d s) { frames = s.frames ++ f ∷ [] }) (frame_shifted s)) refl
  open_shifted s (event.RecvFrame keep) = receives_shifted keep s (slice_get s.frames 0)
  open_shifted s event.SendAck =
      if_shifted (shifted o d) (has_room p s.acks) (has_room p s.acks) (record s { acks = s.acks ++ s.recv_label ∷ [] }) s
      (record (shifted o d s) { acks = s.acks ++ s.recv_label ∷ [] }) (shifted o d s) refl refl refl
  open_shifted s (event.RecvAck keep) = ack_shifted keep s (slice_get s.acks 0)
  open_shifted s (event.LoseFrame place) = refl
  open_shifted s (event.LoseAck place) = refl
  open_shifted s event.Close = refl

  step_shifted : (s : LinkState) (e : Event) → step p (shifted o d s) e ≡ shifted o d (step p s e)
  step_shifted s e =
      if_shifted (shifted o d) s.closed s.closed s (open_step p s e) (shifted o d s) (open_step p (shifted o d s) e) refl refl
      (open_shifted s e)

  pub replay_shifted : (s : LinkState) (es : List Event) → replay p (shifted o d s) es ≡ shifted o d (replay p s es)
  replay_shifted s [] = refl
  replay_shifted s (e ∷ es) = ap (λ t. replay p t es) (step_shifted s e) ∙ replay_shifted (step p s e) es

-- ---- a state is one that its own start leads to, with a past

-- what is after a list
pub after_all : {A : Type 0} (xs ys : List A) → drop (length xs) (xs ++ ys) ≡ ys
after_all [] ys = refl
after_all (x ∷ xs) ys = after_all xs ys

-- a list of one entry
one_entry : (xs : List ℕ) → length xs ≡ 1 → (x : ℕ) × (xs ≡ x ∷ [])
one_entry [] is = absurd (omega arith)
one_entry (x ∷ []) is = (x, refl)
one_entry (x ∷ y ∷ ys) is = absurd (omega arith)

no_entry : (xs : List ℕ) → length xs ≡ 0 → xs ≡ []
no_entry [] is = refl
no_entry (x ∷ xs) is = absurd (omega arith)

-- a state with these lists, this count and this end
abbrev remade : LinkState → List ℕ → ℕ → List ℕ → Bool → LinkState
remade s offered acked delivered closed = record s { offered = offered; acked = acked; delivered = delivered; closed = closed }

-- some events lead from what stands in the link to the state, but for its past
pub record HasPast (p : Parameters) (s : LinkState) : Type 0 where
  pub offers : List ℕ
  pub as_many : length offers ≡ s.acked
  pub events : List Event
  pub is : s ≡ shifted offers s.delivered (replay p (initial (start_at s)) events)

remade_as : (s : LinkState) (offered : List ℕ) (acked : ℕ) (closed : Bool) → s.offered ≡ offered → s.acked ≡ acked → s.closed ≡ closed
    → s ≡ remade s offered acked (s.delivered ++ []) closed
remade_as s offered acked closed first second third =
    ap (λ xs. remade s xs s.acked s.delivered s.closed) first
    ∙ (ap (λ n. remade s offered n s.delivered s.closed) second
    ∙ (ap (λ b. remade s offered acked s.delivered b) third
    ∙ ap (λ xs. remade s offered acked xs closed) (sym (append-nil s.delivered))))

-- an idle sender, and one that holds an item, on an open or a closed link
past_of : (p : Parameters) (s : LinkState) (offers held : List ℕ) (closed : Bool) → s.offered ≡ offers ++ held → length offers ≡ s.acked
    → length held ≤ 1 → s.closed ≡ closed → HasPast p s
past_of p s offers [] false parts as_many one still_open = record {
  offers = offers;
  as_many = as_many;
  events = [];
  is = remade_as s (offers ++ []) (length offers + 0) false parts (omega (arith, as_many)) still_open;
}
past_of p s offers [] true parts as_many one closed = record {
  offers = offers;
  as_many = as_many;
  events = event.Close ∷ [];
  is = remade_as s (offers ++ []) (length offers + 0) true parts (omega (arith, as_many)) closed;
}
past_of p s offers (x ∷ []) false parts as_many one still_open = record {
  offers = offers;
  as_many = as_many;
  events = event.Offer x ∷ [];
  is = remade_as s (offers ++ x ∷ []) (length offers + 0) false parts (omega (arith, as_many)) still_open;
}
past_of p s offers (x ∷ []) true parts as_many one closed = record {
  offers = offers;
  as_many = as_many;
  events = event.Offer x ∷ event.Close ∷ [];
  is = remade_as s (offers ++ x ∷ []) (length offers + 0) true parts (omega (arith, as_many)) closed;
}
past_of p s offers (x ∷ y ∷ more) closed parts as_many one is_closed = absurd (omega arith)

-- each bounded state has a past
pub has_past : (p : Parameters) (s : LinkState) → IsBounded p s → HasPast p s
has_past p s bounded =
    let all : take s.acked s.offered ++ drop s.acked s.offered ≡ s.offered = take-append-drop s.acked s.offered in
    let as_many : length (take s.acked s.offered) ≡ s.acked = length-take-le s.acked s.offered bounded.acked_were_offered in
    let count : length (take s.acked s.offered) + length (drop s.acked s.offered) ≡ length s.offered =
    sym (length-append (take s.acked s.offered) (drop s.acked s.offered)) ∙ ap (λ xs. length xs) all in
    past_of p s (take s.acked s.offered) (drop s.acked s.offered) s.closed (sym all) as_many
    (omega (arith, bounded.one_waits_at_most)) refl

-- every replay of links with these parameters, from a lawful start, obeys the law
abbrev pub ReplaysObey : (ℕ → List ℕ → List ℕ → ℕ → List ℕ → Type 0) → Parameters → Type 0
ReplaysObey Law p =
    (start : Start) (events : List Event) → IsLawful p start → let s = replay p (initial start) events in
    Law p.capacity (start_items start) s.offered s.acked s.delivered

-- so what holds of every replay from a start holds from every state, counted from there
pub law_from : (Law : ℕ → List ℕ → List ℕ → ℕ → List ℕ → Type 0) → (p : Parameters) → ReplaysObey Law p → (s : LinkState) (events : List Event)
    → IsBounded p s → let t = replay p s events in
    Law p.capacity (start_items (start_at s)) (offered_since s t) (acked_since s t) (delivered_since s t)
law_from Law p obey s events bounded =
    let past = has_past p s bounded in
    let o = past.offers in
    let d = s.delivered in
    let u = replay p (initial (start_at s)) (past.events ++ events) in
    let whole : replay p s events ≡ shifted o d u =
    ap (λ t. replay p t events) past.is
    ∙ (replay_shifted p o d (replay p (initial (start_at s)) past.events) events
    ∙ ap (λ t. shifted o d t) (sym (replay-append p (initial (start_at s)) past.events events))) in
    let offered : offered_since s (shifted o d u) ≡ u.offered =
    ap (λ n. drop n (o ++ u.offered)) (sym past.as_many) ∙ after_all o u.offered in
    let acked : acked_since s (shifted o d u) ≡ u.acked = omega (arith, past.as_many) in
    let delivered : delivered_since s (shifted o d u) ≡ u.delivered = after_all d u.delivered in
    subst (λ t. Law p.capacity (start_items (start_at s)) (offered_since s t) (acked_since s t) (delivered_since s t)) (sym whole)
    (subst (λ xs. Law p.capacity (start_items (start_at s)) xs (acked_since s (shifted o d u)) (delivered_since s (shifted o d u))) (sym offered)
    (subst (λ n. Law p.capacity (start_items (start_at s)) u.offered n (delivered_since s (shifted o d u))) (sym acked)
    (subst (λ xs. Law p.capacity (start_items (start_at s)) u.offered u.acked xs) (sym delivered)
    (obey (start_at s) (past.events ++ events) bounded.lawful))))
