-- Lists that only grow: what was delivered and offered; and lists from a place on.
use Rattle.std.proofs.Common.{◌≡◌, ◌==◌, ◌&&◌, ℕ, zero, suc, ◌+◌, ◌≤◌, List, [], ◌∷◌, ◌++◌, length, drop, slice_get, Bool, Option, Some, None, refl, sym, ◌∙◌, ap, append_assoc, arith}
use mathlib.Core.List.{IsPrefix}
use Rattle.stab_frames.specs.declared.frame.Frame.{Frame}
use Rattle.stab_frames.specs.Parameters.{Parameters, next}
use Rattle.stab_core.specs.declared.event.Event.{Event}
use Rattle.stab_core.specs.declared.event.Event.TheVariants as event
use Rattle.stab_core.specs.LinkState.{LinkState, is_idle, is_holding, current_frame, has_room}
use Rattle.stab_core.specs.Replay.{replay}
use Rattle.stab_core.specs.Step.{step, open_step, after_front, receives_frame, receives_ack}
use Rattle.stab_core.proofs.ForCallers.{prefix_of_itself, prefix_of_grown, prefix_of_prefix}
use Rattle.stab_core.proofs.Growing.{of_both, step_delivers}

-- ---- lists from a place on

-- a longer list is longer from each place on
dropped_further : {A : Type 0} (n : ℕ) (xs rest : List A) → IsPrefix (drop n xs) (drop n (xs ++ rest))
dropped_further zero xs rest = (rest, refl)
dropped_further (suc n) [] rest = (drop (suc n) rest, refl)
dropped_further (suc n) (x ∷ xs) rest = dropped_further n xs rest

pub prefix_dropped : {A : Type 0} (n : ℕ) (xs ys : List A) → IsPrefix xs ys → IsPrefix (drop n xs) (drop n ys)
prefix_dropped n xs ys (rest, is) =
    let (more, further) = dropped_further n xs rest in
    (more, further ∙ ap (λ zs. drop n zs) is)

-- the same behind a list
pub prefix_behind : {A : Type 0} (first xs ys : List A) → IsPrefix xs ys → IsPrefix (first ++ xs) (first ++ ys)
prefix_behind first xs ys (rest, is) = (rest, append_assoc first xs rest ∙ ap (λ zs. first ++ zs) is)

-- from a place on that is in the front, a list has the rest of the front and then what comes after
-- it
pub dropped_front : {A : Type 0} (n : ℕ) (xs ys : List A) → n ≤ length xs → drop n (xs ++ ys) ≡ drop n xs ++ ys
dropped_front zero xs ys within = refl
dropped_front (suc n) [] ys within = absurd (omega arith)
dropped_front (suc n) (x ∷ xs) ys within = dropped_front n xs ys (omega arith)

-- a list with another front of the same length is the same behind it
pub behind_front : (xs ys : List ℕ) (n : ℕ) → length xs ≤ n → length xs ≤ length ys
    → slice_get (xs ++ drop (length xs) ys) n ≡ slice_get ys n
behind_front [] ys n late long = refl
behind_front (x ∷ xs) [] n late long = absurd (omega arith)
behind_front (x ∷ xs) (y ∷ ys) zero late long = absurd (omega arith)
behind_front (x ∷ xs) (y ∷ ys) (suc n) late long = behind_front xs ys n (omega arith) (omega arith)

-- a front is no longer than the whole
pub prefix_no_longer : {A : Type 0} (xs ys : List A) → IsPrefix xs ys → length xs ≤ length ys
prefix_no_longer xs ys (rest, is) = omega (arith, sym (ap (λ zs. length zs) is), more xs rest)
  where
    more : {B : Type 0} (zs rest : List B) → length zs ≤ length (zs ++ rest)
    more [] rest = omega arith
    more (z ∷ zs) rest = omega (arith, more zs rest)

-- a list is its front and the rest
pub front_and_rest : {A : Type 0} (xs ys : List A) → IsPrefix xs ys → ys ≡ xs ++ drop (length xs) ys
front_and_rest xs ys (rest, is) = sym is ∙ (ap (λ zs. xs ++ zs) (sym (after xs rest)) ∙ ap (λ zs. xs ++ drop (length xs) zs) is)
  where
    after : {B : Type 0} (zs rest : List B) → drop (length zs) (zs ++ rest) ≡ rest
    after [] rest = refl
    after (z ∷ zs) rest = after zs rest

-- ---- a link

-- the offered list begins with this one
abbrev pub Offers : List ℕ → LinkState → Type 0
Offers before s = IsPrefix before s.offered

frame_offered : (keep : Bool) (s : LinkState) (front : Option Frame) → Offers s.offered (receives_frame keep s front)
frame_offered keep s None = prefix_of_itself s.offered
frame_offered keep s (Some f) =
    of_both (Offers s.offered) (f.label == s.recv_label) (record s { frames = after_front keep s.frames })
    (record s { frames = after_front keep s.frames; recv_label = f.label; delivered = s.delivered ++ f.item ∷ [] })
    (prefix_of_itself s.offered) (prefix_of_itself s.offered)

ack_offered : (p : Parameters) (keep : Bool) (s : LinkState) (front : Option ℕ) → Offers s.offered (receives_ack p keep s front)
ack_offered p keep s None = prefix_of_itself s.offered
ack_offered p keep s (Some label) =
    of_both (Offers s.offered) (is_holding s && (label == s.send_label))
    (record s { acks = after_front keep s.acks; acked = s.acked + 1; send_label = next p s.send_label })
    (record s { acks = after_front keep s.acks })
    (prefix_of_itself s.offered) (prefix_of_itself s.offered)

open_offered : (p : Parameters) (s : LinkState) (e : Event) → Offers s.offered (open_step p s e)
open_offered p s (event.Offer item) =
    of_both (Offers s.offered) (is_idle s) (record s { offered = s.offered ++ item ∷ [] }) s (prefix_of_grown s.offered item) (prefix_of_itself s.offered)
open_offered p s event.SendFrame =
    of_both (Offers s.offered) (is_holding s && has_room p s.frames) (record s { frames = s.frames ++ current_frame s ∷ [] }) s
    (prefix_of_itself s.offered) (prefix_of_itself s.offered)
open_offered p s (event.RecvFrame keep) = frame_offered keep s (slice_get s.frames 0)
open_offered p s event.SendAck =
    of_both (Offers s.offered) (has_room p s.acks) (record s { acks = s.acks ++ s.recv_label ∷ [] }) s
    (prefix_of_itself s.offered) (prefix_of_itself s.offered)
open_offered p s (event.RecvAck keep) = ack_offered p keep s (slice_get s.acks 0)
open_offered p s (event.LoseFrame place) = prefix_of_itself s.offered
open_offered p s (event.LoseAck place) = prefix_of_itself s.offered
open_offered p s event.Close = prefix_of_itself s.offered

-- a step only adds to the offered list
pub step_offered : (p : Parameters) (s : LinkState) (e : Event) → Offers s.offered (step p s e)
step_offered p s e =
    of_both (Offers s.offered) s.closed s (open_step p s e) (prefix_of_itself s.offered) (open_offered p s e)

-- and so does a replay, to both lists
pub replay_delivers : (p : Parameters) (s : LinkState) (es : List Event) → IsPrefix s.delivered (replay p s es).delivered
replay_delivers p s [] = prefix_of_itself s.delivered
replay_delivers p s (e ∷ es) =
    prefix_of_prefix s.delivered (step p s e).delivered (replay p (step p s e) es).delivered (step_delivers p s e)
    (replay_delivers p (step p s e) es)

-- what is in a list from a place on that is past its front
pub drop-past : {A : Type 0} (xs ys : List A) (n : ℕ) → drop (length xs + n) (xs ++ ys) ≡ drop n ys
drop-past [] ys n = ap (λ k. drop k ys) (let same : 0 + n ≡ n = omega arith in same)
drop-past (x ∷ xs) ys n =
    let same : suc (length xs) + n ≡ suc (length xs + n) = omega arith in
    ap (λ k. drop k (x ∷ (xs ++ ys))) same ∙ drop-past xs ys n
