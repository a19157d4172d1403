-- Facts on the origins that the code keeps beside a link's frames.
use Rattle.std.proofs.Common.{◌≡◌, ◌==◌, ℕ, zero, suc, ◌+◌, ◌<◌, ◌≤◌, ◌↔◌, Bool, true, false, IsTrue, if◌then◌else◌, slice_get, length-take, List, [], ◌∷◌, ◌++◌, length, take, refl, ap, sym, ◌∙◌, arith, add-one, add-zero}
use Rattle.std.proofs.lemmas.Bool.{cond_both, cond-false}
use Rattle.stab_frames.specs.declared.frame.Frame.{Frame}
use Rattle.stab_frames.specs.Parameters.{Parameters}
use Rattle.stab_frames.specs.Queue.{Queue, queue, without}
use Rattle.stab_core.specs.declared.origin.Origin.{Origin}
use Rattle.stab_core.specs.declared.origin.Origin.TheVariants.{Stray}
use Rattle.stab_core.specs.declared.event.Event.TheVariants.{RecvFrame}
use Rattle.stab_core.specs.Link.{LinkValue, link_at}
use Rattle.stab_core.specs.LinkState.{LinkState}
use Rattle.stab_core.specs.Step.{step, open_step, receives_frame, takes, after_front}
use Rattle.stab_core.specs.Trace.{strays_from}
use Rattle.stab_core.proofs.InOrder.{after_front-nil}

-- two lists of one length keep pace when each loses its entry at one place
pub length_without : {A B : Type 0} (xs : List A) (ys : List B) (i : ℕ) → length xs ≡ length ys
    → length (without i xs) ≡ length (without i ys)
length_without [] [] i same = refl
length_without [] (y ∷ ys) i same = absurd (omega arith)
length_without (x ∷ xs) [] i same = absurd (omega arith)
length_without (x ∷ xs) (y ∷ ys) zero same = omega arith
length_without (x ∷ xs) (y ∷ ys) (suc i) same = ap suc (length_without xs ys i (omega arith))

-- one frame more is one stray more
pub one_more_stray : (frames : List Frame) (first i : ℕ) → i < length frames
    → strays_from first (take (suc i) frames) ≡ strays_from first (take i frames) ++ Stray (first + i) ∷ []
one_more_stray [] first i here = absurd (omega arith)
one_more_stray (f ∷ fs) first zero here = ap (λ place. Stray place ∷ []) (sym (add-zero first))
one_more_stray (f ∷ fs) first (suc i) here =
    ap (λ rest. Stray first ∷ rest)
    (one_more_stray fs (first + 1) i (omega arith) ∙ ap (λ place. strays_from (first + 1) (take i fs) ++ Stray place ∷ []) (omega arith))

-- the same, as a loop counts
pub next_stray : (frames : List Frame) (i : ℕ) → i < length frames
    → strays_from 0 (take (i + 1) frames) ≡ strays_from 0 (take i frames) ++ Stray i ∷ []
next_stray frames i here =
    rw add-one (one_more_stray frames 0 i here ∙ ap (λ place. strays_from 0 (take i frames) ++ Stray place ∷ []) (omega arith))

-- there are as many strays as frames
pub length_strays : (frames : List Frame) (first : ℕ) → length (strays_from first frames) ≡ length frames
length_strays [] first = refl
length_strays (f ∷ fs) first = ap suc (length_strays fs (first + 1))

-- a queue with room for all of a link's frames takes one stray after the other
pub put_stray : (frames : List Frame) (i capacity : ℕ) (before after : Queue Origin) (had_room : Bool)
    → i < length frames → length frames ≤ capacity
    → before.entries ≡ strays_from 0 (take i frames) → before.capacity ≡ capacity
    → (IsTrue had_room ↔ (length before.entries < before.capacity))
    → after ≡ queue (if had_room then before.entries ++ Stray i ∷ [] else before.entries) before.capacity
    → (after.entries ≡ strays_from 0 (take (i + 1) frames)) × (after.capacity ≡ capacity)
put_stray frames i capacity before after true here fits so_far same room put =
    (ap (λ (q : Queue Origin). q.entries) put ∙ (ap (λ xs. xs ++ Stray i ∷ []) so_far ∙ sym (next_stray frames i here)), ap (λ (q : Queue Origin). q.capacity) put ∙ same)
put_stray frames i capacity before after false here fits so_far same room put =
    let as_many : length before.entries ≡ i = ap length so_far ∙ (length_strays (take i frames) 0 ∙ (length-take i frames ∙ omega arith)) in
    let had : false ≡ true = room.1 (omega arith) in absurd (cc)

-- what is received leaves the queue without its front, or as it was where the front is kept
received_frames : (p : Parameters) (keep : Bool) (s : LinkState) → s.closed ≡ false
    → (step p s (RecvFrame keep)).frames ≡ after_front keep s.frames
received_frames p keep s is_open =
    ap (λ (t : LinkState). t.frames) (cond-false s.closed s (open_step p s (RecvFrame keep)) is_open) ∙ by_front s.frames
  where
    by_front : (frames : List Frame)
        → (receives_frame keep (record s { frames = frames }) (slice_get frames 0)).frames ≡ after_front keep frames
    by_front [] = sym (after_front-nil keep)
    by_front (f ∷ fs) =
        let t : LinkState = record s { frames = after_front keep (f ∷ fs) } in
        cond_both (f.label == s.recv_label) t (takes t f) (λ (u : LinkState). u.frames ≡ after_front keep (f ∷ fs))
        (λ _. refl) (λ _. refl)

-- two lists of one length keep pace when the front of each is received
length_after_front : {A B : Type 0} (keep : Bool) (xs : List A) (ys : List B) → length xs ≡ length ys
    → length (after_front keep xs) ≡ length (after_front keep ys)
length_after_front true xs ys same = same
length_after_front false [] [] same = refl
length_after_front false [] (y ∷ ys) same = absurd (omega arith)
length_after_front false (x ∷ xs) [] same = absurd (omega arith)
length_after_front false (x ∷ xs) (y ∷ ys) same = omega arith

-- the origins keep pace with the frames when the front is received
pub received_in_pace : {A : Type 0} (p : Parameters) (keep : Bool) (s : LinkState) (after : LinkValue) (queued : List A)
    → s.closed ≡ false → after ≡ link_at p (step p s (RecvFrame keep)) → length queued ≡ length s.frames
    → length (after_front keep queued) ≡ length after.state.frames
received_in_pace p keep s after queued is_open steps pace =
    length_after_front keep queued s.frames pace
    ∙ sym (ap (λ (link : LinkValue). length link.state.frames) steps ∙ ap length (received_frames p keep s is_open))
