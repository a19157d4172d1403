-- How many more rounds acknowledge the item that waits, at most. No event makes them more, and each
-- round makes them fewer.
use Rattle.std.proofs.Common.{◌≡◌, inl, inr, ℕ, ◌+◌, ◌*◌, ◌≤◌, Bool, true, List, [], ◌∷◌, ◌++◌, length, refl, ◌∙◌, ap, arith}
use Rattle.std.specs.List.{AllByRecursion as Each}
use Rattle.std.proofs.lemmas.List.{length_push}
use Rattle.stab_frames.specs.declared.frame.Frame.{Frame}
use Rattle.stab_frames.specs.Parameters.{Parameters}
use Rattle.stab_frames.specs.Queue.{without}
use Rattle.stab_core.specs.LinkState.{LinkState, current_frame}
use Rattle.stab_core.specs.Step.{after_front, takes}
use Rattle.stab_core.proofs.InOrder.{Each-in_order, Each-push, in_order_after_front, in_order_without}
use Rattle.stab_rounds.specs.Rounds.{IsWithin}
use Rattle.stab_rounds.proofs.Entries.{From, from_end, from-push, from-front, from-without}

-- a frame, or an acknowledgement, has this label
abbrev pub HasLabel : ℕ → Frame → Type 0
HasLabel label f = f.label ≡ label

abbrev pub IsLabel : ℕ → ℕ → Type 0
IsLabel label a = a ≡ label

-- The receiver has the label of the item that waits, and all frames have it: but for the first
-- `before` acknowledgements, all have it too.
pub record ArrivedOf (k : ℕ) (offered : List ℕ) (acked label : ℕ) (frames : List Frame) (acks : List ℕ) (recv_label : ℕ)
    : Type 0 where
  pub before : ℕ
  pub holds : length offered ≡ acked + 1
  pub all_frames : Each (HasLabel label) frames
  pub taken : recv_label ≡ label
  pub later_acks : From (IsLabel label) before acks
  pub enough : before + 1 ≤ k

-- no item waits; or one does, and but for the first `before` frames all have its label; or it has
-- arrived
pub data LevelOf (c k : ℕ) (offered : List ℕ) (acked label : ℕ) (frames : List Frame) (acks : List ℕ) (recv_label : ℕ)
    : Type 0 where
  idle : length offered ≡ acked → 2 * c + 1 ≤ k → LevelOf c k offered acked label frames acks recv_label
  outward : (before : ℕ) → length offered ≡ acked + 1 → From (HasLabel label) before frames → before + c + 1 ≤ k
      → LevelOf c k offered acked label frames acks recv_label
  arrived : ArrivedOf k offered acked label frames acks recv_label → LevelOf c k offered acked label frames acks recv_label

abbrev pub Arrived : ℕ → LinkState → Type 0
Arrived k s = ArrivedOf k s.offered s.acked s.send_label s.frames s.acks s.recv_label

abbrev pub Level : Parameters → ℕ → LinkState → Type 0
Level p k s = LevelOf p.capacity k s.offered s.acked s.send_label s.frames s.acks s.recv_label

abbrev pub Holding : LinkState → Type 0
Holding s = length s.offered ≡ s.acked + 1

-- What no event but an accepted acknowledgement takes away.
pub record Stable (p : Parameters) (Q : LinkState → Type 0) : Type 0 where
  pub offer : (s : LinkState) (item : ℕ) → IsWithin p s → length s.offered ≡ s.acked → Q s
      → Q (record s { offered = s.offered ++ item ∷ [] })
  pub frame : (s : LinkState) → Holding s → Q s → Q (record s { frames = s.frames ++ current_frame s ∷ [] })
  pub old : (s : LinkState) (keep : Bool) (f : Frame) (fs : List Frame) → Q (record s { frames = f ∷ fs })
      → Q (record s { frames = after_front keep (f ∷ fs) })
  pub fresh : (s : LinkState) (keep : Bool) (f : Frame) (fs : List Frame) → Q (record s { frames = f ∷ fs })
      → Q (takes (record s { frames = after_front keep (f ∷ fs) }) f)
  pub ack : (s : LinkState) → Q s → Q (record s { acks = s.acks ++ s.recv_label ∷ [] })
  pub ignored : (s : LinkState) (keep : Bool) (a : ℕ) (rest : List ℕ) → Q (record s { acks = a ∷ rest })
      → Q (record s { acks = after_front keep (a ∷ rest) })
  pub lost_frame : (s : LinkState) (i : ℕ) → Q s → Q (record s { frames = without i s.frames })
  pub lost_ack : (s : LinkState) (i : ℕ) → Q s → Q (record s { acks = without i s.acks })
  pub close : (s : LinkState) → Q s → Q (record s { closed = true })

-- both of two such facts
pub both_stable : {p : Parameters} {Q R : LinkState → Type 0} → Stable p Q → Stable p R → Stable p (λ s. Q s × R s)
both_stable q r =
    record {
      offer = λ s item within idle has. (q.offer s item within idle has.0, r.offer s item within idle has.1);
      frame = λ s holds has. (q.frame s holds has.0, r.frame s holds has.1);
      old = λ s keep f fs has. (q.old s keep f fs has.0, r.old s keep f fs has.1);
      fresh = λ s keep f fs has. (q.fresh s keep f fs has.0, r.fresh s keep f fs has.1);
      ack = λ s has. (q.ack s has.0, r.ack s has.1);
      ignored = λ s keep a rest has. (q.ignored s keep a rest has.0, r.ignored s keep a rest has.1);
      lost_frame = λ s i has. (q.lost_frame s i has.0, r.lost_frame s i has.1);
      lost_ack = λ s i has. (q.lost_ack s i has.0, r.lost_ack s i has.1);
      close = λ s has. (q.close s has.0, r.close s has.1);
    }

-- an item waits
pub holding_stable : (p : Parameters) → Stable p Holding
holding_stable p =
    record {
      offer = λ s item within idle holds. absurd (omega arith);
      frame = λ s _ holds. holds;
      old = λ s keep f fs holds. holds;
      fresh = λ s keep f fs holds. holds;
      ack = λ s holds. holds;
      ignored = λ s keep a rest holds. holds;
      lost_frame = λ s i holds. holds;
      lost_ack = λ s i holds. holds;
      close = λ s holds. holds;
    }

-- it has arrived
pub arrived_stable : (p : Parameters) (k : ℕ) → Stable p (Arrived k)
arrived_stable p k =
    record {
      offer = λ s item within idle here. absurd (let holds = here.holds in omega arith);
      frame = λ s _ here. record {
        before = here.before;
        holds = here.holds;
        taken = here.taken;
        later_acks = here.later_acks;
        enough = here.enough;
        all_frames = Each-push (HasLabel s.send_label) s.frames (current_frame s) here.all_frames refl;
      };
      old = λ s keep f fs here. record {
        before = here.before;
        holds = here.holds;
        taken = here.taken;
        later_acks = here.later_acks;
        enough = here.enough;
        all_frames = Each-in_order (HasLabel s.send_label) (in_order_after_front keep (f ∷ fs)) here.all_frames;
      };
      fresh = λ s keep f fs here. record {
        before = here.before;
        holds = here.holds;
        taken = here.all_frames.0;
        later_acks = here.later_acks;
        enough = here.enough;
        all_frames = Each-in_order (HasLabel s.send_label) (in_order_after_front keep (f ∷ fs)) here.all_frames;
      };
      ack = λ s here. record {
        before = here.before;
        holds = here.holds;
        taken = here.taken;
        all_frames = here.all_frames;
        enough = here.enough;
        later_acks = from-push (IsLabel s.send_label) here.before s.acks s.recv_label here.later_acks here.taken;
      };
      ignored = λ s keep a rest here. record {
        before = here.before;
        holds = here.holds;
        taken = here.taken;
        all_frames = here.all_frames;
        enough = here.enough;
        later_acks = from-front (IsLabel s.send_label) here.before keep (a ∷ rest) here.later_acks;
      };
      lost_frame = λ s i here. record {
        before = here.before;
        holds = here.holds;
        taken = here.taken;
        later_acks = here.later_acks;
        enough = here.enough;
        all_frames = Each-in_order (HasLabel s.send_label) (in_order_without i s.frames) here.all_frames;
      };
      lost_ack = λ s i here. record {
        before = here.before;
        holds = here.holds;
        taken = here.taken;
        all_frames = here.all_frames;
        enough = here.enough;
        later_acks = from-without (IsLabel s.send_label) here.before i s.acks here.later_acks;
      };
      close = λ s here. here;
    }

-- `2c + 1` rounds or more are enough for any state within the bounds
pub any_level : (p : Parameters) (k : ℕ) (s : LinkState) → IsWithin p s → 2 * p.capacity + 1 ≤ k → Level p k s
any_level p k s within enough =
    elim within.waits [
      | inl none ↦ idle none enough
      | inr holds ↦ outward p.capacity holds (from_end (HasLabel s.send_label) p.capacity s.frames within.frames) (omega arith)
    ]

-- one more is needed at least
pub level_positive : (c k : ℕ) {offered : List ℕ} {acked label : ℕ} {frames : List Frame} {acks : List ℕ} {recv_label : ℕ}
    → LevelOf c k offered acked label frames acks recv_label → 1 ≤ k
level_positive c k (idle _ enough) = omega arith
level_positive c k (outward before _ _ enough) = omega arith
level_positive c k (arrived here) = let enough = here.enough in omega arith

module _ (p : Parameters) (k : ℕ) where
  level_offer : (s : LinkState) (item : ℕ) → IsWithin p s → length s.offered ≡ s.acked → Level p k s
      → Level p k (record s { offered = s.offered ++ item ∷ [] })
  level_offer s item within none (idle _ enough) =
      outward p.capacity (length_push s.offered item ∙ ap (λ n. n + 1) none)
      (from_end (HasLabel s.send_label) p.capacity s.frames within.frames) (omega arith)
  level_offer s item within none (outward before holds later enough) = absurd (omega arith)
  level_offer s item within none (arrived here) = absurd (let holds = here.holds in omega arith)

  level_frame : (s : LinkState) → Holding s → Level p k s → Level p k (record s { frames = s.frames ++ current_frame s ∷ [] })
  level_frame s _ (idle none enough) = idle none enough
  level_frame s _ (outward before holds later enough) =
      outward before holds (from-push (HasLabel s.send_label) before s.frames (current_frame s) later refl) enough
  level_frame s holding (arrived here) = arrived ((arrived_stable p k).frame s holding here)

  level_old : (s : LinkState) (keep : Bool) (f : Frame) (fs : List Frame) → Level p k (record s { frames = f ∷ fs })
      → Level p k (record s { frames = after_front keep (f ∷ fs) })
  level_old s keep f fs (idle none enough) = idle none enough
  level_old s keep f fs (outward before holds later enough) =
      outward before holds (from-front (HasLabel s.send_label) before keep (f ∷ fs) later) enough
  level_old s keep f fs (arrived here) = arrived ((arrived_stable p k).old s keep f fs here)

  level_fresh : (s : LinkState) (keep : Bool) (f : Frame) (fs : List Frame) → Level p k (record s { frames = f ∷ fs })
      → Level p k (takes (record s { frames = after_front keep (f ∷ fs) }) f)
  level_fresh s keep f fs (idle none enough) = idle none enough
  level_fresh s keep f fs (outward before holds later enough) =
      outward before holds (from-front (HasLabel s.send_label) before keep (f ∷ fs) later) enough
  level_fresh s keep f fs (arrived here) = arrived ((arrived_stable p k).fresh s keep f fs here)

  level_ack : (s : LinkState) → Level p k s → Level p k (record s { acks = s.acks ++ s.recv_label ∷ [] })
  level_ack s (idle none enough) = idle none enough
  level_ack s (outward before holds later enough) = outward before holds later enough
  level_ack s (arrived here) = arrived ((arrived_stable p k).ack s here)

  level_ignored : (s : LinkState) (keep : Bool) (a : ℕ) (rest : List ℕ) → Level p k (record s { acks = a ∷ rest })
      → Level p k (record s { acks = after_front keep (a ∷ rest) })
  level_ignored s keep a rest (idle none enough) = idle none enough
  level_ignored s keep a rest (outward before holds later enough) = outward before holds later enough
  level_ignored s keep a rest (arrived here) = arrived ((arrived_stable p k).ignored s keep a rest here)

  level_lost_frame : (s : LinkState) (i : ℕ) → Level p k s → Level p k (record s { frames = without i s.frames })
  level_lost_frame s i (idle none enough) = idle none enough
  level_lost_frame s i (outward before holds later enough) =
      outward before holds (from-without (HasLabel s.send_label) before i s.frames later) enough
  level_lost_frame s i (arrived here) = arrived ((arrived_stable p k).lost_frame s i here)

  level_lost_ack : (s : LinkState) (i : ℕ) → Level p k s → Level p k (record s { acks = without i s.acks })
  level_lost_ack s i (idle none enough) = idle none enough
  level_lost_ack s i (outward before holds later enough) = outward before holds later enough
  level_lost_ack s i (arrived here) = arrived ((arrived_stable p k).lost_ack s i here)

  -- no event makes the rounds more
  pub level_stable : Stable p (Level p k)
  level_stable =
      record {
        offer = level_offer;
        frame = level_frame;
        old = level_old;
        fresh = level_fresh;
        ack = level_ack;
        ignored = level_ignored;
        lost_frame = level_lost_frame;
        lost_ack = level_lost_ack;
        close = λ s level. level;
      }
