-- Replays: of two lists one after the other, and after a close.
use Rattle.std.proofs.Common.{◌≡◌, Bool, true, false, List, [], ◌∷◌, ◌++◌, refl, sym, ◌∙◌, ap}
use Rattle.stab_frames.specs.Parameters.{Parameters}
use Rattle.stab_core.specs.declared.event.Event.{Event}
use Rattle.stab_core.specs.declared.event.Event.TheVariants.{Close}
use Rattle.stab_core.specs.LinkState.{LinkState}
use Rattle.stab_core.specs.Step.{step}
use Rattle.stab_core.specs.declared.start.Start.{Start}
use Rattle.stab_core.specs.Replay.{initial, replay}
use Rattle.stab_core.specs.Reachable.{IsReachable}

-- the replay of two lists is that of the second from where the first one led
pub replay-append : (p : Parameters) (s : LinkState) (xs ys : List Event)
    → replay p s (xs ++ ys) ≡ replay p (replay p s xs) ys
replay-append p s [] ys = refl
replay-append p s (e ∷ es) ys = replay-append p (step p s e) es ys

-- a closed link stays as it is
step_closed : (p : Parameters) (s : LinkState) (e : Event) → s.closed ≡ true → step p s e ≡ s
step_closed p s e closed = rw closed

-- whatever comes, a closed link stays as it is
pub replay_closed : (p : Parameters) (s : LinkState) (es : List Event) → s.closed ≡ true → replay p s es ≡ s
replay_closed p s [] closed = refl
replay_closed p s (e ∷ es) closed = rw (step_closed p s e closed) (replay_closed p s es closed)

-- after a close the link is closed
closed_by_close : (p : Parameters) (s : LinkState) → (step p s Close).closed ≡ true
closed_by_close p s = by_state s.closed refl
  where
    by_state : (b : Bool) → s.closed ≡ b → (step p s Close).closed ≡ true
    by_state true closed = rw (step_closed p s Close closed) closed
    by_state false still_open = rw still_open

-- what comes after a close changes nothing
pub replay_after_close : (p : Parameters) (s : LinkState) (before after : List Event)
    → replay p s (before ++ Close ∷ after) ≡ replay p s (before ++ Close ∷ [])
replay_after_close p s [] after = replay_closed p (step p s Close) after (closed_by_close p s)
replay_after_close p s (e ∷ es) after = replay_after_close p (step p s e) es after

-- a state that is reached, and the events that then come, end in a state that is reached
pub reach_more : (p : Parameters) (start : Start) (s : LinkState) (more : List Event) → IsReachable p start s
    → IsReachable p start (replay p s more)
reach_more p start s more (events, reached) =
    (events ++ more, ap (λ t. replay p t more) reached ∙ sym (replay-append p (initial start) events more))
