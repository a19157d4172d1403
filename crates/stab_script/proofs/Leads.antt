-- Where events lead, one after the other.
use Rattle.std.proofs.Common.{◌≡◌, List, [], ◌∷◌, ◌++◌, append_assoc, refl, sym, subst, ap, ◌∙◌}
use Rattle.stab_core.specs.declared.event.Event.{Event}
use Rattle.stab_core.specs.declared.event.Effect.{Effect}
use Rattle.stab_core.specs.declared.start.Start.{Start}
use Rattle.stab_core.specs.Link.{LinkValue, link_at, Steps}
use Rattle.stab_core.specs.LinkState.{LinkState}
use Rattle.stab_core.specs.Replay.{initial, replay}
use Rattle.stab_core.specs.Step.{step}
use Rattle.stab_core.specs.Trace.{Traced, traced_initial, traced_step, traced_replay}
use Rattle.stab_core.specs.Tracer.{TracerValue, tracer_at}
use Rattle.stab_frames.specs.Parameters.{Parameters}
use Rattle.stab_script.specs.Leads.{LeadsOn}

-- where events lead, one more leads on from there
pub leads_further : {S : Type 0} (StandsAfter : S → Parameters → Start → List Event → Type 0) (old mid new : S) (events : List Event) (e : Event)
    → LeadsOn StandsAfter old events mid → LeadsOn StandsAfter mid (e ∷ []) new → LeadsOn StandsAfter old (events ++ e ∷ []) new
leads_further StandsAfter old mid new events e first next = λ params start earlier is.
    subst (λ es. StandsAfter new params start es) (append_assoc earlier events (e ∷ [])) (next params start (earlier ++ events) (first params start earlier is))

-- the replay of one event more is a step from the replay of those before it
replay_one_more : (p : Parameters) (s : LinkState) (events : List Event) (e : Event) → replay p s (events ++ e ∷ []) ≡ step p (replay p s events) e
replay_one_more p s [] e = refl
replay_one_more p s (x ∷ xs) e = replay_one_more p (step p s x) xs e

-- a step of a link leads on
pub link_leads_on : (old new : LinkValue) (e : Event) (had : Effect) → Steps old e new had
    → LeadsOn (λ link params start events. link ≡ link_at params (replay params (initial start) events)) old (e ∷ []) new
link_leads_on old new e had steps = λ params start earlier is.
    steps.0 ∙ ap (λ l. link_at l.params (step l.params l.state e)) is ∙ ap (link_at params) (sym (replay_one_more params (initial start) earlier e))

-- the same of a replay with origins
traced_one_more : (p : Parameters) (t : Traced) (events : List Event) (e : Event) → traced_replay p t (events ++ e ∷ []) ≡ traced_step p (traced_replay p t events) e
traced_one_more p t [] e = refl
traced_one_more p t (x ∷ xs) e = traced_one_more p (traced_step p t x) xs e

-- a step of a tracer leads on
pub tracer_leads_on : (old new : TracerValue) (e : Event) → new ≡ tracer_at old.params (traced_step old.params old.traced e)
    → LeadsOn (λ tracer params start events. tracer ≡ tracer_at params (traced_replay params (traced_initial start) events)) old (e ∷ []) new
tracer_leads_on old new e steps = λ params start earlier is.
    steps ∙ ap (λ t. tracer_at t.params (traced_step t.params t.traced e)) is ∙ ap (tracer_at params) (sym (traced_one_more params (traced_initial start) earlier e))
