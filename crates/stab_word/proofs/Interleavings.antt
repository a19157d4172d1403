-- One step more of either end, where its events lead from one state to another.
use Rattle.std.proofs.Common.{◌≡◌, List, [], ◌∷◌, ◌++◌, refl, sym, ◌∙◌, ap, subst, append-nil}
use Rattle.stab_frames.specs.Parameters.{Parameters}
use Rattle.stab_core.specs.declared.event.Event.{Event}
use Rattle.stab_core.specs.LinkState.{LinkState}
use Rattle.stab_core.specs.Replay.{initial, replay}
use Rattle.stab_core.proofs.Replays.{replay-append}
use Rattle.stab_core.specs.LinkSetup.{LinkSetup}
use Rattle.stab_word.specs.Interleaving.{LinkStep, of_sender, of_receiver, sender_steps, receiver_steps, events_of, all_events, FitsState, AllFit, Interleaved}
use Rattle.stab_word.specs.declared.view.SendStep.{SendStep}
use Rattle.stab_word.specs.declared.view.RecvStep.{RecvStep}

-- lists one after the other, in either grouping
regroup : (xs ys zs : List Event) → xs ++ (ys ++ zs) ≡ (xs ++ ys) ++ zs
regroup [] ys zs = refl
regroup (x ∷ xs) ys zs = ap (λ es. x ∷ es) (regroup xs ys zs)

-- a step at the end adds its events at the end
events_more : (steps : List LinkStep) (last : LinkStep)
    → all_events (steps ++ last ∷ []) ≡ all_events steps ++ events_of last
events_more [] last = append-nil (events_of last)
events_more (s ∷ steps) last =
    ap (λ es. events_of s ++ es) (events_more steps last) ∙ regroup (events_of s) (all_events steps) (events_of last)

-- a step of the sender at the end is the last of the sender's and none of the receiver's
sender_more : (steps : List LinkStep) (last : SendStep)
    → sender_steps (steps ++ of_sender last ∷ []) ≡ sender_steps steps ++ last ∷ []
sender_more [] last = refl
sender_more (of_sender s ∷ steps) last = ap (λ ss. s ∷ ss) (sender_more steps last)
sender_more (of_receiver s ∷ steps) last = sender_more steps last

receiver_same : (steps : List LinkStep) (last : SendStep)
    → receiver_steps (steps ++ of_sender last ∷ []) ≡ receiver_steps steps
receiver_same [] last = refl
receiver_same (of_sender s ∷ steps) last = receiver_same steps last
receiver_same (of_receiver s ∷ steps) last = ap (λ ss. s ∷ ss) (receiver_same steps last)

-- and the other way round
receiver_more : (steps : List LinkStep) (last : RecvStep)
    → receiver_steps (steps ++ of_receiver last ∷ []) ≡ receiver_steps steps ++ last ∷ []
receiver_more [] last = refl
receiver_more (of_sender s ∷ steps) last = receiver_more steps last
receiver_more (of_receiver s ∷ steps) last = ap (λ ss. s ∷ ss) (receiver_more steps last)

sender_same : (steps : List LinkStep) (last : RecvStep)
    → sender_steps (steps ++ of_receiver last ∷ []) ≡ sender_steps steps
sender_same [] last = refl
sender_same (of_sender s ∷ steps) last = ap (λ ss. s ∷ ss) (sender_same steps last)
sender_same (of_receiver s ∷ steps) last = sender_same steps last

-- where the steps led, one more leads on
leads_on : (g : LinkSetup) (s t : LinkState) (steps : List LinkStep) (last : LinkStep)
    → s ≡ replay g.params (initial g.start) (all_events steps) → replay g.params s (events_of last) ≡ t
    → t ≡ replay g.params (initial g.start) (all_events (steps ++ last ∷ []))
leads_on g s t steps last leads is =
    sym is ∙ (ap (λ u. replay g.params u (events_of last)) leads
    ∙ (sym (replay-append g.params (initial g.start) (all_events steps) (events_of last))
    ∙ ap (λ es. replay g.params (initial g.start) es) (sym (events_more steps last))))

-- a step at the end fits where it fits the state to which the steps before it lead
fits_more : (p : Parameters) (s : LinkState) (steps : List LinkStep) (last : LinkStep) → AllFit p s steps
    → FitsState (replay p s (all_events steps)) last → AllFit p s (steps ++ last ∷ [])
fits_more p s [] last fit fits = (fits, tt)
fits_more p s (step ∷ steps) last fit fits = (
  fit.0,
  fits_more p (replay p s (events_of step)) steps last fit.1
      (subst (λ (t : LinkState). FitsState t last) (replay-append p s (events_of step) (all_events steps)) fits),
)

-- a step of the sender, and a step of the receiver
pub sender_step : (g : LinkSetup) (xs : List SendStep) (ys : List RecvStep) (s t : LinkState) (last : SendStep)
    → FitsState s (of_sender last) → replay g.params s (events_of (of_sender last)) ≡ t → Interleaved g xs ys s
    → Interleaved g (xs ++ last ∷ []) ys t
sender_step g xs ys s t last fits is before =
    record {
      steps = before.steps ++ of_sender last ∷ [];
      by_sender = sender_more before.steps last ∙ ap (λ ss. ss ++ last ∷ []) before.by_sender;
      by_receiver = receiver_same before.steps last ∙ before.by_receiver;
      fit =
          fits_more g.params (initial g.start) before.steps (of_sender last) before.fit
          (subst (λ (u : LinkState). FitsState u (of_sender last)) before.leads fits);
      leads = leads_on g s t before.steps (of_sender last) before.leads is;
    }

pub receiver_step : (g : LinkSetup) (xs : List SendStep) (ys : List RecvStep) (s t : LinkState) (last : RecvStep)
    → FitsState s (of_receiver last) → replay g.params s (events_of (of_receiver last)) ≡ t → Interleaved g xs ys s
    → Interleaved g xs (ys ++ last ∷ []) t
receiver_step g xs ys s t last fits is before =
    record {
      steps = before.steps ++ of_receiver last ∷ [];
      by_sender = sender_same before.steps last ∙ before.by_sender;
      by_receiver = receiver_more before.steps last ∙ ap (λ ss. ss ++ last ∷ []) before.by_receiver;
      fit =
          fits_more g.params (initial g.start) before.steps (of_receiver last) before.fit
          (subst (λ (u : LinkState). FitsState u (of_receiver last)) before.leads fits);
      leads = leads_on g s t before.steps (of_receiver last) before.leads is;
    }
