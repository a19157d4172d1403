use Rattle.std.proofs.Common.{◌≡◌, ◌++◌, ap, ◌∙◌}
use Rattle.stab_core.specs.Replay.{initial, replay}
use Rattle.stab_core.specs.Texts.{link_text, origins_text}
use Rattle.stab_core.specs.Trace.{traced_initial, traced_replay}
use Rattle.stab_task.proofs.link.traced_as_read.Goals as goal

pub returns-clause-answer : goal.returns-clause-answer
returns-clause-answer c =
    let found = rw c.in-Some.is at c.in_ok-tracer.ensures.replay in
    let job = found.0 in
    let parts = c.into_parts-link in
    let state : parts.result.0.state ≡ replay job.params (initial job.start) job.events =
    ap (λ l. l.state) parts.ensures.link ∙ ap (λ t. t.traced.state) found.3 ∙ c.every_replay_is_explained.ensures.same_states job.params job.start job.events in
    let origins : c.deref.result.now ≡ (traced_replay job.params (traced_initial job.start) job.events).origins =
    c.deref.ensures.value ∙ parts.ensures.origins ∙ ap (λ t. t.traced.origins) found.3 in
    record {
      job = job;
      read = found.1;
      lawful = found.2;
      the_text = c.in_ok-text.ensures ∙ ap (λ s. link_text s ++ origins_text c.deref.result.now) state
          ∙ ap (λ o. link_text (replay job.params (initial job.start) job.events) ++ origins_text o) origins;
    }
