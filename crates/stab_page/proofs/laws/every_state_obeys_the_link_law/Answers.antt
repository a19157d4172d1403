use Rattle.std.proofs.Common.{subst, sym}
use Rattle.stab_core.specs.LinkState.{LinkState}
use Rattle.stab_core.specs.LinkLaw.{LinkLaw}
use Rattle.stab_core.specs.Replay.{initial, replay, start_items}
use Rattle.stab_core.specs.Trace.{traced_initial, traced_replay}
use Rattle.stab_page.proofs.Strays.{few_strays}
use Rattle.stab_page.proofs.laws.every_state_obeys_the_link_law.Goals as goal

pub returns-clause-law : goal.returns-clause-law
returns-clause-law c =
    λ p start events lawful fits.
    subst (λ (s : LinkState). LinkLaw p.capacity (start_items start) s.offered s.acked s.delivered)
    (sym (c.every_replay_is_explained.ensures.same_states p start events))
    (c.every_replay_obeys_the_link_law.ensures p start events lawful fits)

pub returns-clause-few_strays : goal.returns-clause-few_strays
returns-clause-few_strays c =
    λ p start events.
    let s = replay p (initial start) events in
    few_strays start s.offered (traced_replay p (traced_initial start) events).origins s.delivered
    (c.every_replay_is_explained.ensures.explained p start events)
