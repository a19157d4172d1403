use Rattle.std.proofs.Common.{ℕ, List, [], sym, subst}
use Rattle.stab_core.specs.LinkState.{LinkState}
use Rattle.stab_core.specs.Replay.{initial, replay}
use Rattle.stab_judge.specs.Judged.{IsPicked}
use Rattle.rignolda_verdict.specs.LinkVerdicts.{offers_of}
use Rattle.rignolda_commands.proofs.Offers.{OffersMore, replay_offers}
use Rattle.rignolda_commands.proofs.laws.replays_are_accepted.Goals as goal

-- what is offered after nothing is picked
all_picked : (offers : List ℕ) (s : LinkState) → OffersMore offers [] s → IsPicked s.offered offers
all_picked offers s (more, is, picked) = subst (λ (xs : List ℕ). IsPicked xs offers) (sym is) picked

pub returns : goal.returns
returns c job params start = record {
  offered = all_picked (offers_of job.events) (replay job.params (initial job.start) job.events)
      (replay_offers job.params (initial job.start) job.events);
  law = c.every_replay_obeys_the_sharper_link_law.ensures job.params job.start job.events params start;
}
