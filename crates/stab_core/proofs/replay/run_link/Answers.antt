use Rattle.std.proofs.Common.{◌≡◌, sym, subst, arith}
use Rattle.std.proofs.lemmas.Grind.{common_steps}
use Rattle.stab_core.specs.LinkState.{LinkState}
use Rattle.stab_core.specs.LinkLaw.{LinkLaw}
use Rattle.stab_core.specs.Replay.{initial, replay, start_items}
use Rattle.stab_core.proofs.replay.run_link.Goals as goal

pub returns-clause-law : goal.returns-clause-law
returns-clause-law c =
    let law = c.every_replay_obeys_the_link_law.ensures c.args.params c.args.start.now c.args.events.now c.capacity-lawful.ensures.lawful c.in_ok-link.ensures.lawful in
    let whole : c.loop-event.link.state ≡ replay c.args.params (initial c.args.start.now) c.args.events.now = grind (arith, common_steps) in
    subst (λ (s : LinkState). LinkLaw c.args.params.capacity (start_items c.args.start.now) s.offered s.acked s.delivered) (sym whole) law
