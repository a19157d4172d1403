use Rattle.stab_run.proofs.Reasons.{only_large_differ}
use Rattle.stab_run.proofs.runs.run_mixed.Goals as goal

-- a link that is called different has a lock, so it is a large one
pub returns-clause-only_large : goal.returns-clause-only_large
returns-clause-only_large g c =
    only_large_differ c.args.job.now (g.G.Gate.has_passed c.args.gate.now) (g.G.Gate.may_refuse c.args.gate.now) (g.G.Gate.is_done c.args.gate.now)
    _ c.run.ensures.refused
