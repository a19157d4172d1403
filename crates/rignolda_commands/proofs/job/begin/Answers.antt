use Rattle.rignolda_commands.proofs.job.begin.Goals as goal

-- a tree whose starts fit is a network with the items and openings of the job
pub returns-clause-network : goal.returns-clause-network
returns-clause-network c =
    let job = c.args.job.now in
    (rw (c.params.ensures.params, c.tree.ensures.tree, c.starts.ensures.starts) at c.in_ok-check_starts.ensures.network)
    job.items job.openings c.params.ensures.job.openings_fit
