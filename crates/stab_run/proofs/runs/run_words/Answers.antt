use Rattle.std.proofs.Common.{◌≡◌, ◌≢◌, ℕ}
use Rattle.stab_core.proofs.Setups.{all_have}
use Rattle.stab_job.specs.JobValues.{network}
use Rattle.stab_lock.specs.declared.settle.SettleFault.{SettleFault}
use Rattle.stab_node.proofs.ForCallers.{at_error}
use Rattle.stab_node.specs.ByNode.{received_at}
use Rattle.stab_run.specs.declared.run_fault.RunFault.TheVariants.{Settle}
use Rattle.stab_run.proofs.Reasons.{no_word_differs}
use Rattle.stab_run.proofs.runs.run_words.Goals as goal

-- the bounds of links with room for one entry
pub returns-clause-tree_law_by_depth : goal.returns-clause-tree_law_by_depth
returns-clause-tree_law_by_depth g c =
    let job = c.args.job.now in
    let report = c.in_ok-report.ensures.report in
    c.tree_law_of_one_place.ensures (network job) (received_at c.in_ok-report.report.received) report.network.tree report.network.one_per_link
    (all_have (λ p. p.capacity ≡ 1) job.params job.starts report.one_place) report.tree_law

-- nothing of a link of words is compared
pub returns-in_err-report-clause-never_differ : goal.returns-in_err-report-clause-never_differ
returns-in_err-report-clause-never_differ g c =
    let job = c.args.job.now in
    let passed = g.G.Gate.has_passed c.args.gate.now in
    let refuses = g.G.Gate.may_refuse c.args.gate.now in
    let done = g.G.Gate.is_done c.args.gate.now in
    at_error _ _ (λ fault. (child : ℕ) (why : SettleFault) → fault ≢ Settle child why) c.from_residual.ensures.1
    (no_word_differs job passed refuses done _ c.in_err-report.ensures.refused)
