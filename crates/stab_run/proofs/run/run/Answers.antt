use Rattle.std.proofs.Common.{All}
use Rattle.stab_core.specs.LinkSetup.{CanBegin}
use Rattle.stab_job.specs.JobValues.{network}
use Rattle.stab_node.proofs.ForCallers.{at_error}
use Rattle.stab_run.specs.RunFaults.{IsRunReason}
use Rattle.stab_run.proofs.Reasons.{settling_refused, start_refused, workers_gave_up}
use Rattle.stab_run.proofs.run.run.Goals as goal

-- each part that fails fails for a reason of the run; what comes after the starts comes only where
-- all links can begin
pub returns-in_err-check_starts-clause-refused : goal.returns-in_err-check_starts-clause-refused
returns-in_err-check_starts-clause-refused g c =
    let job = c.args.job.now in
    let passed = g.G.Gate.has_passed c.args.gate.now in
    let refuses = g.G.Gate.may_refuse c.args.gate.now in
    let done = g.G.Gate.is_done c.args.gate.now in
    at_error _ _ (λ fault. IsRunReason c.args.which job passed refuses done fault) c.from_residual.ensures.1
    (start_refused job passed refuses done c.args.which _ c.requires
    (rw (c.params.ensures.params, c.tree.ensures.tree, c.starts.ensures.starts) at c.in_err-check_starts.ensures.refused))

pub returns-in_err-gathered-clause-refused : goal.returns-in_err-gathered-clause-refused
returns-in_err-gathered-clause-refused g c =
    let job = c.args.job.now in
    let passed = g.G.Gate.has_passed c.args.gate.now in
    let refuses = g.G.Gate.may_refuse c.args.gate.now in
    let done = g.G.Gate.is_done c.args.gate.now in
    let can_begin : All CanBegin (network job).links =
    rw (c.params.ensures.params, c.starts.ensures.starts) at c.in_ok-check_starts.ensures.can_begin in
    at_error _ _ (λ fault. IsRunReason c.args.which job passed refuses done fault) c.from_residual-in_err-gathered.ensures.1
    (workers_gave_up job passed refuses done c.args.which _ (c.requires, can_begin) c.in_err-gathered.ensures.refused)

pub returns-in_err-report-clause-refused : goal.returns-in_err-report-clause-refused
returns-in_err-report-clause-refused g c =
    let job = c.args.job.now in
    let passed = g.G.Gate.has_passed c.args.gate.now in
    let refuses = g.G.Gate.may_refuse c.args.gate.now in
    let done = g.G.Gate.is_done c.args.gate.now in
    let can_begin : All CanBegin (network job).links =
    rw (c.params.ensures.params, c.starts.ensures.starts) at c.in_ok-check_starts.ensures.can_begin in
    at_error _ _ (λ fault. IsRunReason c.args.which job passed refuses done fault) c.from_residual-in_err-report.ensures.1
    (settling_refused job passed refuses done c.args.which _ _ c.in_ok-gathered.gathered.ended.items _ (c.requires, can_begin)
    c.in_ok-gathered.ensures.turns c.in_err-report.ensures.refused)
