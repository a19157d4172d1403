use Rattle.std.proofs.Common.{◌∙◌, ap, string_bytes}
use Rattle.rignolda_commands.specs.Judged.{logs_in}
use Rattle.rignolda_commands.proofs.UnscheduledLogs.{judged_by_whole}
use Rattle.rignolda_commands.proofs.judge.judge_bytes.Goals as goal

pub returns-clause-judged : goal.returns-clause-judged
returns-clause-judged c =
    let its = c.in_ok-job.ensures.logs in
    judged_by_whole c.args.bytes.now c.in_ok-job.job c.in_ok-logs.logs c.in_ok-said.said.1 (string_bytes c.in_ok-said.said.0) c.in_ok-job.ensures.read
    (ap (logs_in c.in_ok-job.job) its.1 ∙ c.in_ok-logs.ensures.has its.0 its.2) c.in_ok-said.ensures.exactly c.in_ok-said.ensures.says
