use Rattle.std.proofs.Common.{◌≢◌, subst}
use Rattle.stab_report.specs.Texts.{IsNoText}
use Rattle.stab_report.specs.declared.fault.ReportFault.TheVariants.{Memory}
use Rattle.rignolda_commands.proofs.report.check_text_since.Goals as goal

-- the text that is no report of the job's tree
pub returns-in-Err-clause-fault : goal.returns-in-Err-clause-fault
returns-in-Err-clause-fault c = λ input begun.
    c.unread.ensures.fault input c.args.text.now c.args.job.now begun
    (subst (λ tree. c.in-Err.fault ≢ Memory → IsNoText tree c.args.text.now) c.tree.ensures.tree c.in-Err.ensures.refused)
