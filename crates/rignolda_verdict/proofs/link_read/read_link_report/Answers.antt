use Rattle.std.proofs.Common.{◌∙◌, ◌≢◌}
use Rattle.stab_report.specs.declared.fault.ReportFault.TheVariants.{Memory}
use Rattle.stab_report.proofs.Reading.{of_each}
use Rattle.rignolda_verdict.specs.LinkTexts.{IsNoLink}
use Rattle.rignolda_verdict.proofs.LinkTexts.{no_link}
use Rattle.rignolda_verdict.proofs.link_read.read_link_report.Goals as goal

pub returns-in_err-see_same-clause-refused : goal.returns-in_err-see_same-clause-refused
returns-in_err-see_same-clause-refused c =
    of_each c.from_residual-in_err-see_same.result (λ fault. fault ≢ Memory) (IsNoLink c.args.text.now)
    (no_link c.args.text.now c.as_bytes.result.now c.in_ok-report.report c.in_ok-report.ensures
    (c.as_bytes.ensures.value ∙ c.in_ok-written.ensures) c.in_err-see_same.ensures.differs)
