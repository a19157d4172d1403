use Rattle.std.proofs.Common.{◌∙◌, ◌≢◌}
use Rattle.stab_report.specs.Texts.{IsNoReport}
use Rattle.stab_report.specs.declared.fault.ReportFault.TheVariants.{Memory}
use Rattle.stab_report.proofs.Reading.{no_report, of_each}
use Rattle.stab_report.proofs.read.read_report.Goals as goal

pub returns-in_err-see_same-clause-refused : goal.returns-in_err-see_same-clause-refused
returns-in_err-see_same-clause-refused c =
    of_each c.from_residual-in_err-see_same.result (λ fault. fault ≢ Memory) (IsNoReport c.args.tree.now c.args.text.now)
    (no_report c.args.tree.now c.args.text.now c.as_bytes.result.now c.in_ok-report.report c.in_ok-report.ensures.shown
    (c.as_bytes.ensures.value ∙ c.in_ok-written.ensures) c.in_err-see_same.ensures.differs)
