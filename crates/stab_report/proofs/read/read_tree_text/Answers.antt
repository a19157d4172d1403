use Rattle.std.proofs.Common.{◌∙◌, ◌≢◌}
use Rattle.stab_report.specs.Texts.{IsNoTree}
use Rattle.stab_report.specs.declared.fault.ReportFault.TheVariants.{Memory}
use Rattle.stab_report.proofs.Reading.{no_tree, of_each}
use Rattle.stab_report.proofs.read.read_tree_text.Goals as goal

pub returns-in_err-see_same-clause-refused : goal.returns-in_err-see_same-clause-refused
returns-in_err-see_same-clause-refused c =
    of_each c.from_residual-in_err-see_same.result (λ fault. fault ≢ Memory) (IsNoTree c.args.tree.now c.args.text.now)
    (no_tree c.args.tree.now c.args.text.now c.as_bytes.result.now c.in_ok-shown_report.field-0 c.in_ok-report.report
    c.in_ok-shown_report.ensures.shown c.in_ok-report.ensures.received c.in_ok-report.ensures.acked
    (c.as_bytes.ensures.value ∙ c.in_ok-written.ensures) c.in_err-see_same.ensures.differs)
