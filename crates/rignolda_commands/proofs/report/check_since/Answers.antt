use Rattle.std.proofs.Common.{Some}
use Rattle.stab_node.proofs.ForCallers.{at_error}
use Rattle.rignolda_commands.specs.Checked.{IsUncheckedTree}
use Rattle.rignolda_commands.proofs.report.check_since.Goals as goal

pub returns-in_err-said-clause-fault : goal.returns-in_err-said-clause-fault
returns-in_err-said-clause-fault c =
    at_error _ _ (λ fault. IsUncheckedTree c.args.bytes.now (Some c.args.text.now) fault) c.from_residual-in_err-said.ensures.1
    (c.in_err-said.ensures.fault c.args.bytes.now c.requires.begun)

pub returns-in_err-lists-clause-fault : goal.returns-in_err-lists-clause-fault
returns-in_err-lists-clause-fault c =
    at_error _ _ (λ fault. IsUncheckedTree c.args.bytes.now (Some c.args.text.now) fault) c.from_residual.ensures.1
    (c.in_err-lists.ensures.fault (Some c.args.text.now))
