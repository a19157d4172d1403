use Rattle.std.proofs.Common.{IfSome}
use Rattle.stab_node.proofs.ForCallers.{at_error}
use Rattle.rignolda_commands.specs.Checked.{IsUnchecked}
use Rattle.rignolda_commands.proofs.Unread.{as_told}
use Rattle.rignolda_commands.proofs.check.check_input.Goals as goal

-- what keeps the text that was loaded from a verdict keeps the text that its reader tells
pub returns-in_err-said-clause-fault : goal.returns-in_err-said-clause-fault
returns-in_err-said-clause-fault g c =
    let asked = g.J.Read.remaining c.args.job.now in
    let had = g.R.Read.remaining c.args.report.now in
    at_error _ _ (λ fault. IfSome asked (λ input. IsUnchecked input had fault)) c.from_residual-in_err-said.ensures.1
    (as_told asked had _ _ _ _ _ c.deref.ensures.value c.deref-2.ensures.value c.in_ok-input.ensures.whole.all c.in-Ok.ensures.whole.all c.in_err-said.ensures.fault)
