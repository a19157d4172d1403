use Rattle.std.proofs.Common.{refl}
use Rattle.rignolda_convergence.proofs.TwoNodes.{all_came, all_near, enough_published, faults_end, table_above}
use Rattle.rignolda_convergence.proofs.report_examples.worked_out.Goals as goal

pub returns-clause-faults : goal.returns-clause-faults
returns-clause-faults c = faults_end

pub returns-clause-others : goal.returns-clause-others
returns-clause-others c = (all_near, all_came, refl, table_above, enough_published)
