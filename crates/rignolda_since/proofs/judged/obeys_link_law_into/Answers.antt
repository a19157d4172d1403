use Rattle.std.proofs.Common.{◌↔◌, ℕ, List, IsTrue, subst}
use Rattle.stab_treecore.specs.NodeLaws.{garbage_into}
use Rattle.stab_judge.specs.Judged.{SharperLawBelow}
use Rattle.rignolda_since.proofs.judged.obeys_link_law_into.Goals as goal

pub returns : goal.returns
returns c =
    let yes = IsTrue c.obeys_sharper_law_below.result in
    let acked = c.args.acked in
    let above = c.args.above.now in
    let delivered = c.args.delivered.now in
    subst (λ (n : ℕ). yes ↔ SharperLawBelow n (garbage_into c.args.judge.now c.args.child) above acked delivered) c.capacity_into-capacity.ensures
    (subst (λ (xs : List ℕ). yes ↔ SharperLawBelow c.capacity_into-capacity.result xs above acked delivered) c.garbage_into.ensures
    c.obeys_sharper_law_below.ensures)
