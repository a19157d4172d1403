use Rattle.std.proofs.Common.{◌↔◌, ℕ, List, IsTrue, subst}
use Rattle.stab_judge.specs.Judged.{SharperLawBelow}
use Rattle.stab_treecore.specs.NodeLaws.{capacity_into, garbage_into}
use Rattle.rignolda_since.proofs.judged.obeys_link_law.Goals as goal

pub returns : goal.returns
returns c =
    let net = c.args.judge.now in
    let child = c.args.child in
    subst (λ (xs : List ℕ). IsTrue c.obeys_link_law_into.result
    ↔ SharperLawBelow (capacity_into net child) (garbage_into net child) c.args.above.now c.args.acked xs) c.received_at-delivered.ensures
    c.obeys_link_law_into.ensures
