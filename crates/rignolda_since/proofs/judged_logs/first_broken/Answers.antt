use Rattle.std.proofs.Common.{◌≡◌, ◌<◌, ◌∙◌, ℕ, length, refl, ap, sym, subst, arith}
use Rattle.stab_tree.specs.Nodes.{Nodes}
use Rattle.stab_treecore.specs.Network.{Network}
use Rattle.rignolda_since.specs.ObeysLogs.{LogObeys}
use Rattle.rignolda_since.proofs.judged_logs.first_broken.Goals as goal

pub returns-clause-none : goal.returns-clause-none
returns-clause-none c =
    let net = c.args.judge.now in
    let logs = c.args.logs.now in
    let same_tree : net.tree ≡ c.tree-tree.result.now = ap (λ (n : Network). n.tree) c.requires.its_judge ∙ sym c.tree-tree.ensures.tree in
    let nodes : (node : ℕ) → node < length net.tree.parents → LogObeys net logs node =
    λ node is_node.
    let within : node < length c.tree-tree.result.now.parents =
    subst (λ (t : Nodes). node < length t.parents) same_tree is_node in
    c.nodes.invariant node (omega (arith, within, c.nodes-test.false, c.len-place-end.ensures.value)) in
    (λ _. record { nodes = nodes }, λ _. refl)
