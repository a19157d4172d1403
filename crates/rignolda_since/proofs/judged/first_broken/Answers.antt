use Rattle.std.proofs.Common.{◌≡◌, ◌<◌, ℕ, length, refl, sym, subst, arith}
use Rattle.stab_judge.specs.Reports.{OnePerNode}
use Rattle.stab_tree.specs.IsTree.{IsRooted}
use Rattle.stab_tree.specs.Nodes.{Nodes}
use Rattle.rignolda_since.specs.ObeysSince.{NodeObeysSince}
use Rattle.rignolda_since.proofs.judged.first_broken.Goals as goal

pub returns-clause-none : goal.returns-clause-none
returns-clause-none c =
    let net = c.args.judge.now in
    let lists = c.args.lists.now in
    let r = c.args.report.now in
    let same = c.requires.same_tree in
    let rooted : IsRooted net.tree.parents = subst (λ (t : Nodes). IsRooted t.parents) (sym same) c.root-root.ensures.tree.rooted in
    let entries : OnePerNode net.tree.parents r = subst (λ (t : Nodes). OnePerNode t.parents r) (sym same) c.requires.entries in
    let nodes : (node : ℕ) → node < length net.tree.parents → NodeObeysSince net lists r node =
    λ node is_node.
    let within : node < length c.args.tree.now.parents = subst (λ (t : Nodes). node < length t.parents) same is_node in
    c.nodes.invariant node (omega (arith, within, c.nodes-test.false, c.len-place-end.ensures.value)) in
    (λ _. c.reports_that_obey_since.ensures net lists r rooted entries nodes, λ _. refl)
