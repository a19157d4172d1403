use Rattle.std.proofs.Common.{◌≡◌, ◌↔◌, Option, Some, IfOk, IsNone, MatchOption, ap, sym, ◌∙◌, subst, ℕ}
use Rattle.stab_judge.specs.EndedNodes.{HandsOn}
use Rattle.stab_judge.specs.Obeys.{RootObeys}
use Rattle.stab_tree.specs.Nodes.{Nodes, parent_at}
use Rattle.rignolda_since.specs.ObeysSince.{LinkObeysSince, above_since}
use Rattle.rignolda_since.proofs.judged.broken_at.Goals as goal

pub returns-in-None-clause-broken : goal.returns-in-None-clause-broken
returns-in-None-clause-broken c = c.broken_at_root.ensures.broken c.args.lists.now

pub returns-in-Some-clause-none : goal.returns-in-Some-clause-none
returns-in-Some-clause-none c =
    let net = c.args.judge.now in
    let lists = c.args.lists.now in
    let r = c.args.report.now in
    let node = c.args.node in
    let is_child : parent_at net.tree.parents node ≡ Some c.in-Some.parent =
    ap (λ (t : Nodes). parent_at t.parents node) c.requires.same_tree ∙ sym c.in-Some.ensures.value in
    subst
    (λ (up : Option ℕ). IfOk c.broken_at_child.result (λ part. IsNone part
    ↔ MatchOption up (RootObeys net r node) (λ p. LinkObeysSince net lists r node p × HandsOn r node p (above_since lists r node p))))
    (sym is_child) c.broken_at_child.ensures.none
