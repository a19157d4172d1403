use Rattle.std.proofs.Common.{◌≡◌, is_some, sym, ◌∙◌, ap, arith}
use Rattle.std.proofs.lemmas.Grind.{common_steps}
use Rattle.std.proofs.lemmas.Option.{gets}
use Rattle.stab_tree.specs.Nodes.{parent_at}
use Rattle.stab_treecore.specs.WholeTree.{link_into}
use Rattle.stab_treecore.proofs.Linked.{same_kind}
use Rattle.stab_treecore.proofs.state.TreeState.link.Goals as goal

pub returns-clause-none : goal.returns-clause-none
returns-clause-none c =
    let here : c.in_ok-get.field-0.now ≡ link_into c.args.self.now c.args.node = grind (arith, common_steps, gets) in
    let there : is_some c.as_ref.result ≡ is_some (link_into c.args.self.now c.args.node) =
    c.as_ref.ensures.variant ∙ ap is_some here in
    let kind : is_some (link_into c.args.self.now c.args.node) ≡ is_some (parent_at c.args.self.now.parents c.args.node) =
    same_kind c.args.self.now.links c.args.self.now.parents c.args.node (rw (← c.self.view_is) c.self.invariant.linked) in
    (λ none. sym (there ∙ kind) ∙ none, λ none. (there ∙ kind) ∙ none)
