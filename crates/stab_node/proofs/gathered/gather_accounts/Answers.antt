use Rattle.std.proofs.Common.{length, ap, ◌∙◌}
use Rattle.stab_tree.specs.ByChild.{by_child}
use Rattle.stab_node.proofs.Gathering.{uppers_by_child, uppers_counted}
use Rattle.stab_node.proofs.gathered.gather_accounts.Goals as goal

-- there is an upper end for each link
pub returns-clause-receivers : goal.returns-clause-receivers
returns-clause-receivers g c =
    ap (λ ends. length ends) c.in_ok-received.ensures.recvs
    ∙ uppers_counted c.args.tree.now.parents (λ a. a.up) c.args.accounts.items c.requires.ups

-- and scattered they are those of the accounts
pub returns-clause-recvs : goal.returns-clause-recvs
returns-clause-recvs g c =
    ap (λ ends. by_child c.args.tree.now.parents ends) c.in_ok-received.ensures.recvs
    ∙ uppers_by_child c.args.tree.now.parents (λ a. a.up) c.args.accounts.items c.requires.ups
