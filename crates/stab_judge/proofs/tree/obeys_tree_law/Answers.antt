use Rattle.std.proofs.Common.{◌≡◌, min, length, arith}
use Rattle.stab_judge.proofs.Trees.{tree_iff}
use Rattle.stab_judge.proofs.tree.obeys_tree_law.Goals as goal

pub returns : goal.returns
returns c =
    let first = c.min.result in
    let least : first ≡ min c.args.most_missing (length c.args.published.now) = omega arith in
    let iff =
    tree_iff _ _ c.args.garbage.now _ c.args.received.now first least _ _ c.split_at.ensures.front c.split_at.ensures.back
    _ _ c.in_ok-tail.ensures c.split_at-2.ensures.front in
    (λ yes. iff.0 (c.splits.ensures.0 yes), λ law. c.splits.ensures.1 (iff.1 law))
