use Rattle.std.proofs.Common.{◌≡◌, ◌+◌, min, length, arith}
use Rattle.stab_judge.proofs.Sharper.{sharper_below}
use Rattle.stab_judge.proofs.link.obeys_sharper_law_below.Goals as goal

pub returns : goal.returns
returns c =
    let end = c.min-end.result in
    let end_is : end ≡ min (c.args.acked + 1) (length c.args.above.now) = omega arith in
    let iff =
    sharper_below _ _ _ c.args.acked c.args.delivered.now _ end (omega arith) end_is c.split_at.ensures.front in
    (λ yes. iff.0 (c.obeys_sharper_link_law.ensures.0 yes), λ law. c.obeys_sharper_link_law.ensures.1 (iff.1 law))
