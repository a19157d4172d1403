use Rattle.rignolda_since.proofs.AnyGarbage.{half_of, is_ordered}
use Rattle.rignolda_since.proofs.judged_logs.is_ordered.Goals as goal

pub returns : goal.returns
returns c =
    let net = c.args.judge.now in
    let logs = c.args.logs.now in
    let node = c.args.node in (
      λ yes.
          is_ordered net logs node c.strays_at-strays.result c.counted-counted.result.now c.received_at-received.result.now
          c.strays_at-strays.ensures c.counted-counted.ensures c.received_at-received.ensures (c.obeys_half_tree_law.ensures.0 yes),
      λ is.
          c.obeys_half_tree_law.ensures.1
          (half_of net logs node c.strays_at-strays.result c.counted-counted.result.now c.received_at-received.result.now
          c.strays_at-strays.ensures c.counted-counted.ensures c.received_at-received.ensures is),
    )
