use Rattle.rignolda_since.proofs.AnyGarbage.{behind_of, follows_by}
use Rattle.rignolda_since.proofs.judged_logs.follows.Goals as goal

pub returns : goal.returns
returns c =
    let net = c.args.judge.now in
    let logs = c.args.logs.now in
    let child = c.args.child in
    let parent = c.args.parent in (
      λ yes.
          follows_by net logs child parent c.strays_into-most.result c.received_at-above.result.now c.received_at-received.result.now
          c.strays_into-most.ensures.is c.received_at-above.ensures c.received_at-received.ensures (c.obeys_half_tree_law.ensures.0 yes),
      λ is.
          c.obeys_half_tree_law.ensures.1
          (behind_of net logs child parent c.strays_into-most.result c.received_at-above.result.now c.received_at-received.result.now
          c.strays_into-most.ensures.is c.received_at-above.ensures c.received_at-received.ensures is),
    )
