use Rattle.rignolda_since.proofs.AnyGarbage.{law_of, obeys_by}
use Rattle.rignolda_since.proofs.judged_logs.obeys_alone.Goals as goal

pub returns : goal.returns
returns c =
    let net = c.args.judge.now in
    let logs = c.args.logs.now in
    let node = c.args.node in
    let missing = c.missing_at-without_strays in (
      λ yes.
          obeys_by net logs node c.strays_at-strays.result c.counted-counted.result.now c.received_at-received.result.now
          c.strays_at-strays.ensures c.counted-counted.ensures c.received_at-received.ensures
          missing.result.0 missing.result.1 missing.ensures.without_strays missing.ensures.fewest (c.in_ok-obeys.ensures.0 yes),
      λ is.
          c.in_ok-obeys.ensures.1
          (law_of net logs node c.strays_at-strays.result c.counted-counted.result.now c.received_at-received.result.now
          c.strays_at-strays.ensures c.counted-counted.ensures c.received_at-received.ensures
          missing.result.0 missing.result.1 missing.ensures.without_strays missing.ensures.fewest is),
    )
