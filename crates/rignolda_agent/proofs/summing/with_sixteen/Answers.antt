use Rattle.std.proofs.Common.{arith}
use Rattle.rignolda_agent.proofs.Sums.{sixteen_bytes}
use Rattle.rignolda_agent.proofs.summing.with_sixteen.Goals as goal

pub returns : goal.returns
returns c =
    rw (
      c.after_four.ensures,
      c.after_eight.ensures,
      c.after_twelve.ensures,
      c.after_sixteen.ensures,
      c.from_le_bytes-first.ensures,
      c.from_le_bytes-second.ensures,
      c.from_le_bytes-third.ensures,
      c.from_le_bytes-last.ensures,
    )
    (sixteen_bytes c.args.sum c.args.more.now c.requires (λ i. omega (arith, c.type_inv.more i)))
