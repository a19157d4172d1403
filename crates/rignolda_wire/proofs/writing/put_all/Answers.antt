use Rattle.std.proofs.Common.{ap, arith, length, length-append, ℕ}
use Rattle.rignolda_wire.proofs.Texts.{next_text, one_more}
use Rattle.rignolda_wire.proofs.writing.put_all.Goals as goal

pub loop-text-preserved : goal.loop-text-preserved
loop-text-preserved c =
    let left = next_text c.args.texts.now c.loop-text.text-index _ c.loop-text-test.true in
    let so_far = c.loop-text.invariant in
    let put = c.put-at.ensures in
    record {
      text =
          one_more c.loop-text.buffer c.put-at.new.buffer _ c.loop-text.at c.put-at.result _ _ _ (omega (arith, so_far.end, c.requires, c.loop-text.auto.buffer))
          put.text put.end left so_far.text;
      end = omega (arith, put.end, so_far.end, ap length left, length-append {A = ℕ});
    }
