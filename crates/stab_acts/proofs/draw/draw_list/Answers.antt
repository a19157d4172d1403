-- One act more is drawn of the next word.
use Rattle.std.proofs.Common.{◌≡◌, ℕ, suc, ◌+◌, ◌-◌, arith}
use Rattle.stab_acts.proofs.Drawing.{one_draw, one_word}
use Rattle.stab_acts.proofs.draw.draw_list.Goals as goal

pub loop-drawn-preserved : goal.loop-drawn-preserved
loop-drawn-preserved g c =
    let act_of = g.A.Drawn.of_word c.args.rate in
    let fewer : ℕ = c.args.len - (c.loop-drawn._drawn + 1) in
    let one_fewer : c.args.len - c.loop-drawn._drawn ≡ suc fewer = omega arith in
    record {
      whole =
          rw (c.push_reserved.ensures.items, c.of_word.ensures)
          (one_draw fewer _ _ _ c.next_u32.ensures act_of _ _ (rw one_fewer at c.loop-drawn.invariant.whole));
      rest = one_word fewer _ _ _ c.next_u32.ensures _ (rw one_fewer at c.loop-drawn.invariant.rest);
      counted = omega (arith, c.loop-drawn.invariant.counted);
      reserved = omega (arith, c.loop-drawn.invariant.reserved);
    }
