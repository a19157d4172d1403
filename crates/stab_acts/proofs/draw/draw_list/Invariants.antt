use Rattle.std.proofs.Common.{vec_len, vec_capacity}
use Rattle.stab_acts.proofs.Drawing.{HasDrawn}
use Rattle.stab_acts.proofs.draw.draw_list.Given as goal

abbrev pub invariant-loop-drawn : goal.invariant-loop-drawn
invariant-loop-drawn g l =
    HasDrawn (g.A.Drawn.of_word l.fn.rate) l.len l._drawn (g.R.Rng.stream l.fn.rng) (g.R.Rng.stream l.rng) l.room.items (vec_len l.room) (vec_capacity l.room)
