use Rattle.stab_word.proofs.Calls.{ack_load_asks}
use Rattle.stab_word.proofs.steps.WordTable.ack_load.Goals as goal

pub load-requires : goal.load-requires
load-requires c =
    ack_load_asks
    (record {
      link_is = c.self.view_is;
      two_words = c.self.invariant.0;
      seat_is = c.seat.view_is;
      sends = c.seat.invariant;
      own = c.requires.own;
    }) _
    c.requires.open
