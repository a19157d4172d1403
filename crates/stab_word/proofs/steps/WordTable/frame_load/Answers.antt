use Rattle.stab_word.proofs.Calls.{frame_load_asks}
use Rattle.stab_word.proofs.steps.WordTable.frame_load.Goals as goal

pub load-requires : goal.load-requires
load-requires c =
    frame_load_asks
    (record {
      link_is = c.self.view_is;
      two_words = c.self.invariant.0;
      seat_is = c.seat.view_is;
      receives = c.seat.invariant;
      own = c.requires;
    }) _
