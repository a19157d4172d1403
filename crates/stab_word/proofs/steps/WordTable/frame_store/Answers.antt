use Rattle.stab_word.proofs.Calls.{frame_store_asks}
use Rattle.stab_word.proofs.steps.WordTable.frame_store.Goals as goal

pub store-requires : goal.store-requires
store-requires c =
    frame_store_asks
    (record {
      link_is = c.self.view_is;
      two_words = c.self.invariant.0;
      seat_is = c.seat.view_is;
      sends = c.seat.invariant;
      own = c.requires.own;
    }) _
    _ _ (c.code-word.ensures.fits, c.code-word.ensures.code) c.requires.current c.requires.waits
