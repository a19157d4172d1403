use Rattle.stab_word.proofs.Calls.{offer_load_asks}
use Rattle.stab_word.proofs.steps.WordTable.offer_load_as.Goals as goal

pub load-requires : goal.load-requires
load-requires g c =
    offer_load_asks
    (record {
      link_is = c.self.view_is;
      two_words = c.self.invariant.0;
      seat_is = c.seat.view_is;
      sends = c.seat.invariant;
      own = c.requires.own;
    }) _
    g.O.Offering.item c.requires.may_offer
