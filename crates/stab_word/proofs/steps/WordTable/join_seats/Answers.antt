use Rattle.stab_word.proofs.Calls.{seat_join_asks}
use Rattle.stab_word.proofs.steps.WordTable.join_seats.Goals as goal

pub join_seat-requires : goal.join_seat-requires
join_seat-requires c =
    seat_join_asks
    (record {
      link_is = c.self.view_is;
      two_words = c.self.invariant.0;
      seat_is = c.sender.view_is;
      sends = c.sender.invariant;
      own = c.requires.sender;
    })
    (record {
      link_is = c.self.view_is;
      two_words = c.self.invariant.0;
      seat_is = c.receiver.view_is;
      receives = c.receiver.invariant;
      own = c.requires.receiver;
    })
    _ _
