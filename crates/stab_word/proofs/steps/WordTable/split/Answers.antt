use Rattle.stab_word.proofs.Calls.{seat_split_asks}
use Rattle.stab_word.proofs.steps.WordTable.split.Goals as goal

pub split_seat-other-requires : goal.split_seat-other-requires
split_seat-other-requires c =
    seat_split_asks c.self.view_is c.self.invariant.0 c.opening.view_is c.opening.invariant c.requires _
