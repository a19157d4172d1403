use Rattle.rignolda_wire.proofs.TooLong.{other_is_refused, own_is_refused}
use Rattle.rignolda_wire.proofs.laws.a_long_name_is_refused_at_its_length.Goals as goal

pub returns-clause-own : goal.returns-clause-own
returns-clause-own c = own_is_refused

pub returns-clause-other : goal.returns-clause-other
returns-clause-other c = other_is_refused
