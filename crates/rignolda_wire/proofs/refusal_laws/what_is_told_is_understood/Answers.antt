use Rattle.rignolda_wire.proofs.Told.{first_understood, last_understood}
use Rattle.rignolda_wire.proofs.refusal_laws.what_is_told_is_understood.Goals as goal

pub returns-clause-first : goal.returns-clause-first
returns-clause-first c = first_understood

pub returns-clause-last : goal.returns-clause-last
returns-clause-last c = last_understood
