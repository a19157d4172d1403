use Rattle.rignolda_agent.proofs.Rooms.{no_others, what_fits}
use Rattle.rignolda_agent.proofs.room_laws.what_fits_is_a_table.Goals as goal

pub returns-clause-fits : goal.returns-clause-fits
returns-clause-fits c = what_fits

pub returns-clause-no_others : goal.returns-clause-no_others
returns-clause-no_others c = no_others
