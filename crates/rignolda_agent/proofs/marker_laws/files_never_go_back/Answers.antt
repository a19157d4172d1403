use Rattle.rignolda_agent.proofs.Markers.{files_never_back, marker_stays}
use Rattle.rignolda_agent.proofs.marker_laws.files_never_go_back.Goals as goal

pub returns-clause-never : goal.returns-clause-never
returns-clause-never c = files_never_back

pub returns-clause-marker : goal.returns-clause-marker
returns-clause-marker c = marker_stays
