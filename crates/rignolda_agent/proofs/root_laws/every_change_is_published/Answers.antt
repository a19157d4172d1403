use Rattle.rignolda_agent.proofs.Queue.{all_published}
use Rattle.rignolda_agent.proofs.root_laws.every_change_is_published.Goals as goal

pub returns : goal.returns
returns c root place k calls here within le = all_published k root place calls here within le
