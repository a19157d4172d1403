use Rattle.rignolda_agent.proofs.Rooms.{counts_follow}
use Rattle.rignolda_agent.proofs.room_laws.counts_follow_the_settings.Goals as goal

pub returns : goal.returns
returns c = counts_follow
