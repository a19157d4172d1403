use Rattle.rignolda_agent.proofs.Merged.{each_key}
use Rattle.rignolda_agent.proofs.root_laws.merged_changes_tell_the_same.Goals as goal

pub returns : goal.returns
returns c = each_key
