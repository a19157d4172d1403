use Rattle.stab_rounds.proofs.Counted.{rounds_bring_item}
use Rattle.stab_rounds.proofs.laws.rounds_bring_items.Goals as goal

pub returns : goal.returns
returns c = rounds_bring_item c.every_replay_obeys_the_link_law.ensures
