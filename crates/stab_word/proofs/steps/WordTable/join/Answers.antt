use Rattle.stab_word.proofs.Settled.{explained, law_between}
use Rattle.stab_word.proofs.steps.WordTable.join.Goals as goal

pub returns-clause-replay : goal.returns-clause-replay
returns-clause-replay c = explained _ _ _ _ _ c.join_seats.ensures.interleaved

pub returns-clause-law : goal.returns-clause-law
returns-clause-law c =
    law_between c.args.self.given _ _ c.every_replay_obeys_the_link_law.ensures c.join_seats.ensures.one_place
    c.join_seats.ensures.params c.join_seats.ensures.start (explained _ _ _ _ _ c.join_seats.ensures.interleaved)
